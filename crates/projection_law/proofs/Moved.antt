-- One rank moves in both worlds.
use Rattle.std.proofs.Common.{◌≡◌, ◌<◌, ℕ, true, List, [], ◌∷◌, ◌++◌, length, set, get_or, refl, sym, subst, ◌∙◌, arith, append-nil}
use Rattle.std.proofs.lemmas.List.{set-get_or}
use Rattle.agree_law.specs.Part.{Agree, fresh}
use Rattle.agree_law.specs.Packets as agree
use Rattle.agree_law.specs.World as agreement
use Rattle.agree_law.specs.World.{Flight, Event, flights_of, part_at, may_happen, happens, happened, run, is_key_of}
use Rattle.agree_law.proofs.Lists.{AllOf, AllOf_map, AllOf_both, length-set}
use Rattle.agree_law.proofs.Links.{key_of}
use Rattle.agree_law.proofs.Kept.{is_good_packet, PacketFits, Kept}
use Rattle.agree_law.proofs.Law.{Holds, holds-happens}
use Rattle.share_law.proofs.Exchanges.{Exchanges, exchanges-run}
use Rattle.mpi_protocol.specs.Packets.{Agreeing, Sent, agreeing}
use Rattle.mpi_protocol.specs.Rank.{Rank}
use Rattle.mpi_protocol.specs.World.{World, rank_at, put_on}
use Rattle.projection_law.proofs.Links.{agreed_sent, agreed_all}
use Rattle.projection_law.proofs.Projected.{Projects, same_size, same_part, put, rank_set}
use Rattle.projection_law.proofs.Targets.{GoesBelow}

-- What every world of an agreement run has
pub record Ruled (top : ℕ) (a : agreement.World) : Type 0 where
  pub holds : Holds top a
  pub exchanges : Exchanges a

pub ruled-happens : (top : ℕ) (a : agreement.World) (e : Event) → Ruled top a → Ruled top (happens top a e)
ruled-happens top a e h = record { holds = holds-happens top a e h.holds; exchanges = exchanges-run top (e ∷ []) a h.holds h.exchanges }

pub happens_so : (top : ℕ) (a : agreement.World) (e : Event) → may_happen top a e ≡ true → happens top a e ≡ happened top a e
unfolding happens
happens_so top a e m = rw m refl

-- What is sent goes to ranks

packet_key : (n : ℕ) (p : agree.Packet) → is_good_packet n p ≡ true → is_key_of n (key_of p) ≡ true
packet_key n (agree.Up k i own mask) e = grind (arith, e)
packet_key n (agree.Down k i v) e = grind (arith, e)
packet_key n (agree.Share k s) e = grind (arith, e)
packet_key n (agree.Shares k ss) e = grind (arith, e)

last_flights : (n r : ℕ) (xs : List Flight) (ss : List agree.Sent) → AllOf (λ f. PacketFits n f.packet) (xs ++ flights_of r ss) → AllOf (λ (s : agree.Sent). PacketFits n s.packet) ss
last_flights n r (x ∷ xs) ss h = last_flights n r xs ss h.1
last_flights n r [] ss h = go ss h
  where
    go : (ss : List agree.Sent) → AllOf (λ f. PacketFits n f.packet) (flights_of r ss) → AllOf (λ (s : agree.Sent). PacketFits n s.packet) ss
    go [] h = tt
    go (s ∷ ss) h = (h.0, go ss h.1)

pub sent_below : (top : ℕ) (a : agreement.World) (r : ℕ) (t : agree.Moved) → 0 < length a.parts → Kept top (agreement.moved a r t) → AllOf (GoesBelow (length a.parts)) t.sent → AllOf (λ s. s.to < length a.parts) t.sent
unfolding agreement.moved
sent_below top a r t pos h goes =
    let n = length-set a.parts r t.part in
    let fits : AllOf (λ (s : agree.Sent). PacketFits (length (set a.parts r t.part)) s.packet) t.sent = last_flights (length (set a.parts r t.part)) r a.links t.sent h.flights in
    AllOf_both (λ (s : agree.Sent). PacketFits (length a.parts) s.packet) (GoesBelow (length a.parts)) (λ s. s.to < length a.parts) t.sent (λ s f g. g (packet_key (length a.parts) s.packet f) pos)
    (subst (λ z. AllOf (λ (s : agree.Sent). PacketFits z s.packet) t.sent) n fits) goes

-- The move, and none

-- a rank has moved, and its packets are on its links
abbrev pub after_put : World → ℕ → Rank → List Sent → World
after_put w r y ss = put_on (record w { ranks = set w.ranks r y }) r ss

resized : (w : World) (r : ℕ) (y : Rank) (ss : List Sent) → AllOf (λ s. s.to < length w.ranks) ss → AllOf (λ s. s.to < length (set w.ranks r y)) ss
resized w r y ss h = subst (λ z. AllOf (λ (s : Sent). s.to < z) ss) (sym (length-set w.ranks r y)) h

pub moved_projects : (w : World) (a : agreement.World) (r : ℕ) (y : Rank) (t : agree.Moved) → Projects w a → r < length w.ranks → y.agree ≡ t.part → AllOf (λ s. s.to < length a.parts) t.sent
    → Projects (after_put w r y (agreeing t.sent)) (agreement.moved a r t)
unfolding agreement.moved
moved_projects w a r y t p lt part below =
    let n = same_size w a p in
    let l = length-set w.ranks r y in
    let low : AllOf (λ (s : Sent). s.to < length w.ranks) (agreeing t.sent) = AllOf_map (λ (s : Sent). s.to < length w.ranks) (λ (s : agree.Sent). record { to = s.to; packet = Agreeing s.packet }) t.sent (subst (λ z. AllOf (λ (s : agree.Sent). s.to < z) t.sent) n below) in
    let all = put (record w { ranks = set w.ranks r y }) (record { parts = set a.parts r y.agree; links = a.links }) r (agreeing t.sent) (rank_set w a r y p) (omega (arith, l, lt)) (resized w r y (agreeing t.sent) low) in
    let world : List agree.Sent → Agree → agreement.World = λ ss b. record { parts = set a.parts r b; links = a.links ++ flights_of r ss } in
    subst (λ b. Projects (after_put w r y (agreeing t.sent)) (world t.sent b)) part (subst (λ ss. Projects (after_put w r y (agreeing t.sent)) (world ss y.agree)) (agreed_all t.sent) all)

pub quiet_projects : (w : World) (a : agreement.World) (r : ℕ) (y : Rank) (ss : List Sent) → Projects w a → r < length w.ranks → y.agree ≡ (rank_at w r).agree → agreed_sent ss ≡ [] → AllOf (λ s. s.to < length w.ranks) ss
    → Projects (after_put w r y ss) a
quiet_projects w a r y ss p lt same none below =
    let l = length-set w.ranks r y in
    let all = put (record w { ranks = set w.ranks r y }) (record { parts = set a.parts r y.agree; links = a.links }) r ss (rank_set w a r y p) (omega (arith, l, lt)) (resized w r y ss below) in
    let world : List agree.Sent → Agree → agreement.World = λ zs b. record { parts = set a.parts r b; links = a.links ++ flights_of r zs } in
    let parts : set a.parts r (get_or a.parts r (fresh 0)) ≡ a.parts = set-get_or a.parts r (fresh 0) in
    let one : Projects (after_put w r y ss) (world [] (part_at a r)) =
    subst (λ b. Projects (after_put w r y ss) (world [] b)) (same ∙ sym (same_part w a r p lt)) (subst (λ zs. Projects (after_put w r y ss) (world zs y.agree)) none all) in
    let whole : List Flight → List Agree → agreement.World = λ fs ps. record { parts = ps; links = fs } in
    subst (λ fs. Projects (after_put w r y ss) (whole fs a.parts)) (append-nil a.links) (subst (λ ps. Projects (after_put w r y ss) (whole (a.links ++ []) ps)) parts one)
