-- The second part of the drain: no key is offered, or just one, whose offers all own.
use Rattle.std.proofs.Common.{◌≡◌, ◌≢◌, ◌⊎◌, ◌<◌, ◌≤◌, ◌==◌, ℕ, Bool, true, false, List, [], ◌∷◌, ◌++◌, length, drop, get_or, set, Option, Some, refl, sym, subst, ⊎_elim}
use Rattle.std.specs.Prelude.{nat_lt, if◌then◌else◌}
use Rattle.mpi_base.specs.declared.keys.Key.{Key}
use Rattle.mpi_base.specs.Keys.{same_key, key_before}
use Rattle.mpi_base.specs.declared.entries.Act.{Act}
use Rattle.mpi_base.specs.declared.entries.Act.TheVariants.{Call, Answer, Deliver, Offer as MakeOffer, Settle, Leave, Back}
use Rattle.mpi_base.specs.declared.entries.Choice.{Choice}
use Rattle.agree_law.specs.declared.rows.Stage.{Stage}
use Rattle.agree_law.specs.declared.rows.Stage.TheVariants.{Offered}
use Rattle.agree_law.specs.Part.{stage_of}
use Rattle.agree_law.specs.Kinds.{is_share}
use Rattle.agree_law.specs.Rule.{is_waiting}
use Rattle.agree_law.specs.Gather.{all_own}
use Rattle.agree_law.specs.Moves.{may_settle}
use Rattle.agree_law.proofs.Lists.{AllOf, AllOf-append, set_place, length-set}
use Rattle.mpi_protocol.specs.Packets.{Packet, Sent}
use Rattle.mpi_protocol.specs.Rank.{Rank}
use Rattle.mpi_protocol.specs.Moves.{Move}
use Rattle.mpi_protocol.specs.World.{World, rank_at, link, place_of_link, with_link, links_with, taken_off, put_on, after}
use Rattle.mpi_protocol.specs.Order.{is_offered}
use Rattle.wayout_law.proofs.Stands.{Nobody}
use Rattle.wayout_law.proofs.Afters.{each-after, many-after}
use Rattle.wayout_law.proofs.Early.{fewer-after}
use Rattle.wayout_law.proofs.EarlySettle.{offered_is}
use Rattle.wayout_law.proofs.Frames.{Fewer}
use Rattle.wayout_law.proofs.Calm.{is_calm, CalmSent}

abbrev CalmLinks : Key → World → Type 0
CalmLinks key w = (from to : ℕ) → from < length w.ranks → to < length w.ranks → (from == to) ≡ false → AllOf (λ p. is_calm key p ≡ true) (link w from to)

-- at most this key is offered, no key that waits comes before it, all its offers own, and nothing else is under way
pub record Alone (key : Key) (w : World) : Type 0 where
  pub only : (r : ℕ) (k : Key) → is_offered (stage_of (rank_at w r).agree.opened k) ≡ true → same_key k key ≡ true
  pub first : (r : ℕ) (k : Key) → is_waiting (stage_of (rank_at w r).agree.opened k) ≡ true → key_before k key ≡ false
  pub flown : CalmLinks key w
  pub own : (r : ℕ) → all_own (rank_at w r).agree.gathered key ≡ true
  pub rest : (r : ℕ) (k : Key) → r < length w.ranks → same_key k key ≡ false → may_settle r (rank_at w r).agree k ≡ false
  pub plain : is_share key.kind ≡ false

abbrev pub Late : World → Type 0
Late w = Nobody w ⊎ ((key : Key) × Alone key w)

-- Nobody

pub offered-was : (s t : Option Stage) → ((i : ℕ) (own : Bool) → s ≡ Some (Offered i own) → t ≡ Some (Offered i own)) → is_offered s ≡ true → is_offered t ≡ true
offered-was s t f e = let o = offered_is s e in let x = f o.0 o.1 o.2 in rw x refl

pub nobody-after : (w : World) (c : Choice) (m : Move) → Fewer (rank_at w c.rank).agree.opened m.state.agree.opened → Nobody w → Nobody (after w c m)
nobody-after w c m f nobody r k = go (is_offered (stage_of (rank_at (after w c m) r).agree.opened k)) refl
  where
    go : (b : Bool) → is_offered (stage_of (rank_at (after w c m) r).agree.opened k) ≡ b → is_offered (stage_of (rank_at (after w c m) r).agree.opened k) ≡ false
    go false e = e
    go true e =
        let was = offered-was (stage_of (rank_at (after w c m) r).agree.opened k) (stage_of (rank_at w r).agree.opened k) (λ i own z. fewer-after w c m f r k i own z) e in
        let none = nobody r k in
        absurd (cc)

-- Links

calm-put : (w : World) (key : Key) (from to : ℕ) (p : Packet) → is_calm key p ≡ true → CalmLinks key w → CalmLinks key (with_link w from to (link w from to ++ p ∷ []))
calm-put w key from to p calm h a b la lb far =
    ⊎_elim
    (λ (e : (place_of_link w a b ≡ place_of_link w from to) × (place_of_link w from to < length w.links) × (get_or (set w.links (place_of_link w from to) (link w from to ++ p ∷ [])) (place_of_link w a b) [] ≡ link w from to ++ p ∷ [])).
    subst (λ (l : List Packet). AllOf (λ p. is_calm key p ≡ true) l) (sym e.2)
    (AllOf-append (λ p. is_calm key p ≡ true) (link w from to) (p ∷ []) (subst (λ (j : ℕ). AllOf (λ p. is_calm key p ≡ true) (get_or w.links j [])) e.0 (h a b la lb far)) (calm, tt)))
    (λ (e : ((place_of_link w a b ≢ place_of_link w from to) ⊎ (length w.links ≤ place_of_link w from to)) × (get_or (set w.links (place_of_link w from to) (link w from to ++ p ∷ [])) (place_of_link w a b) [] ≡ link w a b)).
    subst (λ (l : List Packet). AllOf (λ p. is_calm key p ≡ true) l) (sym e.1) (h a b la lb far))
    (set_place w.links (place_of_link w from to) (link w from to ++ p ∷ []) [] (place_of_link w a b))

calm-drop : (key : Key) (l : List Packet) → AllOf (λ p. is_calm key p ≡ true) l → AllOf (λ p. is_calm key p ≡ true) (drop 1 l)
calm-drop key [] h = tt
calm-drop key (p ∷ l) h = h.1

calm-take : (w : World) (key : Key) (from to : ℕ) → CalmLinks key w → CalmLinks key (with_link w from to (drop 1 (link w from to)))
calm-take w key from to h a b la lb far =
    ⊎_elim
    (λ (e : (place_of_link w a b ≡ place_of_link w from to) × (place_of_link w from to < length w.links) × (get_or (set w.links (place_of_link w from to) (drop 1 (link w from to))) (place_of_link w a b) [] ≡ drop 1 (link w from to))).
    subst (λ (l : List Packet). AllOf (λ p. is_calm key p ≡ true) l) (sym e.2)
    (calm-drop key (link w from to) (subst (λ (j : ℕ). AllOf (λ p. is_calm key p ≡ true) (get_or w.links j [])) e.0 (h a b la lb far))))
    (λ (e : ((place_of_link w a b ≢ place_of_link w from to) ⊎ (length w.links ≤ place_of_link w from to)) × (get_or (set w.links (place_of_link w from to) (drop 1 (link w from to))) (place_of_link w a b) [] ≡ link w a b)).
    subst (λ (l : List Packet). AllOf (λ p. is_calm key p ≡ true) l) (sym e.1) (h a b la lb far))
    (set_place w.links (place_of_link w from to) (drop 1 (link w from to)) [] (place_of_link w a b))

calm-puts : (w : World) (key : Key) (r : ℕ) (ss : List Sent) → CalmSent key ss → CalmLinks key w → CalmLinks key (put_on w r ss)
calm-puts w key r [] c h = h
calm-puts w key r (s ∷ ss) c h = calm-puts (record w { links = links_with w r s }) key r ss c.1 (one_put (nat_lt s.to (length w.ranks)))
  where
    one_put : (b : Bool) → CalmLinks key (record w { links = if b then set w.links (place_of_link w r s.to) (link w r s.to ++ s.packet ∷ []) else w.links })
    one_put true = calm-put w key r s.to s.packet c.0 h
    one_put false = h

calm-off : (w : World) (key : Key) (r : ℕ) (act : Act) → CalmLinks key w → CalmLinks key (taken_off w r act)
calm-off w key r (Call t op) h = h
calm-off w key r (Answer t) h = h
calm-off w key r (Deliver from) h = calm-take w key from r h
calm-off w key r (MakeOffer k) h = h
calm-off w key r (Settle k) h = h
calm-off w key r (Leave c) h = h
calm-off w key r (Back c) h = h

calm-ranks : (w : World) (key : Key) (r : ℕ) (act : Act) (x : Rank) → CalmLinks key w → CalmLinks key (record (taken_off w r act) { ranks = set w.ranks r x })
calm-ranks w key r act x h =
    let size = length-set w.ranks r x in
    let off = calm-off w key r act h in
    go act size off
  where
    go : (act : Act) → length (set w.ranks r x) ≡ length w.ranks → CalmLinks key (taken_off w r act) → CalmLinks key (record (taken_off w r act) { ranks = set w.ranks r x })
    go (Call t op) size h a b la lb far = rw size (h a b (rw size at la) (rw size at lb) far)
    go (Answer t) size h a b la lb far = rw size (h a b (rw size at la) (rw size at lb) far)
    go (Deliver from) size h a b la lb far = rw size (h a b (rw size at la) (rw size at lb) far)
    go (MakeOffer k) size h a b la lb far = rw size (h a b (rw size at la) (rw size at lb) far)
    go (Settle k) size h a b la lb far = rw size (h a b (rw size at la) (rw size at lb) far)
    go (Leave c) size h a b la lb far = rw size (h a b (rw size at la) (rw size at lb) far)
    go (Back c) size h a b la lb far = rw size (h a b (rw size at la) (rw size at lb) far)

flown-after : (w : World) (key : Key) (c : Choice) (m : Move) → CalmSent key m.sent → CalmLinks key w → CalmLinks key (after w c m)
flown-after w key c m sent h = calm-puts (record (taken_off w c.rank c.act) { ranks = set w.ranks c.rank m.state }) key c.rank m.sent sent (calm-ranks w key c.rank c.act m.state h)

-- what a move of a rank leaves of a key that is alone
pub record Leaves (key : Key) (r : ℕ) (m : Move) : Type 0 where
  pub only : (k : Key) → is_offered (stage_of m.state.agree.opened k) ≡ true → same_key k key ≡ true
  pub first : (k : Key) → is_waiting (stage_of m.state.agree.opened k) ≡ true → key_before k key ≡ false
  pub own : all_own m.state.agree.gathered key ≡ true
  pub rest : (k : Key) → same_key k key ≡ false → may_settle r m.state.agree k ≡ false
  pub sent : CalmSent key m.sent

pub alone-after : (key : Key) (w : World) (c : Choice) (m : Move) → Leaves key c.rank m → Alone key w → Alone key (after w c m)
alone-after key w c m l h =
    record {
      only = each-after (λ q (y : Rank). (k : Key) → is_offered (stage_of y.agree.opened k) ≡ true → same_key k key ≡ true) w c m l.only h.only;
      first = each-after (λ q (y : Rank). (k : Key) → is_waiting (stage_of y.agree.opened k) ≡ true → key_before k key ≡ false) w c m l.first h.first;
      flown = flown-after w key c m l.sent h.flown;
      own = each-after (λ q (y : Rank). all_own y.agree.gathered key ≡ true) w c m l.own h.own;
      rest = λ r k lt far.
          each-after (λ q (y : Rank). q < length w.ranks → (k : Key) → same_key k key ≡ false → may_settle q y.agree k ≡ false) w c m (λ _ k far. l.rest k far) (λ q lt k far. h.rest q k lt far) r
          (subst (λ n. r < n) (many-after w c m) lt) k far;
      plain = h.plain;
    }
