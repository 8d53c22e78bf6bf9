-- What holds of the worlds of runs, as far as the way out needs it, and what follows from it.
use Rattle.std.proofs.Common.{◌≡◌, ◌<◌, ℕ, zero, suc, Bool, true, false, List, [], ◌∷◌, length, get_or, slice_get, Some, refl, sym, ap, subst, ◌∙◌, arith}
use Rattle.std.specs.List.{list_any}
use Rattle.mpi_base.specs.declared.keys.Key.{Key}
use Rattle.mpi_law.specs.declared.setting.TheConstants.{THREADS}
use Rattle.agree_law.specs.declared.rows.Stage.{Stage}
use Rattle.agree_law.specs.declared.rows.Verdict.{Verdict}
use Rattle.agree_law.specs.Tree.{place_in, member_at}
use Rattle.agree_law.specs.Part.{Agree, stage_of, round_of}
use Rattle.agree_law.specs.Packets as agree_packets
use Rattle.agree_law.specs.Packets.{Down}
use Rattle.agree_law.specs.Kinds.{is_share}
use Rattle.agree_law.specs.Rule.{is_key}
use Rattle.agree_law.specs.Gather.{all_own}
use Rattle.agree_law.specs.Offers.{may_offer}
use Rattle.agree_law.specs.Moves.{may_settle}
use Rattle.agree_law.specs.Verdicts.{may_settle_offers}
use Rattle.agree_law.specs.World as agreement
use Rattle.agree_law.specs.World.{part_at}
use Rattle.agree_law.proofs.Kept.{Kept, seat}
use Rattle.agree_law.proofs.KeyKept.{View, next_round}
use Rattle.agree_law.proofs.TreeFacts.{member_place}
use Rattle.agree_law.proofs.Subtrees.{below_at, under_first}
use Rattle.agree_law.proofs.WorldFacts.{first_whole}
use Rattle.agree_law.proofs.Links.{of_links}
use Rattle.share_law.proofs.Exchanges.{Exchanges}
use Rattle.mpi_protocol.specs.Packets.{Packet, Agreeing, Message, Marker}
use Rattle.mpi_protocol.specs.Rank.{Rank}
use Rattle.mpi_protocol.specs.Delivers.{takes_packet}
use Rattle.mpi_protocol.specs.World.{World, blank, rank_at, link}
use Rattle.mpi_protocol.specs.Projection.{IsAgreementOf}
use Rattle.mpi_protocol.specs.Order.{is_offered, offered_anywhere}
use Rattle.wayout_law.specs.Potential.{first_round}
use Rattle.wayout_law.proofs.Rows.{OneEach}
use Rattle.wayout_law.proofs.Leaves.{FewOthers}
use Rattle.wayout_law.proofs.Decisions.{OwnAreTold, SharesAreTaken}
use Rattle.wayout_law.proofs.AgreeFacts.{round_at_first, is_in_round, in_round, kept-told, kept-down, kept-level, Still, nobody_offered}
use Rattle.wayout_law.proofs.Clear.{kept-clear, kept-owner, kept-plain}
use Rattle.wayout_law.proofs.Deliveries.{is_agreeing}
use Rattle.wayout_law.proofs.Agreements.{agreement-part, agreement-many, agreement-head, agreement-empty, NoPackets}

-- the agreement of the world keeps what every step of it keeps, of keys and of exchanges; each rank has its number, its threads and one row for each key; a
-- communicator has fewer other members than there are ranks; and shares that are all there are taken, as is each packet of the
-- agreement
pub record Stands (top : ℕ) (w : World) : Type 0 where
  pub agreed : agreement.World
  pub is_agreed : IsAgreementOf w agreed
  pub kept : Kept top agreed
  pub exchanges : Exchanges agreed
  pub number : (r : ℕ) → r < length w.ranks → (rank_at w r).rank ≡ r
  pub threads : (r : ℕ) → r < length w.ranks → length (rank_at w r).threads ≡ THREADS
  pub rows : (r : ℕ) → OneEach (rank_at w r).agree.opened
  pub others : (r : ℕ) → r < length w.ranks → FewOthers (length w.ranks) (rank_at w r).rank (rank_at w r).comms.rows
  pub shares : (r : ℕ) (key : Key) → r < length w.ranks → may_settle r (rank_at w r).agree key ≡ true → SharesAreTaken r (rank_at w r).agree key
  pub taken : (from r : ℕ) (p : agree_packets.Packet) → from < length w.ranks → r < length w.ranks → slice_get (link w from r) 0 ≡ Some (Agreeing p) → takes_packet (rank_at w r) from (Agreeing p) ≡ true

-- a packet that is not taken is a message or a marker
pub not_taken : (top : ℕ) (w : World) (from r : ℕ) (p : Packet) → Stands top w → from < length w.ranks → r < length w.ranks → slice_get (link w from r) 0 ≡ Some p → takes_packet (rank_at w r) from p ≡ false → is_agreeing p ≡ false
not_taken top w from r (Agreeing p) h lf lt e none = let t = h.taken from r p lf lt e in absurd (cc)
not_taken top w from r (Message m) h lf lt e none = refl
not_taken top w from r (Marker c) h lf lt e none = refl

pub stands-told : (top : ℕ) (w : World) → Stands top w → (r : ℕ) → OwnAreTold r (rank_at w r).agree
stands-told top w h r = subst (λ a. OwnAreTold r a) (agreement-part w h.agreed h.is_agreed r) (kept-told top h.agreed h.kept r)

first-same : (w : World) (a : agreement.World) → IsAgreementOf w a → (key : Key) → round_at_first a key ≡ first_round w key
first-same w a is key = ap (λ (x : Agree). round_of x.rounds key) (agreement-part w a is (member_at key.members 0))

pub stands-down : (top : ℕ) (w : World) (from r : ℕ) (key : Key) (i : ℕ) (v : Verdict) → Stands top w → from < length w.ranks → r < length w.ranks → slice_get (link w from r) 0 ≡ Some (Agreeing (Down key i v)) → first_round w key ≡ next_round i v
stands-down top w from r key i v h lf lt e = sym (first-same w h.agreed h.is_agreed key) ∙ kept-down top h.agreed from r key i v h.kept (agreement-head w h.agreed h.is_agreed from r (Down key i v) lf lt e)

stage_there : (w : World) (a : agreement.World) → IsAgreementOf w a → (r : ℕ) (key : Key) (s : Stage) → stage_of (rank_at w r).agree.opened key ≡ Some s → stage_of (part_at a r).opened key ≡ Some s
stage_there w a is r key s e = subst (λ (x : Agree). stage_of x.opened key ≡ Some s) (sym (agreement-part w a is r)) e

pub stands-level : (top : ℕ) (w : World) (r : ℕ) (key : Key) (s : Stage) (i : ℕ) → Stands top w → NoPackets w → stage_of (rank_at w r).agree.opened key ≡ Some s → is_in_round s i ≡ true → first_round w key ≡ i
stands-level top w r key s i h none e at = sym (first-same w h.agreed h.is_agreed key) ∙ kept-level top h.agreed r key s i h.kept (agreement-empty top w h.agreed h.is_agreed h.kept none) (stage_there w h.agreed h.is_agreed r key s e) at

-- at a settle all members are in the round of the first
pub stands-settle : (top : ℕ) (w : World) (r q : ℕ) (key : Key) (s : Stage) (i : ℕ) → Stands top w → may_settle_offers r (rank_at w r).agree key ≡ true → stage_of (rank_at w q).agree.opened key ≡ Some s → is_in_round s i ≡ true
    → i ≡ round_of (rank_at w r).agree.rounds key
stands-settle top w r q key s i h may e at =
    let a = h.agreed in
    let is = h.is_agreed in
    let f = first_whole top a r key (subst (λ z. may_settle_offers r z key ≡ true) (sym (agreement-part w a is r)) may) h.kept in
    let x = in_round top a q key s i h.kept (stage_there w a is q key s e) at in
    let good = x.good in
    let p = member_place key.members q (grind (arith, good)) in
    let b = below_at top (length key.members) (member_at key.members) (seat a.parts key) (of_links a.links key) (h.kept.each key f.good) 0 (place_in key.members q) (under_first (place_in key.members q)) p.0 f.whole in
    sym x.here ∙ (b.round ∙ (ap (λ (v : View). v.round) f.view ∙ ap (λ (z : Agree). round_of z.rounds key) (agreement-part w a is r)))

-- The heart

any_at : (f : Rank → Bool) (xs : List Rank) (q : ℕ) → f blank ≡ false → f (get_or xs q blank) ≡ true → list_any f xs ≡ true
any_at f [] q z e = absurd (cc)
any_at f (x ∷ xs) zero z e = grind (arith, e)
any_at f (x ∷ xs) (suc q) z e = let ih = any_at f xs q z e in grind (arith, ih)

is_offered_anywhere : (w : World) (q : ℕ) (key : Key) → is_offered (stage_of (rank_at w q).agree.opened key) ≡ true → offered_anywhere w key ≡ true
is_offered_anywhere w q key e = any_at (λ x. is_offered (stage_of x.agree.opened key)) w.ranks q refl e

-- no rank has offered a key whose verdict it has not
abbrev pub Nobody : World → Type 0
Nobody w = (r : ℕ) (key : Key) → is_offered (stage_of (rank_at w r).agree.opened key) ≡ false

-- what the first four kinds of choice leave where they find nothing
pub record Rests (w : World) : Type 0 where
  pub empty : NoPackets w
  pub settle : (r : ℕ) (key : Key) → r < length w.ranks → may_settle r (rank_at w r).agree key ≡ false
  pub join : (r : ℕ) (key : Key) → offered_anywhere w key ≡ true → may_offer (rank_at w r).agree key ≡ false

pub stands-nobody : (top : ℕ) (w : World) → Stands top w → Rests w → Nobody w
stands-nobody top w h rests r key =
    let a = h.agreed in
    let is = h.is_agreed in
    let many = agreement-many w a is in
    let still : Still a = record {
      empty = agreement-empty top w a is h.kept rests.empty;
      settle = λ q k lt. subst (λ x. may_settle q x k ≡ false) (sym (agreement-part w a is q)) (rests.settle q k (rw many at lt));
      join = λ q z k e. subst (λ x. may_offer x k ≡ false) (sym (agreement-part w a is z)) (rests.join z k (is_offered_anywhere w q k (subst (λ (x : Agree). is_offered (stage_of x.opened k) ≡ true) (agreement-part w a is q) e)));
    } in
    subst (λ (x : Agree). is_offered (stage_of x.opened key) ≡ false) (agreement-part w a is r) (nobody_offered top a h.kept still r key)

pub stands-clear : (top : ℕ) (w : World) (r : ℕ) (key : Key) (s : Stage) (i : ℕ) → Stands top w → NoPackets w → Nobody w → stage_of (rank_at w r).agree.opened key ≡ Some s → is_in_round s i ≡ true → (q : ℕ) → all_own (rank_at w q).agree.gathered key ≡ true
stands-clear top w r key s i h none nobody e at q =
    let a = h.agreed in
    let is = h.is_agreed in
    subst (λ (x : Agree). all_own x.gathered key ≡ true) (agreement-part w a is q)
    (kept-clear top a r key s i h.kept (agreement-empty top w a is h.kept none) (λ z k. subst (λ (x : Agree). is_offered (stage_of x.opened k) ≡ false) (sym (agreement-part w a is z)) (nobody z k)) (stage_there w a is r key s e) at q)

pub stands-owner : (top : ℕ) (w : World) → Stands top w → (r : ℕ) (key : Key) → is_key (rank_at w r).agree.owner key ≡ true → is_offered (stage_of (rank_at w r).agree.opened key) ≡ true
stands-owner top w h r key e = subst (λ (a : Agree). is_key a.owner key ≡ true → is_offered (stage_of a.opened key) ≡ true) (agreement-part w h.agreed h.is_agreed r) (kept-owner top h.agreed h.kept r key) e

pub stands-plain : (top : ℕ) (w : World) (r : ℕ) (key : Key) (s : Stage) (i : ℕ) → Stands top w → stage_of (rank_at w r).agree.opened key ≡ Some s → is_in_round s i ≡ true → is_share key.kind ≡ false
stands-plain top w r key s i h e at = kept-plain top h.agreed r key s i h.kept (stage_there w h.agreed h.is_agreed r key s e) at
