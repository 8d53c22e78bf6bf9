-- What holds where nothing but calls beyond the scripts is left: nothing is on its way, no key is offered or waits, no key owns a
-- mask, and no key and no exchange has been called by all its members.
use Rattle.std.proofs.Common.{◌≡◌, ◌<◌, ◌≤◌, ◌==◌, ℕ, Bool, true, false, List, [], ◌∷◌, length, Option, Some, None, refl, sym, subst, arith}
use Rattle.std.specs.Prelude.{is_none, is_some, nat_lt}
use Rattle.std.proofs.lemmas.Bool.Decides.{nat_tests}
use Rattle.mpi_base.specs.declared.keys.Key.{Key}
use Rattle.mpi_base.proofs.KeyFacts.{same_key-refl}
use Rattle.mpi_law.specs.ScriptLists.{AllScripts}
use Rattle.agree_law.specs.declared.rows.Stage.TheVariants.{Called}
use Rattle.agree_law.specs.Tree.{member_at}
use Rattle.agree_law.specs.Part.{Agree, stage_of}
use Rattle.agree_law.specs.Rule.{is_key, is_waiting}
use Rattle.agree_law.specs.Offers.{may_offer}
use Rattle.agree_law.specs.Moves.{may_settle}
use Rattle.agree_law.specs.World.{part_at, is_key_of}
use Rattle.agree_law.proofs.Lists.{tally}
use Rattle.agree_law.proofs.RowFacts.{at_place}
use Rattle.agree_law.proofs.KeyKept.{stage_fits}
use Rattle.agree_law.proofs.Kept.{is_good, seat}
use Rattle.share_law.specs.Facts.{is_exchange, sharing_of}
use Rattle.mpi_protocol.specs.Packets.{Packet}
use Rattle.mpi_protocol.specs.World.{World, rank_at, link}
use Rattle.mpi_protocol.specs.Order.{is_offered, IsQuiet}
use Rattle.wayout_law.proofs.Rounds.{own_whole}
use Rattle.wayout_law.proofs.AgreeFacts.{still_key, settles_first, first_is, all_at, members_inside}
use Rattle.wayout_law.proofs.Agreements.{agreement-part, agreement-many, agreement-empty, NoPackets}
use Rattle.wayout_law.proofs.Exchanged.{shared_settles}
use Rattle.wayout_law.proofs.Stands.{Stands, Rests, Nobody, stands-nobody, stands-owner}
use Rattle.wayout_law.proofs.Deliveries.{delivery_of}
use Rattle.wayout_law.proofs.SettleFacts.{settle_of}
use Rattle.wayout_law.proofs.EarlySettle.{offer_choice}
use Rattle.wayout_law.proofs.LateOffers.{waits_due}
use Rattle.wayout_law.proofs.First.{delivers_may, settles_may, offers_may, offer_inside}

pub quiet-empty : (top : ℕ) (w : World) (scripts : AllScripts) → Stands top w → IsQuiet w scripts → NoPackets w
quiet-empty top w scripts h quiet from to lf lt far = go (link w from to) refl
  where
    go : (l : List Packet) → link w from to ≡ l → link w from to ≡ []
    go [] e = e
    go (p ∷ ps) e =
        let may = delivers_may w to from p lt lf (subst (λ z. (from == z) ≡ false) (sym (h.number to lt)) far) (rw e refl) in
        let no_way = quiet.still (delivery_of to from) refl in
        absurd (cc)

quiet-settle : (top : ℕ) (w : World) (scripts : AllScripts) → Stands top w → IsQuiet w scripts → (r : ℕ) (key : Key) → r < length w.ranks → may_settle r (rank_at w r).agree key ≡ false
quiet-settle top w scripts h quiet r key lt = go (may_settle r (rank_at w r).agree key) refl
  where
    go : (b : Bool) → may_settle r (rank_at w r).agree key ≡ b → may_settle r (rank_at w r).agree key ≡ false
    go false e = e
    go true e =
        let may = settles_may w r key lt (subst (λ z. may_settle z (rank_at w r).agree key ≡ true) (sym (h.number r lt)) e) in
        let no_way = quiet.still (settle_of r key) refl in
        absurd (cc)

quiet-due : (w : World) (scripts : AllScripts) → IsQuiet w scripts → (r : ℕ) (key : Key) → may_offer (rank_at w r).agree key ≡ false
quiet-due w scripts quiet r key = go (may_offer (rank_at w r).agree key) refl
  where
    go : (b : Bool) → may_offer (rank_at w r).agree key ≡ b → may_offer (rank_at w r).agree key ≡ false
    go false e = e
    go true e = let may = offers_may w r key (offer_inside w r key e) e in let no_way = quiet.still (offer_choice r key) refl in absurd (cc)

quiet-rests : (top : ℕ) (w : World) (scripts : AllScripts) → Stands top w → IsQuiet w scripts → Rests w
quiet-rests top w scripts h quiet = record { empty = quiet-empty top w scripts h quiet; settle = quiet-settle top w scripts h quiet; join = λ r key e. quiet-due w scripts quiet r key }

pub quiet-nobody : (top : ℕ) (w : World) (scripts : AllScripts) → Stands top w → IsQuiet w scripts → Nobody w
quiet-nobody top w scripts h quiet = stands-nobody top w h (quiet-rests top w scripts h quiet)

-- no key waits
pub quiet-waits : (top : ℕ) (w : World) (scripts : AllScripts) → Stands top w → IsQuiet w scripts → (r : ℕ) (key : Key) → is_waiting (stage_of (rank_at w r).agree.opened key) ≡ false
quiet-waits top w scripts h quiet r key = go (is_waiting (stage_of (rank_at w r).agree.opened key)) refl
  where
    go : (b : Bool) → is_waiting (stage_of (rank_at w r).agree.opened key) ≡ b → is_waiting (stage_of (rank_at w r).agree.opened key) ≡ false
    go false e = e
    go true e = let due = waits_due (stage_of (rank_at w r).agree.opened key) e (quiet-nobody top w scripts h quiet r key) in let none = quiet-due w scripts quiet r key in absurd (cc)

-- no key owns a mask
pub quiet-owner : (top : ℕ) (w : World) (scripts : AllScripts) → Stands top w → IsQuiet w scripts → (r : ℕ) → is_none (rank_at w r).agree.owner ≡ true
quiet-owner top w scripts h quiet r = free (rank_at w r).agree.owner (stands-owner top w h r)
  where
    free : (o : Option Key) → ((k : Key) → is_key o k ≡ true → is_offered (stage_of (rank_at w r).agree.opened k) ≡ true) → is_none o ≡ true
    free None f = refl
    free (Some k) f = let off = f k (same_key-refl k) in let none = quiet-nobody top w scripts h quiet r k in absurd (cc)

-- a creation that all members have called is decided
called_own : (g c : ℕ) (owns : Bool) → stage_fits (Some Called) g c owns ≡ true → 1 ≤ c
called_own g c owns e = let is : c ≡ 1 = grind (arith, nat_tests, e) in omega (arith, is)

pub quiet-called : (top : ℕ) (w : World) (scripts : AllScripts) → Stands top w → IsQuiet w scripts → (key : Key) → is_good (length w.ranks) key ≡ true → 0 < length key.members
    → ((p : ℕ) → p < length key.members → stage_of (rank_at w (member_at key.members p)).agree.opened key ≡ Some Called) → ⊥
quiet-called top w scripts h quiet key good some called =
    let a = h.agreed in
    let is = h.is_agreed in
    let many = agreement-many w a is in
    let g : is_good (length a.parts) key ≡ true = rw many good in
    let k = still_key top a key h.kept (agreement-empty top w a is h.kept (quiet-empty top w scripts h quiet)) g in
    let own : (p : ℕ) → p < length key.members → 1 ≤ tally (at_place p) (seat a.parts key p).offers = λ p lt. called_own (seat a.parts key p).round (tally (at_place p) (seat a.parts key p).offers) (seat a.parts key p).owns (rw (there p lt) at (k.fits p lt)) in
    let whole = own_whole top (length key.members) (member_at key.members) (seat a.parts key) k own (length key.members) 0 (omega arith) some in
    let inside = all_at (λ m. nat_lt m (length a.parts)) key.members 0 (members_inside (length a.parts) key g) some in
    let yes = settles_first (member_at key.members 0) (part_at a (member_at key.members 0)) key (grind (arith, good)) (first_is key.members some) whole in
    let here = subst (λ (z : Agree). may_settle (member_at key.members 0) z key ≡ true) (agreement-part w a is (member_at key.members 0)) yes in
    let none = quiet-settle top w scripts h quiet (member_at key.members 0) key (grind (arith, nat_tests, rw many at inside)) in
    absurd (cc)
  where
    there : (p : ℕ) → p < length key.members → (seat h.agreed.parts key p).stage ≡ Some Called
    there p lt = subst (λ (z : Agree). stage_of z.opened key ≡ Some Called) (sym (agreement-part w h.agreed h.is_agreed (member_at key.members p))) (called p lt)

first_inside : (n : ℕ) (key : Key) → is_exchange n key ≡ true → 0 < length key.members → member_at key.members 0 < n
unfolding is_key_of
first_inside n key good some = let m = all_at (λ m. nat_lt m n) key.members 0 (grind (arith, good)) some in grind (arith, nat_tests, m)

-- an exchange that all members have called is settled
pub quiet-shared : (top : ℕ) (w : World) (scripts : AllScripts) → Stands top w → IsQuiet w scripts → (key : Key) → is_exchange (length w.ranks) key ≡ true → 0 < length key.members
    → ((p : ℕ) → p < length key.members → is_some (sharing_of (stage_of (rank_at w (member_at key.members p)).agree.opened key)) ≡ true) → ⊥
quiet-shared top w scripts h quiet key good some shared =
    let a = h.agreed in
    let is = h.is_agreed in
    let many = agreement-many w a is in
    let r = member_at key.members 0 in
    let yes = shared_settles w a key is h.exchanges (quiet-empty top w scripts h quiet) (rw many good) some (λ p lt. subst (λ (z : Agree). is_some (sharing_of (stage_of z.opened key)) ≡ true) (sym (agreement-part w a is (member_at key.members p))) (shared p lt)) in
    let here = subst (λ (z : Agree). may_settle r z key ≡ true) (agreement-part w a is r) yes in
    let none = quiet-settle top w scripts h quiet r key (first_inside (length w.ranks) key good some) in
    absurd (cc (here, none))
