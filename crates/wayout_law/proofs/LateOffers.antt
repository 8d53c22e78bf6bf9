-- The second part of the drain: offers. One of a key that is alone owns, and a key that begins is alone.
use Rattle.std.proofs.Common.{◌≡◌, ◌<◌, ◌&&◌, ◌||◌, not, ℕ, Bool, true, false, List, [], ◌∷◌, length, Option, Some, None, refl, sym, ap, subst, inl, inr, arith}
use Rattle.std.specs.Prelude.{is_none}
use Rattle.std.specs.List.{list_all}
use Rattle.std.proofs.lemmas.Bool.Decides.{nat_tests}
use Rattle.mpi_base.specs.declared.keys.Key.{Key}
use Rattle.mpi_base.specs.Keys.{same_key, key_before}
use Rattle.mpi_base.proofs.KeyFacts.{same_key_is, same_key-refl}
use Rattle.mpi_law.specs.ScriptLists.{AllScripts}
use Rattle.agree_law.specs.declared.rows.CreationRow.{CreationRow}
use Rattle.agree_law.specs.declared.rows.Stage.{Stage}
use Rattle.agree_law.specs.declared.rows.Stage.TheVariants.{Waiting, Offered}
use Rattle.agree_law.specs.Part.{Agree, stage_of}
use Rattle.agree_law.specs.Packets.{Moved}
use Rattle.agree_law.specs.Rule.{is_key, is_waiting, is_least, may_own}
use Rattle.agree_law.specs.Offers.{is_due, may_offer, make_offer, offer_of}
use Rattle.agree_law.specs.Moves.{may_settle}
use Rattle.agree_law.specs.Gather.{all_own}
use Rattle.agree_law.proofs.Lists.{AllOf}
use Rattle.mpi_protocol.specs.Packets.{Packet, agreeing}
use Rattle.mpi_protocol.specs.Rank.{Rank}
use Rattle.mpi_protocol.specs.Agreeing.{offers}
use Rattle.mpi_protocol.specs.World.{World, rank_at, may_happen, moved}
use Rattle.mpi_protocol.specs.Order.{is_offered, offered_anywhere}
use Rattle.wayout_law.specs.Potential.{more_late}
use Rattle.wayout_law.proofs.Worlds.{after-spends}
use Rattle.wayout_law.proofs.Decisions.{spend-offers, due_waits}
use Rattle.wayout_law.proofs.Settling.{offer-part}
use Rattle.wayout_law.proofs.Agreements.{NoPackets}
use Rattle.wayout_law.proofs.Stands.{Stands, Nobody, stands-owner, stands-clear, stands-plain}
use Rattle.wayout_law.proofs.EarlySettle.{offer_choice, offer_may, offer-move, offered_at}
use Rattle.wayout_law.proofs.Calm.{is_calm, CalmSent}
use Rattle.wayout_law.proofs.Late.{Alone, Late, Leaves, alone-after}
use Rattle.wayout_law.proofs.LateMoves.{AloneAt, offer-leaves}
use Rattle.wayout_law.proofs.LateSteps.{GoesLate, alone_here}

least_in : (all os : List CreationRow) (key : Key) → ((k : Key) → is_waiting (stage_of all k) ≡ true → key_before k key ≡ false) → list_all (λ o. not (is_waiting (stage_of all o.key)) || not (key_before o.key key)) os ≡ true
least_in all [] key h = refl
least_in all (o ∷ os) key h = let ih = least_in all os key h in let a = h o.key in go (is_waiting (stage_of all o.key)) (key_before o.key key) a ih
  where
    go : (a b : Bool) → (a ≡ true → b ≡ false) → list_all (λ o. not (is_waiting (stage_of all o.key)) || not (key_before o.key key)) os ≡ true → ((not a || not b) && list_all (λ o. not (is_waiting (stage_of all o.key)) || not (key_before o.key key)) os) ≡ true
    go false b f ih = ih
    go true false f ih = ih
    go true true f ih = let z = f refl in absurd (cc)

least_is : (os : List CreationRow) (key : Key) → ((k : Key) → is_waiting (stage_of os k) ≡ true → key_before k key ≡ false) → is_least os key ≡ true
unfolding is_least
least_is os key h = least_in os os key h

alone_owns : (top : ℕ) (w : World) (r : ℕ) (key : Key) (i : ℕ) → Stands top w → Alone key w → stage_of (rank_at w r).agree.opened key ≡ Some (Waiting i) → may_own (rank_at w r).agree key ≡ true
unfolding may_own
alone_owns top w r key i h a e =
    let l = least_is (rank_at w r).agree.opened key (a.first r) in
    let n = free (rank_at w r).agree.owner (stands-owner top w h r) in
    grind (arith, l, n)
  where
    free : (o : Option Key) → ((k : Key) → is_key o k ≡ true → is_offered (stage_of (rank_at w r).agree.opened k) ≡ true) → is_none o ≡ true
    free None f = refl
    free (Some k) f =
        let off = f k (same_key-refl k) in
        let is = same_key_is k key (a.only r k off) in
        let bad : is_offered (stage_of (rank_at w r).agree.opened key) ≡ true = subst (λ z. is_offered (stage_of (rank_at w r).agree.opened z) ≡ true) is off in
        absurd (cc (rw e at bad))

make-is : (r top : ℕ) (a : Agree) (key : Key) (i : ℕ) → stage_of a.opened key ≡ Some (Waiting i) → make_offer r top a key ≡ offer_of r top a key i (may_own a key)
unfolding make_offer
make-is r top a key i e = rw e refl

offer-sent : (x : Rank) (key : Key) (i : ℕ) → stage_of x.agree.opened key ≡ Some (Waiting i) → (offers x key).sent ≡ agreeing (offer_of x.rank x.setting.contexts x.agree key i (may_own x.agree key)).sent
unfolding offers
offer-sent x key i e = ap (λ (m : Moved). agreeing m.sent) (make-is x.rank x.setting.contexts x.agree key i e)

leaves-offer : (x : Rank) (key : Key) (i : ℕ) → stage_of x.agree.opened key ≡ Some (Waiting i) → may_own x.agree key ≡ true → AloneAt key x.rank x.agree → Leaves key x.rank (offers x key)
leaves-offer x key i e owns h =
    let p = offer-leaves x.rank x.setting.contexts x.agree key i h in
    let part : (offer_of x.rank x.setting.contexts x.agree key i true).part ≡ (offers x key).state.agree = sym (subst (λ b. (offers x key).state.agree ≡ (offer_of x.rank x.setting.contexts x.agree key i b).part) owns (offer-part x key i e)) in
    let sent : agreeing (offer_of x.rank x.setting.contexts x.agree key i true).sent ≡ (offers x key).sent = sym (subst (λ b. (offers x key).sent ≡ agreeing (offer_of x.rank x.setting.contexts x.agree key i b).sent) owns (offer-sent x key i e)) in
    record {
      only = subst (λ (a : Agree). (k : Key) → is_offered (stage_of a.opened k) ≡ true → same_key k key ≡ true) part p.at.only;
      first = subst (λ (a : Agree). (k : Key) → is_waiting (stage_of a.opened k) ≡ true → key_before k key ≡ false) part p.at.first;
      own = subst (λ (a : Agree). all_own a.gathered key ≡ true) part p.at.own;
      rest = subst (λ (a : Agree). (k : Key) → same_key k key ≡ false → may_settle x.rank a k ≡ false) part p.at.rest;
      sent = subst (λ z. CalmSent key z) sent p.sent;
    }

pub alone-offer : (top n : ℕ) (scripts : AllScripts) (w : World) (r : ℕ) (key : Key) → Stands top w → Alone key w → may_happen w (offer_choice r key) ≡ true → GoesLate n scripts w (moved w (offer_choice r key))
alone-offer top n scripts w r key h a may =
    let x = rank_at w r in
    let m = offer_may w r key may in
    let i = due_waits (stage_of x.agree.opened key) m.1 in
    let owns = alone_owns top w r key i.0 h a i.1 in
    let l = subst (λ z. Leaves key z (offers x key)) (h.number r m.0) (leaves-offer x key i.0 i.1 owns (alone_here top key w r h m.0 a)) in
    rw (offer-move w r key)
    (inr (key, alone-after key w (offer_choice r key) (offers x key) l a), after-spends n more_late scripts w (offer_choice r key) (offers x key) m.0 (spend-offers n more_late scripts r x key (h.rows r) m.1))

-- an offer of a key that is offered somewhere
pub late-join : (top n : ℕ) (scripts : AllScripts) (w : World) (r : ℕ) (key : Key) → Stands top w → Late w → offered_anywhere w key ≡ true → may_happen w (offer_choice r key) ≡ true → GoesLate n scripts w (moved w (offer_choice r key))
late-join top n scripts w r key h (inl nobody) anywhere may = let o = offered_at w key anywhere in let none = nobody o.0 key in let is = o.1 in absurd (cc)
late-join top n scripts w r key h (inr (k, a)) anywhere may =
    let o = offered_at w key anywhere in
    let is : key ≡ k = same_key_is key k (a.only o.0 key o.1) in
    alone-offer top n scripts w r key h (subst (λ z. Alone z w) (sym is) a) may

-- the least key that waits begins
pub waits_due : (s : Option Stage) → is_waiting s ≡ true → is_offered s ≡ false → is_due s ≡ true
waits_due (Some (Waiting i)) e f = refl
waits_due (Some (Offered i own)) e f = absurd (cc)
waits_due s e f = absurd (cc)

pub begins-alone : (top : ℕ) (w : World) (r : ℕ) (key : Key) (i : ℕ) → Stands top w → NoPackets w → Nobody w → ((q : ℕ) (k : Key) → q < length w.ranks → may_settle q (rank_at w q).agree k ≡ false)
    → ((q : ℕ) (k : Key) → may_offer (rank_at w q).agree k ≡ true → key_before k key ≡ false) → stage_of (rank_at w r).agree.opened key ≡ Some (Waiting i) → Alone key w
begins-alone top w r key i h none nobody settle least e =
    record {
      only = λ q k o. (let z = nobody q k in absurd (cc));
      first = λ q k waits. least q k (waits_due (stage_of (rank_at w q).agree.opened k) waits (nobody q k));
      flown = λ from to lf lt far. subst (λ (l : List Packet). AllOf (λ p. is_calm key p ≡ true) l) (sym (none from to lf lt far)) tt;
      own = stands-clear top w r key (Waiting i) i h none nobody e (grind (arith, nat_tests));
      rest = λ q k lt far. settle q k lt;
      plain = stands-plain top w r key (Waiting i) i h e (grind (arith, nat_tests));
    }
