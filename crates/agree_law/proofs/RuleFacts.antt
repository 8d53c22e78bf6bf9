-- The offer rule: when an offer may not own the mask, and what an offer does by it.
use Rattle.std.proofs.Common.{◌≡◌, ◌&&◌, ◌||◌, not, ℕ, Bool, true, false, if◌then◌else◌, List, [], ◌∷◌, Option, Some, None, refl, sym, subst, ◌∙◌, arith}
use Rattle.std.specs.Prelude.{is_none, nat_lt, nat_le}
use Rattle.std.specs.Option.{is_some}
use Rattle.std.specs.List.{list_all}
use Rattle.mpi_base.specs.declared.keys.Key.{Key}
use Rattle.mpi_base.specs.Keys.{same_key, key_before}
use Rattle.mpi_base.proofs.KeyFacts.{same_key_is, same_key-refl}
use Rattle.agree_law.specs.declared.rows.CreationRow.{CreationRow}
use Rattle.agree_law.specs.declared.rows.Stage.{Stage}
use Rattle.agree_law.specs.declared.rows.Stage.TheVariants.{Offered}
use Rattle.agree_law.specs.Part.{Agree, stage_of}
use Rattle.agree_law.specs.Rule.{is_key, is_waiting, is_least, may_own}
use Rattle.agree_law.specs.Offers.{put_offer, if_waiting, make_offer}
use Rattle.agree_law.specs.Facts.{NoSecondOwner, NoOwnerBeforeALesserKey, OffersAreByTheRule, NoGiveBackWhileOwned}
use Rattle.agree_law.proofs.RowFacts.{stage_of-set}

pub no_second_owner : (a : Agree) → NoSecondOwner a
unfolding may_own
no_second_owner a owner key e = go a.owner e
  where
    go : (o : Option Key) → is_key o owner ≡ true → (is_none o && is_least a.opened key) ≡ false
    go None e = absurd (cc)
    go (Some k) e = refl

pub no_give_back_while_owned : (top : ℕ) (a : Agree) → NoGiveBackWhileOwned top a
no_give_back_while_owned top a owner c e = go a.owner e
  where
    go : (o : Option Key) → is_key o owner ≡ true → (is_none o && (nat_lt 0 c && nat_le c top)) ≡ false
    go None e = absurd (cc)
    go (Some k) e = refl

is_there : (s : Option Stage) → is_waiting s ≡ true → is_some s ≡ true
is_there None e = absurd (cc)
is_there (Some s) e = refl

-- the row of a lesser key that waits fails the test
not_least : (xs ys : List CreationRow) (lesser key : Key) → is_some (stage_of xs lesser) ≡ true → is_waiting (stage_of ys lesser) ≡ true → key_before lesser key ≡ true
    → list_all (λ o. not (is_waiting (stage_of ys o.key)) || not (key_before o.key key)) xs ≡ false
not_least [] ys lesser key there waits before = absurd (cc)
not_least (x ∷ xs) ys lesser key there waits before = go (same_key x.key lesser) refl (not_least xs ys lesser key)
  where
    go : (b : Bool) → same_key x.key lesser ≡ b
        → (is_some (stage_of xs lesser) ≡ true → is_waiting (stage_of ys lesser) ≡ true → key_before lesser key ≡ true → list_all (λ o. not (is_waiting (stage_of ys o.key)) || not (key_before o.key key)) xs ≡ false)
        → list_all (λ o. not (is_waiting (stage_of ys o.key)) || not (key_before o.key key)) (x ∷ xs) ≡ false
    go true same ih =
        let is : lesser ≡ x.key = sym (same_key_is x.key lesser same) in
        let here : is_waiting (stage_of ys x.key) ≡ true = subst (λ k. is_waiting (stage_of ys k) ≡ true) is waits in
        let less : key_before x.key key ≡ true = subst (λ k. key_before k key ≡ true) is before in
        grind (arith, here, less)
    go false apart ih = let rest = ih (grind (arith, there, apart)) waits before in grind (arith, rest)

pub no_owner_before_a_lesser_key : (a : Agree) → NoOwnerBeforeALesserKey a
unfolding may_own is_least
no_owner_before_a_lesser_key a lesser key waits before =
    let fails = not_least a.opened a.opened lesser key (is_there (stage_of a.opened lesser) waits) waits before in
    grind (arith, fails)

pub offers_are_by_the_rule : (r top : ℕ) (a : Agree) → OffersAreByTheRule r top a
unfolding make_offer put_offer
offers_are_by_the_rule r top a key i waits =
    let set = stage_of-set a.opened key (Offered i (may_own a key)) key in
    let here : (if same_key key key then (if is_some (stage_of a.opened key) then Some (Offered i (may_own a key)) else None) else stage_of a.opened key) ≡ Some (Offered i (may_own a key)) = rw (same_key-refl key) (rw waits refl) in
    record {
      stage = subst (λ s. stage_of (if_waiting r top a key s).part.opened key ≡ Some (Offered i (may_own a key))) (sym waits) (set ∙ here);
      owner = subst (λ s. (if_waiting r top a key s).part.owner ≡ (if may_own a key then Some key else a.owner)) (sym waits) refl;
    }
