-- Tests of the members of a key and of contexts one by one, and of the pick that no context is free.
use Rattle.std.proofs.Common.{◌≡◌, ℕ, zero, suc, ◌+◌, ◌-◌, ◌≤◌, Bool, true, false, List, set, Some, None, ◌&&◌, ◌<◌, add-zero, inl, inr, refl, sym, ap, subst, ◌∙◌, arith}
use Rattle.std.proofs.lemmas.Bool.{cases_eq}
use Rattle.std.specs.List.{list_all, range_with_len}
use Rattle.mpi_base.specs.declared.keys.Key.{Key}
use Rattle.mpi_base.specs.declared.entries.Said.TheVariants as said
use Rattle.mpi_law.specs.declared.setting.Setting.{Setting}
use Rattle.mpi_law.specs.Registry.State.{Registry, Creation, NoneFree, creation_at}
use Rattle.mpi_law.specs.Registry.Creations.{with_pick}
use Rattle.mpi_law.specs.Registry.Contexts.{key_place}
use Rattle.mpi_law.specs.Registry.Events.{after_pick}
use Rattle.mpi_law.specs.Registry.Runs.{MayPick, AllInUse}
use Rattle.central_law.specs.Rest.{AtRest}
use Rattle.mpi_law.specs.Registry.Tests.{can_pick, is_taken}
use Rattle.central_law.proofs.Tests.{pick_tests}
use Rattle.central_registry.specs.Moves.{Moves}

-- Tests of numbers in a row

module _ (p : ℕ → Bool) where
  all_next : (a n : ℕ) → list_all p (range_with_len a (suc n)) ≡ (list_all p (range_with_len a n) && p (a + n))
  all_next a zero = rw (add-zero a) (grind (arith))
  all_next a (suc n) =
      let later = all_next (a + 1) n in
      let same : (a + 1) + n ≡ a + suc n = omega arith in
      let moved = subst (λ k. list_all p (range_with_len (a + 1) (suc n)) ≡ (list_all p (range_with_len (a + 1) n) && p k)) same later in
      grind (arith, moved)

  pub one_lacks : (a n c : ℕ) → a ≤ c → c < a + n → p c ≡ false → list_all p (range_with_len a n) ≡ false
  one_lacks a zero c low below lacks = absurd (omega (arith, low, below))
  one_lacks a (suc n) c low below lacks = elim (cases_eq a c) [
    | inl same ↦ let here = ap p same ∙ lacks in grind (arith, here)
    | inr apart ↦ let later = one_lacks (a + 1) n c (omega (arith, low, apart)) (omega (arith, below)) lacks in grind (arith, later)
  ]

  -- from 1 on
  pub all_up_to : (c : ℕ) → 1 ≤ c → list_all p (range_with_len 1 (c - 1)) ≡ true → p c ≡ true → list_all p (range_with_len 1 c) ≡ true
  all_up_to zero low all here = absurd (omega (arith, low))
  all_up_to (suc n) low all here =
      let before : suc n - 1 ≡ n = omega arith in
      let next = all_next 1 n in
      let same : 1 + n ≡ suc n = omega arith in
      let kept = ap (λ k. list_all p (range_with_len 1 k)) (sym before) ∙ all in
      let last = ap p same ∙ here in
      grind (arith, next, kept, last)

-- That no context is free, as the pick of a settle

pub first_fails : (a b : Bool) → a ≡ false → (a && b) ≡ false
first_fails a b p = rw p refl

pub second_fails : (a b : Bool) → b ≡ false → (a && b) ≡ false
second_fails true b p = p
second_fails false b p = refl

both_hold : (a b : Bool) → a ≡ true → b ≡ true → true ≡ (a && b)
both_hold a b p q = rw (p, q) refl

module _ (s : Setting) (g : Registry) (r : ℕ) (key : Key) (rest : AtRest s g) where
  -- a registry that has moved exactly where the test of this pick holds
  tested : (moved : Bool) (new : Registry) → moved ≡ (can_pick g r key && list_all (is_taken g key) (range_with_len 1 s.contexts))
      → (moved ≡ true → new ≡ after_pick g (key_place g r key) key None) → (moved ≡ false → new ≡ g)
      → Moves (MayPick g r key × AllInUse s g key) g (after_pick g (key_place g r key) key None) moved new
  tested moved new is goes stays = record {
    may = λ h. (pick_tests s g r rest key (Some said.Exhausted)).1 (sym is ∙ h);
    when = λ h. is ∙ (pick_tests s g r rest key (Some said.Exhausted)).0 h;
    moves = goes;
    stays = stays;
  }

  pub none_free : (new : Registry) → can_pick g r key ≡ true → list_all (is_taken g key) (range_with_len 1 s.contexts) ≡ true
      → new ≡ after_pick g (key_place g r key) key None → Moves (MayPick g r key × AllInUse s g key) g (after_pick g (key_place g r key) key None) true new
  none_free new can all goes =
      tested true new (both_hold (can_pick g r key) (list_all (is_taken g key) (range_with_len 1 s.contexts)) can all) (λ h. goes) (λ h. absurd (cc (h)))

  pub not_exhausted : (can_pick g r key && list_all (is_taken g key) (range_with_len 1 s.contexts)) ≡ false
      → Moves (MayPick g r key × AllInUse s g key) g (after_pick g (key_place g r key) key None) false g
  not_exhausted fails = tested false g (sym fails) (λ h. absurd (cc (h))) (λ h. refl)

-- the creations of a registry, once no context is picked for the members of a key
pub decided : (g : Registry) (key : Key) (place : ℕ) (inside : Registry) (members : List ℕ) (creations : List Creation) → inside ≡ g → members ≡ key.members
    → creations ≡ set inside.creations place (with_pick (creation_at inside place) (record { members = members; outcome = NoneFree }))
    → (r : ℕ) → place ≡ key_place g r key → record inside { creations = creations } ≡ after_pick g (key_place g r key) key None
decided g key place inside members creations seen copied is r at =
    ap (λ cs. record inside { creations = cs }) is
    ∙ ap (λ ms. record inside { creations = set inside.creations place (with_pick (creation_at inside place) (record { members = ms; outcome = NoneFree })) }) copied
    ∙ ap (λ n. after_pick inside n key None) at ∙ ap (λ h. after_pick h (key_place g r key) key None) seen
