-- Tokens that only journals have.
use Rattle.std.proofs.Common.{◌≡◌, ℕ, suc, ◌+◌, ◌<◌, ◌≤◌, ◌==◌, Bool, true, false, cond, List, [], ◌∷◌, ◌++◌, length, take, drop, Some, None, position, bytes_eq, refl, sym, ap, ◌∙◌, subst, arith}
use Rattle.std.proofs.lemmas.Grind.{common_steps}
use Rattle.std.proofs.lemmas.Bool.Decides.{nat_tests}
use Rattle.std.proofs.lemmas.Slice.Eq.{bytes_eq-Decides}
use Rattle.std.specs.List.{position_or_len}
use Rattle.mpi_base.specs.Classes.{text_of_lem}
use Rattle.mpi_base.specs.declared.errors.ErrClass.{ErrClass}
use Rattle.token_text.specs.Forms.{fault_of}
use Rattle.token_text.specs.Reading.{Shows}
use Rattle.token_text.specs.Numbers.{number_form}
use Rattle.token_text.specs.declared.faults.TokenFault.{TokenFault}
use Rattle.std.proofs.lemmas.List.Recursion.{is_position_or_len}
use Rattle.entry_text.specs.Labels.{most_64, sent_form, before_dot, behind_dot}
use Rattle.entry_text.specs.LabelForms.{all_classes, class_in, class_form}
use Rattle.entry_text.proofs.WordFacts.{found_of}

-- a class that is found has the text
pub class_shown : (t : List ℕ) (c : ErrClass) → Some c ≡ class_in t → Shows class_form t c
class_shown t c e = record {
  good = rw (← e) refl;
  text = sym ((bytes_eq-Decides (text_of_lem c) t).0 (found_of (λ d. bytes_eq (text_of_lem d) t) all_classes c (sym e)));
  fits = tt;
}

abbrev is_dot : ℕ → Bool
is_dot b = b == 46

-- how many bytes stand before the first that passes
abbrev run : (ℕ → Bool) → List ℕ → ℕ
run p [] = 0
run p (b ∷ bs) = cond (p b) 0 (suc (run p bs))

one_more : (n : ℕ) → suc n ≡ 1 + n
one_more n = omega arith

-- the same in std's word
run_is : (p : ℕ → Bool) (bs : List ℕ) → run p bs ≡ position_or_len p bs
run_is p bs = is_position_or_len (run p) p refl (λ x xs. rw (one_more (run p xs)) refl) bs

-- what stands before the first dot and behind it
cut_run : (t : List ℕ) → (take (run is_dot t) t ≡ before_dot t) × (drop 1 (drop (run is_dot t) t) ≡ behind_dot t)
cut_run [] = (refl, refl)
cut_run (b ∷ bs) = go (b == 46) refl (cut_run bs)
  where
    go : (c : Bool) → (b == 46) ≡ c → (take (run is_dot bs) bs ≡ before_dot bs) × (drop 1 (drop (run is_dot bs) bs) ≡ behind_dot bs)
        → (take (cond c 0 (suc (run is_dot bs))) (b ∷ bs) ≡ cond c [] (b ∷ before_dot bs)) × (drop 1 (drop (cond c 0 (suc (run is_dot bs))) (b ∷ bs)) ≡ cond c bs (behind_dot bs))
    go true e ih = (refl, refl)
    go false e ih = (ap (λ (r : List ℕ). b ∷ r) ih.0, ih.1)

at_place : (t : List ℕ) (i : ℕ) → position is_dot t ≡ Some i → run is_dot t ≡ i
at_place t i h = run_is is_dot t ∙ grind (arith, nat_tests, common_steps, h)

pub dot_before : (t : List ℕ) (i : ℕ) → position is_dot t ≡ Some i → take i t ≡ before_dot t
dot_before t i h = subst (λ (n : ℕ). take n t ≡ before_dot t) (at_place t i h) (cut_run t).0

pub dot_behind : (t : List ℕ) (i : ℕ) → position is_dot t ≡ Some i → drop 1 (drop i t) ≡ behind_dot t
dot_behind t i h = subst (λ (n : ℕ). drop 1 (drop n t) ≡ behind_dot t) (at_place t i h) (cut_run t).1

run_le : (t : List ℕ) → run is_dot t ≤ length t
run_le [] = omega arith
run_le (b ∷ bs) = let ih = run_le bs in grind (arith, ih)

whole_run : (t : List ℕ) → run is_dot t < length t → t ≡ before_dot t ++ 46 ∷ behind_dot t
whole_run [] l = absurd (omega (arith, l))
whole_run (b ∷ bs) l = go (b == 46) refl l (whole_run bs)
  where
    go : (c : Bool) → (b == 46) ≡ c → cond c 0 (suc (run is_dot bs)) < suc (length bs) → (run is_dot bs < length bs → bs ≡ before_dot bs ++ 46 ∷ behind_dot bs)
        → b ∷ bs ≡ cond c [] (b ∷ before_dot bs) ++ 46 ∷ cond c bs (behind_dot bs)
    go true e k ih = let s : b ≡ 46 = grind (arith, nat_tests, e) in ap (λ (x : ℕ). x ∷ bs) s
    go false e k ih = ap (λ (r : List ℕ). b ∷ r) (ih (omega (arith, k)))

pub dot_whole : (t : List ℕ) (i : ℕ) → position is_dot t ≡ Some i → i < length t → t ≡ before_dot t ++ 46 ∷ behind_dot t
dot_whole t i h l = let r = at_place t i h in whole_run t (omega (arith, r, l))

behind_end : (t : List ℕ) → run is_dot t ≡ length t → behind_dot t ≡ []
behind_end [] e = refl
behind_end (b ∷ bs) e = go (b == 46) refl e (behind_end bs)
  where
    go : (c : Bool) → (b == 46) ≡ c → cond c 0 (suc (run is_dot bs)) ≡ suc (length bs) → (run is_dot bs ≡ length bs → behind_dot bs ≡ []) → cond c bs (behind_dot bs) ≡ []
    go true e k ih = absurd (omega (arith, k))
    go false e k ih = ih (omega (arith, k))

pub dot_none : (t : List ℕ) → position is_dot t ≡ None → behind_dot t ≡ []
dot_none t h =
    let r = run_is is_dot t in
    let l = run_le t in
    let m : run is_dot t ≤ length t → run is_dot t ≡ length t = grind (arith, nat_tests, common_steps, h, r) in
    behind_end t (m l)

-- a number behind the dot that is none
pub sent_bad : (t : List ℕ) (fault : TokenFault) → fault_of (number_form most_64) (behind_dot t) ≡ Some fault → fault_of sent_form t ≡ Some fault
sent_bad t fault h = grind (arith, h)
