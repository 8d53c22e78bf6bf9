-- Forms that only journals have are exact.
use Rattle.std.proofs.Common.{◌≡◌, ℕ, ◌^◌, ◌<◌, ◌≤◌, ◌==◌, true, false, if◌then◌else◌, List, [], ◌∷◌, ◌++◌, length, take, drop, Some, None, codes, bytes_eq, decimal, refl, sym, ap, ◌∙◌, arith, lit<}
use Rattle.std.proofs.lemmas.Bool.Decides.{nat_tests}
use Rattle.std.proofs.lemmas.Fmt.{decimal_injective}
use Rattle.mpi_base.specs.Classes.{text_of_lem}
use Rattle.mpi_base.specs.declared.errors.ErrClass.{ErrClass}
use Rattle.mpi_base.specs.declared.errors.ErrClass.TheVariants as class
use Rattle.mpi_base.specs.declared.entries.Said.{Said}
use Rattle.mpi_base.specs.declared.entries.Said.TheVariants.{Own, Zero, Ready, Retry, Picked, Exhausted, Shared}
use Rattle.token_text.specs.Forms.{fault_of}
use Rattle.token_text.specs.Reading.{IsExact, is_solid}
use Rattle.token_text.specs.Numbers.{number_form}
use Rattle.token_text.proofs.Decimals.{decimal_number}
use Rattle.token_text.proofs.Marks.{lacks, lacks_both, number_lacks, number_some, solid_of}
use Rattle.token_text.proofs.Exact.{number_exact}
use Rattle.token_text.proofs.ExactLists.{word_exact, number_apart}
use Rattle.entry_text.specs.Labels.{most_16, most_64, labelled_text, before_dot, behind_dot, sent_form, own_rank_form, round_text, IsRoundSaid}
use Rattle.entry_text.specs.LabelForms.{is_labelled, labelled_form, picked_form, class_in, class_form, round_form}

-- a label in front of a text
label_taken : (xs ys : List ℕ) → (bytes_eq (take (length xs) (xs ++ ys)) xs ≡ true) × (drop (length xs) (xs ++ ys) ≡ ys)
label_taken [] ys = (refl, refl)
label_taken (x ∷ xs) ys = let ih = label_taken xs ys in (grind (arith, nat_tests, ih.0), ih.1)

-- a number behind a label is of the form
pub labelled_good : (label : List ℕ) (most n : ℕ) → most < 2 ^ 64 → n ≤ most → is_labelled label most (labelled_text label n) ≡ true
labelled_good label most n h l = let t = label_taken label (decimal n) in rw (t.0, t.1, decimal_number most n l h) refl

pub same_behind : (label xs ys : List ℕ) → label ++ xs ≡ label ++ ys → xs ≡ ys
same_behind [] xs ys e = e
same_behind (b ∷ bs) xs ys e = same_behind bs xs ys (cc (e))

pub labelled_exact : (label : List ℕ) (most : ℕ) → lacks 32 label ≡ true → most < 2 ^ 64 → IsExact (labelled_form label most)
labelled_exact label most s h = record {
  own = λ n l. (let g = labelled_good label most n h l in rw g refl);
  alone = λ m n k l e. decimal_injective m n (omega arith) (omega arith) (same_behind label (decimal m) (decimal n) e);
  solid = λ n l. solid_of (label ++ decimal n) (some n l) (lacks_both 32 label (decimal n) s (number_lacks 32 n refl (omega arith)));
}
  where
    behind_some : (xs ys : List ℕ) → 0 < length ys → 0 < length (xs ++ ys)
    behind_some [] ys l = l
    behind_some (x ∷ xs) ys l = omega arith

    some : (n : ℕ) → n ≤ most → 0 < length (label ++ decimal n)
    some n l = behind_some label (decimal n) (number_some n (omega arith))

-- a text without a dot, a dot, and another text
dot_again : (s t : List ℕ) → lacks 46 s ≡ true → (before_dot (s ++ 46 ∷ t) ≡ s) × (behind_dot (s ++ 46 ∷ t) ≡ t)
dot_again [] t h = (refl, refl)
dot_again (b ∷ bs) t h =
    let n : (b == 46) ≡ false = grind (arith, nat_tests, h) in
    let l : lacks 46 bs ≡ true = grind (arith, h) in
    let ih = dot_again bs t l in
    (rw n (ap (λ (r : List ℕ). b ∷ r) ih.0), rw n ih.1)

pub sent_exact : IsExact sent_form
sent_exact = record { own = good; alone = one; solid = whole }
  where
    cut : (f m : ℕ) → f ≤ most_16 → (before_dot (decimal f ++ 46 ∷ decimal m) ≡ decimal f) × (behind_dot (decimal f ++ 46 ∷ decimal m) ≡ decimal m)
    cut f m h = dot_again (decimal f) (decimal m) (number_lacks 46 f refl (omega (arith, h)))

    good : (p : ℕ × ℕ) → (p.0 ≤ most_16) × (p.1 ≤ most_64) → fault_of sent_form (decimal p.0 ++ 46 ∷ decimal p.1) ≡ None
    good p h =
        let c = cut p.0 p.1 h.0 in
        let a = decimal_number most_16 p.0 h.0 (lit< tt) in
        let b = decimal_number most_64 p.1 h.1 (lit< tt) in
        rw (c.0, c.1, a, b) refl

    one : (p q : ℕ × ℕ) → (p.0 ≤ most_16) × (p.1 ≤ most_64) → (q.0 ≤ most_16) × (q.1 ≤ most_64) → decimal p.0 ++ 46 ∷ decimal p.1 ≡ decimal q.0 ++ 46 ∷ decimal q.1 → p ≡ q
    one (f, m) (g, n) h k e =
        let c = cut f m h.0 in
        let d = cut g n k.0 in
        let a : f ≡ g = (let h0 = h.0 in let k0 = k.0 in decimal_injective f g (omega (arith, h0)) (omega (arith, k0)) (sym c.0 ∙ (ap before_dot e ∙ d.0))) in
        let b : m ≡ n = (let h1 = h.1 in let k1 = k.1 in decimal_injective m n (omega (arith, h1)) (omega (arith, k1)) (sym c.1 ∙ (ap behind_dot e ∙ d.1))) in
        cc (a, b)

    some : (xs ys : List ℕ) → 0 < length (xs ++ 46 ∷ ys)
    some [] ys = omega arith
    some (x ∷ xs) ys = omega arith

    whole : (p : ℕ × ℕ) → (p.0 ≤ most_16) × (p.1 ≤ most_64) → is_solid (decimal p.0 ++ 46 ∷ decimal p.1) ≡ true
    whole p h =
        let h0 = h.0 in
        let h1 = h.1 in
        solid_of (decimal p.0 ++ 46 ∷ decimal p.1) (some (decimal p.0) (decimal p.1)) (lacks_both 32 (decimal p.0) (46 ∷ decimal p.1) (number_lacks 32 p.0 refl (omega (arith, h0))) (number_lacks 32 p.1 refl (omega (arith, h1))))

pub context_exact : IsExact (labelled_form (codes "ctx=") most_16)
context_exact = labelled_exact (codes "ctx=") most_16 refl (lit< tt)

pub picked_exact : IsExact picked_form
picked_exact = word_exact (codes "exhausted") (labelled_form (codes "ctx=") most_16) context_exact refl (λ n l e. absurd (cc (ap (λ (t : List ℕ). bytes_eq t (codes "exhausted")) e)))

pub own_rank_exact : IsExact own_rank_form
own_rank_exact = word_exact (codes "undefined") (number_form most_16) (number_exact most_16 (lit< tt)) refl (λ n l e. number_apart n 117 _ (omega arith) refl e)

-- each class is found by its text
class_again : (c : ErrClass) → class_in (text_of_lem c) ≡ Some c
class_again class.Session = refl
class_again class.Group = refl
class_again class.Comm = refl
class_again class.Rank = refl
class_again class.Tag = refl
class_again class.Arg = refl
class_again class.Request = refl
class_again class.Truncate = refl
class_again class.Busy = refl
class_again class.Exhausted = refl

some_same : {A : Type 0} (a b : A) → Some a ≡ Some b → a ≡ b
some_same a b e = cc (e)

class_solid : (c : ErrClass) → is_solid (text_of_lem c) ≡ true
class_solid class.Session = refl
class_solid class.Group = refl
class_solid class.Comm = refl
class_solid class.Rank = refl
class_solid class.Tag = refl
class_solid class.Arg = refl
class_solid class.Request = refl
class_solid class.Truncate = refl
class_solid class.Busy = refl
class_solid class.Exhausted = refl

pub class_exact : IsExact class_form
class_exact = record {
  own = λ c h. (let a = class_again c in rw a refl);
  alone = λ a b h k e. some_same a b (sym (class_again a) ∙ (ap class_in e ∙ class_again b));
  solid = λ c h. class_solid c;
}

round_good : (s : Said) → IsRoundSaid s → fault_of round_form (round_text s) ≡ None
round_good Ready h = refl
round_good Retry h = refl
round_good (Picked c) h = let g = labelled_good (codes "ctx=") most_16 c (lit< tt) h in rw g refl
round_good Exhausted h = refl
round_good _ h = absurd h

-- two numbers that a test tells apart
pub unequal : (m n : ℕ) → m ≡ n → (m == n) ≡ false → ⊥
unequal m n e h = grind (arith, nat_tests, e, h)

-- which of the words of a round a text is
abbrev which : List ℕ → ℕ
which t = if bytes_eq t (codes "ready") then 0 else if bytes_eq t (codes "retry") then 1 else if bytes_eq t (codes "exhausted") then 2 else 3

round_alone : (a b : Said) → IsRoundSaid a → IsRoundSaid b → round_text a ≡ round_text b → a ≡ b
round_alone Ready Ready h k e = refl
round_alone Retry Retry h k e = refl
round_alone (Picked c) (Picked d) h k e = ap (λ (n : ℕ). Picked n) (context_exact.alone c d h k e)
round_alone Exhausted Exhausted h k e = refl
round_alone Own b h k e = absurd h
round_alone Zero b h k e = absurd h
round_alone Shared b h k e = absurd h
round_alone a Own h k e = absurd k
round_alone a Zero h k e = absurd k
round_alone a Shared h k e = absurd k
round_alone a b h k e = absurd (unequal _ _ (ap which e) refl)

round_solid : (s : Said) → IsRoundSaid s → is_solid (round_text s) ≡ true
round_solid Ready h = refl
round_solid Retry h = refl
round_solid (Picked c) h = context_exact.solid c h
round_solid Exhausted h = refl
round_solid _ h = absurd h

pub round_exact : IsExact round_form
round_exact = record { own = round_good; alone = round_alone; solid = round_solid }
