-- Places of threads, one after another.
use Rattle.std.proofs.Common.{◌≡◌, ℕ, zero, suc, ◌+◌, ◌-◌, ◌<◌, ◌≤◌, nat_lt, Bool, true, false, List, [], ◌∷◌, ◌++◌, append_assoc, length, bytes_eq, Option, Some, None, refl, subst, arith}
use Rattle.std.proofs.lemmas.Bool.Decides.{nat_tests}
use Rattle.toml.specs.Data.{Members}
use Rattle.job_file.specs.Lines.{lines_of, op_count}
use Rattle.job_file.specs.Chains.{or_else}
use Rattle.job_file.specs.Threads.{script_key, names_place, script_at, first_at, long_at, ops_from}

step_down : (place n : ℕ) → place < n → n - place ≡ suc (n - (place + 1))
step_down place n l = omega (arith, l)

no_more : (n : ℕ) → n - n ≡ 0
no_more n = omega arith

-- Keys

pub names_skip : (k : List ℕ) (place n : ℕ) → place < n → bytes_eq k (script_key place) ≡ false → names_place place (n - place) k ≡ names_place (place + 1) (n - (place + 1)) k
names_skip k place n l h = rw (step_down place n l, h) refl

pub names_hit : (k : List ℕ) (place n : ℕ) → place < n → bytes_eq k (script_key place) ≡ true → names_place place (n - place) k ≡ true
names_hit k place n l h = rw (step_down place n l, h) refl

pub names_end : (k : List ℕ) (n : ℕ) → names_place n (n - n) k ≡ false
names_end k n = rw (no_more n) refl

-- What is found first

pub first_skip : {A : Type 0} (f : ℕ → Option A) (place n : ℕ) → place < n → f place ≡ None → first_at f place (n - place) ≡ first_at f (place + 1) (n - (place + 1))
first_skip f place n l h = rw (step_down place n l, h) refl

pub first_hit : {A : Type 0} (f : ℕ → Option A) (place n : ℕ) (x : A) → place < n → f place ≡ Some x → first_at f place (n - place) ≡ Some x
first_hit f place n x l h = rw (step_down place n l, h) refl

pub first_end : {A : Type 0} (f : ℕ → Option A) (n : ℕ) → first_at f n (n - n) ≡ None
first_end f n = rw (no_more n) refl

pub or_none : {A : Type 0} (a b : Option A) → or_else a b ≡ None → (a ≡ None) × (b ≡ None)
or_none None b e = (refl, e)
or_none (Some x) b e = absurd (cc (e))

pub first_none : {A : Type 0} (f : ℕ → Option A) (p n i : ℕ) → first_at f p n ≡ None → i < n → f (p + i) ≡ None
first_none f p zero i e l = absurd (omega (arith, l))
first_none f p (suc n) zero e l =
    let same : p ≡ p + 0 = omega arith in
    subst (λ (q : ℕ). f q ≡ None) same (or_none (f p) (first_at f (p + 1) n) e).0
first_none f p (suc n) (suc i) e l =
    let same : (p + 1) + i ≡ p + suc i = omega arith in
    subst (λ (q : ℕ). f q ≡ None) same (first_none f (p + 1) n i (or_none (f p) (first_at f (p + 1) n) e).1 (omega (arith, l)))

not_long : (ms : Members) (place : ℕ) → long_at ms place ≡ None → length (lines_of (script_at ms place)) ≤ 4096
not_long ms place e = go (nat_lt 4096 (length (lines_of (script_at ms place)))) refl e
  where
    go : (t : Bool) → nat_lt 4096 (length (lines_of (script_at ms place))) ≡ t → long_at ms place ≡ None → length (lines_of (script_at ms place)) ≤ 4096
    go true h e = absurd (grind (arith, h, e))
    go false h e = grind (arith, nat_tests, h)

-- where no script is long, none of them is
pub none_long : (ms : Members) (place n : ℕ) → first_at (long_at ms) 0 n ≡ None → place < n → length (lines_of (script_at ms place)) ≤ 4096
none_long ms place n e l =
    let same : 0 + place ≡ place = omega arith in
    not_long ms place (subst (λ (q : ℕ). long_at ms q ≡ None) same (first_none (long_at ms) 0 n place e l))

pub long_none : (ms : Members) (place : ℕ) → nat_lt 4096 (length (lines_of (script_at ms place))) ≡ false → long_at ms place ≡ None
long_none ms place h = rw h refl

-- Numbers of operations

pub ops_next : (ms : Members) (place n : ℕ) → place < n → ops_from ms place (n - place) ≡ op_count (lines_of (script_at ms place)) + ops_from ms (place + 1) (n - (place + 1))
ops_next ms place n l = rw (step_down place n l) refl

pub ops_end : (ms : Members) (n : ℕ) → ops_from ms n (n - n) ≡ 0
ops_end ms n = rw (no_more n) refl

-- Texts of keys

pub key_text : (r t : List ℕ) → (r ++ 46 ∷ []) ++ t ≡ r ++ 46 ∷ t
key_text r t = append_assoc r (46 ∷ []) t
