-- Tables without a fault.
use Rattle.std.proofs.Common.{◌≡◌, ℕ, zero, suc, ◌+◌, ◌*◌, ◌<◌, ◌≤◌, Bool, true, false, nat_le, length, Option, Some, None, refl, subst, arith}
use Rattle.std.specs.Option.{option_map}
use Rattle.std.proofs.lemmas.Bool.Decides.{nat_tests}
use Rattle.toml.specs.Data.{Members, no_members}
use Rattle.job_file.specs.declared.faults.JobFault.{JobFault}
use Rattle.job_file.specs.declared.faults.JobFault.TheVariants.{TooManyOps}
use Rattle.job_file.specs.Keys.{first_failing}
use Rattle.job_file.specs.Chains.{unless, or_else}
use Rattle.job_file.specs.Lines.{lines_of, first_fault}
use Rattle.job_file.specs.Top.{unknown_key, missing_key, wrong_kind, out_of_range, ranks_of, psets_of, scripts_of}
use Rattle.job_file.specs.ConfiguredSets.{is_set, bad_set}
use Rattle.job_file.specs.Threads.{script_name, script_at, first_at, long_at, line_at, ops_from, scripts_fault}
use Rattle.job_file.specs.Jobs.{table_fault}
use Rattle.job_file.proofs.Places.{or_none, first_none, none_long}

map_none : {A B : Type 0} (f : A → B) (o : Option A) → option_map f o ≡ None → o ≡ None
map_none f None e = refl
map_none f (Some x) e = absurd (cc (e))

pub record GoodScripts (ranks : ℕ) (ms : Members) : Type 0 where
  pub short : first_at (long_at ms) 0 (8 * ranks) ≡ None
  pub lines : first_at (line_at ms) 0 (8 * ranks) ≡ None

pub good_scripts : (ranks : ℕ) (ms : Members) → scripts_fault ranks ms ≡ None → GoodScripts ranks ms
good_scripts ranks ms e =
    let a = or_none (script_name ranks ms) _ e in
    let b = or_none (first_at (long_at ms) 0 (8 * ranks)) _ a.1 in
    let c = or_none (first_at (line_at ms) 0 (8 * ranks)) _ b.1 in
    record { short = b.0; lines = c.0 }

-- the script of each place is short, and no line of it has a fault
pub short_at : (ranks : ℕ) (ms : Members) (place : ℕ) → scripts_fault ranks ms ≡ None → place < 8 * ranks → length (lines_of (script_at ms place)) ≤ 4096
short_at ranks ms place e l = none_long ms place (8 * ranks) (good_scripts ranks ms e).short l

pub good_at : (ranks : ℕ) (ms : Members) (place : ℕ) → scripts_fault ranks ms ≡ None → place < 8 * ranks → first_fault 1 (lines_of (script_at ms place)) ≡ None
good_at ranks ms place e l =
    let same : 0 + place ≡ place = omega arith in
    map_none _ _ (subst (λ (q : ℕ). line_at ms q ≡ None) same (first_none (line_at ms) 0 (8 * ranks) place (good_scripts ranks ms e).lines l))

-- Where there are no scripts, none has a fault

no_long : (p n : ℕ) → first_at (long_at no_members) p n ≡ None
no_long p zero = refl
no_long p (suc n) = no_long (p + 1) n

no_line : (p n : ℕ) → first_at (line_at no_members) p n ≡ None
no_line p zero = refl
no_line p (suc n) = no_line (p + 1) n

no_ops : (p n : ℕ) → ops_from no_members p n ≡ 0
no_ops p zero = refl
no_ops p (suc n) = let ih = no_ops (p + 1) n in omega (arith, ih)

or_both : {A : Type 0} (a b : Option A) → a ≡ None → b ≡ None → or_else a b ≡ None
or_both None b ea eb = eb
or_both (Some x) b ea eb = absurd (cc (ea))

unless_true : (t : Bool) (fault : JobFault) → t ≡ true → unless t fault ≡ None
unless_true true fault e = refl
unless_true false fault e = absurd (cc (e))

pub empty_good : (ranks : ℕ) → scripts_fault ranks no_members ≡ None
empty_good ranks =
    let few : nat_le (ops_from no_members 0 (8 * ranks)) 16384 ≡ true = let none = no_ops 0 (8 * ranks) in grind (arith, nat_tests, none) in
    or_both (first_at (long_at no_members) 0 (8 * ranks)) _ (no_long 0 (8 * ranks))
    (or_both (first_at (line_at no_members) 0 (8 * ranks)) _ (no_line 0 (8 * ranks)) (unless_true _ TooManyOps few))

pub record GoodTable (ms : Members) : Type 0 where
  pub range : out_of_range ms ≡ None
  pub sets : first_failing (is_set (ranks_of ms)) (psets_of ms) ≡ None
  pub scripts : scripts_fault (ranks_of ms) (scripts_of ms) ≡ None

pub good_table : (ms : Members) → table_fault ms ≡ None → GoodTable ms
good_table ms e =
    let a = or_none (unknown_key ms) _ e in
    let b = or_none (missing_key ms) _ a.1 in
    let c = or_none (wrong_kind ms) _ b.1 in
    let d = or_none (out_of_range ms) _ c.1 in
    let f = or_none (bad_set (ranks_of ms) (psets_of ms)) _ d.1 in
    record { range = d.0; sets = map_none _ _ f.0; scripts = f.1 }
