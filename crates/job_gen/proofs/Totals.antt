-- How many operations scripts have to which parts were added.
use Rattle.std.proofs.Common.{◌≡◌, ℕ, zero, suc, ◌+◌, ◌*◌, ◌%◌, ◌≤◌, Some, ◌==◌, true, false, if◌then◌else◌, List, [], ◌∷◌, ◌++◌, length, sum_by, get_or, set, refl, ◌∙◌, arith, length-append}
use Rattle.std.proofs.lemmas.List.Sums.{sum_by-cons}
use Rattle.mpi_base.specs.declared.ops.Op.{Op}
use Rattle.mpi_base.specs.declared.ops.Op.TheVariants as op
use Rattle.mpi_base.specs.declared.messages.SrcArg.TheVariants.{At}
use Rattle.mpi_law.specs.ScriptLists.{AllScripts, total_of}
use Rattle.mpi_law.specs.HeldScripts.{with_op}
use Rattle.job_gen.specs.declared.parts.Part.{Part}
use Rattle.job_gen.specs.declared.parts.Part.TheVariants.{Start, Duplicate, Split, Message, Create, End}
use Rattle.job_gen.specs.Parts.{whole, if_rank, ops_in}
use Rattle.job_gen.specs.Adding.{with_ops, with_ranks}

-- one operation more, at the end of one script
more_at : (lists : List (List Op)) (i : ℕ) (o : Op) → sum_by length (set lists i (get_or lists i [] ++ o ∷ [])) ≤ sum_by length lists + 1
more_at [] i o = omega arith
more_at (x ∷ xs) zero o = let l = length-append x (o ∷ []) in omega (arith, l, sum_by-cons {X = List Op})
more_at (x ∷ xs) (suc i) o = let ih = more_at xs i o in omega (arith, ih, sum_by-cons {X = List Op})

pub total_more : (s : AllScripts) (r : ℕ) (o : Op) → total_of (with_op s r 0 o) ≤ total_of s + 1
total_more s r o = more_at s.lists (8 * r + 0) o

-- some operations more
total_ops : (s : AllScripts) (r : ℕ) (ops : List Op) → total_of (with_ops s r ops) ≤ total_of s + length ops
total_ops s r [] = omega arith
total_ops s r (o ∷ ops) = let ih = total_ops (with_op s r 0 o) r ops in let one = total_more s r o in omega (arith, ih, one)

one_or_none : (one r : ℕ) (o : Op) → length (if_rank one r o) ≤ 1
one_or_none one r o = elim (r == one) as (λ b. length (if b then o ∷ [] else []) ≤ 1) [ true ↦ omega arith | false ↦ omega arith ]

few_both : (a b r : ℕ) (o p : Op) → length (if_rank a r o ++ if_rank b r p) ≤ 3
few_both a b r o p =
    let l = length-append (if_rank a r o) (if_rank b r p) in
    let first = one_or_none a r o in
    let second = one_or_none b r p in
    omega (arith, l, first, second)

-- a rank has at most three operations in a part
pub few_ops : (piece : Part) (r : ℕ) → length (ops_in piece r) ≤ 3
few_ops Start r = omega arith
few_ops Duplicate r = omega arith
few_ops (Split first) r = omega arith
few_ops (Message from to number) r = few_both from to r (op.Send whole (Some to) (number % 32768) (number % 256 ∷ [])) (op.Recv whole (At from) (Some (number % 32768)) 1)
few_ops Create r = omega arith
few_ops End r = omega arith

-- the first so many ranks have at most three each
pub total_ranks : (s : AllScripts) (piece : Part) (n : ℕ) → total_of (with_ranks s piece n) ≤ total_of s + 3 * n
total_ranks s piece zero = omega arith
total_ranks s piece (suc n) =
    let ih = total_ranks s piece n in
    let more = total_ops (with_ranks s piece n) n (ops_in piece n) in
    let few = few_ops piece n in
    omega (arith, ih, more, few)

ops_ranks : (s : AllScripts) (r : ℕ) (ops : List Op) → (with_ops s r ops).ranks ≡ s.ranks
ops_ranks s r [] = refl
ops_ranks s r (o ∷ ops) = ops_ranks (with_op s r 0 o) r ops

-- the ranks stay
pub same_ranks : (s : AllScripts) (piece : Part) (n : ℕ) → (with_ranks s piece n).ranks ≡ s.ranks
same_ranks s piece zero = refl
same_ranks s piece (suc n) = ops_ranks (with_ranks s piece n) n (ops_in piece n) ∙ same_ranks s piece n
