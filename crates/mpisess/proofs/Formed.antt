-- What was read at most, and that the operations of a script that was read are well formed.
use Rattle.std.proofs.Common.{◌≡◌, ℕ, ◌+◌, ◌≤◌, List, [], ◌∷◌, ◌++◌, length, drop, Option, Some, None, Result, Ok, Err, IfOk, refl, sym, ap, ◌∙◌, subst, append_assoc, length-append, arith}
use Rattle.std.specs.Io.KnownBytes.{prepend_known}
use Rattle.mpi_law.specs.declared.setting.Setting.{Setting}
use Rattle.mpi_law.specs.ScriptLists.{AllScripts, script_of}
use Rattle.job_file.specs.declared.job.Job.{Job}
use Rattle.job_file.specs.Solo.{solo_setting, solo_of, IsSoloScript}
use Rattle.job_law.specs.Scripts.{ScriptsAreOps}
use Rattle.mpi_base.specs.declared.ops.Op.{Op}
use Rattle.mpisess.specs.Input.{ReadsAtMost}
use Rattle.io_edge.specs.Source.{Gives}

-- Reading

behind : (given xs ys : List ℕ) → xs ≡ given ++ ys → drop (length given) xs ≡ ys
behind given xs ys e = ap (drop (length given)) e ∙ go given
  where
    go : (given : List ℕ) → drop (length given) (given ++ ys) ≡ ys
    go [] = refl
    go (b ∷ bs) = go bs

-- bytes that were given are a front
pub gives_at_most : (most : ℕ) (before after : Option (List ℕ)) (given : List ℕ) → Gives before given after → length given ≤ most → ReadsAtMost most before after
gives_at_most most before after given gives few = record { front = λ xs e. go xs after (sym e ∙ gives) }
  where
    go : (xs : List ℕ) (after : Option (List ℕ)) → Some xs ≡ prepend_known given after → (n : ℕ) × (n ≤ most) × (after ≡ Some (drop n xs))
    go xs None h = absurd (cc (h))
    go xs (Some ys) h = let is : xs ≡ given ++ ys = cc (h) in (length given, few, ap (λ (zs : List ℕ). Some zs) (sym (behind given xs ys is)))

-- so are those of one read behind those of others
pub more_at_most : (most : ℕ) (before between after : Option (List ℕ)) (xs ys : List ℕ) → Gives before xs between → Gives between ys after → length xs + length ys ≤ most → ReadsAtMost most before after
more_at_most most before between after xs ys g h few = gives_at_most most before after (xs ++ ys) (joined after h) (let n = length-append xs ys in omega (arith, n, few))
  where
    joined : (after : Option (List ℕ)) → Gives between ys after → Gives before (xs ++ ys) after
    joined None h = g ∙ ap (prepend_known xs) h
    joined (Some zs) h = g ∙ ap (prepend_known xs) h ∙ ap (λ (bs : List ℕ). Some bs) (sym (append_assoc xs ys zs))

-- a source that was not touched
pub reads_none : (most : ℕ) (before : Option (List ℕ)) → ReadsAtMost most before before
reads_none most before = record { front = λ xs e. (0, omega arith, e) }

-- Operations

-- the operations of a script that was read for one rank alone
pub solo_ops : {E : Type 0} → ((bytes : List ℕ) (ops : List Op) → IsSoloScript bytes ops → ScriptsAreOps solo_setting.ranks (solo_of ops))
    → (bytes : List ℕ) (read : Result Job E) → IfOk read (λ job. job.setting ≡ solo_setting) → IfOk read (λ job. job.scripts ≡ solo_of (script_of job.scripts 0 0)) → IfOk read (λ job. IsSoloScript bytes (script_of job.scripts 0 0))
    → IfOk read (λ job. ScriptsAreOps job.setting.ranks job.scripts)
solo_ops law bytes (Ok job) set alone script =
    let ops = law bytes (script_of job.scripts 0 0) script in
    subst (λ (z : Setting). ScriptsAreOps z.ranks job.scripts) (sym set) (subst (ScriptsAreOps solo_setting.ranks) (sym alone) ops)
solo_ops law bytes (Err e) set alone script = tt
