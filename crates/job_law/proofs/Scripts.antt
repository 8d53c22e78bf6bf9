-- The operations that lines spell are well formed.
use Rattle.std.proofs.Common.{ℕ, zero, suc, ◌+◌, ◌*◌, ◌<◌, Bool, true, false, List, [], ◌∷◌, get_or, subst}
use Rattle.std.specs.List.{All, AllByRecursion}
use Rattle.std.proofs.lemmas.List.Elements.{All-nil, All-from_recursion}
use Rattle.mpi_base.specs.declared.ops.Op.{Op}
use Rattle.script_text.specs.Spelling.{IsOp}
use Rattle.mpi_law.specs.declared.setting.Setting.{Setting}
use Rattle.mpi_law.specs.declared.setting.TheConstants.{THREADS}
use Rattle.mpi_law.specs.ScriptLists.{AllScripts, script_of}
use Rattle.job_file.specs.Lines.{lines_of, body_of, is_blank, SpellsFirst, Spell}
use Rattle.job_file.specs.Top.{scripts_of}
use Rattle.job_file.specs.Threads.{script_at}
use Rattle.job_file.specs.Jobs.{IsJob}
use Rattle.job_file.specs.Solo.{solo_setting, solo_of, IsSoloScript}
use Rattle.job_law.specs.Scripts.{ScriptsAreOps}

spelled_ops : (lines : List (List ℕ)) (ops : List Op) → Spell lines ops → AllByRecursion IsOp ops
spelled_ops [] [] h = tt
spelled_ops [] (op ∷ ops) h = absurd h
spelled_ops (line ∷ lines) ops h = go (is_blank line) ops h (spelled_ops lines)
  where
    go : (b : Bool) (ops : List Op) → SpellsFirst b (body_of line) (Spell lines) ops → ((rest : List Op) → Spell lines rest → AllByRecursion IsOp rest) → AllByRecursion IsOp ops
    go true ops h rest = rest ops h
    go false [] h rest = absurd h
    go false (op ∷ ops) h rest = (h.0, rest ops h.2)

pub spelled_all : (lines : List (List ℕ)) (ops : List Op) → Spell lines ops → All IsOp ops
spelled_all lines ops h = All-from_recursion IsOp ops (spelled_ops lines ops h)

pub job_ops : (bytes : List ℕ) (s : Setting) (scripts : AllScripts) → IsJob bytes s scripts → ScriptsAreOps s.ranks scripts
job_ops bytes s scripts job r t lr lt =
    spelled_all (lines_of (script_at (scripts_of job.table) (THREADS * r + t))) (script_of scripts r t) (job.says.scripts.spelled r t (subst (λ (n : ℕ). r < n) job.says.ranks lr) lt)

-- each of some lists at any place
each_at : (lists : List (List Op)) (i : ℕ) → AllByRecursion (All IsOp) lists → All IsOp (get_or lists i [])
each_at [] i h = All-nil IsOp
each_at (x ∷ xs) zero h = h.0
each_at (x ∷ xs) (suc i) h = each_at xs i h.1

pub solo_ops : (bytes : List ℕ) (ops : List Op) → IsSoloScript bytes ops → ScriptsAreOps solo_setting.ranks (solo_of ops)
solo_ops bytes ops script r t lr lt =
    let none = All-nil IsOp in
    each_at (solo_of ops).lists (THREADS * r + t) (spelled_all (lines_of bytes) ops script.spelled, (none, (none, (none, (none, (none, (none, (none, tt))))))))
