-- Scripts to which operations were added.
use Rattle.std.specs.Prelude.{ℕ, zero, suc, List, [], ◌∷◌}
use Rattle.mpi_base.specs.declared.ops.Op.{Op}
use Rattle.mpi_law.specs.ScriptLists.{AllScripts}
use Rattle.mpi_law.specs.HeldScripts.{with_op}
use Rattle.job_gen.specs.declared.parts.Part.{Part}
use Rattle.job_gen.specs.Parts.{ops_in}

-- the scripts with these operations at the end of that of thread 0 of a rank
abbrev pub with_ops : AllScripts → ℕ → List Op → AllScripts
with_ops scripts r [] = scripts
with_ops scripts r (op ∷ ops) = with_ops (with_op scripts r 0 op) r ops

-- with what the first so many ranks do in a part
abbrev pub with_ranks : AllScripts → Part → ℕ → AllScripts
with_ranks scripts piece zero = scripts
with_ranks scripts piece (suc r) = with_ops (with_ranks scripts piece r) r (ops_in piece r)

-- with a part
abbrev pub with_part : AllScripts → Part → AllScripts
with_part scripts piece = with_ranks scripts piece 4
