-- Generated jobs, by computing.
use Rattle.std.proofs.Common.{List, [], ◌∷◌, ◌++◌, Some, refl, lit<, lit≤}
use Rattle.std.specs.Prelude.{codes}
use Rattle.mpi_base.specs.declared.ops.Op.{Op}
use Rattle.mpi_base.specs.declared.ops.Op.TheVariants as op
use Rattle.mpi_base.specs.declared.messages.SrcArg.TheVariants.{At}
use Rattle.mpi_law.specs.ScriptLists.{AllScripts}
use Rattle.job_gen.specs.declared.parts.Part.TheVariants.{Message}
use Rattle.job_gen.specs.Draws.{next_state}
use Rattle.job_gen.specs.Parts.{generated_setting, IsGenerated}

-- the script of a rank, with these operations between its start and its end
abbrev script : List Op → List Op
script middle = op.Session (codes "s") ∷ op.Pset (codes "s") (codes "mpi://WORLD") (codes "w") ∷ op.Create (codes "w") (codes "gen") (codes "c") ∷ (middle ++ op.Free (codes "c") ∷ op.Finalize (codes "s") ∷ [])

-- scripts of the ranks 0 and 1 with these operations, and of the two others without any
abbrev scripts : List Op → List Op → AllScripts
scripts first second = record {
  ranks = 4;
  lists = script first ∷ [] ∷ [] ∷ [] ∷ [] ∷ [] ∷ [] ∷ [] ∷ script second ∷ [] ∷ [] ∷ [] ∷ [] ∷ [] ∷ [] ∷ [] ∷ script [] ∷ [] ∷ [] ∷ [] ∷ [] ∷ [] ∷ [] ∷ [] ∷ script [] ∷ [] ∷ [] ∷ [] ∷ [] ∷ [] ∷ [] ∷ [] ∷ [];
}

-- twenty-seven operations have no room for a round
without_rounds : IsGenerated 1 27 generated_setting (scripts [] [])
without_rounds = record { rounds = []; drawn = lit< tt; sets = refl; parts = refl }

-- twenty-eight have room for one: from the number 1 the first draw leaves 2 modulo 4, and the next ones 1 and 0, so rank 1 sends
-- rank 0 a message
with_a_message : IsGenerated 1 28 generated_setting (scripts (op.Recv (codes "c") (At 1) (Some 0) 1 ∷ []) (op.Send (codes "c") (Some 0) 0 (0 ∷ []) ∷ []))
unfolding next_state
with_a_message = record { rounds = Message 1 0 0 ∷ []; drawn = (lit≤ tt, refl, lit< tt); sets = refl; parts = refl }
