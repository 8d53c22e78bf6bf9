use Rattle.std.proofs.Common.{◌≡◌, ◌⊎◌, ℕ, List, Some, inl}
use Rattle.job_file.specs.declared.faults.JobFault.{JobFault}
use Rattle.job_file.specs.Jobs.{IsJobFault, IsNotToml}
use Rattle.job_file.specs.Solo.{IsSoloFault}
use Rattle.mpisess.specs.declared.command.Command.{Command}
use Rattle.mpisess.specs.declared.command.Command.TheVariants.{Serial, Solo, Gen}
use Rattle.mpisess.specs.Jobs.{IsFaultOf, IsTold}
use Rattle.mpisess.proofs.jobs.commands_tell.Goals as goal

one_fault : (command : Command) (bytes : List ℕ) (a b : JobFault) → (IsJobFault bytes a → IsJobFault bytes b → (a ≡ b) ⊎ (IsNotToml bytes a × IsNotToml bytes b)) → (IsSoloFault bytes a → IsSoloFault bytes b → a ≡ b)
    → IsFaultOf command bytes a → IsFaultOf command bytes b → IsTold bytes b (Some a)
one_fault Serial bytes a b jobs scripts p q = jobs p q
one_fault Solo bytes a b jobs scripts p q = inl (scripts p q)
one_fault (Gen number ops) bytes a b jobs scripts p q = absurd p

pub returns-clause-faults : goal.returns-clause-faults
returns-clause-faults c = λ command bytes a b. one_fault command bytes a b (c.jobs_tell.ensures.faults bytes a b) (c.solo_tells.ensures.faults bytes a b)
