-- The job of a number has always the same setting.
use Rattle.std.proofs.Common.{ℕ, List, subst}
use Rattle.mpi_base.specs.declared.entries.Entry.{Entry}
use Rattle.mpi_law.specs.declared.setting.Setting.{Setting}
use Rattle.mpi_law.specs.ScriptLists.{AllScripts}
use Rattle.mpi_protocol.specs.World.{opening}
use Rattle.mpi_protocol.specs.Order.{IsDrained}
use Rattle.job_gen.specs.Parts.{IsGenerated, generated_setting}

module _ (number ops : ℕ) (s : Setting) (scripts : AllScripts) (made : IsGenerated number ops s scripts) where
  pub same_job : IsGenerated number ops generated_setting scripts
  same_job = subst (λ (z : Setting). IsGenerated number ops z scripts) made.sets made

  pub same_drain : (entries : List Entry) → IsDrained scripts (opening s) entries → IsDrained scripts (opening generated_setting) entries
  same_drain entries drained = subst (λ (z : Setting). IsDrained scripts (opening z) entries) made.sets drained
