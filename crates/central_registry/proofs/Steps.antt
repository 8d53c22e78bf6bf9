-- A registry that moves by what an entry has moves by the entry's events.
use Rattle.std.proofs.Common.{Bool, sym, ◌∙◌}
use Rattle.std.specs.Prelude.{Result, Ok, Err, IfOk}
use Rattle.mpi_base.specs.declared.entries.Entry.{Entry}
use Rattle.mpi_law.specs.declared.setting.Setting.{Setting}
use Rattle.mpi_law.specs.Registry.State.{Registry}
use Rattle.mpi_law.specs.Registry.Runs.{IsRegistryRun, registry_after}
use Rattle.mpi_protocol.specs.Run.{entry_events}
use Rattle.central_law.specs.Steps.{IsStepWhere}
use Rattle.central_registry.specs.Moves.{Moves}

-- what the events of an entry do where they are a run
abbrev pub MovesBy : Setting → Registry → Entry → Bool → Registry → Type 0
MovesBy s g e moved new = Moves (IsRegistryRun s g (entry_events e)) g (registry_after s g (entry_events e)) moved new

pub by_step : (s : Setting) (g : Registry) (e : Entry) (May : Type 0) (after : Registry) (moved : Bool) (new : Registry) → IsStepWhere s g e May after → Moves May g after moved new → MovesBy s g e moved new
by_step s g e May after moved new step m = record {
  may = λ h. step.steps (m.may h);
  when = λ run. m.when (step.tested run);
  moves = λ h. m.moves h ∙ sym (step.after (m.may h));
  stays = m.stays;
}

-- what holds of a good answer holds by what was shown of it
pub ok_by : {A E : Type 0} (P Q : A → Type 0) → ((v : A) → P v → Q v) → (x : Result A E) → IfOk x P → IfOk x Q
ok_by P Q f (Ok v) h = f v h
ok_by P Q f (Err e) h = tt
