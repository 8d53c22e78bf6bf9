-- Runs: the events of a journal are a run of the registry, and each caller's names are known.
use Rattle.std.proofs.Common.{◌≡◌, ◌++◌, List, [], ◌∷◌, sym, ap, subst}
use Rattle.std.proofs.lemmas.List.{append_assoc, append-nil}
use Rattle.mpi_base.specs.declared.entries.Entry.{Entry}
use Rattle.mpi_law.specs.declared.setting.Setting.{Setting}
use Rattle.mpi_law.specs.Registry.State.{Registry, registry_opening}
use Rattle.mpi_law.specs.Registry.Apart.{LiveApart}
use Rattle.mpi_law.specs.Registry.Runs.{IsRegistryRun, registry_after}
use Rattle.agree_law.specs.World.{Event}
use Rattle.mpi_protocol.specs.World.{World, opening, moved, entry_at}
use Rattle.mpi_protocol.specs.Run.{RunsFrom, IsProtocolRun, world_after, end_of, entry_events, events_of}
use Rattle.projection_law.specs.Premises.{SetsAreOfRanks}
use Rattle.projection_law.specs.KnownNames.{NamesAreKnownFrom, CallersNamesAreKnown}
use Rattle.projection_law.specs.Events.{events_at, agreement_events}
use Rattle.due_law.specs.Runs.{dues_chosen, dues_from, dues_of}
use Rattle.due_law.specs.Dues.{Dues, none_due}
use Rattle.message_law.proofs.RegistryCalls.{registry_after-append}
use Rattle.message_law.proofs.QuietActs.{run_then}
use Rattle.registry_law.specs.Facts.{registry_of}
use Rattle.registry_law.specs.TakenPackets.{PacketsAreTaken}
use Rattle.registry_law.proofs.Packets.{all_taken}
use Rattle.registry_law.proofs.Together.{Together, together_opening}
use Rattle.registry_law.proofs.Steps.{step_goes}

pub record RunGoes (s : Setting) (w : World) (es : List Event) (due : Dues) (g : Registry) (journal : List Entry) : Type 0 where
  pub allowed : IsRegistryRun s g (events_of journal)
  pub names : NamesAreKnownFrom w journal
  pub together : Together s (world_after w journal) (es ++ agreement_events w journal) (dues_from w due journal) (registry_after s g (events_of journal))

module _ (s : Setting) (sets : SetsAreOfRanks s) where
  pub run_goes : (w : World) (es : List Event) (due : Dues) (g : Registry) (journal : List Entry) → Together s w es due g → RunsFrom w journal → RunGoes s w es due g journal
  run_goes w es due g [] z run = record { allowed = tt; names = tt; together = subst (λ (xs : List Event). Together s w xs due g) (sym (append-nil es)) z }
  run_goes w es due g (e ∷ rest) z run =
      let events : entry_events e ≡ entry_events (entry_at w e.choice) = ap entry_events run.1 in
      let step = step_goes s sets w es due g z e.choice run.0 in
      let allowed : IsRegistryRun s g (entry_events e) = rw events step.allowed in
      let after : Together s (moved w e.choice) (es ++ events_at w e.choice.rank e.choice.act) (dues_chosen w due e.choice) (registry_after s g (entry_events e)) = rw events step.together in
      let more = run_goes (moved w e.choice) (es ++ events_at w e.choice.rank e.choice.act) (dues_chosen w due e.choice) (registry_after s g (entry_events e)) rest after run.2 in
      record {
        allowed = run_then s g (entry_events e) (events_of rest) allowed more.allowed;
        names = (step.names, more.names);
        together = rw (registry_after-append s g (entry_events e) (events_of rest))
            (subst (λ (xs : List Event). Together s (world_after (moved w e.choice) rest) xs (dues_from (moved w e.choice) (dues_chosen w due e.choice) rest) (registry_after s (registry_after s g (entry_events e)) (events_of rest)))
            (append_assoc es (events_at w e.choice.rank e.choice.act) (agreement_events (moved w e.choice) rest)) more.together);
      }

  -- from the opening on
  pub protocol_run_goes : (journal : List Entry) → IsProtocolRun s journal → RunGoes s (opening s) [] none_due (registry_opening s) journal
  protocol_run_goes journal run = run_goes (opening s) [] none_due (registry_opening s) journal (together_opening s) run

  -- What the laws say

  pub registry_runs : (journal : List Entry) → IsProtocolRun s journal → IsRegistryRun s (registry_opening s) (events_of journal)
  registry_runs journal run = (protocol_run_goes journal run).allowed

  pub names_are_known : (journal : List Entry) → IsProtocolRun s journal → CallersNamesAreKnown s journal
  names_are_known journal run = (protocol_run_goes journal run).names

  -- the end of a journal, with the registry that its events leave
  pub end_together : (journal : List Entry) → IsProtocolRun s journal → Together s (end_of s journal) (agreement_events (opening s) journal) (dues_of s journal) (registry_of s journal)
  end_together journal run = (protocol_run_goes journal run).together

  pub taken_at_end : (journal : List Entry) → IsProtocolRun s journal → PacketsAreTaken (end_of s journal)
  taken_at_end journal run = all_taken s (end_of s journal) (agreement_events (opening s) journal) (dues_of s journal) (registry_of s journal) (end_together journal run)

  pub apart_at_end : (journal : List Entry) → IsProtocolRun s journal → LiveApart (registry_of s journal)
  apart_at_end journal run = (end_together journal run).joined.whole.apart
