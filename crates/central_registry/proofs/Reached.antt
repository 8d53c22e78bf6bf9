-- What holds of a registry that is reached.
use Rattle.std.proofs.Common.{◌≡◌, ℕ, Bool, true, false, [], ◌∷◌, ◌++◌, subst, ap, sym, refl, ◌∙◌}
use Rattle.std.specs.Prelude.{Result, Ok, Err, IfOk, OnErr}
use Rattle.mpi_base.specs.declared.entries.Entry.{Entry}
use Rattle.mpi_law.specs.declared.setting.Setting.{Setting}
use Rattle.mpi_law.specs.Settings.{IsSetting}
use Rattle.mpi_law.specs.Registry.State.{Registry, Creating, registry_opening, thread_of, creation_at}
use Rattle.mpi_law.specs.Registry.Creations.{has_called}
use Rattle.mpi_law.specs.Registry.Runs.{IsRegistryRun, registry_after}
use Rattle.mpi_protocol.specs.Run.{entry_events, events_of}
use Rattle.central_law.specs.Rest.{AtRest}
use Rattle.central_law.proofs.Rest.{rest_opening}
use Rattle.central_law.proofs.Entries.{rest_after, journal_runs, journal_leads}
use Rattle.answer_law.proofs.Called.{waiting_called}
use Rattle.central_registry.specs.Held.{IsReached, IsRunning}
use Rattle.central_registry.proofs.Steps.{MovesBy}

module _ (s : Setting) where
  pub opening_runs : IsSetting s → IsRunning s (registry_opening s)
  opening_runs setting = record { setting = setting; reached = record { journal = []; run = tt; end = refl } }

  module _ (g : Registry) where
    pub rests : IsReached s g → AtRest s g
    rests h = subst (AtRest s) h.end (rest_after s (registry_opening s) h.journal (rest_opening s) h.run)

    pub has_called_it : IsReached s g → (r t n : ℕ) → (thread_of g r t).wait ≡ Creating n → has_called (creation_at g n) r ≡ true
    has_called_it h r t n waits =
        let then = waiting_called s (events_of h.journal) n r t h.run in
        subst (λ (x : Registry). ((thread_of x r t).wait ≡ Creating n) → has_called (creation_at x n) r ≡ true) h.end then waits

    -- once it has moved by the entry, or has not
    module _ (e : Entry) (new : Registry) where
      one_more : IsReached s g → IsRegistryRun s g (entry_events e) → new ≡ registry_after s g (entry_events e) → IsReached s new
      one_more h run is = record {
        journal = h.journal ++ e ∷ [];
        run = (journal_runs s (registry_opening s) h.journal e).1 (h.run, subst (λ (x : Registry). IsRegistryRun s x (entry_events e)) (sym h.end) run);
        end = journal_leads s (registry_opening s) h.journal e ∙ ap (λ (x : Registry). registry_after s x (entry_events e)) h.end ∙ sym is;
      }

      pub goes_on : (moved : Bool) → MovesBy s g e moved new → IsReached s g → IsReached s new
      goes_on true m h = one_more h (m.may refl) (m.moves refl)
      goes_on false m h = subst (IsReached s) (sym (m.stays refl)) h

      pub runs_on : (moved : Bool) → MovesBy s g e moved new → IsRunning s g → IsRunning s new
      runs_on moved m h = record { setting = h.setting; reached = goes_on moved m h.reached }

      pub ends_well : {E : Type 0} (x : Result Bool E) → IfOk x (λ moved. MovesBy s g e moved new) → OnErr x (new ≡ g) → IsRunning s g → IsRunning s new
      ends_well (Ok moved) m same h = runs_on moved m h
      ends_well (Err fault) m same h = subst (IsRunning s) (sym same) h
