-- A registry that moves by a journal, entry by entry.
use Rattle.std.proofs.Common.{◌≡◌, ◌↔◌, ℕ, ◌+◌, ◌<◌, ◌≤◌, Bool, true, false, List, [], ◌∷◌, ◌++◌, length, take, drop, get_or, sym, ap, subst, ◌∙◌, take-append-drop}
use Rattle.std.proofs.lemmas.Grind.{flat_map-append}
use Rattle.std.proofs.lemmas.List.{take_all, take_more}
use Rattle.mpi_base.specs.declared.entries.Entry.{Entry}
use Rattle.mpi_law.specs.declared.setting.Setting.{Setting}
use Rattle.mpi_law.specs.Registry.State.{Registry}
use Rattle.mpi_law.specs.Registry.Runs.{IsRegistryRun, registry_after}
use Rattle.mpi_protocol.specs.Run.{entry_events, events_of}
use Rattle.central_law.proofs.Entries.{journal_runs, journal_leads}
use Rattle.central_law.proofs.Runs.{run_parts}
use Rattle.central_registry.specs.Moves.{HasMoved}
use Rattle.central_registry.proofs.Steps.{MovesBy}

pub moves_as : (at s : Setting) (g : Registry) (e : Entry) (moved : Bool) (new : Registry) → at ≡ s → MovesBy at g e moved new → MovesBy s g e moved new
moves_as at s g e moved new same m = subst (λ (z : Setting). MovesBy z g e moved new) same m

module _ (s : Setting) (g : Registry) (entries : List Entry) where
  -- it has moved by the entries before a place, each of them a step
  pub record AtEntry (i : ℕ) (now : Registry) : Type 0 where
    pub run : IsRegistryRun s g (events_of (take i entries))
    pub state : now ≡ registry_after s g (events_of (take i entries))

  pub has_moved : (i : ℕ) (now : Registry) → AtEntry i now → HasMoved s g entries now
  has_moved i now at = record { count = i; run = at.run; state = at.state }

  module _ (i : ℕ) (e : Entry) (within : i < length entries) (is : e ≡ get_or entries i e) where
    one_more : take (i + 1) entries ≡ take i entries ++ e ∷ []
    one_more = take_more entries i e within ∙ ap (λ (x : Entry). take i entries ++ x ∷ []) (sym is)

    -- the entry there is a step exactly where it is one after those before it
    here : (now : Registry) → AtEntry i now → IsRegistryRun s g (events_of (take (i + 1) entries)) ↔ IsRegistryRun s now (entry_events e)
    here now at =
        let both = journal_runs s g (take i entries) e in (
          λ run. subst (λ (x : Registry). IsRegistryRun s x (entry_events e)) (sym at.state) (both.0 (subst (λ (es : List Entry). IsRegistryRun s g (events_of es)) one_more run)).1,
          λ run. subst (λ (es : List Entry). IsRegistryRun s g (events_of es)) (sym one_more) (both.1 (at.run, subst (λ (x : Registry). IsRegistryRun s x (entry_events e)) at.state run)),
        )

    pub goes_by : (now new : Registry) (moved : Bool) → moved ≡ true → AtEntry i now → MovesBy s now e moved new → AtEntry (i + 1) new
    goes_by now new moved good at m = record {
      run = (here now at).1 (m.may good);
      state = m.moves good ∙ ap (λ (x : Registry). registry_after s x (entry_events e)) at.state ∙ sym (journal_leads s g (take i entries) e) ∙ ap (λ (es : List Entry). registry_after s g (events_of es)) (sym one_more);
    }

    -- of a run each front is one
    front_runs : IsRegistryRun s g (events_of entries) → IsRegistryRun s g (events_of (take (i + 1) entries))
    front_runs run =
        let parts = ap events_of (sym (take-append-drop (i + 1) entries)) ∙ flat_map-append entry_events (take (i + 1) entries) (drop (i + 1) entries) in
        (run_parts s g (events_of (take (i + 1) entries)) (events_of (drop (i + 1) entries)) (subst (IsRegistryRun s g) parts run)).0

    pub refused : (now new : Registry) (moved : Bool) → moved ≡ false → AtEntry i now → MovesBy s now e moved new → IsRegistryRun s g (events_of entries) → ⊥
    refused now new moved bad at m run = let good = m.when ((here now at).0 (front_runs run)) in absurd (cc (good, bad))

    pub stays_at : (now new : Registry) (moved : Bool) → moved ≡ false → AtEntry i now → MovesBy s now e moved new → HasMoved s g entries new
    stays_at now new moved bad at m = has_moved i new (subst (AtEntry i) (sym (m.stays bad)) at)

  pub at_end : (i : ℕ) (now : Registry) → length entries ≤ i → AtEntry i now → IsRegistryRun s g (events_of entries) × (now ≡ registry_after s g (events_of entries))
  at_end i now past at =
      let all = take_all i entries past in
      (subst (λ (es : List Entry). IsRegistryRun s g (events_of es)) all at.run, at.state ∙ ap (λ (es : List Entry). registry_after s g (events_of es)) all)
