-- Any entry, and journals entry by entry.
use Rattle.std.proofs.Common.{◌≡◌, ◌↔◌, List, [], ◌∷◌, ◌++◌, refl, ◌∙◌, sym, ap, subst, append-nil}
use Rattle.std.proofs.lemmas.Grind.{flat_map-append}
use Rattle.mpi_base.specs.declared.entries.Act.{Act}
use Rattle.mpi_base.specs.declared.entries.Act.TheVariants.{Call, Answer, Deliver, Offer, Settle, Leave, Back}
use Rattle.mpi_base.specs.declared.entries.Entry.{Entry}
use Rattle.mpi_law.specs.declared.setting.Setting.{Setting}
use Rattle.mpi_law.specs.Registry.State.{Registry}
use Rattle.mpi_law.specs.Registry.Calls.{effect_at}
use Rattle.mpi_law.specs.Registry.Events.{Event}
use Rattle.mpi_law.specs.Registry.Runs.{IsRegistryRun, registry_after}
use Rattle.mpi_protocol.specs.Run.{entry_events, events_of}
use Rattle.central_law.specs.Rest.{AtRest}
use Rattle.central_law.specs.Fits.{ActFits, after_act, EntryFits, after_entry}
use Rattle.central_law.specs.Steps.{IsStepWhere}
use Rattle.central_law.proofs.Runs.{after_append, run_parts, run_whole}
use Rattle.central_law.proofs.Quiet.{delivers, offers, settles, leaves, gives_back, answers_step, rest_matched, rest_picked, rest_returned, rest_replied}
use Rattle.central_law.proofs.Calls.{calls_step, rest_called}

module _ (s : Setting) (g : Registry) (e : Entry) (rest : AtRest s g) where
  by_act : (act : Act) → e.choice.act ≡ act → IsStepWhere s g e (ActFits s g e.choice.rank act e) (after_act s g e.choice.rank act e)
  by_act (Call t o) is = calls_step s g e t o rest is
  by_act (Answer t) is = answers_step s g e t is
  by_act (Deliver from) is = delivers s g e from is
  by_act (Offer key) is = offers s g e key is
  by_act (Settle key) is = settles s g e key is
  by_act (Leave c) is = leaves s g e c is
  by_act (Back c) is = gives_back s g e c is

  pub entry_steps : IsStepWhere s g e (EntryFits s g e) (after_entry s g e)
  entry_steps = by_act e.choice.act refl

  rest_by : (act : Act) → AtRest s (after_act s g e.choice.rank act e)
  rest_by (Call t o) = rest_called s g e.choice.rank t (effect_at s g e.choice.rank o) e.matched rest
  rest_by (Answer t) = rest_replied s g e.choice.rank rest t e.reply
  rest_by (Deliver from) = rest_matched s g e.choice.rank rest e.matched
  rest_by (Offer key) = rest
  rest_by (Settle key) = rest_picked s g e.choice.rank rest key e.said
  rest_by (Leave c) = rest
  rest_by (Back c) = rest_returned s g e.choice.rank rest c e.dropped

  pub rest_goes_on : IsRegistryRun s g (entry_events e) → AtRest s (registry_after s g (entry_events e))
  rest_goes_on run = subst (AtRest s) (sym (entry_steps.after (entry_steps.tested run))) (rest_by e.choice.act)

module _ (s : Setting) where
  events_more : (journal : List Entry) (e : Entry) → events_of (journal ++ e ∷ []) ≡ events_of journal ++ entry_events e
  events_more journal e = flat_map-append entry_events journal (e ∷ []) ∙ ap (λ (es : List Event). events_of journal ++ es) (append-nil (entry_events e))

  pub journal_runs : (g : Registry) (journal : List Entry) (e : Entry) → IsRegistryRun s g (events_of (journal ++ e ∷ [])) ↔ (IsRegistryRun s g (events_of journal) × IsRegistryRun s (registry_after s g (events_of journal)) (entry_events e))
  journal_runs g journal e = (
    λ run. run_parts s g (events_of journal) (entry_events e) (subst (IsRegistryRun s g) (events_more journal e) run),
    λ both. subst (IsRegistryRun s g) (sym (events_more journal e)) (run_whole s g (events_of journal) (entry_events e) both.0 both.1),
  )

  pub journal_leads : (g : Registry) (journal : List Entry) (e : Entry) → registry_after s g (events_of (journal ++ e ∷ [])) ≡ registry_after s (registry_after s g (events_of journal)) (entry_events e)
  journal_leads g journal e = ap (registry_after s g) (events_more journal e) ∙ after_append s g (events_of journal) (entry_events e)

  pub rest_after : (g : Registry) (journal : List Entry) → AtRest s g → IsRegistryRun s g (events_of journal) → AtRest s (registry_after s g (events_of journal))
  rest_after g [] rest run = rest
  rest_after g (e ∷ es) rest run =
      let parts = run_parts s g (entry_events e) (events_of es) run in
      subst (AtRest s) (sym (after_append s g (entry_events e) (events_of es))) (rest_after (registry_after s g (entry_events e)) es (rest_goes_on s g e rest parts.0) parts.1)
