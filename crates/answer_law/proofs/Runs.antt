-- Runs, event by event, and what is owed at their ends.
use Rattle.std.proofs.Common.{◌≡◌, ℕ, List, [], ◌∷◌, ◌++◌, Some, refl, sym, ◌∙◌, subst, append_assoc}
use Rattle.std.proofs.lemmas.List.{append-nil}
use Rattle.mpi_base.specs.declared.replies.Reply.{Reply}
use Rattle.mpi_law.specs.declared.setting.Setting.{Setting}
use Rattle.mpi_law.specs.Registry.State.{Registry, Wait, creation_at}
use Rattle.mpi_law.specs.Registry.Creations.{class_of}
use Rattle.mpi_law.specs.Registry.Replies.{owed_creation, owed_to}
use Rattle.mpi_law.specs.Registry.Events.{Event, Replies, registry_next}
use Rattle.mpi_law.specs.Registry.Runs.{Allowed, IsRegistryRun, registry_after}
use Rattle.answer_law.specs.Answers.{IsRun, registry_at, Answer}
use Rattle.answer_law.proofs.Comms.{Grows, grows_same, grows_on}
use Rattle.answer_law.proofs.Changes.{comms_grow, change}
use Rattle.answer_law.proofs.Owed.{owed_change, class_change}
use Rattle.answer_law.proofs.Sound.{Sound, sound_next, sound_opening}

module _ (s : Setting) where
  after_append : (g : Registry) (es fs : List Event) → registry_after s g (es ++ fs) ≡ registry_after s (registry_after s g es) fs
  after_append g [] fs = refl
  after_append g (e ∷ es) fs = after_append (registry_next s g e) es fs

  run_append : (g : Registry) (es fs : List Event) → IsRegistryRun s g (es ++ fs) → IsRegistryRun s g es × IsRegistryRun s (registry_after s g es) fs
  run_append g [] fs run = (tt, run)
  run_append g (e ∷ es) fs run = let more = run_append (registry_next s g e) es fs run.1 in ((run.0, more.0), more.1)

  -- what the opening has and each event keeps, each run has
  pub along : (P : List Event → Registry → Type 0) → ((before : List Event) (e : Event) → Allowed s (registry_at s before) e → P before (registry_at s before) → P (before ++ e ∷ []) (registry_next s (registry_at s before) e))
      → (before es : List Event) → IsRegistryRun s (registry_at s before) es → P before (registry_at s before) → P (before ++ es) (registry_at s (before ++ es))
  along P step before [] run h = rw append-nil h
  along P step before (e ∷ es) run h =
      let next = after_append (registry_at s []) before (e ∷ []) in
      let now = subst (P (before ++ e ∷ [])) (sym next) (step before e run.0 h) in
      let later = along P step (before ++ e ∷ []) es (subst (λ (g : Registry). IsRegistryRun s g es) (sym next) run.1) now in
      subst (λ (all : List Event). P all (registry_at s all)) (append_assoc before (e ∷ []) es) later

  pub sound_at : (events : List Event) → IsRun s events → Sound s events (registry_at s events)
  sound_at events run = along (Sound s) (sound_next s) [] events run (sound_opening s)

  pub grows_at : (before es : List Event) → IsRegistryRun s (registry_at s before) es → Grows (registry_at s before).comms (registry_at s (before ++ es)).comms
  grows_at before es run = along (λ (all : List Event) (g : Registry). Grows (registry_at s before).comms g.comms) (λ all e a g. grows_on _ _ _ g (comms_grow s (registry_at s all) e a)) before es run (grows_same _)

  -- an event within a run
  pub record Within (before : List Event) (e : Event) (after : List Event) : Type 0 where
    pub earlier : IsRun s before
    pub allowed : Allowed s (registry_at s before) e
    pub rest : IsRegistryRun s (registry_at s before) (e ∷ after)

  pub within : (events before : List Event) (e : Event) (after : List Event) → events ≡ before ++ e ∷ after → IsRun s events → Within before e after
  within events before e after here run =
      let parts = run_append (registry_at s []) before (e ∷ after) (rw here at run) in
      record { earlier = parts.0; allowed = parts.1.0; rest = parts.1 }

  module _ (events : List Event) (run : IsRun s events) (n r : ℕ) (said : Reply) (a : Answer s events n r said) where
    here : Within a.before (Replies r a.thread said) a.after
    here = within events a.before (Replies r a.thread said) a.after a.here run

    -- what was owed when it was answered
    pub owed_then : owed_creation (registry_at s a.before) r (creation_at (registry_at s a.before) n) ≡ Some said
    owed_then = subst (λ (w : Wait). owed_to (registry_at s a.before) r w ≡ Some said) a.waited here.allowed

    pub sound_then : Sound s a.before (registry_at s a.before)
    sound_then = sound_at a.before here.earlier

    -- is still owed at the end, of the same class
    pub record Still (members : List ℕ) (all : List Event) (g : Registry) : Type 0 where
      pub sound : Sound s all g
      pub owed : owed_creation g r (creation_at g n) ≡ Some said
      pub class : class_of (creation_at g n) r ≡ members

    still_next : (members : List ℕ) (before : List Event) (e : Event) → Allowed s (registry_at s before) e → Still members before (registry_at s before) → Still members (before ++ e ∷ []) (registry_next s (registry_at s before) e)
    still_next members before e allowed h =
        let g = registry_at s before in
        let ch = change s g h.sound.named n e allowed in
        record {
          sound = sound_next s before e allowed h.sound;
          owed = owed_change s g (registry_next s g e) e n r said (comms_grow s g e allowed) (h.sound.fits n) ch h.owed;
          class = class_change s g (registry_next s g e) e n r said (h.sound.fits n) ch h.owed ∙ h.class;
        }

    pub still : Still (class_of (creation_at (registry_at s a.before) n) r) events (registry_at s events)
    still =
        let members = class_of (creation_at (registry_at s a.before) n) r in
        subst (λ (all : List Event). Still members all (registry_at s all)) (sym a.here)
        (along (Still members) (still_next members) a.before (Replies r a.thread said ∷ a.after) here.rest (record { sound = sound_then; owed = owed_then; class = refl }))
