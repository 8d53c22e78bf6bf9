-- Runs in parts, and the parts of an entry.
use Rattle.std.proofs.Common.{◌≡◌, ℕ, List, [], ◌∷◌, ◌++◌, Option, Some, None, refl, sym, ap, ◌∙◌, subst}
use Rattle.mpi_base.specs.declared.keys.Key.{Key}
use Rattle.mpi_base.specs.declared.messages.Matched.{Matched}
use Rattle.mpi_base.specs.declared.replies.Reply.{Reply}
use Rattle.mpi_base.specs.declared.entries.Act.{Act}
use Rattle.mpi_base.specs.declared.entries.Said.{Said}
use Rattle.mpi_base.specs.declared.entries.Said.TheVariants as said
use Rattle.mpi_base.specs.declared.entries.Entry.{Entry}
use Rattle.mpi_law.specs.declared.setting.Setting.{Setting}
use Rattle.mpi_law.specs.Registry.State as reg
use Rattle.mpi_law.specs.Registry.State.{Registry, RankPart, Wait, blank_part, part_of, thread_of, with_wait}
use Rattle.mpi_law.specs.Registry.Replies.{with_local, answers, idles}
use Rattle.mpi_law.specs.Registry.Events.{Event, registry_next}
use Rattle.mpi_law.specs.Registry.Runs.{IsRegistryRun, registry_after}
use Rattle.mpi_protocol.specs.Run.{act_events, entry_events, match_events, pick_events, back_events, reply_events}
use Rattle.central_law.specs.After.{matched_state, picked_state, returned_state, creations_answered, local_answered, answered_state, replied_state}
use Rattle.central_law.specs.Fits.{MatchFits, PickFits, BackFits, ReplyFits}
use Rattle.central_law.specs.Steps.{IsStepWhere}
use Rattle.central_law.proofs.Lists.{set_again}

-- a reply changes its rank twice where a creation is answered, and this is one change
answer_leads : (g : Registry) (r t : ℕ) (w : Wait) → idles (answers g r w) r t ≡ answered_state g r t w
answer_leads g r t reg.Idle = refl
answer_leads g r t (reg.Reply_now x) = refl
answer_leads g r t (reg.Sending m) = refl
answer_leads g r t (reg.Posting x) = refl
answer_leads g r t (reg.Requesting x) = refl
answer_leads g r t (reg.Creating n) =
    ap (λ (ranks : List RankPart). record g { creations = creations_answered g r (reg.Creating n); ranks = ranks })
    (set_again (λ (p : RankPart). with_wait p t reg.Idle) g.ranks r (with_local (part_of g r) (local_answered g r (reg.Creating n))) blank_part)
answer_leads g r t (reg.Freeing p) = refl
answer_leads g r t (reg.Ending z) = refl
answer_leads g r t (reg.Receiving n) = refl
answer_leads g r t (reg.Awaiting name) = refl

module _ (s : Setting) where
  pub after_append : (g : Registry) (es fs : List Event) → registry_after s g (es ++ fs) ≡ registry_after s (registry_after s g es) fs
  after_append g [] fs = refl
  after_append g (e ∷ es) fs = after_append (registry_next s g e) es fs

  pub run_parts : (g : Registry) (es fs : List Event) → IsRegistryRun s g (es ++ fs) → IsRegistryRun s g es × IsRegistryRun s (registry_after s g es) fs
  run_parts g [] fs run = (tt, run)
  run_parts g (e ∷ es) fs run = let more = run_parts (registry_next s g e) es fs run.1 in ((run.0, more.0), more.1)

  pub run_whole : (g : Registry) (es fs : List Event) → IsRegistryRun s g es → IsRegistryRun s (registry_after s g es) fs → IsRegistryRun s g (es ++ fs)
  run_whole g [] fs first rest = rest
  run_whole g (e ∷ es) fs first rest = (first.0, run_whole (registry_next s g e) es fs first.1 rest)

  -- a match
  pub match_tested : (g : Registry) (r : ℕ) (m : Option Matched) → IsRegistryRun s g (match_events r m) → MatchFits g r m
  match_tested g r None h = tt
  match_tested g r (Some m) h = h.0

  pub match_runs : (g : Registry) (r : ℕ) (m : Option Matched) → MatchFits g r m → IsRegistryRun s g (match_events r m)
  match_runs g r None h = tt
  match_runs g r (Some m) h = (h, tt)

  pub match_leads : (g : Registry) (r : ℕ) (m : Option Matched) → registry_after s g (match_events r m) ≡ matched_state g r m
  unfolding registry_next
  match_leads g r None = refl
  match_leads g r (Some m) = refl

  -- a reply
  pub reply_tested : (g : Registry) (r t : ℕ) (x : Option Reply) → IsRegistryRun s g (reply_events r t x) → ReplyFits g r t x
  reply_tested g r t None h = tt
  reply_tested g r t (Some x) h = h.0

  pub reply_runs : (g : Registry) (r t : ℕ) (x : Option Reply) → ReplyFits g r t x → IsRegistryRun s g (reply_events r t x)
  reply_runs g r t None h = tt
  reply_runs g r t (Some x) h = (h, tt)

  pub reply_leads : (g : Registry) (r t : ℕ) (x : Option Reply) → registry_after s g (reply_events r t x) ≡ replied_state g r t x
  unfolding registry_next
  reply_leads g r t None = refl
  reply_leads g r t (Some x) = answer_leads g r t (thread_of g r t).wait

  -- a pick
  pub pick_tested : (g : Registry) (r : ℕ) (key : Key) (x : Option Said) → IsRegistryRun s g (pick_events r key x) → PickFits s g r key x
  pick_tested g r key None h = tt
  pick_tested g r key (Some said.Own) h = tt
  pick_tested g r key (Some said.Zero) h = tt
  pick_tested g r key (Some said.Ready) h = tt
  pick_tested g r key (Some said.Retry) h = tt
  pick_tested g r key (Some (said.Picked c)) h = h.0
  pick_tested g r key (Some said.Exhausted) h = h.0
  pick_tested g r key (Some said.Shared) h = tt

  pub pick_runs : (g : Registry) (r : ℕ) (key : Key) (x : Option Said) → PickFits s g r key x → IsRegistryRun s g (pick_events r key x)
  pick_runs g r key None h = tt
  pick_runs g r key (Some said.Own) h = tt
  pick_runs g r key (Some said.Zero) h = tt
  pick_runs g r key (Some said.Ready) h = tt
  pick_runs g r key (Some said.Retry) h = tt
  pick_runs g r key (Some (said.Picked c)) h = (h, tt)
  pick_runs g r key (Some said.Exhausted) h = (h, tt)
  pick_runs g r key (Some said.Shared) h = tt

  pub pick_leads : (g : Registry) (r : ℕ) (key : Key) (x : Option Said) → registry_after s g (pick_events r key x) ≡ picked_state g r key x
  unfolding registry_next
  pick_leads g r key None = refl
  pick_leads g r key (Some said.Own) = refl
  pick_leads g r key (Some said.Zero) = refl
  pick_leads g r key (Some said.Ready) = refl
  pick_leads g r key (Some said.Retry) = refl
  pick_leads g r key (Some (said.Picked c)) = refl
  pick_leads g r key (Some said.Exhausted) = refl
  pick_leads g r key (Some said.Shared) = refl

  -- a give-back
  pub back_tested : (g : Registry) (r c : ℕ) (x : Option ℕ) → IsRegistryRun s g (back_events r c x) → BackFits g r c x
  back_tested g r c None h = tt
  back_tested g r c (Some dropped) h = h.0

  pub back_runs : (g : Registry) (r c : ℕ) (x : Option ℕ) → BackFits g r c x → IsRegistryRun s g (back_events r c x)
  back_runs g r c None h = tt
  back_runs g r c (Some dropped) h = (h, tt)

  pub back_leads : (g : Registry) (r c : ℕ) (x : Option ℕ) → registry_after s g (back_events r c x) ≡ returned_state g r c x
  unfolding registry_next
  back_leads g r c None = refl
  back_leads g r c (Some dropped) = refl

  -- an entry with an act
  pub step_by : (g : Registry) (e : Entry) (act : Act) (Test : Type 0) (new : Registry) → e.choice.act ≡ act → (IsRegistryRun s g (act_events e.choice.rank act e) → Test) → (Test → IsRegistryRun s g (act_events e.choice.rank act e))
      → (Test → registry_after s g (act_events e.choice.rank act e) ≡ new) → IsStepWhere s g e Test new
  unfolding entry_events
  step_by g e act Test new is tested steps leads = record {
    tested = λ h. tested (subst (λ (x : Act). IsRegistryRun s g (act_events e.choice.rank x e)) is h);
    steps = λ h. subst (λ (x : Act). IsRegistryRun s g (act_events e.choice.rank x e)) (sym is) (steps h);
    after = λ h. ap (λ (x : Act). registry_after s g (act_events e.choice.rank x e)) is ∙ leads h;
  }
