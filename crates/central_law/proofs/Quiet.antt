-- The acts other than a call.
use Rattle.std.proofs.Common.{◌≡◌, ℕ, Option, Some, None, refl}
use Rattle.mpi_base.specs.declared.keys.Key.{Key}
use Rattle.mpi_base.specs.declared.messages.Matched.{Matched}
use Rattle.mpi_base.specs.declared.replies.Reply.{Reply}
use Rattle.mpi_base.specs.declared.entries.Act.TheVariants.{Answer, Deliver, Offer, Settle, Leave, Back}
use Rattle.mpi_base.specs.declared.entries.Said.{Said}
use Rattle.mpi_base.specs.declared.entries.Said.TheVariants as said
use Rattle.mpi_base.specs.declared.entries.Entry.{Entry}
use Rattle.mpi_law.specs.declared.setting.Setting.{Setting}
use Rattle.mpi_law.specs.Registry.State.{Registry, thread_of}
use Rattle.mpi_law.specs.Registry.Contexts.{comm_of, key_place}
use Rattle.mpi_law.specs.Registry.Events.{after_pick, give_back}
use Rattle.central_law.specs.Rest.{AtRest}
use Rattle.central_law.specs.After.{matched_state, picked_state, returned_state, replied_state}
use Rattle.central_law.specs.Fits.{MatchFits, PickFits, BackFits, ReplyFits}
use Rattle.central_law.specs.Steps.{IsStepWhere}
use Rattle.central_law.proofs.Runs.{match_tested, match_runs, match_leads, reply_tested, reply_runs, reply_leads, pick_tested, pick_runs, pick_leads, back_tested, back_runs, back_leads, step_by}
use Rattle.central_law.proofs.Rest.{rest_same, rest_answered}

module _ (s : Setting) (g : Registry) (e : Entry) where
  pub delivers : (from : ℕ) → e.choice.act ≡ Deliver from → IsStepWhere s g e (MatchFits g e.choice.rank e.matched) (matched_state g e.choice.rank e.matched)
  delivers from is =
      step_by s g e (Deliver from) _ _ is (match_tested s g e.choice.rank e.matched) (match_runs s g e.choice.rank e.matched) (λ h. match_leads s g e.choice.rank e.matched)

  pub offers : (key : Key) → e.choice.act ≡ Offer key → IsStepWhere s g e (Unit {0}) g
  offers key is = step_by s g e (Offer key) (Unit {0}) g is (λ h. tt) (λ h. tt) (λ h. refl)

  pub settles : (key : Key) → e.choice.act ≡ Settle key → IsStepWhere s g e (PickFits s g e.choice.rank key e.said) (picked_state g e.choice.rank key e.said)
  settles key is =
      step_by s g e (Settle key) _ _ is (pick_tested s g e.choice.rank key e.said) (pick_runs s g e.choice.rank key e.said) (λ h. pick_leads s g e.choice.rank key e.said)

  pub leaves : (c : ℕ) → e.choice.act ≡ Leave c → IsStepWhere s g e (Unit {0}) g
  leaves c is = step_by s g e (Leave c) (Unit {0}) g is (λ h. tt) (λ h. tt) (λ h. refl)

  pub gives_back : (c : ℕ) → e.choice.act ≡ Back c → IsStepWhere s g e (BackFits g e.choice.rank c e.dropped) (returned_state g e.choice.rank c e.dropped)
  gives_back c is =
      step_by s g e (Back c) _ _ is (back_tested s g e.choice.rank c e.dropped) (back_runs s g e.choice.rank c e.dropped) (λ h. back_leads s g e.choice.rank c e.dropped)

  pub answers_step : (t : ℕ) → e.choice.act ≡ Answer t → IsStepWhere s g e (ReplyFits g e.choice.rank t e.reply) (replied_state g e.choice.rank t e.reply)
  answers_step t is =
      step_by s g e (Answer t) _ _ is (reply_tested s g e.choice.rank t e.reply) (reply_runs s g e.choice.rank t e.reply) (λ h. reply_leads s g e.choice.rank t e.reply)

-- each leaves the registry at rest
module _ (s : Setting) (g : Registry) (r : ℕ) (rest : AtRest s g) where
  pub rest_matched : (m : Option Matched) → AtRest s (matched_state g r m)
  rest_matched None = rest
  rest_matched (Some m) = rest_same s g _ refl rest

  pub rest_picked : (key : Key) (x : Option Said) → AtRest s (picked_state g r key x)
  rest_picked key None = rest
  rest_picked key (Some said.Own) = rest
  rest_picked key (Some said.Zero) = rest
  rest_picked key (Some said.Ready) = rest
  rest_picked key (Some said.Retry) = rest
  rest_picked key (Some (said.Picked c)) = rest_same s g (after_pick g (key_place g r key) key (Some c)) refl rest
  rest_picked key (Some said.Exhausted) = rest_same s g (after_pick g (key_place g r key) key None) refl rest
  rest_picked key (Some said.Shared) = rest

  pub rest_returned : (c : ℕ) (x : Option ℕ) → AtRest s (returned_state g r c x)
  rest_returned c None = rest
  rest_returned c (Some dropped) = go (comm_of g.comms r c)
    where
      go : (place : Option ℕ) → AtRest s (give_back g r place)
      go None = rest
      go (Some p) = rest_same s g (give_back g r (Some p)) refl rest

  pub rest_replied : (t : ℕ) (x : Option Reply) → AtRest s (replied_state g r t x)
  rest_replied t None = rest
  rest_replied t (Some x) = rest_answered s g r t (thread_of g r t).wait rest
