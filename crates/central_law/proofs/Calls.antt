-- A call: when its entry is a step, and what it leaves.
use Rattle.std.proofs.Common.{◌≡◌, ℕ, ◌<◌, List, ◌++◌, set, Option, Some, None, is_some, refl, sym, ap, ◌∙◌, subst}
use Rattle.mpi_base.specs.declared.messages.Matched.{Matched}
use Rattle.mpi_base.specs.declared.ops.Op.{Op}
use Rattle.mpi_base.specs.declared.replies.Reply.{Reply}
use Rattle.mpi_base.specs.declared.entries.Act.TheVariants.{Call}
use Rattle.mpi_base.specs.declared.entries.Entry.{Entry}
use Rattle.mpi_law.specs.declared.setting.Setting.{Setting}
use Rattle.mpi_law.specs.declared.setting.TheConstants.{THREADS}
use Rattle.mpi_law.specs.declared.effects.Effect.{Effect}
use Rattle.mpi_law.specs.Local.Effects.{said_at_once}
use Rattle.mpi_law.specs.Registry.State as reg
use Rattle.mpi_law.specs.Registry.State.{Registry, RankPart, ThreadPart, Wait, thread_of, part_of}
use Rattle.mpi_law.specs.Registry.Calls.{effect_at, after_effect, around}
use Rattle.mpi_law.specs.Registry.Replies.{owed_to}
use Rattle.mpi_law.specs.Registry.Events.{Event, registry_next}
use Rattle.mpi_law.specs.Registry.Runs.{MayCall, IsRegistryRun, registry_after}
use Rattle.mpi_protocol.specs.Run.{message_events, match_events, reply_events}
use Rattle.central_law.specs.Rest.{AtRest}
use Rattle.central_law.specs.Within.{within, posted_state}
use Rattle.central_law.specs.After.{wait_after, comms_after, creations_after, part_waiting, part_after, matched_state, answered_state, replied_state, called_state}
use Rattle.central_law.specs.Fits.{MatchFits, ReplyFits, CallFits}
use Rattle.central_law.specs.Steps.{IsStepWhere}
use Rattle.central_law.proofs.Runs.{after_append, run_parts, run_whole, match_tested, match_runs, match_leads, reply_runs, reply_leads, step_by}
use Rattle.central_law.proofs.Rest.{rest_thread, out_after}
use Rattle.central_law.proofs.Inside.{inside_is, within_is}
use Rattle.central_law.proofs.Seen.{seen_alike, members_stay}
use Rattle.central_law.proofs.Begun.{reply_or, begun, posted, called_is, thread_is, goes_on, within_runs, within_leads, said_leaves_idle}
use Rattle.central_law.proofs.Replied.{reply_is}

-- a match sees the call's message or its receive, and of the rest of the call nothing
module _ (g : Registry) (r t : ℕ) (e : Effect ℕ) (wait : Wait) where
  pub fits_before : (m : Option Matched) → MatchFits (posted g r t e wait) r m → MatchFits (posted_state g r e) r m
  fits_before None h = tt
  fits_before (Some m) h = record {
    receive = h.receive;
    message = h.message;
    posted = h.posted;
    sent_there = h.sent_there;
    first = sym (seen_alike (posted_state g r e) (posted g r t e wait) (members_stay g r e) refl refl h.receive h.message) ∙ h.first;
  }

  pub fits_within : (m : Option Matched) → MatchFits (posted_state g r e) r m → MatchFits (posted g r t e wait) r m
  fits_within None h = tt
  fits_within (Some m) h = record {
    receive = h.receive;
    message = h.message;
    posted = h.posted;
    sent_there = h.sent_there;
    first = seen_alike (posted_state g r e) (posted g r t e wait) (members_stay g r e) refl refl h.receive h.message ∙ h.first;
  }

-- the call with its match, where its thread waits for this
abbrev matched_waiting : Registry → ℕ → ℕ → Effect ℕ → Option Matched → Wait → Registry
matched_waiting g r t e m wait =
    record (matched_state (posted_state g r e) r m) {
      comms = comms_after g r e;
      creations = creations_after g r t e;
      ranks = set g.ranks r (part_waiting g r t e wait);
    }

matched_is : (g : Registry) (r t : ℕ) (e : Effect ℕ) (m : Option Matched) (wait : Wait) → matched_state (posted g r t e wait) r m ≡ matched_waiting g r t e m wait
matched_is g r t e None wait = refl
matched_is g r t e (Some m) wait = refl

module _ (s : Setting) (g : Registry) (r t : ℕ) (rest : AtRest s g) (rank : r < s.ranks) (thread : t < THREADS) (e : Effect ℕ) (m : Option Matched) where
  abbrev last : Wait
  last = reply_or (said_at_once e) (wait_after g r e)

  abbrev events : List Event
  events = within r t e ++ match_events r m ++ reply_events r t (said_at_once e)

  -- the reply is owed, and leaves the thread idle
  replies : (said : Option Reply) (wait : Wait) → ReplyFits (matched_waiting g r t e m (reply_or said wait)) r t said
  replies None wait = tt
  replies (Some x) wait = ap (λ (y : ThreadPart). owed_to (matched_waiting g r t e m (reg.Reply_now x)) r y.wait) (thread_is s g r t rest rank thread e (reg.Reply_now x))

  replied : (said : Option Reply) (wait : Wait) → ((x : Reply) → said ≡ Some x → wait ≡ reg.Idle) → replied_state (matched_waiting g r t e m (reply_or said wait)) r t said ≡ matched_waiting g r t e m wait
  replied None wait idle = refl
  replied (Some x) wait idle =
      ap (λ (y : ThreadPart). answered_state (matched_waiting g r t e m (reg.Reply_now x)) r t y.wait) (thread_is s g r t rest rank thread e (reg.Reply_now x))
      ∙ ap (λ (ranks : List RankPart). record (matched_waiting g r t e m (reg.Reply_now x)) { ranks = ranks }) (goes_on s g r t rest rank thread e (reg.Reply_now x) reg.Idle)
      ∙ ap (λ (w : Wait). matched_waiting g r t e m w) (sym (idle x refl))

  -- once all but the reply has come
  before_reply : registry_after s (begun g r t e) (within r t e ++ match_events r m) ≡ matched_waiting g r t e m last
  before_reply =
      after_append s (begun g r t e) (within r t e) (match_events r m)
      ∙ ap (λ (h : Registry). registry_after s h (match_events r m)) (within_leads s g r t rest rank thread e)
      ∙ match_leads s (posted g r t e last) r m
      ∙ matched_is g r t e m last

  call_runs : MatchFits (posted_state g r e) r m → IsRegistryRun s (begun g r t e) events
  call_runs fits =
      run_whole s (begun g r t e) (within r t e ++ match_events r m) (reply_events r t (said_at_once e))
      (run_whole s (begun g r t e) (within r t e) (match_events r m) (within_runs s g r t rest rank thread e)
      (subst (λ (h : Registry). IsRegistryRun s h (match_events r m)) (sym (within_leads s g r t rest rank thread e)) (match_runs s (posted g r t e last) r m (fits_within g r t e last m fits))))
      (subst (λ (h : Registry). IsRegistryRun s h (reply_events r t (said_at_once e))) (sym before_reply)
      (reply_runs s (matched_waiting g r t e m last) r t (said_at_once e) (replies (said_at_once e) (wait_after g r e))))

  call_leads : registry_after s (begun g r t e) events ≡ called_state g r t e m
  call_leads =
      after_append s (begun g r t e) (within r t e ++ match_events r m) (reply_events r t (said_at_once e))
      ∙ ap (λ (h : Registry). registry_after s h (reply_events r t (said_at_once e))) before_reply
      ∙ reply_leads s (matched_waiting g r t e m last) r t (said_at_once e)
      ∙ replied (said_at_once e) (wait_after g r e) (said_leaves_idle g r e)

  call_fits : IsRegistryRun s (begun g r t e) events → MatchFits (posted_state g r e) r m
  call_fits run =
      let first = (run_parts s (begun g r t e) (within r t e ++ match_events r m) (reply_events r t (said_at_once e)) run).0 in
      let late = (run_parts s (begun g r t e) (within r t e) (match_events r m) first).1 in
      fits_before g r t e last m (match_tested s (posted g r t e last) r m (subst (λ (h : Registry). IsRegistryRun s h (match_events r m)) (within_leads s g r t rest rank thread e) late))

pub rest_called : (s : Setting) (g : Registry) (r t : ℕ) (e : Effect ℕ) (m : Option Matched) → AtRest s g → AtRest s (called_state g r t e m)
rest_called s g r t e m rest = rest_thread s g (called_state g r t e m) r t (part_after g r t e) _ refl refl (out_after g r e) rest

module _ (s : Setting) (g : Registry) (rest : AtRest s g) (r t : ℕ) (o : Op) (m : Option Matched) where
  abbrev does : Effect ℕ
  does = effect_at s g r o

  -- with the right reply the events of the call are those of what it does
  events_are : (said : Option Reply) → said ≡ said_at_once does → message_events r t o said ++ match_events r m ++ reply_events r t said ≡ within r t does ++ match_events r m ++ reply_events r t (said_at_once does)
  events_are said is =
      ap (λ (x : Option Reply). message_events r t o x ++ match_events r m ++ reply_events r t x) is
      ∙ ap (λ (es : List Event). es ++ match_events r m ++ reply_events r t (said_at_once does)) (within_is r t s r (around g r) (part_of g r).local o)

  call_tested : (said : Option Reply) → MayCall s g r t o (is_some said) → IsRegistryRun s (after_effect g r t does) (message_events r t o said ++ match_events r m ++ reply_events r t said) → CallFits s g r t o m said
  call_tested said may run = record {
    rank = may.rank;
    thread = may.thread;
    idle = may.idle;
    reply = reply;
    match_fits = call_fits s g r t rest may.rank may.thread does m (subst (λ (es : List Event). IsRegistryRun s (begun g r t does) es) (events_are said reply) late);
  }
    where
      late : IsRegistryRun s (begun g r t does) (message_events r t o said ++ match_events r m ++ reply_events r t said)
      late = subst (λ (h : Registry). IsRegistryRun s h (message_events r t o said ++ match_events r m ++ reply_events r t said)) (called_is g r t does) run

      reply : said ≡ said_at_once does
      reply = reply_is s g r t rest may.rank may.thread does (message_events r t o said) m said (inside_is r t o said) may.reply late

  call_steps : (said : Option Reply) → CallFits s g r t o m said → MayCall s g r t o (is_some said) × IsRegistryRun s (after_effect g r t does) (message_events r t o said ++ match_events r m ++ reply_events r t said)
  call_steps said fits = (
    record { between = rest.between; rank = fits.rank; thread = fits.thread; idle = fits.idle; reply = ap (λ (x : Option Reply). is_some x) fits.reply },
    subst (λ (h : Registry). IsRegistryRun s h (message_events r t o said ++ match_events r m ++ reply_events r t said)) (sym (called_is g r t does))
        (subst (λ (es : List Event). IsRegistryRun s (begun g r t does) es) (sym (events_are said fits.reply)) (call_runs s g r t rest fits.rank fits.thread does m fits.match_fits)),
  )

  call_lands : (said : Option Reply) → CallFits s g r t o m said → registry_after s (after_effect g r t does) (message_events r t o said ++ match_events r m ++ reply_events r t said) ≡ called_state g r t does m
  call_lands said fits =
      ap (λ (h : Registry). registry_after s h (message_events r t o said ++ match_events r m ++ reply_events r t said)) (called_is g r t does)
      ∙ ap (λ (es : List Event). registry_after s (begun g r t does) es) (events_are said fits.reply)
      ∙ call_leads s g r t rest fits.rank fits.thread does m

pub calls_step : (s : Setting) (g : Registry) (e : Entry) (t : ℕ) (o : Op) → AtRest s g → e.choice.act ≡ Call t o
    → IsStepWhere s g e (CallFits s g e.choice.rank t o e.matched e.reply) (called_state g e.choice.rank t (effect_at s g e.choice.rank o) e.matched)
unfolding registry_next
calls_step s g e t o rest is =
    step_by s g e (Call t o) _ _ is
    (λ run. call_tested s g rest e.choice.rank t o e.matched e.reply run.0 run.1)
    (call_steps s g rest e.choice.rank t o e.matched e.reply)
    (call_lands s g rest e.choice.rank t o e.matched e.reply)
