-- The reply in the entry of a call is the one that comes at once: what was sent or posted within the call leaves no other.
use Rattle.std.proofs.Common.{◌≡◌, ◌⊎◌, ℕ, ◌<◌, true, false, List, ◌++◌, Option, Some, None, is_some, refl, sym, ap, ◌∙◌, subst, inl, inr}
use Rattle.mpi_base.specs.declared.messages.Matched.{Matched}
use Rattle.mpi_base.specs.declared.replies.Reply.{Reply}
use Rattle.mpi_law.specs.declared.setting.Setting.{Setting}
use Rattle.mpi_law.specs.declared.setting.TheConstants.{THREADS}
use Rattle.mpi_law.specs.declared.effects.Effect.{Effect}
use Rattle.mpi_law.specs.declared.effects.Effect.TheVariants as effect
use Rattle.mpi_law.specs.Local.Effects.{said_at_once, is_said}
use Rattle.mpi_law.specs.Registry.State.{Registry, ThreadPart, Wait, thread_of}
use Rattle.mpi_law.specs.Registry.Calls.{to_send, to_post, once_sent}
use Rattle.mpi_law.specs.Registry.Replies.{owed_to}
use Rattle.mpi_law.specs.Registry.Events.{Event}
use Rattle.mpi_law.specs.Registry.Runs.{IsRegistryRun, registry_after}
use Rattle.mpi_protocol.specs.Run.{match_events, reply_events}
use Rattle.central_law.specs.Rest.{AtRest}
use Rattle.central_law.specs.After.{matched_state}
use Rattle.central_law.proofs.Runs.{after_append, run_parts, match_leads}
use Rattle.central_law.proofs.Inside.{Inside, silent, sends, posts}
use Rattle.central_law.proofs.Begun.{wait_within, begun, thread_is, sent_is, posted_as}

-- a match leaves each thread as it is
pub same_thread : (g : Registry) (r t : ℕ) (m : Option Matched) → thread_of (matched_state g r m) r t ≡ thread_of g r t
same_thread g r t None = refl
same_thread g r t (Some m) = refl

-- what a thread is owed that has called, at once and once its message is sent or its receive posted
owed_first : (h g : Registry) (r : ℕ) (e : Effect ℕ) (x : Reply) → is_said e ≡ true → owed_to h r (wait_within g r e) ≡ Some x → said_at_once e ≡ Some x
owed_first h g r (effect.Says said) x i o = o
owed_first h g r (effect.Opens target) x i o = o
owed_first h g r (effect.Groups target members session) x i o = o
owed_first h g r (effect.Ungroups name) x i o = o
owed_first h g r (effect.Joins a) x i o = absurd (cc (i))
owed_first h g r (effect.Frees name p) x i o = absurd (cc (i))
owed_first h g r (effect.Ends name session) x i o = absurd (cc (i))
owed_first h g r (effect.Sends m) x i o = absurd (cc (o))
owed_first h g r (effect.Receives y) x i o = absurd (cc (i))
owed_first h g r (effect.Posts target y) x i o = absurd (cc (o))
owed_first h g r (effect.NullPosts target) x i o = o
owed_first h g r (effect.Completes name number) x i o = absurd (cc (i))
owed_first h g r (effect.Awaits name) x i o = absurd (cc (i))

owed_then : (h g : Registry) (r : ℕ) (e : Effect ℕ) (x : Reply) → is_said e ≡ true → owed_to h r (once_sent (wait_within g r e)) ≡ Some x → said_at_once e ≡ Some x
owed_then h g r (effect.Says said) x i o = o
owed_then h g r (effect.Opens target) x i o = o
owed_then h g r (effect.Groups target members session) x i o = o
owed_then h g r (effect.Ungroups name) x i o = o
owed_then h g r (effect.Joins a) x i o = absurd (cc (i))
owed_then h g r (effect.Frees name p) x i o = absurd (cc (i))
owed_then h g r (effect.Ends name session) x i o = absurd (cc (i))
owed_then h g r (effect.Sends m) x i o = o
owed_then h g r (effect.Receives y) x i o = absurd (cc (i))
owed_then h g r (effect.Posts target y) x i o = o
owed_then h g r (effect.NullPosts target) x i o = o
owed_then h g r (effect.Completes name number) x i o = absurd (cc (i))
owed_then h g r (effect.Awaits name) x i o = absurd (cc (i))

none_is : (o : Option Reply) → false ≡ is_some o → None ≡ o
none_is None h = refl
none_is (Some x) h = absurd (cc (h))

module _ (s : Setting) (g : Registry) (r t : ℕ) (rest : AtRest s g) (rank : r < s.ranks) (thread : t < THREADS) (e : Effect ℕ) where
  abbrev calling : Wait
  calling = wait_within g r e

  abbrev WaitsThen : Wait → Type 0
  WaitsThen wait = (wait ≡ calling) ⊎ (wait ≡ once_sent calling)

  waits_then : (inside : List Event) → Inside r t inside → IsRegistryRun s (begun g r t e) inside → WaitsThen (thread_of (registry_after s (begun g r t e) inside) r t).wait
  waits_then _ (silent) run = inl (ap (λ (x : ThreadPart). x.wait) (thread_is s g r t rest rank thread e calling))
  waits_then _ (sends) run =
      let due = ap (λ (x : ThreadPart). to_send x.wait) (sym (thread_is s g r t rest rank thread e calling)) ∙ run.0.due in
      inr (ap (λ (h : Registry). (thread_of h r t).wait) (sent_is s g r t rest rank thread e run.0.message due) ∙ ap (λ (x : ThreadPart). x.wait) (thread_is s g r t rest rank thread e (once_sent calling)))
  waits_then _ (posts) run =
      let due = ap (λ (x : ThreadPart). to_post x.wait) (sym (thread_is s g r t rest rank thread e calling)) ∙ run.0.due in
      inr (ap (λ (h : Registry). (thread_of h r t).wait) (posted_as s g r t rest rank thread e run.0.receive due) ∙ ap (λ (x : ThreadPart). x.wait) (thread_is s g r t rest rank thread e (once_sent calling)))

  owed_is : (h : Registry) (wait : Wait) (x : Reply) → is_said e ≡ true → WaitsThen wait → owed_to h r wait ≡ Some x → Some x ≡ said_at_once e
  owed_is h wait x said (inl is) owed = sym (owed_first h g r e x said (subst (λ (w : Wait). owed_to h r w ≡ Some x) is owed))
  owed_is h wait x said (inr is) owed = sym (owed_then h g r e x said (subst (λ (w : Wait). owed_to h r w ≡ Some x) is owed))

  same_wait : (inside : List Event) (m : Option Matched) → (thread_of (registry_after s (begun g r t e) (inside ++ match_events r m)) r t).wait ≡ (thread_of (registry_after s (begun g r t e) inside) r t).wait
  same_wait inside m =
      let late = registry_after s (begun g r t e) inside in
      ap (λ (h : Registry). (thread_of h r t).wait) (after_append s (begun g r t e) inside (match_events r m) ∙ match_leads s late r m) ∙ ap (λ (x : ThreadPart). x.wait) (same_thread late r t m)

  pub reply_is : (inside : List Event) (m : Option Matched) (said : Option Reply) → Inside r t inside → is_some said ≡ is_said e → IsRegistryRun s (begun g r t e) (inside ++ match_events r m ++ reply_events r t said) → said ≡ said_at_once e
  reply_is inside m None kind same run = none_is (said_at_once e) same
  reply_is inside m (Some x) kind same run =
      let parts = run_parts s (begun g r t e) (inside ++ match_events r m) (reply_events r t (Some x)) run in
      let before = run_parts s (begun g r t e) inside (match_events r m) parts.0 in
      let last = registry_after s (begun g r t e) (inside ++ match_events r m) in
      owed_is last (thread_of last r t).wait x (sym same) (subst WaitsThen (sym (same_wait inside m)) (waits_then inside kind before.0)) parts.1.0
