-- Acts that are no news to messages and markers, with the events of their entries: the topics go on. That the events are allowed
-- is asked of the other topics.
use Rattle.std.proofs.Common.{◌≡◌, ◌<◌, ◌==◌, ℕ, Bool, true, false, List, [], ◌∷◌, ◌++◌, length, Option, Some, None, refl, ap, ◌∙◌, arith}
use Rattle.std.specs.List.{list_any}
use Rattle.std.proofs.lemmas.Bool.Decides.{nat_tests}
use Rattle.mpi_base.specs.MemberLists.{has_rank}
use Rattle.mpi_base.specs.declared.keys.Key.{Key}
use Rattle.mpi_base.specs.declared.ops.Op.{Op}
use Rattle.mpi_base.specs.declared.entries.Act.TheVariants.{Call, Answer, Deliver, Offer as MakeOffer, Settle}
use Rattle.mpi_base.specs.declared.entries.Choice.{Choice}
use Rattle.mpi_base.specs.declared.entries.Said.{Said}
use Rattle.mpi_base.specs.declared.entries.Said.TheVariants as said
use Rattle.mpi_law.specs.declared.setting.Setting.{Setting}
use Rattle.mpi_law.specs.declared.effects.Effect.{Effect}
use Rattle.mpi_law.specs.declared.effects.Effect.TheVariants as effect
use Rattle.mpi_law.specs.Local.Effects.{said_at_once, is_said}
use Rattle.mpi_law.specs.Registry.State.{Registry}
use Rattle.mpi_law.specs.Registry.Contexts.{in_use}
use Rattle.mpi_law.specs.Registry.Calls.{effect_at}
use Rattle.mpi_law.specs.Registry.Events.{Event, Calls, registry_next}
use Rattle.mpi_law.specs.Registry.Runs.{IsRegistryRun, registry_after}
use Rattle.agree_law.specs.Packets as agree
use Rattle.mpi_protocol.specs.Packets as packet
use Rattle.mpi_protocol.specs.Packets.{Packet}
use Rattle.mpi_protocol.specs.Rank.{Rank, thread_at}
use Rattle.mpi_protocol.specs.Agreeing.{settles}
use Rattle.mpi_protocol.specs.Step.{step}
use Rattle.mpi_protocol.specs.Run.{entry_events, pick_events, reply_events}
use Rattle.mpi_protocol.specs.World.{World, rank_at, link, move_of, moved, entry_at}
use Rattle.message_law.proofs.MarkerSteps.{same_comms}
use Rattle.message_law.proofs.Numbers.{Shaped}
use Rattle.message_law.proofs.Worlds.{Fits, Ground}
use Rattle.message_law.proofs.Deliveries.{GoesOn}
use Rattle.message_law.proofs.CallEvents.{within, effect_here, call_entry, call_move}
use Rattle.message_law.proofs.QuietRegistry.{IsQuietEffect, GoesQuietly, quietly_fits, calls_go_quietly, replies_fit}
use Rattle.message_law.proofs.Quiets.{is_receiving, MovesQuietly, quiet_step_fits, offers_quietly, settles_quietly, delivers_quietly, called_quietly, answered_quietly, pick_fits}

-- Events that are allowed

pub run_then : (s : Setting) (g : Registry) (es rest : List Event) → IsRegistryRun s g es → IsRegistryRun s (registry_after s g es) rest → IsRegistryRun s g (es ++ rest)
run_then s g [] rest h k = k
run_then s g (e ∷ es) rest h k = (h.0, run_then s (registry_next s g e) es rest h.1 k)

pub allowed_goes : (s : Setting) (g : Registry) (es : List Event) (w : World) → IsRegistryRun s g es → Fits w (registry_after s g es) → GoesOn s g es w
allowed_goes s g es w run fits = record { allowed = λ rest more. run_then s g es rest run more; fits = fits }

-- nobody passes a test that no member passes
each_not : (t : ℕ → Bool) (ms : List ℕ) (q : ℕ) → list_any t ms ≡ false → has_rank ms q ≡ true → t q ≡ false
each_not t [] q e i = absurd (cc (i))
each_not t (m ∷ ms) q e i = by (m == q) refl (each_not t ms q)
  where
    by : (b : Bool) → (m == q) ≡ b → (list_any t ms ≡ false → has_rank ms q ≡ true → t q ≡ false) → t q ≡ false
    by true k ih = let is : m ≡ q = grind (arith, nat_tests, k) in let here : t m ≡ false = grind (arith, e) in rw is at here
    by false k ih = ih (grind (arith, e)) (grind (arith, i, k))

-- nothing is sent or posted
none_within : (r t : ℕ) (e : Effect ℕ) → IsQuietEffect e → within r t e ≡ []
none_within r t (effect.Says z) q = refl
none_within r t (effect.Opens target) q = refl
none_within r t (effect.Groups target members session) q = refl
none_within r t (effect.Ungroups name) q = refl
none_within r t (effect.Joins a) q = refl
none_within r t (effect.Frees name c) q = refl
none_within r t (effect.Ends name session) q = refl
none_within r t (effect.Sends m) q = absurd q
none_within r t (effect.Receives a) q = absurd q
none_within r t (effect.Posts target a) q = absurd q
none_within r t (effect.NullPosts target) q = refl
none_within r t (effect.Completes name number) q = refl
none_within r t (effect.Awaits name) q = refl

module _ (s : Setting) (w : World) (g : Registry) (shaped : Shaped w) (ground : Ground w g) (h : Fits w g) (r : ℕ) (lr : r < length w.ranks) where
  abbrev x : Rank
  x = rank_at w r

  named : x.rank ≡ r
  named = shaped.named r lr

  parts : r < length g.ranks
  parts = rw ground.parts lr

  -- Offers

  module _ (key : Key) where
    abbrev offering : Choice
    offering = record { rank = r; act = MakeOffer key }

    offer_moves : MovesQuietly x (move_of w offering)
    unfolding step
    offer_moves = offers_quietly x key

    offer_events : entry_events (entry_at w offering) ≡ []
    unfolding entry_events
    offer_events = refl

    pub offer_step : GoesOn s g (entry_events (entry_at w offering)) (moved w offering)
    offer_step = rw offer_events (record { allowed = λ rest run. run; fits = quiet_step_fits w offering (move_of w offering) g shaped.wide lr tt offer_moves h })

  -- Packets of the agreement

  module _ (from : ℕ) (lf : from < length w.ranks) (a : agree.Packet) (rest : List Packet) (head : link w from r ≡ packet.Agreeing a ∷ rest) where
    abbrev taking : Choice
    taking = record { rank = r; act = Deliver from }

    agree_moves : MovesQuietly x (move_of w taking)
    unfolding step
    agree_moves = rw head (delivers_quietly x from a)

    agree_events : entry_events (entry_at w taking) ≡ []
    unfolding entry_events
    agree_events = rw agree_moves.matched refl

    pub agree_step : GoesOn s g (entry_events (entry_at w taking)) (moved w taking)
    agree_step = rw agree_events (record { allowed = λ more run. run; fits = quiet_step_fits w taking (move_of w taking) g shaped.wide lr (lf, (a, rest, head)) agree_moves h })

  -- Settles

  module _ (key : Key) where
    abbrev settling : Choice
    settling = record { rank = r; act = Settle key }

    settle_moves : MovesQuietly x (move_of w settling)
    unfolding step
    settle_moves = settles_quietly x key

    settle_events : entry_events (entry_at w settling) ≡ pick_events r key (settles x key).said
    unfolding entry_events step
    settle_events = ap (λ (q : ℕ). pick_events q key (settles x key).said) named

    -- a pick, if it is one
    picks_fit : (z : Option Said) → IsRegistryRun s g (pick_events r key z) → Fits w (registry_after s g (pick_events r key z))
    unfolding registry_next
    picks_fit None run = h
    picks_fit (Some said.Own) run = h
    picks_fit (Some said.Zero) run = h
    picks_fit (Some said.Ready) run = h
    picks_fit (Some said.Retry) run = h
    picks_fit (Some (said.Picked c)) run = pick_fits w g _ _ refl refl refl (λ q lq. refl) ground.standing (λ q i. each_not (λ m. in_use g.comms m c) key.members q run.0.1.unused i) refl h
    picks_fit (Some said.Exhausted) run = quietly_fits w g _ (record { steady = same_comms _ _ refl; messages = refl; receives = refl; ranks = refl; counts = λ q lq. (refl, refl) }) h
    picks_fit (Some said.Shared) run = h

    pub settle_step : IsRegistryRun s g (entry_events (entry_at w settling)) → GoesOn s g (entry_events (entry_at w settling)) (moved w settling)
    settle_step run =
        allowed_goes s g (entry_events (entry_at w settling)) (moved w settling) run
        (rw settle_events (quiet_step_fits w settling (move_of w settling) _ shaped.wide lr tt settle_moves (picks_fit (settles x key).said (rw settle_events at run))))

  -- Answers, but for that of a receive

  module _ (t : ℕ) (other : is_receiving (thread_at x t).waits ≡ false) where
    abbrev answering : Choice
    answering = record { rank = r; act = Answer t }

    answer_moves : MovesQuietly x (move_of w answering)
    unfolding step
    answer_moves = answered_quietly x t (thread_at x t).waits other

    answer_events : entry_events (entry_at w answering) ≡ reply_events r t (move_of w answering).reply
    unfolding entry_events
    answer_events = ap (λ (q : ℕ). reply_events q t (move_of w answering).reply) named

    pub answer_step : IsRegistryRun s g (entry_events (entry_at w answering)) → GoesOn s g (entry_events (entry_at w answering)) (moved w answering)
    answer_step run =
        allowed_goes s g (entry_events (entry_at w answering)) (moved w answering) run
        (rw answer_events (quiet_step_fits w answering (move_of w answering) _ shaped.wide lr tt answer_moves (replies_fit s w g r t (move_of w answering).reply parts h)))

  -- Calls that neither send nor post

  module _ (t : ℕ) (o : Op) (here : IsQuietEffect (effect_here x o)) (there : IsQuietEffect (effect_at s g r o)) where
    abbrev calling : Choice
    calling = record { rank = r; act = Call t o }

    call_moves : MovesQuietly x (move_of w calling)
    call_moves = rw (call_move w r t o (effect_here x o) refl) (called_quietly x t (effect_here x o) here)

    call_events : entry_events (entry_at w calling) ≡ Calls r t o (is_said (effect_here x o)) ∷ reply_events r t (said_at_once (effect_here x o))
    call_events =
        let none = none_within r t (effect_here x o) here in
        let unmatched = (called_quietly x t (effect_here x o) here).matched in
        call_entry w r t o (effect_here x o) refl named ∙ rw (none, unmatched) refl

    calls_quietly : GoesQuietly (length w.ranks) g (registry_next s g (Calls r t o (is_said (effect_here x o))))
    unfolding registry_next
    calls_quietly = calls_go_quietly (length w.ranks) g r t (effect_at s g r o) parts there

    pub quiet_call_step : IsRegistryRun s g (entry_events (entry_at w calling)) → GoesOn s g (entry_events (entry_at w calling)) (moved w calling)
    quiet_call_step run =
        let q = calls_quietly in
        allowed_goes s g (entry_events (entry_at w calling)) (moved w calling) run
        (rw call_events (quiet_step_fits w calling (move_of w calling) _ shaped.wide lr tt call_moves
        (replies_fit s w (registry_next s g (Calls r t o (is_said (effect_here x o)))) r t (said_at_once (effect_here x o)) (rw q.ranks parts) (quietly_fits w g _ q h))))
