-- A call that posts a receive, as one entry: each of its events is allowed, and the topics go on.
use Rattle.std.proofs.Common.{◌≡◌, ◌<◌, ◌+◌, ◌==◌, ℕ, Bool, true, false, List, [], ◌∷◌, ◌++◌, length, get_or, set, Option, Some, refl, ap, ◌∙◌, arith, if◌then◌else◌}
use Rattle.std.proofs.lemmas.Bool.Decides.{nat_tests}
use Rattle.std.proofs.lemmas.List.{append-nil}
use Rattle.mpi_base.specs.declared.ops.Op.{Op}
use Rattle.mpi_base.specs.declared.replies.Reply.TheVariants as reply
use Rattle.mpi_base.specs.declared.entries.Act.TheVariants.{Call}
use Rattle.mpi_base.specs.declared.entries.Choice.{Choice}
use Rattle.mpi_law.specs.declared.setting.Setting.{Setting}
use Rattle.mpi_law.specs.Local.Objects.{Local}
use Rattle.mpi_law.specs.declared.effects.Receiving.{Receiving as ReceiveAsked}
use Rattle.mpi_law.specs.declared.effects.Effect.TheVariants as effect
use Rattle.mpi_law.specs.Local.Effects.{local_after}
use Rattle.mpi_law.specs.Registry.State as state
use Rattle.mpi_law.specs.Registry.State.{Registry, RankPart, ThreadPart, Wait, blank_part, idle_thread, comm_at, part_of, thread_of, with_part, with_call, with_wait}
use Rattle.mpi_law.specs.Registry.Calls.{effect_at, after_effect, receive_of_call, with_receive, to_post, once_sent}
use Rattle.mpi_law.specs.Registry.Events.{Event, Calls, Posts, Replies, registry_next}
use Rattle.mpi_law.specs.Registry.Runs.{MayCall, Allowed}
use Rattle.mpi_protocol.specs.declared.rows.Waits.TheVariants.{Nothing, Receiving}
use Rattle.mpi_protocol.specs.Moves.{Taking, posts}
use Rattle.mpi_protocol.specs.Calls.{posted_of as posted_row, with_post, requested, received}
use Rattle.mpi_protocol.specs.Run.{entry_events, match_events}
use Rattle.mpi_protocol.specs.World.{World, rank_at, move_of, moved, after, entry_at}
use Rattle.agree_law.proofs.Lists.{length-set}
use Rattle.message_law.proofs.Lines.{IsWide}
use Rattle.message_law.proofs.Sends.{with_posted, IsOneMore}
use Rattle.message_law.proofs.Worlds.{Fits, comms_of}
use Rattle.message_law.proofs.Deliveries.{GoesOn}
use Rattle.message_law.proofs.CallSteps.{IsAsBefore}
use Rattle.message_law.proofs.PostSteps.{request_goes_on, receive_goes_on}
use Rattle.message_law.proofs.CallEvents.{effect_here, call_entry, call_move}
use Rattle.message_law.proofs.RegistryCalls.{set_there, count_twice, replied}
use Rattle.message_law.proofs.SendCalls.{two_then}
use Rattle.message_law.proofs.Topics.{OnLive, Standing}

-- a rank's part within its call, and after its receive is posted
abbrev pub part_in : Registry → ℕ → ℕ → Local → Wait → RankPart
part_in g r t l wait = with_receive (with_call (part_of g r) t l wait)

abbrev pub posted_parts : Registry → ℕ → ℕ → Local → Wait → List RankPart
posted_parts g r t l wait = set (set g.ranks r (part_in g r t l wait)) r (with_wait (part_in g r t l wait) t (once_sent wait))

module _ (s : Setting) (g : Registry) (r t : ℕ) (op : Op) (now : Bool) (lr : r < length g.ranks) (lt : t < length (part_of g r).threads) (l : Local) (x : ReceiveAsked ℕ) (wait : Wait)
    (due : to_post wait ≡ Some (receive_of_call g r x)) (is : after_effect g r t (effect_at s g r op) ≡ with_part g r (part_in g r t l wait)) where
  called_is : registry_next s g (Calls r t op now) ≡ with_part g r (part_in g r t l wait)
  unfolding registry_next
  called_is = is

  wait_here : (get_or (part_in g r t l wait).threads t idle_thread).wait ≡ wait
  wait_here = ap (λ (z : ThreadPart). z.wait) (set_there (part_of g r).threads t (record { calls = (get_or (part_of g r).threads t idle_thread).calls + 1; wait = wait }) idle_thread lt)

  wait_is : (thread_of (with_part g r (part_in g r t l wait)) r t).wait ≡ wait
  wait_is = let e = set_there g.ranks r (part_in g r t l wait) blank_part lr in ap (λ (p : RankPart). (get_or p.threads t idle_thread).wait) e ∙ wait_here

  pub may_post : Allowed s (registry_next s g (Calls r t op now)) (Posts r t)
  may_post = rw called_is (record { receive = receive_of_call g r x; due = rw wait_is due })

  posted_next : registry_next s (with_part g r (part_in g r t l wait)) (Posts r t) ≡ with_posted g (receive_of_call g r x) (posted_parts g r t l wait)
  unfolding registry_next
  posted_next = let e = set_there g.ranks r (part_in g r t l wait) blank_part lr in rw (wait_is, due, e, wait_here) refl

  pub post_is : registry_next s (registry_next s g (Calls r t op now)) (Posts r t) ≡ with_posted g (receive_of_call g r x) (posted_parts g r t l wait)
  post_is = rw called_is posted_next

  pub one_post_more : IsOneMore (λ z. z.receives) g (posted_parts g r t l wait) r
  one_post_more a = count_twice (λ z. z.receives) g r (part_in g r t l wait) (with_wait (part_in g r t l wait) t (once_sent wait)) a lr

  pub sends_as_before : (n : ℕ) → IsAsBefore (λ z. z.sends) n g (posted_parts g r t l wait)
  sends_as_before n a la = count_twice (λ z. z.sends) g r (part_in g r t l wait) (with_wait (part_in g r t l wait) t (once_sent wait)) a lr ∙ by (a == r) refl
    where
      by : (b : Bool) → (a == r) ≡ b → (if b then (part_of g r).sends else (part_of g a).sends) ≡ (part_of g a).sends
      by true e = let z : a ≡ r = grind (arith, nat_tests, e) in rw z refl
      by false e = refl

  pub size_then : length (with_posted g (receive_of_call g r x) (posted_parts g r t l wait)).ranks ≡ length g.ranks
  size_then = length-set (set g.ranks r (part_in g r t l wait)) r (with_wait (part_in g r t l wait) t (once_sent wait)) ∙ length-set g.ranks r (part_in g r t l wait)

  pub wait_then : (thread_of (with_posted g (receive_of_call g r x) (posted_parts g r t l wait)) r t).wait ≡ once_sent wait
  wait_then =
      let e = set_there (set g.ranks r (part_in g r t l wait)) r (with_wait (part_in g r t l wait) t (once_sent wait)) blank_part (let z = length-set g.ranks r (part_in g r t l wait) in rw z lr) in
      ap (λ (q : RankPart). (get_or q.threads t idle_thread).wait) e
      ∙ ap (λ (q : ThreadPart). q.wait) (set_there (part_in g r t l wait).threads t (record { calls = (get_or (part_in g r t l wait).threads t idle_thread).calls; wait = once_sent wait }) idle_thread (let z = length-set (part_of g r).threads t (record { calls = (get_or (part_of g r).threads t idle_thread).calls + 1; wait = wait }) in rw z lt))

module _ (s : Setting) (w : World) (g : Registry) (r t : ℕ) (op : Op) (wide : IsWide w) (lr : r < length w.ranks) (named : (rank_at w r).rank ≡ r) (standing : Standing (length w.ranks) g (comms_of w)) (h : Fits w g)
    (p : ℕ) (live : OnLive g p r) (source tag : Option ℕ) (room : ℕ) (parts : r < length g.ranks) (threads : t < length (part_of g r).threads) where
  abbrev asked : ReceiveAsked ℕ
  asked = record { comm = (comm_at g p).ctx; source = source; tag = tag; room = room }

  abbrev asks : ReceiveAsked ℕ
  asks = record { comm = p; source = source; tag = tag; room = room }

  abbrev calling : Choice
  calling = record { rank = r; act = Call t op }

  -- with the reply in the call's entry

  module _ (target : List ℕ) (here : effect_here (rank_at w r) op ≡ effect.Posts target asked) (there : effect_at s g r op ≡ effect.Posts target asks) (may : MayCall s g r t op true) where
    -- the request is bound at the rank, and in the registry
    abbrev bound_here : Local
    bound_here = local_after (rank_at w r).posts (rank_at w r).local (effect.Posts target asked)

    abbrev bound_there : Local
    bound_there = local_after (part_of g r).receives (part_of g r).local (effect.Posts target asks)

    abbrev done : Taking
    done = posts (with_post (rank_at w r) t bound_here asked Nothing) (posted_row (rank_at w r) asked)

    request_move : move_of w calling ≡ requested done
    request_move = call_move w r t op _ here

    request_events : entry_events (entry_at w calling) ≡ Calls r t op true ∷ Posts r t ∷ match_events r done.1 ++ Replies r t reply.Fine ∷ []
    request_events = call_entry w r t op _ here named

    requesting_is : after_effect g r t (effect_at s g r op) ≡ with_part g r (part_in g r t bound_there (state.Requesting (receive_of_call g r asks)))
    requesting_is = rw there refl

    pub request_call_goes_on : GoesOn s g (entry_events (entry_at w calling)) (moved w calling)
    request_call_goes_on =
        let wait : Wait = state.Requesting (receive_of_call g r asks) in
        let mid = request_goes_on s w g r t op bound_here Nothing wide lr standing.apart h p live source tag room (posted_parts g r t bound_there (state.Requesting (receive_of_call g r asks))) (one_post_more s g r t op true parts threads bound_there asks (state.Requesting (receive_of_call g r asks)) refl requesting_is) (sends_as_before s g r t op true parts threads bound_there asks (state.Requesting (receive_of_call g r asks)) refl requesting_is (length w.ranks)) in
        rw (request_events, request_move) (two_then s g (with_posted g (receive_of_call g r asks) (posted_parts g r t bound_there (state.Requesting (receive_of_call g r asks)))) (Calls r t op true) (Posts r t) (match_events r done.1 ++ Replies r t reply.Fine ∷ []) (after w calling (requested done)) may
        (may_post s g r t op true parts threads bound_there asks (state.Requesting (receive_of_call g r asks)) refl requesting_is) (post_is s g r t op true parts threads bound_there asks (state.Requesting (receive_of_call g r asks)) refl requesting_is)
        (replied s (with_posted g (receive_of_call g r asks) (posted_parts g r t bound_there (state.Requesting (receive_of_call g r asks)))) r t reply.Fine done.1 (after w calling (requested done)) (let z = size_then s g r t op true parts threads bound_there asks (state.Requesting (receive_of_call g r asks)) refl requesting_is in rw z parts) (wait_then s g r t op true parts threads bound_there asks (state.Requesting (receive_of_call g r asks)) refl requesting_is) mid))

  -- with the reply in an answer of its own

  module _ (here : effect_here (rank_at w r) op ≡ effect.Receives asked) (there : effect_at s g r op ≡ effect.Receives asks) (may : MayCall s g r t op false) where
    abbrev got : Taking
    got = posts (with_post (rank_at w r) t (rank_at w r).local asked (Receiving ((rank_at w r).posts + 1))) (posted_row (rank_at w r) asked)

    receive_move : move_of w calling ≡ received got
    receive_move = call_move w r t op _ here

    receive_events : entry_events (entry_at w calling) ≡ Calls r t op false ∷ Posts r t ∷ match_events r got.1
    receive_events = call_entry w r t op _ here named ∙ ap (λ (es : List Event). Calls r t op false ∷ Posts r t ∷ es) (append-nil (match_events r got.1))

    posting_is : after_effect g r t (effect_at s g r op) ≡ with_part g r (part_in g r t (part_of g r).local (state.Posting (receive_of_call g r asks)))
    posting_is = rw there refl

    pub receive_call_goes_on : GoesOn s g (entry_events (entry_at w calling)) (moved w calling)
    receive_call_goes_on =
        let mid = receive_goes_on s w g r t op (rank_at w r).local (Receiving ((rank_at w r).posts + 1)) wide lr standing.apart h p live source tag room (posted_parts g r t (part_of g r).local (state.Posting (receive_of_call g r asks))) (one_post_more s g r t op false parts threads (part_of g r).local asks (state.Posting (receive_of_call g r asks)) refl posting_is) (sends_as_before s g r t op false parts threads (part_of g r).local asks (state.Posting (receive_of_call g r asks)) refl posting_is (length w.ranks)) in
        rw (receive_events, receive_move) (two_then s g (with_posted g (receive_of_call g r asks) (posted_parts g r t (part_of g r).local (state.Posting (receive_of_call g r asks)))) (Calls r t op false) (Posts r t) (match_events r got.1) (after w calling (received got)) may
        (may_post s g r t op false parts threads (part_of g r).local asks (state.Posting (receive_of_call g r asks)) refl posting_is) (post_is s g r t op false parts threads (part_of g r).local asks (state.Posting (receive_of_call g r asks)) refl posting_is) mid)
