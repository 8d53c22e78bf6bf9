-- A call that sends, as one entry: each of its events is allowed, and the topics go on.
use Rattle.std.proofs.Common.{◌≡◌, ◌<◌, ◌+◌, ◌==◌, ℕ, Bool, true, false, List, [], ◌∷◌, ◌++◌, length, get_or, set, None, refl, ap, ◌∙◌, arith, if◌then◌else◌}
use Rattle.std.proofs.lemmas.Bool.Decides.{nat_tests}
use Rattle.mpi_base.specs.MemberLists.{has_rank}
use Rattle.mpi_base.specs.declared.messages.Msg.{Msg}
use Rattle.mpi_base.specs.declared.ops.Op.{Op}
use Rattle.mpi_base.specs.declared.replies.Reply.TheVariants as reply
use Rattle.mpi_base.specs.declared.entries.Act.TheVariants.{Call}
use Rattle.mpi_base.specs.declared.entries.Choice.{Choice}
use Rattle.mpi_law.specs.declared.setting.Setting.{Setting}
use Rattle.mpi_law.specs.declared.effects.Sending.{Sending}
use Rattle.mpi_law.specs.declared.effects.Effect.TheVariants as effect
use Rattle.mpi_law.specs.Registry.State.{Registry, RankPart, ThreadPart, Reply_now, blank_part, idle_thread, comm_at, part_of, thread_of, with_wait}
use Rattle.mpi_law.specs.Registry.State as state
use Rattle.mpi_law.specs.Registry.Calls.{effect_at, message_of_call}
use Rattle.mpi_law.specs.Registry.Events.{Event, Calls, Sends, Replies, registry_next}
use Rattle.mpi_law.specs.Registry.Runs.{MayCall, Allowed}
use Rattle.mpi_protocol.specs.declared.rows.Waits.TheVariants.{Nothing}
use Rattle.mpi_protocol.specs.Packets as packet
use Rattle.mpi_protocol.specs.Packets.{Sent}
use Rattle.mpi_protocol.specs.Rank.{Rank, with_call}
use Rattle.mpi_protocol.specs.Moves.{Move, Taking, arrives}
use Rattle.mpi_protocol.specs.Calls.{called, sent}
use Rattle.mpi_protocol.specs.Run.{entry_events, match_events}
use Rattle.mpi_protocol.specs.World.{World, rank_at, move_of, moved, after, entry_at}
use Rattle.agree_law.proofs.Lists.{length-set}
use Rattle.message_law.proofs.Lines.{IsWide}
use Rattle.message_law.proofs.Sends.{with_message, IsOneMore}
use Rattle.message_law.proofs.Worlds.{Fits, comms_of}
use Rattle.message_law.proofs.Deliveries.{GoesOn}
use Rattle.message_law.proofs.CallSteps.{Usable, IsAsBefore, send_goes_on, own_send_goes_on}
use Rattle.message_law.proofs.CallEvents.{effect_here, call_entry, call_move}
use Rattle.message_law.proofs.RegistryCalls.{set_there, part1, sent_parts, may_send, send_is, one_send_more, receives_as_before, replied}
use Rattle.message_law.proofs.Topics.{as_msg, Standing}

-- two events, and then what goes on
pub two_then : (s : Setting) (g new : Registry) (a b : Event) (es : List Event) (w : World) → Allowed s g a → Allowed s (registry_next s g a) b → registry_next s (registry_next s g a) b ≡ new → GoesOn s new es w → GoesOn s g (a ∷ b ∷ es) w
two_then s g new a b es w one two is h =
    let k : GoesOn s (registry_next s (registry_next s g a) b) es w = rw is h in
    record { allowed = λ rest run. (one, (two, k.allowed rest run)); fits = k.fits }

module _ (s : Setting) (w : World) (g : Registry) (r t : ℕ) (the_op : Op) (wide : IsWide w) (lr : r < length w.ranks) (named : (rank_at w r).rank ≡ r) (standing : Standing (length w.ranks) g (comms_of w)) (h : Fits w g)
    (p : ℕ) (u : Usable g (rank_at w r) r p) (to tag : ℕ) (payload : List ℕ) (good : has_rank (comm_at g p).members (get_or (comm_at g p).members to 0) ≡ true)
    (parts : r < length g.ranks) (threads : t < length (part_of g r).threads)
    (here : effect_here (rank_at w r) the_op ≡ effect.Sends (record { comm = (comm_at g p).ctx; to = to; tag = tag; payload = payload }))
    (there : effect_at s g r the_op ≡ effect.Sends (record { comm = p; to = to; tag = tag; payload = payload }))
    (may : MayCall s g r t the_op true) where
  abbrev the_choice : Choice
  the_choice = record { rank = r; act = Call t the_op }

  abbrev asks : Sending ℕ
  asks = record { comm = p; to = to; tag = tag; payload = payload }

  abbrev who : Rank
  who = record (rank_at w r) { threads = with_call (rank_at w r) t Nothing; sends = (rank_at w r).sends + 1 }

  abbrev msg : Msg
  msg = as_msg g.comms (message_of_call g r asks)

  abbrev goes_if : Bool → Taking × List Sent
  goes_if b = if b then (arrives who msg, []) else ((who, None), record { to = get_or (comm_at g p).members to 0; packet = packet.Message msg } ∷ [])

  abbrev goes : Taking × List Sent
  goes = goes_if (get_or (comm_at g p).members to 0 == r)

  called_so : called (rank_at w r) t (effect.Sends (record { comm = (comm_at g p).ctx; to = to; tag = tag; payload = payload })) ≡ sent goes
  called_so =
      let f = u.found in
      let ms = u.members in
      let c = h.messages.counted r lr in
      rw (f, ms, named, c) refl

  move_is : move_of w the_choice ≡ sent goes
  move_is = call_move w r t the_op _ here ∙ called_so

  more : IsOneMore (λ z. z.sends) g (sent_parts g r t asks) r
  more = one_send_more s g r t the_op true parts threads asks there

  as_before : IsAsBefore (λ z. z.receives) (length w.ranks) g (sent_parts g r t asks)
  as_before = receives_as_before s g r t the_op true parts threads asks there (length w.ranks)

  abbrev new : Registry
  new = with_message g (message_of_call g r asks) (sent_parts g r t asks)

  -- on a link, or taken in the same step
  mid : GoesOn s new (match_events r goes.0.1) (after w the_choice (sent goes))
  mid = go (get_or (comm_at g p).members to 0 == r) refl
    where
      go : (b : Bool) → (get_or (comm_at g p).members to 0 == r) ≡ b
          → GoesOn s new (match_events r (goes_if b).0.1) (after w the_choice (sent (goes_if b)))
      go true e = own_send_goes_on s w g r t the_op wide lr named standing h p u (sent_parts g r t asks) to tag payload more as_before good (grind (arith, nat_tests, e))
      go false e = send_goes_on s w g r t the_op wide lr named standing h p u (sent_parts g r t asks) to tag payload more as_before good (grind (arith, nat_tests, e))

  wait_is : (thread_of new r t).wait ≡ Reply_now reply.Fine
  wait_is =
      let e = set_there (set g.ranks r (part1 g r t asks)) r (with_wait (part1 g r t asks) t (Reply_now reply.Fine)) blank_part (let z = length-set g.ranks r (part1 g r t asks) in rw z parts) in
      ap (λ (q : RankPart). (get_or q.threads t idle_thread).wait) e
      ∙ ap (λ (q : ThreadPart). q.wait) (set_there (part1 g r t asks).threads t (record { calls = (get_or (part1 g r t asks).threads t idle_thread).calls; wait = Reply_now reply.Fine }) idle_thread (let z = length-set (part_of g r).threads t (record { calls = (get_or (part_of g r).threads t idle_thread).calls + 1; wait = state.Sending (message_of_call g r asks) }) in rw z threads))

  events_are : entry_events (entry_at w the_choice) ≡ Calls r t the_op true ∷ Sends r t ∷ match_events r goes.0.1 ++ Replies r t reply.Fine ∷ []
  events_are = call_entry w r t the_op _ here named ∙ ap (λ (m : Move). Calls r t the_op true ∷ Sends r t ∷ match_events r m.matched ++ Replies r t reply.Fine ∷ []) called_so

  pub send_call_goes_on : GoesOn s g (entry_events (entry_at w the_choice)) (moved w the_choice)
  send_call_goes_on =
      rw (events_are, move_is) (two_then s g new (Calls r t the_op true) (Sends r t) (match_events r goes.0.1 ++ Replies r t reply.Fine ∷ []) (after w the_choice (sent goes)) may (may_send s g r t the_op true parts threads asks there) (send_is s g r t the_op true parts threads asks there)
      (replied s new r t reply.Fine goes.0.1 (after w the_choice (sent goes)) (let z = length-set (set g.ranks r (part1 g r t asks)) r (with_wait (part1 g r t asks) t (Reply_now reply.Fine)) in let y = length-set g.ranks r (part1 g r t asks) in rw (z, y) parts) wait_is mid))
