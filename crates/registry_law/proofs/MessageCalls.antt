-- A call that sends or posts: ranks and registry go on to belong together. Its events change a thread of the rank and the
-- names; messages and receives are read by no topic but their own.
use Rattle.std.proofs.Common.{◌≡◌, ◌<◌, ℕ, ◌+◌, true, false, List, [], ◌∷◌, ◌++◌, length, get_or, set, Option, Some, None, refl, sym, ap, ◌∙◌, subst, arith}
use Rattle.std.specs.Option.{is_some}
use Rattle.mpi_base.specs.declared.messages.Matched.{Matched}
use Rattle.mpi_base.specs.declared.ops.Op.{Op}
use Rattle.mpi_base.specs.declared.replies.Reply.{Reply}
use Rattle.mpi_base.specs.declared.replies.Reply.TheVariants as reply
use Rattle.local_law.specs.Names.{bound_of}
use Rattle.local_law.specs.Objects as bound
use Rattle.mpi_law.specs.declared.setting.Setting.{Setting}
use Rattle.mpi_law.specs.declared.setting.TheConstants.{THREADS}
use Rattle.mpi_law.specs.declared.effects.Sending.{Sending}
use Rattle.mpi_law.specs.declared.effects.Receiving.{Receiving as ReceiveAsked}
use Rattle.mpi_law.specs.declared.effects.Effect.TheVariants as effect
use Rattle.mpi_law.specs.Local.Objects.{Local}
use Rattle.mpi_law.specs.Local.Effects.{local_after}
use Rattle.mpi_law.specs.Registry.State as reg
use Rattle.mpi_law.specs.Registry.State.{Registry, RankPart, Wait, blank_part, part_of, thread_of, with_wait}
use Rattle.mpi_law.specs.Registry.Calls.{effect_at, message_of_call, receive_of_call}
use Rattle.mpi_law.specs.Registry.Replies.{idles}
use Rattle.mpi_law.specs.Registry.Events.{Calls, Posts, Replies, registry_next}
use Rattle.mpi_law.specs.Registry.Runs.{registry_after}
use Rattle.mpi_protocol.specs.declared.rows.Waits.{Waits}
use Rattle.mpi_protocol.specs.declared.rows.Waits.TheVariants.{Nothing, Freeing, Receiving}
use Rattle.mpi_protocol.specs.Rank.{Rank, with_call, with_receive}
use Rattle.mpi_protocol.specs.Calls.{called, message_of, posted_of, with_post}
use Rattle.agree_law.specs.Tree.{member_at}
use Rattle.comm_law.specs.Comms.{comm_at}
use Rattle.mpi_protocol.specs.Run.{match_events}
use Rattle.mpi_protocol.specs.World.{World, rank_at}
use Rattle.run_law.proofs.Lists.{tally}
use Rattle.due_law.specs.Dues.{Dues}
use Rattle.run_law.proofs.Locals.{LocalFits, binds}
use Rattle.run_law.proofs.Threads.{WaitFits, row_of, part_row}
use Rattle.run_law.proofs.Joined.{Joined}
use Rattle.due_law.specs.Agreed.{Untold}
use Rattle.run_law.proofs.Parts.{thread_in, PartsAfter}
use Rattle.run_law.proofs.Joins.{calling_row}
use Rattle.run_law.proofs.OneThread.{is_creation, thread_joined}
use Rattle.run_law.proofs.CallSteps.{counted, plain, busy, with_name, unbound_by}
use Rattle.message_law.proofs.Worlds.{Fits}
use Rattle.message_law.proofs.Sends.{with_message, with_posted}
use Rattle.message_law.proofs.CallEvents.{events_of}
use Rattle.message_law.proofs.RegistryCalls.{part1, sent_parts, send_is, registry_after-append}
use Rattle.message_law.proofs.PostCalls.{part_in, posted_parts, post_is}
use Rattle.registry_law.proofs.Looks.{LooksSame, looks_else, looks-trans, looks_again, looks_posts, looks_sends, joined_also}
use Rattle.registry_law.proofs.Within.{waiting_part, waits_then, called_then, waits_here}

-- a match is read by no topic of run_law
record SameParts (g new : Registry) : Type 0 where
  pub comms : new.comms ≡ g.comms
  pub creations : new.creations ≡ g.creations
  pub ranks : new.ranks ≡ g.ranks

match_same : (s : Setting) (g : Registry) (r : ℕ) (o : Option Matched) → SameParts g (registry_after s g (match_events r o))
unfolding registry_next
match_same s g r None = record { comms = refl; creations = refl; ranks = refl }
match_same s g r (Some m) = record { comms = refl; creations = refl; ranks = refl }

reply_is : (s : Setting) (g : Registry) (r t : ℕ) (said : Reply) → (thread_of g r t).wait ≡ reg.Reply_now said → registry_next s g (Replies r t said) ≡ idles g r t
unfolding registry_next
reply_is s g r t said e = rw e refl

-- after a match, if there is one
pub matched_joined : (s : Setting) (ranks : List Rank) (due : Dues) (g : Registry) (r : ℕ) (o : Option Matched) → Joined s ranks due g → Joined s ranks due (registry_after s g (match_events r o))
matched_joined s ranks due g r o j = let m = match_same s g r o in joined_also s ranks due g (registry_after s g (match_events r o)) m.comms m.creations m.ranks j

-- after a match, if there is one, and a reply that is there
replied_joined : (s : Setting) (ranks : List Rank) (due : Dues) (g : Registry) (r t : ℕ) (said : Reply) (o : Option Matched) → (thread_of g r t).wait ≡ reg.Reply_now said → Joined s ranks due (idles g r t) → Joined s ranks due (registry_after s g (match_events r o ++ Replies r t said ∷ []))
replied_joined s ranks due g r t said o e j =
    let m = match_same s g r o in
    let mid : Registry = registry_after s g (match_events r o) in
    let still : (thread_of mid r t).wait ≡ reg.Reply_now said = ap (λ (ps : List RankPart). (thread_in ps r t).wait) m.ranks ∙ e in
    let idle : registry_next s mid (Replies r t said) ≡ idles mid r t = reply_is s mid r t said still in
    let parts : (idles mid r t).ranks ≡ (idles g r t).ranks = ap (λ (ps : List RankPart). set ps r (with_wait (get_or ps r blank_part) t reg.Idle)) m.ranks in
    rw (registry_after-append s g (match_events r o) (Replies r t said ∷ []), idle) (joined_also s ranks due (idles g r t) (idles mid r t) m.comms m.creations parts j)

module _ (s : Setting) (w : World) (due : Dues) (g : Registry) (r t : ℕ) (j : Joined s w.ranks due g) (untold : Untold w.ranks due) (h : Fits w g) (lt : r < s.ranks) (here : t < THREADS) (ew : (row_of (rank_at w r).threads t).waits ≡ Nothing) (o : Op) where
  abbrev x : Rank
  x = rank_at w r

  inside : r < length w.ranks
  inside = let e = j.sizes.ranks_are in omega (arith, e, lt)

  parts : r < length g.ranks
  parts = let e = j.sizes.parts_are in omega (arith, e, lt)

  threads : t < length (part_of g r).threads
  threads = let e = (j.threads r).long_part in let i = here in omega (arith, e, i)

  abbrev calls : ℕ
  calls = (part_row (get_or g.ranks r blank_part).threads t).calls + 1

  -- a thread has called and waits for this, here and in the registry
  after_call : (a : Waits) (b : Wait) (l m : Local) (new : List RankPart) → WaitFits a b → is_creation a ≡ false → ((serial : ℕ) → a ≡ Freeing serial → ⊥) → PartsAfter g.ranks new r t m (waiting_part calls b) → LocalFits g.comms x.comms.rows r l m → ((c : ℕ) → tally (binds c) x.local.names ≡ 0 → tally (binds c) l.names ≡ 0)
      → Joined s (set w.ranks r (record x { local = l; threads = set x.threads t (calling_row x.threads t a) })) due (record g { ranks = new })
  after_call a b l m new fit uncreating unfreeing after local frees =
      thread_joined s w.ranks due g r t (calling_row x.threads t a) (waiting_part calls b) l m new (counted s w.ranks due g r t j untold lt here ew o) fit uncreating j lt here (plain s w.ranks due g r t j untold lt here ew o) (busy s w.ranks due g r t j untold lt here ew o)
      after local frees (λ serial p e f. absurd (unfreeing serial e))

  -- A send

  module _ (c p to tag : ℕ) (payload : List ℕ) (there : effect_at s g r o ≡ effect.Sends (record { comm = p; to = to; tag = tag; payload = payload })) where
    abbrev sending : Sending ℕ
    sending = record { comm = c; to = to; tag = tag; payload = payload }

    abbrev asks : Sending ℕ
    asks = record { comm = p; to = to; tag = tag; payload = payload }

    abbrev sent_now : Registry
    sent_now = with_message g (message_of_call g r asks) (sent_parts g r t asks)

    sent_after : PartsAfter g.ranks (sent_parts g r t asks) r t (part_of g r).local (waiting_part calls (reg.Reply_now reply.Fine))
    sent_after = called_then g.ranks r t (part1 g r t asks) (part_of g r).local calls (reg.Sending (message_of_call g r asks)) (reg.Reply_now reply.Fine) parts threads refl refl

    abbrev who : Rank
    who = record x { threads = with_call x t Nothing; sends = x.sends + 1 }

    looks : LooksSame (record x { local = x.local; threads = set x.threads t (calling_row x.threads t Nothing) }) (called x t (effect.Sends sending)).state
    looks =
        looks-trans (record x { local = x.local; threads = set x.threads t (calling_row x.threads t Nothing) }) who _ (looks_else (record x { local = x.local; threads = set x.threads t (calling_row x.threads t Nothing) }) x.box x.receives (x.sends + 1) x.posts)
        (looks_sends who (message_of x sending) (member_at (comm_at x.comms c).members to))

    pub sent_joined : Joined s (set w.ranks r (called x t (effect.Sends sending)).state) due (registry_after s g (events_of x r t o (effect.Sends sending)))
    sent_joined =
        let wait : (thread_of sent_now r t).wait ≡ reg.Reply_now reply.Fine = waits_here g.ranks (sent_parts g r t asks) r t (part_of g r).local calls (reg.Reply_now reply.Fine) threads sent_after in
        let idle = waits_then g.ranks (sent_parts g r t asks) r t (part_of g r).local calls (reg.Reply_now reply.Fine) reg.Idle parts threads sent_after in
        let thread = after_call Nothing reg.Idle x.local (part_of g r).local (idles sent_now r t).ranks tt refl (λ serial e. absurd (cc (e))) idle (j.locals r) (λ c z. z) in
        let state = looks_again s w.ranks due (record g { ranks = (idles sent_now r t).ranks }) r (record x { local = x.local; threads = set x.threads t (calling_row x.threads t Nothing) }) (called x t (effect.Sends sending)).state inside lt looks thread in
        subst (λ (z : Registry). Joined s (set w.ranks r (called x t (effect.Sends sending)).state) due (registry_after s z (match_events r (called x t (effect.Sends sending)).matched ++ Replies r t reply.Fine ∷ []))) (sym (send_is s g r t o true parts threads asks there))
        (replied_joined s (set w.ranks r (called x t (effect.Sends sending)).state) due sent_now r t reply.Fine (called x t (effect.Sends sending)).matched wait (joined_also s (set w.ranks r (called x t (effect.Sends sending)).state) due (record g { ranks = (idles sent_now r t).ranks }) (idles sent_now r t) refl refl refl state))

  -- A receive that is posted

  module _ (c p : ℕ) (source tag : Option ℕ) (room : ℕ) where
    abbrev asked : ReceiveAsked ℕ
    asked = record { comm = c; source = source; tag = tag; room = room }

    abbrev posting : ReceiveAsked ℕ
    posting = record { comm = p; source = source; tag = tag; room = room }

    -- the ranks' counts of receives are those of the registry
    number_is : (part_of g r).receives + 1 ≡ x.posts + 1
    number_is = ap (λ (n : ℕ). n + 1) (sym (h.receives.counted r inside))

    -- with a request

    module _ (target : List ℕ) (free : is_some (bound_of x.local.names target) ≡ false) (there : effect_at s g r o ≡ effect.Posts target posting) where
      abbrev bound_here : Local
      bound_here = local_after x.posts x.local (effect.Posts target asked)

      abbrev bound_there : Local
      bound_there = local_after (part_of g r).receives (part_of g r).local (effect.Posts target posting)

      abbrev requesting : Wait
      requesting = reg.Requesting (receive_of_call g r posting)

      abbrev requested_now : Registry
      requested_now = with_posted g (receive_of_call g r posting) (posted_parts g r t bound_there requesting)

      requested_after : PartsAfter g.ranks (posted_parts g r t bound_there requesting) r t bound_there (waiting_part calls (reg.Reply_now reply.Fine))
      requested_after = called_then g.ranks r t (part_in g r t bound_there requesting) bound_there calls requesting (reg.Reply_now reply.Fine) parts threads refl refl

      requested_looks : LooksSame (record x { local = bound_here; threads = set x.threads t (calling_row x.threads t Nothing) }) (called x t (effect.Posts target asked)).state
      requested_looks =
          looks-trans (record x { local = bound_here; threads = set x.threads t (calling_row x.threads t Nothing) }) (with_post x t bound_here asked Nothing) _ (looks_else (record x { local = bound_here; threads = set x.threads t (calling_row x.threads t Nothing) }) x.box (with_receive x.receives (x.posts + 1) room) x.sends (x.posts + 1))
          (looks_posts (with_post x t bound_here asked Nothing) (posted_of x asked))

      request_is : registry_next s (registry_next s g (Calls r t o true)) (Posts r t) ≡ requested_now
      request_is = post_is s g r t o true parts threads bound_there posting requesting refl (rw there refl)

      pub requested_joined : Joined s (set w.ranks r (called x t (effect.Posts target asked)).state) due (registry_after s g (events_of x r t o (effect.Posts target asked)))
      requested_joined =
          let wait : (thread_of requested_now r t).wait ≡ reg.Reply_now reply.Fine = waits_here g.ranks (posted_parts g r t bound_there requesting) r t bound_there calls (reg.Reply_now reply.Fine) threads requested_after in
          let idle = waits_then g.ranks (posted_parts g r t bound_there requesting) r t bound_there calls (reg.Reply_now reply.Fine) reg.Idle parts threads requested_after in
          let local = with_name s w.ranks due g r t j untold lt here ew o target (bound.Request (x.posts + 1)) (bound.Request ((part_of g r).receives + 1)) free number_is (λ d. refl) in
          let thread = after_call Nothing reg.Idle bound_here bound_there (idles requested_now r t).ranks tt refl (λ serial e. absurd (cc (e))) idle local (λ d z. unbound_by s w.ranks due g r t j untold lt here ew o target (bound.Request (x.posts + 1)) d refl z) in
          let state = looks_again s w.ranks due (record g { ranks = (idles requested_now r t).ranks }) r (record x { local = bound_here; threads = set x.threads t (calling_row x.threads t Nothing) }) (called x t (effect.Posts target asked)).state inside lt requested_looks thread in
          subst (λ (z : Registry). Joined s (set w.ranks r (called x t (effect.Posts target asked)).state) due (registry_after s z (match_events r (called x t (effect.Posts target asked)).matched ++ Replies r t reply.Fine ∷ []))) (sym request_is)
          (replied_joined s (set w.ranks r (called x t (effect.Posts target asked)).state) due requested_now r t reply.Fine (called x t (effect.Posts target asked)).matched wait
          (joined_also s (set w.ranks r (called x t (effect.Posts target asked)).state) due (record g { ranks = (idles requested_now r t).ranks }) (idles requested_now r t) refl refl refl state))

    -- and awaited

    module _ (there : effect_at s g r o ≡ effect.Receives posting) where
      abbrev awaits : Waits
      awaits = Receiving (x.posts + 1)

      abbrev waiting : Wait
      waiting = reg.Posting (receive_of_call g r posting)

      abbrev posted_now : Registry
      posted_now = with_posted g (receive_of_call g r posting) (posted_parts g r t (part_of g r).local waiting)

      posted_after : PartsAfter g.ranks (posted_parts g r t (part_of g r).local waiting) r t (part_of g r).local (waiting_part calls (reg.Receiving ((part_of g r).receives + 1)))
      posted_after = called_then g.ranks r t (part_in g r t (part_of g r).local waiting) (part_of g r).local calls waiting (reg.Receiving ((part_of g r).receives + 1)) parts threads refl refl

      received_looks : LooksSame (record x { local = x.local; threads = set x.threads t (calling_row x.threads t awaits) }) (called x t (effect.Receives asked)).state
      received_looks =
          looks-trans (record x { local = x.local; threads = set x.threads t (calling_row x.threads t awaits) }) (with_post x t x.local asked awaits) _ (looks_else (record x { local = x.local; threads = set x.threads t (calling_row x.threads t awaits) }) x.box (with_receive x.receives (x.posts + 1) room) x.sends (x.posts + 1))
          (looks_posts (with_post x t x.local asked awaits) (posted_of x asked))

      receive_is : registry_next s (registry_next s g (Calls r t o false)) (Posts r t) ≡ posted_now
      receive_is = post_is s g r t o false parts threads (part_of g r).local posting waiting refl (rw there refl)

      pub received_joined : Joined s (set w.ranks r (called x t (effect.Receives asked)).state) due (registry_after s g (events_of x r t o (effect.Receives asked)))
      received_joined =
          let thread = after_call awaits (reg.Receiving ((part_of g r).receives + 1)) x.local (part_of g r).local posted_now.ranks number_is refl (λ serial e. absurd (cc (e))) posted_after (j.locals r) (λ d z. z) in
          let state = looks_again s w.ranks due (record g { ranks = posted_now.ranks }) r (record x { local = x.local; threads = set x.threads t (calling_row x.threads t awaits) }) (called x t (effect.Receives asked)).state inside lt received_looks thread in
          let also = joined_also s (set w.ranks r (called x t (effect.Receives asked)).state) due (record g { ranks = posted_now.ranks }) posted_now refl refl refl state in
          let matched = matched_joined s (set w.ranks r (called x t (effect.Receives asked)).state) due posted_now r (called x t (effect.Receives asked)).matched also in
          subst (λ (z : Registry). Joined s (set w.ranks r (called x t (effect.Receives asked)).state) due (registry_after s z (match_events r (called x t (effect.Receives asked)).matched ++ []))) (sym receive_is)
          (subst (λ (z : Registry). Joined s (set w.ranks r (called x t (effect.Receives asked)).state) due z) (sym (registry_after-append s posted_now (match_events r (called x t (effect.Receives asked)).matched) [])) matched)
