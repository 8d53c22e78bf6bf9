-- Messages that a rank sends, and receives that it posts.
use Rattle.std.proofs.Common.{◌≡◌, ◌+◌, ◌==◌, ℕ, true, false, List, [], ◌∷◌, ◌++◌, map, refl, sym, subst, ◌∙◌, ap, Option, None}
use Rattle.std.proofs.lemmas.List.{map-append, append_assoc}
use Rattle.mpi_base.specs.declared.messages.Matched.{Matched}
use Rattle.mpi_base.specs.declared.messages.Msg.{Msg}
use Rattle.mpi_law.specs.declared.effects.TheConstants.{MESSAGE_LANE}
use Rattle.mpi_law.specs.declared.effects.Sending.{Sending}
use Rattle.agree_law.specs.Tree.{place_in, member_at}
use Rattle.comm_law.specs.Comms.{comm_at}
use Rattle.mpi_protocol.specs.declared.rows.ThreadRow.{ThreadRow}
use Rattle.mpi_protocol.specs.declared.rows.Waits.TheVariants.{Nothing}
use Rattle.mpi_protocol.specs.Packets.{Message, Sent as Sent_seen, agreeing}
use Rattle.mpi_protocol.specs.Rank.{Rank, with_call}
use Rattle.mpi_protocol.specs.Moves.{arrives}
use Rattle.mpi_protocol.specs.Calls.{sends, sent}
use Rattle.and_reduce.specs.Rows as agree
use Rattle.rank_core.specs.declared.packets.Sent.{Sent}
use Rattle.rank_core.specs.Packets.{Box, sent_by, sent_of}
use Rattle.rank_core.specs.Held.{Held}

-- one packet more
pub sent_by-push : {w : ℕ} (top : ℕ) (b old : Box w) (others : List (Sent w)) (x : Sent w) (p : Sent_seen) → b ≡ old → others ≡ b.others ++ x ∷ [] → sent_of top x ≡ p
    → agreeing (map (agree.sent_of top) b.agreed) ++ map (sent_of top) others ≡ sent_by top old ++ p ∷ []
sent_by-push {w} top b old others x p is more at =
    let pushed : map (sent_of top) others ≡ map (sent_of top) b.others ++ p ∷ [] =
    ap (map (sent_of top)) more ∙ (map-append (sent_of top) b.others (x ∷ []) ∙ ap (λ (q : Sent_seen). map (sent_of top) b.others ++ q ∷ []) at) in
    ap (λ (xs : List Sent_seen). agreeing (map (agree.sent_of top) b.agreed) ++ xs) pushed
    ∙ (sym (append_assoc (agreeing (map (agree.sent_of top) b.agreed)) (map (sent_of top) b.others) (p ∷ [])) ∙ ap (λ (o : Box w). sent_by top o ++ p ∷ []) is)

-- A message is sent

-- the next message of a rank to a member of a communicator with these members
abbrev message_in : Rank → Sending ℕ → List ℕ → Msg
message_in x m members = record { ctx = m.comm; lane = MESSAGE_LANE; from = x.rank; source = place_in members x.rank; tag = m.tag; number = x.sends + 1; payload = m.payload }

module _ (h old : Held) (t : ℕ) (m : Sending ℕ) (members : List ℕ) (to : ℕ) (msg : Msg) (threads : List ThreadRow) (is : h ≡ old)
    (among : members ≡ (comm_at old.state.comms m.comm).members) (at : to ≡ member_at members m.to) (made : msg ≡ message_in old.state m members) (called : threads ≡ with_call h.state t Nothing) where
  abbrev sending : Rank
  sending = record h.state { threads = threads; sends = h.state.sends + 1 }

  -- to the rank itself
  pub sent-here : (state : Rank) (matched : Option Matched) → (to == h.state.rank) ≡ true → state ≡ (arrives sending msg).0 → matched ≡ (arrives sending msg).1
      → sent ((state, matched), []) ≡ sends old.state t old.state.local m
  sent-here state matched here s d =
      subst (λ (o : Held). members ≡ (comm_at o.state.comms m.comm).members → msg ≡ message_in o.state m members → sent ((state, matched), []) ≡ sends o.state t o.state.local m) is
      (λ among made. rw (← among, ← at, ← made, ← called, here, s, d) refl) among made

  -- to another
  pub sent-there : (to == h.state.rank) ≡ false → sent ((sending, None), record { to = to; packet = Message msg } ∷ []) ≡ sends old.state t old.state.local m
  sent-there there =
      subst
      (λ (o : Held). members ≡ (comm_at o.state.comms m.comm).members → msg ≡ message_in o.state m members
      → sent ((sending, None), record { to = to; packet = Message msg } ∷ []) ≡ sends o.state t o.state.local m) is
      (λ among made. rw (← among, ← at, ← made, ← called, there) refl) among made
