-- A step leaves a rank its number, and a world its links: one for each pair of ranks.
use Rattle.std.proofs.Common.{◌≡◌, ◌<◌, ◌+◌, ◌*◌, ◌==◌, ℕ, zero, suc, Bool, true, false, List, [], ◌∷◌, map, length, get_or, Option, Some, None, refl, sym, ap, ◌∙◌, arith, if◌then◌else◌}
use Rattle.std.specs.List.{range_with_len}
use Rattle.std.proofs.lemmas.Bool.Decides.{nat_tests}
use Rattle.std.proofs.lemmas.List.{length-map, length-replicate}
use Rattle.std.proofs.lemmas.List.FromFn.{length-range_with_len}
use Rattle.mpi_base.specs.declared.keys.Key.{Key}
use Rattle.mpi_base.specs.declared.messages.Msg.{Msg}
use Rattle.mpi_base.specs.declared.entries.Act.{Act}
use Rattle.mpi_base.specs.declared.entries.Act.TheVariants.{Call, Answer, Deliver, Offer as MakeOffer, Settle, Leave, Back}
use Rattle.mpi_base.specs.declared.entries.Choice.{Choice}
use Rattle.mpi_law.specs.declared.setting.Setting.{Setting}
use Rattle.mpi_law.specs.declared.effects.Effect.{Effect}
use Rattle.mpi_law.specs.declared.effects.Effect.TheVariants as effect
use Rattle.mpi_law.specs.Local.Messages.{from_nobody}
use Rattle.agree_law.specs.declared.rows.Outcome.{Outcome}
use Rattle.agree_law.specs.declared.rows.Verdict.{Verdict}
use Rattle.agree_law.specs.declared.rows.Verdict.TheVariants as verdict
use Rattle.agree_law.specs.Kinds.{is_share}
use Rattle.agree_law.specs.Packets as agree
use Rattle.match_law.specs.declared.rows.Posted.{Posted}
use Rattle.match_law.specs.Box.{Box, arrive, post}
use Rattle.mpi_protocol.specs.declared.rows.ReceiveRow.{ReceiveRow}
use Rattle.mpi_protocol.specs.declared.rows.Waits.{Waits}
use Rattle.mpi_protocol.specs.declared.rows.Waits.TheVariants.{Nothing, Creation, Uncoloured, Freeing, Ending, Receiving, Awaiting}
use Rattle.mpi_protocol.specs.Packets as packet
use Rattle.mpi_protocol.specs.Packets.{Packet, Sent}
use Rattle.mpi_protocol.specs.Rank.{Rank, fresh, thread_at, receive_of}
use Rattle.mpi_protocol.specs.Moves.{Taking, arrives, arrives_to, posts, posts_to}
use Rattle.mpi_protocol.specs.Calls.{called, calls, sends_to}
use Rattle.mpi_protocol.specs.Answers.{answers, answers_creation, answers_taken, answers_row, answered}
use Rattle.mpi_protocol.specs.Agreeing.{with_verdict, verdict_at, offers, settles, settles_as}
use Rattle.mpi_protocol.specs.Delivers.{agrees, takes_packet, taken, taken_if, delivers}
use Rattle.mpi_protocol.specs.Step.{leaves, gives_back, step}
use Rattle.mpi_protocol.specs.World.{World, blank, rank_at, opening, move_of, moved}
use Rattle.message_law.proofs.Lines.{IsWide, after-count, after-rank, after-wide}

-- Messages

arrives_number : (x : Rank) (m : Msg) → (arrives x m).0.rank ≡ x.rank
arrives_number x m = go (arrive x.box m).0 (arrive x.box m).1
  where
    go : (b : Box) (o : Option Posted) → (arrives_to x m b o).0.rank ≡ x.rank
    go b None = refl
    go b (Some p) = refl

posts_number : (x : Rank) (p : Posted) → (posts x p).0.rank ≡ x.rank
posts_number x p = go (post x.box p).0 (post x.box p).1
  where
    go : (b : Box) (o : Option Msg) → (posts_to x p.number b o).0.rank ≡ x.rank
    go b None = refl
    go b (Some m) = refl

sends_number : (x : Rank) (m : Msg) (to : ℕ) → (sends_to x m to).0.0.rank ≡ x.rank
sends_number x m to = by (to == x.rank)
  where
    chosen : Bool → Taking × List Sent
    chosen b = if b then (arrives x m, []) else ((x, None), record { to = to; packet = packet.Message m } ∷ [])

    by : (b : Bool) → (chosen b).0.0.rank ≡ x.rank
    by true = arrives_number x m
    by false = refl

-- Steps

called_number : (x : Rank) (t : ℕ) (e : Effect ℕ) → (called x t e).state.rank ≡ x.rank
called_number x t (effect.Says said) = refl
called_number x t (effect.Opens target) = refl
called_number x t (effect.Groups target members session) = refl
called_number x t (effect.Ungroups name) = refl
called_number x t (effect.Joins a) = refl
called_number x t (effect.Frees name c) = refl
called_number x t (effect.Ends name session) = refl
called_number x t (effect.Sends m) = sends_number _ _ _
called_number x t (effect.Receives a) = posts_number _ _
called_number x t (effect.Posts target a) = posts_number _ _
called_number x t (effect.NullPosts target) = refl
called_number x t (effect.Completes name number) = refl
called_number x t (effect.Awaits name) = refl

receive_number : (x : Rank) (t n : ℕ) (o : Option ReceiveRow) → (answers_row x t n o).state.rank ≡ x.rank
receive_number x t n None = refl
receive_number x t n (Some w) = by w.taken
  where
    by : (o : Option Msg) → (answers_taken x t n w.room o).state.rank ≡ x.rank
    by None = refl
    by (Some m) = refl

answered_number : (x : Rank) (t : ℕ) (w : Waits) → (answered x t w).state.rank ≡ x.rank
answered_number x t Nothing = refl
answered_number x t (Creation key target session) = by _
  where
    by : (o : Option Outcome) → (answers_creation x t key target session o).state.rank ≡ x.rank
    by None = refl
    by (Some o) = refl
answered_number x t (Uncoloured key target session) = refl
answered_number x t (Freeing serial) = refl
answered_number x t (Ending session) = refl
answered_number x t (Receiving n) = by (n == 0)
  where
    by : (b : Bool) → (if b then answers x t from_nobody else answers_row x t n (receive_of x.receives n)).state.rank ≡ x.rank
    by true = refl
    by false = receive_number x t n (receive_of x.receives n)
answered_number x t (Awaiting name) = refl

verdict_number : (x : Rank) (key : Key) (v : Verdict) → (with_verdict x key v).rank ≡ x.rank
verdict_number x key verdict.Ready = refl
verdict_number x key verdict.Retry = refl
verdict_number x key (verdict.Context c) = refl
verdict_number x key verdict.Exhausted = refl

agrees_number : (x : Rank) (p : agree.Packet) (m : agree.Moved) → (agrees x p m).state.rank ≡ x.rank
agrees_number x (agree.Up key i own mask) m = refl
agrees_number x (agree.Down key i v) m = verdict_number x key v
agrees_number x (agree.Share key s) m = refl
agrees_number x (agree.Shares key list) m = refl

taken_number : (x : Rank) (from : ℕ) (p : Packet) → (taken x from p).state.rank ≡ x.rank
taken_number x from (packet.Agreeing p) = agrees_number x p _
taken_number x from (packet.Message m) = arrives_number x m
taken_number x from (packet.Marker c) = refl

delivers_number : (x : Rank) (from : ℕ) (p : Option Packet) → (delivers x from p).state.rank ≡ x.rank
unfolding delivers
delivers_number x from None = refl
delivers_number x from (Some p) = by (takes_packet x from p)
  where
    by : (b : Bool) → (taken_if b x from p).state.rank ≡ x.rank
    by true = taken_number x from p
    by false = refl

settles_number : (x : Rank) (key : Key) → (settles x key).state.rank ≡ x.rank
unfolding settles
settles_number x key = by (is_share key.kind)
  where
    by : (b : Bool) → (settles_as x key b).state.rank ≡ x.rank
    by true = refl
    by false = verdict_number x key (verdict_at x key)

-- a step leaves a rank its number
pub step_number : (x : Rank) (act : Act) (p : Option Packet) → (step x act p).state.rank ≡ x.rank
unfolding step calls offers leaves gives_back
step_number x (Call t op) p = called_number x t _
step_number x (Answer t) p = answered_number x t (thread_at x t).waits
step_number x (Deliver from) p = delivers_number x from p
step_number x (MakeOffer key) p = refl
step_number x (Settle key) p = settles_number x key
step_number x (Leave c) p = refl
step_number x (Back c) p = refl

-- Worlds

-- there is a link for each pair of ranks, and each rank has its place as its number
pub record Shaped (w : World) : Type 0 where
  pub wide : IsWide w
  pub named : (r : ℕ) → r < length w.ranks → (rank_at w r).rank ≡ r

pub moved_shaped : (w : World) (c : Choice) → c.rank < length w.ranks → Shaped w → Shaped (moved w c)
moved_shaped w c lr h = record {
  wide = after-wide w c (move_of w c) h.wide lr;
  named = λ r l. ap (λ (x : Rank). x.rank) (after-rank w c (move_of w c) h.wide lr r) ∙ by r (rw (after-count w c (move_of w c) h.wide lr) at l) (r == c.rank) refl;
}
  where
    by : (r : ℕ) → r < length w.ranks → (b : Bool) → (r == c.rank) ≡ b → (if b then (move_of w c).state else rank_at w r).rank ≡ r
    by r l true e =
        let is : r ≡ c.rank = grind (arith, nat_tests, e) in
        step_number (rank_at w c.rank) c.act _ ∙ (h.named c.rank lr ∙ sym is)
    by r l false e = h.named r l

pub opening_shaped : (s : Setting) → Shaped (opening s)
opening_shaped s = record {
  wide = length-replicate {A = List Packet} (s.ranks * s.ranks) [] ∙ rw (ranks_are 0 s.ranks) refl;
  named = λ r l. (let z : 0 + r ≡ r = omega arith in each 0 s.ranks r (rw (ranks_are 0 s.ranks) at l) ∙ z);
}
  where
    ranks_are : (a n : ℕ) → length (map (fresh s) (range_with_len a n)) ≡ n
    ranks_are a n = length-map (range_with_len a n) (fresh s) ∙ length-range_with_len a n

    each : (a n r : ℕ) → r < n → (get_or (map (fresh s) (range_with_len a n)) r blank).rank ≡ a + r
    each a zero r l = absurd (omega (arith, l))
    each a (suc n) zero l = omega arith
    each a (suc n) (suc r) l = let ih = each (a + 1) n r (omega (arith, l)) in omega (arith, ih)
