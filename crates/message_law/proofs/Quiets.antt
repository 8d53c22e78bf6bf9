-- Steps that are no news to messages and markers: those of the agreement, most calls and answers; and a pick.
use Rattle.std.proofs.Common.{◌≡◌, ◌<◌, ◌==◌, ◌&&◌, ℕ, Bool, true, false, List, [], ◌∷◌, ◌++◌, length, drop, Option, Some, None, refl, ap, ◌∙◌, arith, if◌then◌else◌}
use Rattle.std.specs.Prelude.{is_none}
use Rattle.std.specs.Option.{option_map, is_some}
use Rattle.std.proofs.lemmas.Bool.Decides.{nat_tests}
use Rattle.std.proofs.lemmas.List.{append-nil}
use Rattle.mpi_base.specs.MemberLists.{has_rank}
use Rattle.mpi_base.specs.declared.keys.Key.{Key}
use Rattle.mpi_base.specs.declared.messages.Msg.{Msg}
use Rattle.mpi_base.specs.declared.replies.Reply.{Reply}
use Rattle.mpi_base.specs.declared.entries.Act.{Act}
use Rattle.mpi_base.specs.declared.entries.Act.TheVariants.{Call, Answer, Deliver, Offer as MakeOffer, Settle, Leave, Back}
use Rattle.mpi_base.specs.declared.entries.Choice.{Choice}
use Rattle.mpi_base.specs.declared.entries.Said.{Said}
use Rattle.mpi_base.specs.declared.shares.Shared1.{Shared1}
use Rattle.mpi_law.specs.Local.Objects.{Local}
use Rattle.mpi_law.specs.declared.effects.Effect.{Effect}
use Rattle.mpi_law.specs.declared.effects.Effect.TheVariants as effect
use Rattle.mpi_law.specs.declared.effects.Origin.{Origin}
use Rattle.mpi_law.specs.declared.effects.Origin.TheVariants.{Grouped, Duplicated, Divided, GroupedOn}
use Rattle.mpi_law.specs.Registry.State.{Registry, RankPart, Communicator, Message, Receive, part_of}
use Rattle.mpi_law.specs.Registry.Contexts.{in_use}
use Rattle.mpi_law.specs.Registry.Messages.{receive_of}
use Rattle.agree_law.specs.declared.rows.Outcome.{Outcome}
use Rattle.agree_law.specs.declared.rows.Verdict.{Verdict}
use Rattle.agree_law.specs.declared.rows.Verdict.TheVariants as verdict
use Rattle.agree_law.specs.Packets as agree
use Rattle.agree_law.specs.Kinds.{is_share}
use Rattle.agree_law.specs.Part.{Agree}
use Rattle.agree_law.specs.Offers.{make_offer}
use Rattle.comm_law.specs.Comms.{Comms}
use Rattle.match_law.specs.declared.rows.Posted.{Posted}
use Rattle.mpi_protocol.specs.declared.rows.ReceiveRow.{ReceiveRow}
use Rattle.mpi_protocol.specs.declared.rows.Waits.{Waits}
use Rattle.mpi_protocol.specs.declared.rows.Waits.TheVariants.{Nothing, Creation, Uncoloured, Freeing, Ending, Receiving, Awaiting}
use Rattle.mpi_protocol.specs.Packets as packet
use Rattle.mpi_protocol.specs.Packets.{Packet, agreeing}
use Rattle.mpi_protocol.specs.Rank.{Rank, has_taken, taken_of, without_receive, receive_of as row_of}
use Rattle.mpi_protocol.specs.Moves.{Move, stays}
use Rattle.mpi_protocol.specs.Calls.{says, counted, called}
use Rattle.mpi_protocol.specs.Answers.{answers, answers_creation, answered}
use Rattle.mpi_protocol.specs.Agreeing.{agreed, saying, offers, settles, settles_as, with_verdict, shares_out, verdict_at}
use Rattle.mpi_protocol.specs.Delivers.{takes_packet, agrees, taken_if, delivers}
use Rattle.mpi_protocol.specs.World.{World, rank_at, link, after}
use Rattle.agree_law.proofs.Lists.{AllOf_each}
use Rattle.message_law.proofs.Frames.{put, messages_grown, receives_grown}
use Rattle.message_law.proofs.MarkerLists.{left_counted, left_freed, left_session, left_added}
use Rattle.message_law.proofs.MarkerSteps.{proper, SameMarks}
use Rattle.message_law.proofs.Picks.{pick_grows, pick_live, pick_keeps_markers}
use Rattle.message_law.proofs.Lines.{IsWide, IsFromRank, lines_taken, to_of, to_of-agreeing, proper-append, after-link}
use Rattle.message_law.proofs.Worlds.{kept_of, posted_of, rows_of, sends_of, posts_of, comms_of, Fits, IsQuietTo, quiet_fits, after_fits, same_marks}
use Rattle.message_law.proofs.QuietRegistry.{IsQuietEffect}
use Rattle.message_law.proofs.Topics.{as_msg, WaitingFits, RowFits, Receives, Standing}

-- a thread waits for a receive
abbrev pub is_receiving : Waits → Bool
is_receiving Nothing = false
is_receiving (Creation key target session) = false
is_receiving (Uncoloured key target session) = false
is_receiving (Freeing serial) = false
is_receiving (Ending session) = false
is_receiving (Receiving n) = true
is_receiving (Awaiting name) = false

-- The step of a world

-- what a delivery takes off is no message and no marker
abbrev pub IsOfAgreement : World → ℕ → Act → Type 0
IsOfAgreement w r (Call t op) = Unit {0}
IsOfAgreement w r (Answer t) = Unit {0}
IsOfAgreement w r (Deliver from) = (from < length w.ranks) × ((a : agree.Packet) × (rest : List Packet) × (link w from r ≡ packet.Agreeing a ∷ rest))
IsOfAgreement w r (MakeOffer key) = Unit {0}
IsOfAgreement w r (Settle key) = Unit {0}
IsOfAgreement w r (Leave c) = Unit {0}
IsOfAgreement w r (Back c) = Unit {0}

from_rank : (w : World) (r : ℕ) (act : Act) → IsOfAgreement w r act → IsFromRank w act
from_rank w r (Call t op) f = tt
from_rank w r (Answer t) f = tt
from_rank w r (Deliver from) f = f.0
from_rank w r (MakeOffer key) f = tt
from_rank w r (Settle key) f = tt
from_rank w r (Leave c) f = tt
from_rank w r (Back c) f = tt

proper_taken : (w : World) (r : ℕ) (act : Act) (a b : ℕ) → IsOfAgreement w r act → proper (lines_taken w r act a b) ≡ proper (link w a b)
proper_taken w r (Call t op) a b f = refl
proper_taken w r (Answer t) a b f = refl
proper_taken w r (MakeOffer key) a b f = refl
proper_taken w r (Settle key) a b f = refl
proper_taken w r (Leave c) a b f = refl
proper_taken w r (Back c) a b f = refl
proper_taken w r (Deliver from) a b f = go (a == from) refl (b == r) refl
  where
    go : (s : Bool) → (a == from) ≡ s → (t : Bool) → (b == r) ≡ t → proper (if s && t then drop 1 (link w from r) else link w a b) ≡ proper (link w a b)
    go true s true t =
        let is_a : a ≡ from = grind (arith, nat_tests, s) in
        let is_b : b ≡ r = grind (arith, nat_tests, t) in
        let head = f.1.2 in
        rw (is_a, is_b, head) refl
    go true s false t = refl
    go false s t k = refl

-- a move with packets of the agreement alone, and no match
pub record MovesQuietly (x : Rank) (m : Move) : Type 0 where
  pub state : IsQuietTo x m.state
  pub packets : List agree.Sent
  pub sent : m.sent ≡ agreeing packets
  pub matched : m.matched ≡ None

pub quiet_step_fits : (w : World) (c : Choice) (m : Move) (g : Registry) → IsWide w → c.rank < length w.ranks → IsOfAgreement w c.rank c.act → MovesQuietly (rank_at w c.rank) m → Fits w g → Fits (after w c m) g
quiet_step_fits w c m g wide lr act quiet h =
    after_fits w c m wide lr g (link w) (λ a b la lb. lines a b la lb) h.apart (quiet_fits w g c.rank m.state (link w) lr quiet.state (λ a b la lb. refl) h)
  where
    lines : (a b : ℕ) → a < length w.ranks → b < length w.ranks → proper (link (after w c m) a b) ≡ proper (link w a b)
    lines a b la lb = ap proper (after-link w c m wide lr a b (from_rank w c.rank c.act act) la lb) ∙ by (a == c.rank)
      where
        by : (t : Bool) → proper (if t then lines_taken w c.rank c.act a b ++ to_of b m.sent else lines_taken w c.rank c.act a b) ≡ proper (link w a b)
        by false = proper_taken w c.rank c.act a b act
        by true = proper-append (lines_taken w c.rank c.act a b) (to_of b m.sent) ∙ rw (quiet.sent, to_of-agreeing b quiet.packets) (append-nil (proper (lines_taken w c.rank c.act a b)) ∙ proper_taken w c.rank c.act a b act)

-- Which moves are quiet

-- the box, the receives and the counts stay, and no row is left
quietly : (x : Rank) (m : Move) (packets : List agree.Sent) → m.state.box ≡ x.box → m.state.receives ≡ x.receives → m.state.sends ≡ x.sends → m.state.posts ≡ x.posts → SameMarks x.comms m.state.comms → m.sent ≡ agreeing packets → m.matched ≡ None → MovesQuietly x m
quietly x m packets box receives sends posts marks sent matched = record {
  state = record { box = box; receives = λ k. ap (λ (ws : List ReceiveRow). row_of ws k) receives; sends = sends; posts = posts; marks = marks };
  packets = packets;
  sent = sent;
  matched = matched;
}

stays_quietly : (x : Rank) → MovesQuietly x (stays x)
stays_quietly x = quietly x (stays x) [] refl refl refl refl (same_marks x.comms) refl refl

-- the agreement

pub offers_quietly : (x : Rank) (key : Key) → MovesQuietly x (offers x key)
unfolding offers
offers_quietly x key = quietly x (offers x key) (make_offer x.rank x.setting.contexts x.agree key).sent refl refl refl refl (same_marks x.comms) refl refl

verdict_quietly : (x : Rank) (key : Key) (v : Verdict) (a : agree.Moved) → MovesQuietly x (agreed (with_verdict x key v) a)
verdict_quietly x key verdict.Ready a = quietly x (agreed x a) a.sent refl refl refl refl (same_marks x.comms) refl refl
verdict_quietly x key verdict.Retry a = quietly x (agreed x a) a.sent refl refl refl refl (same_marks x.comms) refl refl
verdict_quietly x key (verdict.Context c) a = quietly x (agreed (with_verdict x key (verdict.Context c)) a) a.sent refl refl refl refl (record { left = λ d. left_added x.comms c key.members _ d; noted = refl }) refl refl
verdict_quietly x key verdict.Exhausted a = quietly x (agreed x a) a.sent refl refl refl refl (same_marks x.comms) refl refl

shares_quietly : (x : Rank) (key : Key) (list : List Shared1) (a : agree.Moved) → MovesQuietly x (shares_out x key list a)
shares_quietly x key list a = quietly x (shares_out x key list a) a.sent refl refl refl refl (same_marks x.comms) refl refl

saying_quietly : (x : Rank) (z : Said) (m : Move) → MovesQuietly x m → MovesQuietly x (saying z m)
saying_quietly x z m q = record { state = q.state; packets = q.packets; sent = q.sent; matched = q.matched }

pub settles_quietly : (x : Rank) (key : Key) → MovesQuietly x (settles x key)
unfolding settles
settles_quietly x key = by (is_share key.kind)
  where
    by : (b : Bool) → MovesQuietly x (settles_as x key b)
    by true = saying_quietly x _ _ (shares_quietly x key _ _)
    by false = saying_quietly x _ _ (verdict_quietly x key (verdict_at x key) _)

agrees_quietly : (x : Rank) (p : agree.Packet) (a : agree.Moved) → MovesQuietly x (agrees x p a)
agrees_quietly x (agree.Up key i o mask) a = quietly x (agreed x a) a.sent refl refl refl refl (same_marks x.comms) refl refl
agrees_quietly x (agree.Down key i v) a = verdict_quietly x key v a
agrees_quietly x (agree.Share key z) a = quietly x (agreed x a) a.sent refl refl refl refl (same_marks x.comms) refl refl
agrees_quietly x (agree.Shares key list) a = shares_quietly x key list a

pub delivers_quietly : (x : Rank) (from : ℕ) (p : agree.Packet) → MovesQuietly x (delivers x from (Some (packet.Agreeing p)))
unfolding delivers
delivers_quietly x from p = by (takes_packet x from (packet.Agreeing p))
  where
    by : (b : Bool) → MovesQuietly x (taken_if b x from (packet.Agreeing p))
    by true = agrees_quietly x p _
    by false = stays_quietly x

-- calls that neither send nor post

counted_marks : (t : Comms) (o : Origin ℕ) → SameMarks t (counted t o)
counted_marks t (Grouped group tag) = same_marks t
counted_marks t (Duplicated c) = record { left = left_counted t c; noted = refl }
counted_marks t (Divided c share) = record { left = left_counted t c; noted = refl }
counted_marks t (GroupedOn c tag group) = same_marks t

says_quietly : (x : Rank) (t : ℕ) (l : Local) (z : Option Reply) (waits : Waits) → MovesQuietly x (says x t l z waits)
says_quietly x t l z waits = quietly x (says x t l z waits) [] refl refl refl refl (same_marks x.comms) refl refl

pub called_quietly : (x : Rank) (t : ℕ) (e : Effect ℕ) → IsQuietEffect e → MovesQuietly x (called x t e)
called_quietly x t (effect.Says z) q = says_quietly x t _ _ _
called_quietly x t (effect.Opens target) q = says_quietly x t _ _ _
called_quietly x t (effect.Groups target members session) q = says_quietly x t _ _ _
called_quietly x t (effect.Ungroups name) q = says_quietly x t _ _ _
called_quietly x t (effect.Joins a) q = quietly x _ _ refl refl refl refl (counted_marks x.comms a.origin) refl refl
called_quietly x t (effect.Frees name c) q = quietly x _ [] refl refl refl refl (record { left = left_freed x.comms c; noted = refl }) refl refl
called_quietly x t (effect.Ends name session) q = quietly x _ [] refl refl refl refl (record { left = left_session x.comms session; noted = refl }) refl refl
called_quietly x t (effect.Sends m) q = absurd q
called_quietly x t (effect.Receives a) q = absurd q
called_quietly x t (effect.Posts target a) q = absurd q
called_quietly x t (effect.NullPosts target) q = says_quietly x t _ _ _
called_quietly x t (effect.Completes name number) q = says_quietly x t _ _ _
called_quietly x t (effect.Awaits name) q = says_quietly x t _ _ _

-- answers, but for that of a receive

pub answers_quietly : (x : Rank) (t : ℕ) (l : Local) (a : Agree) (said : Reply) → MovesQuietly x (answers (record x { agree = a; local = l }) t said)
answers_quietly x t l a said = quietly x _ [] refl refl refl refl (same_marks x.comms) refl refl

creation_answered_quietly : (x : Rank) (t : ℕ) (key : Key) (target : List ℕ) (session : ℕ) (o : Option Outcome) → MovesQuietly x (answers_creation x t key target session o)
creation_answered_quietly x t key target session None = stays_quietly x
creation_answered_quietly x t key target session (Some o) = answers_quietly x t _ _ _

pub answered_quietly : (x : Rank) (t : ℕ) (w : Waits) → is_receiving w ≡ false → MovesQuietly x (answered x t w)
answered_quietly x t Nothing q = stays_quietly x
answered_quietly x t (Creation key target session) q = creation_answered_quietly x t key target session _
answered_quietly x t (Uncoloured key target session) q = answers_quietly x t _ x.agree _
answered_quietly x t (Freeing serial) q = answers_quietly x t x.local x.agree _
answered_quietly x t (Ending session) q = answers_quietly x t x.local x.agree _
answered_quietly x t (Receiving n) q = absurd (cc (q))
answered_quietly x t (Awaiting name) q = answers_quietly x t x.local x.agree _

-- A receive is answered: its row goes

row_without : (ws : List ReceiveRow) (n k : ℕ) → row_of (without_receive ws n) k ≡ (if k == n then None else row_of ws k)
row_without [] n k = by (k == n)
  where
    by : (b : Bool) → Path (Option ReceiveRow) None (if b then None else None)
    by true = refl
    by false = refl
row_without (x ∷ ws) n k = let ih = row_without ws n k in grind (arith, nat_tests, ih)

pub receives_without : (n : ℕ) (g : Registry) (posted : ℕ → List Posted) (rows : ℕ → List ReceiveRow) (posts : ℕ → ℕ) (r k : ℕ) → r < n → has_taken (rows r) k ≡ true → Receives n g posted rows posts → Receives n g posted (put r (without_receive (rows r) k) rows) posts
receives_without n g posted rows posts r k lr taken h = record {
  lists = h.lists;
  numbered = h.numbered;
  counted = h.counted;
  live = h.live;
  taken = λ s i ls. at s i ls (s == r) refl;
  known = h.known;
}
  where
    gone : (w : Option ReceiveRow) (x : Option Receive) → is_some (taken_of w) ≡ true → RowFits g w x → RowFits g None x
    gone None x t f = absurd (cc (t))
    gone (Some w) None t f = absurd f
    gone (Some w) (Some x) t f = by w.taken x.taken t f.2
      where
        by : (a : Option Msg) (o : Option Message) → is_some a ≡ true → a ≡ option_map (as_msg g.comms) o → is_none o ≡ false
        by None o t e = absurd (cc (t))
        by (Some a) None t e = absurd (cc (e))
        by (Some a) (Some o) t e = refl

    at : (s i : ℕ) → s < n → (t : Bool) → (s == r) ≡ t → RowFits g (row_of (if t then without_receive (rows r) k else rows s) i) (receive_of g s i)
    at s i ls false t = h.taken s i ls
    at s i ls true t =
        let is : s ≡ r = grind (arith, nat_tests, t) in
        rw (is, row_without (rows r) k i) (by (i == k) refl)
      where
        by : (b : Bool) → (i == k) ≡ b → RowFits g (if b then None else row_of (rows r) i) (receive_of g r i)
        by false e = h.taken r i lr
        by true e = let is : i ≡ k = grind (arith, nat_tests, e) in rw is (gone (row_of (rows r) k) (receive_of g r k) taken (h.taken r k lr))

-- A pick

pub pick_fits : (w : World) (g new : Registry) (k : Communicator) → new.comms ≡ g.comms ++ k ∷ [] → new.messages ≡ g.messages → new.receives ≡ g.receives → ((q : ℕ) → q < length w.ranks → part_of new q ≡ part_of g q)
    → Standing (length w.ranks) g (comms_of w) → ((q : ℕ) → has_rank k.members q ≡ true → in_use g.comms q k.ctx ≡ false) → k.returned ≡ [] → Fits w g → Fits w new
pick_fits w g new k comms ms xs parts standing unused nobody h = record {
  messages = messages_grown (length w.ranks) g new (kept_of w) (sends_of w) (link w) (pick_grows g new k comms) (pick_live g new k comms) ms (λ q lq. ap (λ (p : RankPart). p.sends) (parts q lq)) h.messages;
  receives = receives_grown (length w.ranks) g new (posted_of w) (rows_of w) (posts_of w) (pick_grows g new k comms) (AllOf_each (WaitingFits g) (WaitingFits new) g.receives (λ x f o. pick_live g new k comms x.comm x.rank (f o)) h.receives.live) xs (λ q lq. ap (λ (p : RankPart). p.receives) (parts q lq)) h.receives;
  markers = pick_keeps_markers g new k comms (length w.ranks) (comms_of w) (link w) h.markers standing unused nobody;
  own = h.own;
  apart = h.apart;
}
