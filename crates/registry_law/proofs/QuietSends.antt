-- What a step sends tells no list of shares, but for the settle of an exchange.
use Rattle.std.proofs.Common.{◌≡◌, ◌==◌, ◌&&◌, not, nat_lt, if◌then◌else◌, ℕ, Bool, true, false, List, [], ◌∷◌, ◌++◌, map, filter, length, Option, Some, None, refl}
use Rattle.std.specs.Prelude.{ℤ, slice_get}
use Rattle.mpi_base.specs.declared.keys.Key.{Key}
use Rattle.mpi_base.specs.declared.shares.Shared1.{Shared1}
use Rattle.mpi_base.specs.declared.messages.Msg.{Msg}
use Rattle.mpi_base.specs.declared.entries.Act.{Act}
use Rattle.mpi_base.specs.declared.entries.Act.TheVariants.{Call, Answer, Deliver, Offer as MakeOffer, Settle, Leave, Back}
use Rattle.mpi_law.specs.Registry.State.{Registry}
use Rattle.mpi_law.specs.declared.effects.Origin.{Origin}
use Rattle.mpi_law.specs.declared.effects.Origin.TheVariants.{Grouped, Duplicated, Divided, GroupedOn}
use Rattle.mpi_law.specs.declared.effects.Effect.{Effect}
use Rattle.mpi_law.specs.declared.effects.Effect.TheVariants.{Says, Opens, Groups, Ungroups, Joins, Frees, Ends, Sends, Receives, Posts, NullPosts, Completes, Awaits}
use Rattle.mpi_law.specs.Local.{effect_of}
use Rattle.mpi_law.specs.Local.Messages.{from_nobody}
use Rattle.agree_law.specs.declared.rows.Stage.{Stage}
use Rattle.agree_law.specs.declared.rows.Stage.TheVariants.{Sharing, Called, Waiting, Offered, Done}
use Rattle.agree_law.specs.declared.rows.Outcome.{Outcome}
use Rattle.agree_law.specs.declared.rows.Verdict.{Verdict}
use Rattle.agree_law.specs.Tree.{place_in, member_at, parent_of, children_of, is_first}
use Rattle.agree_law.specs.Packets as agree
use Rattle.agree_law.specs.Part.{Agree, stage_of, round_of, open_creation, close_creation}
use Rattle.agree_law.specs.Kinds.{is_share}
use Rattle.agree_law.specs.Gather.{is_ready, all_own, common_mask}
use Rattle.agree_law.specs.Rule.{may_own}
use Rattle.agree_law.specs.Classes.{split_key}
use Rattle.agree_law.specs.Offers.{up_from, put_offer, begin, if_waiting, make_offer, takes_up, take_up}
use Rattle.agree_law.specs.Verdicts.{pass_down, decide, settle_offers, takes_down, take_down}
use Rattle.agree_law.specs.Shares.{put_share, begin_share, takes_share, take_share, divide, colour_at, takes_shares, take_shares}
use Rattle.agree_law.specs.Moves.{settle, deliver}
use Rattle.agree_law.proofs.Lists.{AllOf, AllOf_map, AllOf_each}
use Rattle.mpi_protocol.specs.declared.rows.Waits.{Waits}
use Rattle.mpi_protocol.specs.declared.rows.Waits.TheVariants.{Nothing, Creation, Uncoloured, Freeing, Ending, Receiving, Awaiting}
use Rattle.mpi_protocol.specs.declared.rows.ReceiveRow.{ReceiveRow}
use Rattle.mpi_protocol.specs.Packets.{Packet, Agreeing, Message, Marker, Sent, agreeing}
use Rattle.mpi_protocol.specs.Rank.{Rank, thread_at, receive_of}
use Rattle.mpi_protocol.specs.Moves.{Taking, arrives}
use Rattle.mpi_protocol.specs.Calls.{opens, sends_to, called, calls, around_here}
use Rattle.mpi_protocol.specs.Answers.{outcome_of, answers, answers_creation, answers_taken, answers_row, answered}
use Rattle.mpi_protocol.specs.Agreeing.{offers, settles}
use Rattle.mpi_protocol.specs.Delivers.{takes_packet, agrees, taken, taken_if, delivers}
use Rattle.mpi_protocol.specs.Step.{step, leaves, gives_back, markers}
use Rattle.registry_law.proofs.Telling.{TellFits}

-- Moves of the agreement

abbrev pub is_quiet : agree.Packet → Bool
is_quiet (agree.Up key i own mask) = true
is_quiet (agree.Down key i v) = true
is_quiet (agree.Share key share) = true
is_quiet (agree.Shares key list) = false

abbrev pub Quietly : List agree.Sent → Type 0
Quietly ss = AllOf (λ (s : agree.Sent). is_quiet s.packet ≡ true) ss

up_quiet : (top : ℕ) (a : Agree) (key : Key) (place : ℕ) → Quietly (up_from top a key place)
unfolding up_from
up_quiet top a key place = go (nat_lt 0 place && is_ready a.gathered key place)
  where
    up : List agree.Sent
    up = record { to = member_at key.members (parent_of place); packet = agree.Up key (round_of a.rounds key) (all_own a.gathered key) (common_mask top a.gathered key) } ∷ []

    go : (b : Bool) → Quietly (if b then up else [])
    go true = (refl, tt)
    go false = tt

put_quiet : (r top : ℕ) (a : Agree) (key : Key) (place : ℕ) (own : Bool) (mask : List Bool) → Quietly (put_offer r top a key place own mask).sent
unfolding put_offer
put_quiet r top a key place own mask = up_quiet top (record a { gathered = a.gathered ++ record { key = key; place = place; own = own; mask = mask } ∷ [] }) key (place_in key.members r)

begin_quiet : (r top : ℕ) (a : Agree) (key : Key) → Quietly (begin r top a key).sent
unfolding begin
begin_quiet r top a key = put_quiet r top _ key (place_in key.members r) false _

begin_share_quiet : (r : ℕ) (a : Agree) (key : Key) (z : Shared1) → Quietly (begin_share r a key z).sent
unfolding begin_share
begin_share_quiet r a key z = go (is_first r key.members)
  where
    b : Agree
    b = record a { opened = open_creation a.opened key (Sharing z) }

    chosen : Bool → agree.Moved
    chosen t = if t then record { part = put_share b key 0 z; sent = [] } else record { part = b; sent = record { to = member_at key.members 0; packet = agree.Share key z } ∷ [] }

    go : (t : Bool) → Quietly (chosen t).sent
    go true = tt
    go false = (refl, tt)

offer_quiet : (r top : ℕ) (a : Agree) (key : Key) → Quietly (make_offer r top a key).sent
unfolding make_offer
offer_quiet r top a key = go (stage_of a.opened key)
  where
    go : (st : Option Stage) → Quietly (if_waiting r top a key st).sent
    go None = tt
    go (Some (Sharing z)) = tt
    go (Some Called) = tt
    go (Some (Waiting i)) = put_quiet r top _ key (place_in key.members r) (may_own a key) _
    go (Some (Offered i own)) = tt
    go (Some (Done c)) = tt

down_quiet : (key : Key) (place i : ℕ) (v : Verdict) → Quietly (pass_down key place i v)
unfolding pass_down
down_quiet key place i v = go (children_of place (length key.members))
  where
    go : (ps : List ℕ) → Quietly (map (λ q. record { to = member_at key.members q; packet = agree.Down key i v }) ps)
    go [] = tt
    go (p ∷ ps) = (refl, go ps)

decide_quiet : (r : ℕ) (a : Agree) (key : Key) (i : ℕ) (v : Verdict) → Quietly (decide r a key i v).sent
unfolding decide
decide_quiet r a key i v = down_quiet key (place_in key.members r) i v

divide_quiet : (r top : ℕ) (a : Agree) (key : Key) (o : Option ℤ) (list : List Shared1) → Quietly (divide r top a key o list).sent
unfolding divide
divide_quiet r top a key None list = tt
divide_quiet r top a key (Some c) list = begin_quiet r top (record a { opened = close_creation a.opened key }) (split_key key (Some c) list)

-- a move that is made or not
quiet_if : (b : Bool) (a : Agree) (m : agree.Moved) → Quietly m.sent → Quietly (if b then m else agree.stays a).sent
quiet_if true a m h = h
quiet_if false a m h = tt

pub take_shares_quiet : (r top : ℕ) (a : Agree) (from : ℕ) (key : Key) (list : List Shared1) → Quietly (take_shares r top a from key list).sent
unfolding take_shares
take_shares_quiet r top a from key list = quiet_if (takes_shares r a from key list) a (divide r top a key (colour_at (slice_get list (place_in key.members r))) list) (divide_quiet r top a key (colour_at (slice_get list (place_in key.members r))) list)

deliver_quiet : (r top : ℕ) (a : Agree) (from : ℕ) (p : agree.Packet) → Quietly (deliver r top a from p).sent
unfolding deliver take_up take_down take_share
deliver_quiet r top a from (agree.Up key i own mask) = quiet_if (takes_up r a from key i) a (put_offer r top a key (place_in key.members from) own mask) (put_quiet r top a key (place_in key.members from) own mask)
deliver_quiet r top a from (agree.Down key i v) = quiet_if (takes_down r a from key i v) a (decide r a key i v) (decide_quiet r a key i v)
deliver_quiet r top a from (agree.Share key z) = quiet_if (takes_share r a from key) a (record { part = put_share a key (place_in key.members from) z; sent = [] }) tt
deliver_quiet r top a from (agree.Shares key list) = take_shares_quiet r top a from key list

settle_quiet : (r top : ℕ) (a : Agree) (key : Key) → is_share key.kind ≡ false → Quietly (settle r top a key).sent
unfolding settle settle_offers
settle_quiet r top a key other = rw other (decide_quiet r a key (round_of a.rounds key) _)

-- Moves of a rank

-- what a rank sends fits
abbrev pub SentFits : Registry → List Sent → Type 0
SentFits g ss = AllOf (λ (s : Sent). TellFits g s.to s.packet) ss

module _ (g : Registry) where
  pub one_quiet : (to : ℕ) (p : agree.Packet) → is_quiet p ≡ true → TellFits g to (Agreeing p)
  one_quiet to (agree.Up key i own mask) e = tt
  one_quiet to (agree.Down key i v) e = tt
  one_quiet to (agree.Share key z) e = tt
  one_quiet to (agree.Shares key list) e = absurd (cc (e))

  pub agreeing_quiet : (ss : List agree.Sent) → Quietly ss → SentFits g (agreeing ss)
  agreeing_quiet ss h = AllOf_map (λ (s : Sent). TellFits g s.to s.packet) (λ (s : agree.Sent). record { to = s.to; packet = Agreeing s.packet }) ss (AllOf_each (λ (s : agree.Sent). is_quiet s.packet ≡ true) (λ (s : agree.Sent). TellFits g s.to (Agreeing s.packet)) ss (λ s e. one_quiet s.to s.packet e) h)

  opens_quiet : (x : Rank) (o : Origin ℕ) → SentFits g (agreeing (opens x o).sent)
  opens_quiet x (Grouped group tag) = agreeing_quiet _ (begin_quiet x.rank x.setting.contexts x.agree _)
  opens_quiet x (Duplicated c) = agreeing_quiet _ (begin_quiet x.rank x.setting.contexts x.agree _)
  opens_quiet x (Divided c share) = agreeing_quiet _ (begin_share_quiet x.rank x.agree _ share)
  opens_quiet x (GroupedOn c tag group) = agreeing_quiet _ (begin_quiet x.rank x.setting.contexts x.agree _)

  message_quiet : (x : Rank) (m : Msg) (to : ℕ) → SentFits g (sends_to x m to).1
  message_quiet x m to = go (to == x.rank)
    where
      chosen : Bool → Taking × List Sent
      chosen b = if b then (arrives x m, []) else ((x, None), record { to = to; packet = Message m } ∷ [])

      go : (b : Bool) → SentFits g (chosen b).1
      go true = tt
      go false = (tt, tt)

  called_quiet : (x : Rank) (t : ℕ) (e : Effect ℕ) → SentFits g (called x t e).sent
  called_quiet x t (Says said) = tt
  called_quiet x t (Opens target) = tt
  called_quiet x t (Groups target members session) = tt
  called_quiet x t (Ungroups name) = tt
  called_quiet x t (Joins a) = opens_quiet x a.origin
  called_quiet x t (Frees name c) = tt
  called_quiet x t (Ends name s) = tt
  called_quiet x t (Sends m) = message_quiet _ _ _
  called_quiet x t (Receives a) = tt
  called_quiet x t (Posts target a) = tt
  called_quiet x t (NullPosts target) = tt
  called_quiet x t (Completes name n) = tt
  called_quiet x t (Awaits name) = tt

  taken_quiet : (x : Rank) (t n room : ℕ) (o : Option Msg) → SentFits g (answers_taken x t n room o).sent
  taken_quiet x t n room None = tt
  taken_quiet x t n room (Some m) = tt

  row_quiet : (x : Rank) (t n : ℕ) (o : Option ReceiveRow) → SentFits g (answers_row x t n o).sent
  row_quiet x t n None = tt
  row_quiet x t n (Some w) = taken_quiet x t n w.room w.taken

  answered_quiet : (x : Rank) (t : ℕ) (w : Waits) → SentFits g (answered x t w).sent
  answered_quiet x t Nothing = tt
  answered_quiet x t (Creation key target session) = go (outcome_of (stage_of x.agree.opened key))
    where
      go : (o : Option Outcome) → SentFits g (answers_creation x t key target session o).sent
      go None = tt
      go (Some o) = tt
  answered_quiet x t (Uncoloured key target session) = tt
  answered_quiet x t (Freeing serial) = tt
  answered_quiet x t (Ending session) = tt
  answered_quiet x t (Receiving n) = go (n == 0)
    where
      go : (b : Bool) → SentFits g (if b then answers x t from_nobody else answers_row x t n (receive_of x.receives n)).sent
      go true = tt
      go false = row_quiet x t n (receive_of x.receives n)
  answered_quiet x t (Awaiting name) = tt

  agrees_quiet : (x : Rank) (p : agree.Packet) (m : agree.Moved) → Quietly m.sent → SentFits g (agrees x p m).sent
  agrees_quiet x (agree.Up key i own mask) m h = agreeing_quiet m.sent h
  agrees_quiet x (agree.Down key i v) m h = agreeing_quiet m.sent h
  agrees_quiet x (agree.Share key z) m h = agreeing_quiet m.sent h
  agrees_quiet x (agree.Shares key list) m h = agreeing_quiet m.sent h

  come_quiet : (x : Rank) (from : ℕ) (p : Packet) → SentFits g (taken x from p).sent
  come_quiet x from (Agreeing p) = agrees_quiet x p _ (deliver_quiet x.rank x.setting.contexts x.agree from p)
  come_quiet x from (Message m) = tt
  come_quiet x from (Marker c) = tt

  delivered_quiet : (x : Rank) (from : ℕ) (o : Option Packet) → SentFits g (delivers x from o).sent
  unfolding delivers
  delivered_quiet x from None = tt
  delivered_quiet x from (Some p) = go (takes_packet x from p)
    where
      go : (b : Bool) → SentFits g (taken_if b x from p).sent
      go true = come_quiet x from p
      go false = tt

  markers_quiet : (r c : ℕ) (ms : List ℕ) → SentFits g (markers r c ms)
  markers_quiet r c [] = tt
  markers_quiet r c (m ∷ ms) = go (m == r) (markers_quiet r c ms)
    where
      go : (b : Bool) → SentFits g (markers r c ms) → SentFits g (map (λ (z : ℕ). record { to = z; packet = Marker c }) (if not b then m ∷ filter (λ z. not (z == r)) ms else filter (λ z. not (z == r)) ms))
      go true ih = ih
      go false ih = (tt, ih)

  settles_quiet : (x : Rank) (key : Key) → is_share key.kind ≡ false → SentFits g (settles x key).sent
  unfolding settles
  settles_quiet x key other = rw other (agreeing_quiet _ (settle_quiet x.rank x.setting.contexts x.agree key other))

  -- an act that is no settle of an exchange
  abbrev pub IsPlain : Act → Type 0
  IsPlain (Call t o) = Unit {0}
  IsPlain (Answer t) = Unit {0}
  IsPlain (Deliver from) = Unit {0}
  IsPlain (MakeOffer key) = Unit {0}
  IsPlain (Settle key) = is_share key.kind ≡ false
  IsPlain (Leave c) = Unit {0}
  IsPlain (Back c) = Unit {0}

  pub step_quiet : (x : Rank) (act : Act) (p : Option Packet) → IsPlain act → SentFits g (step x act p).sent
  unfolding step calls offers leaves gives_back
  step_quiet x (Call t o) p plain = called_quiet x t (effect_of x.setting x.rank (around_here x) x.local o)
  step_quiet x (Answer t) p plain = answered_quiet x t (thread_at x t).waits
  step_quiet x (Deliver from) p plain = delivered_quiet x from p
  step_quiet x (MakeOffer key) p plain = agreeing_quiet _ (offer_quiet x.rank x.setting.contexts x.agree key)
  step_quiet x (Settle key) p plain = settles_quiet x key plain
  step_quiet x (Leave c) p plain = markers_quiet x.rank c _
  step_quiet x (Back c) p plain = tt
