-- A step keeps whole keys whole.
use Rattle.std.proofs.Common.{◌≡◌, ◌==◌, ℕ, Bool, true, false, if◌then◌else◌, List, [], ◌∷◌, map, filter, not, Option, Some, None, refl}
use Rattle.token_text.specs.Words.{FitsIf}
use Rattle.mpi_base.specs.declared.keys.Key.{Key}
use Rattle.mpi_base.specs.declared.entries.Act.{Act}
use Rattle.mpi_base.specs.declared.entries.Act.TheVariants.{Call, Answer, Deliver, Offer as MakeOffer, Settle, Leave, Back}
use Rattle.mpi_base.specs.declared.messages.Msg.{Msg}
use Rattle.mpi_law.specs.Local.{effect_of}
use Rattle.mpi_law.specs.Local.Objects.{Local}
use Rattle.mpi_law.specs.Local.Messages.{from_nobody}
use Rattle.mpi_law.specs.Local.Effects.{local_after}
use Rattle.mpi_law.specs.declared.effects.Origin.{Origin}
use Rattle.mpi_law.specs.declared.effects.Origin.TheVariants.{Grouped, Duplicated, Divided, GroupedOn}
use Rattle.mpi_law.specs.declared.effects.Effect.{Effect}
use Rattle.mpi_law.specs.declared.effects.Effect.TheVariants.{Says, Opens, Groups, Ungroups, Joins, Frees, Ends, Sends, Receives, Posts, NullPosts, Completes, Awaits}
use Rattle.agree_law.specs.declared.rows.Outcome.{Outcome}
use Rattle.agree_law.specs.Part.{stage_of}
use Rattle.agree_law.specs.Packets as agree
use Rattle.agree_law.specs.Moves as agree_moves
use Rattle.agree_law.specs.Kinds.{is_share}
use Rattle.agree_law.proofs.Lists.{AllOf, AllOf_map}
use Rattle.agree_law.proofs.Links.{key_of}
use Rattle.comm_law.specs.Comms.{comm_at}
use Rattle.match_law.specs.declared.rows.Posted.{Posted}
use Rattle.match_law.specs.Box.{Box, arrive, post}
use Rattle.mpi_protocol.specs.declared.rows.Waits.{Waits}
use Rattle.mpi_protocol.specs.declared.rows.Waits.TheVariants.{Nothing, Creation, Uncoloured, Freeing, Ending, Receiving, Awaiting}
use Rattle.mpi_protocol.specs.declared.rows.ReceiveRow.{ReceiveRow}
use Rattle.mpi_protocol.specs.Packets.{Packet, Agreeing, Message, Marker, Sent, agreeing}
use Rattle.mpi_protocol.specs.Rank.{Rank, thread_at, receive_of}
use Rattle.mpi_protocol.specs.Moves.{Move, Taking, arrives_to, arrives, posts_to, posts, stays}
use Rattle.mpi_protocol.specs.Calls.{around_here, opens, sends_to, sent, carried_out, calls}
use Rattle.mpi_protocol.specs.Answers.{outcome_of, answers, answers_creation, answers_taken, answers_row, answered}
use Rattle.mpi_protocol.specs.Agreeing.{agreed, with_verdict, with_shares, offers, settles_as, settles}
use Rattle.mpi_protocol.specs.Delivers.{takes_packet, agrees, taken, taken_if, delivers}
use Rattle.mpi_protocol.specs.Step.{step, is_enabled, leaves, gives_back, markers}
use Rattle.entry_law.proofs.Keys.{Shows, PartShows, MovedShows, SentShow, settled_shows, shows-begin, shows-begin_share, shows-offer, shows-settle, shows-give_back, shows-close, shows-deliver}

-- all is shown of the key of a packet
abbrev pub PacketShows : Packet → Type 0
PacketShows (Agreeing p) = Shows (key_of p)
PacketShows (Message m) = Unit {0}
PacketShows (Marker c) = Unit {0}

-- all is shown of the keys that a rank has after a step, and of those that it sends
pub record StepShows (m : Move) : Type 0 where
  pub part : PartShows m.state.agree
  pub sent : AllOf (λ s. PacketShows s.packet) m.sent

on_links : (ss : List agree.Sent) → SentShow ss → AllOf (λ (s : Sent). PacketShows s.packet) (agreeing ss)
on_links ss h = AllOf_map (λ (s : Sent). PacketShows s.packet) (λ s. record { to = s.to; packet = Agreeing s.packet }) ss h

none_agree : (r c : ℕ) (members : List ℕ) → AllOf (λ (s : Sent). PacketShows s.packet) (markers r c members)
none_agree r c members = go (filter (λ m. not (m == r)) members)
  where
    go : (ms : List ℕ) → AllOf (λ (s : Sent). PacketShows s.packet) (map (λ m. record { to = m; packet = Marker c }) ms)
    go [] = tt
    go (m ∷ ms) = (tt, go ms)

-- messages leave the agreement alone

arrives_apart : (x : Rank) (m : Msg) → PartShows x.agree → PartShows (arrives x m).0.agree
arrives_apart x m h = go (arrive x.box m).0 (arrive x.box m).1
  where
    go : (b : Box) (o : Option Posted) → PartShows (arrives_to x m b o).0.agree
    go b None = h
    go b (Some p) = h

posts_apart : (x : Rank) (p : Posted) → PartShows x.agree → PartShows (posts x p).0.agree
posts_apart x p h = go (post x.box p).0 (post x.box p).1
  where
    go : (b : Box) (o : Option Msg) → PartShows (posts_to x p.number b o).0.agree
    go b None = h
    go b (Some m) = h

-- Calls: a key is made whole

opens_whole : (x : Rank) (o : Origin ℕ) → PartShows x.agree → MovedShows (opens x o)
opens_whole x (Grouped group tag) h = shows-begin x.rank x.setting.contexts x.agree _ (refl, refl) h
opens_whole x (Duplicated c) h = shows-begin x.rank x.setting.contexts x.agree _ refl h
opens_whole x (Divided c share) h = shows-begin_share x.rank x.agree _ share refl h
opens_whole x (GroupedOn c tag group) h = shows-begin x.rank x.setting.contexts x.agree _ refl h

sends_shows : (x : Rank) (m : Msg) (to : ℕ) → PartShows x.agree → StepShows (sent (sends_to x m to))
sends_shows x m to h = go (to == x.rank)
  where
    done : Bool → Taking × List Sent
    done b = if b then (arrives x m, []) else ((x, None), record { to = to; packet = Message m } ∷ [])

    go : (b : Bool) → StepShows (sent (done b))
    go true = record { part = arrives_apart x m h; sent = tt }
    go false = record { part = h; sent = (tt, tt) }

called_shows : (x : Rank) (t : ℕ) (l : Local) (e : Effect ℕ) → PartShows x.agree → StepShows (carried_out x t l e)
called_shows x t l (Says said) h = record { part = h; sent = tt }
called_shows x t l (Opens target) h = record { part = h; sent = tt }
called_shows x t l (Groups target members session) h = record { part = h; sent = tt }
called_shows x t l (Ungroups name) h = record { part = h; sent = tt }
called_shows x t l (Joins a) h = let w = opens_whole x a.origin h in record { part = w.part; sent = on_links (opens x a.origin).sent w.sent }
called_shows x t l (Frees name c) h = record { part = h; sent = tt }
called_shows x t l (Ends name s) h = record { part = h; sent = tt }
called_shows x t l (Sends m) h = sends_shows _ _ _ h
called_shows x t l (Receives a) h = record { part = posts_apart _ _ h; sent = tt }
called_shows x t l (Posts target a) h = record { part = posts_apart _ _ h; sent = tt }
called_shows x t l (NullPosts target) h = record { part = h; sent = tt }
called_shows x t l (Completes name n) h = record { part = h; sent = tt }
called_shows x t l (Awaits name) h = record { part = h; sent = tt }

module _ (x : Rank) (h : PartShows x.agree) where
  still : StepShows (stays x)
  still = record { part = h; sent = tt }

  answered_shows : (t : ℕ) (waits : Waits) → StepShows (answered x t waits)
  answered_shows t Nothing = still
  answered_shows t (Creation key target session) = go (outcome_of (stage_of x.agree.opened key))
    where
      go : (o : Option Outcome) → StepShows (answers_creation x t key target session o)
      go None = still
      go (Some o) = record { part = shows-close x.agree key h; sent = tt }
  answered_shows t (Uncoloured key target session) = record { part = h; sent = tt }
  answered_shows t (Freeing serial) = record { part = h; sent = tt }
  answered_shows t (Ending session) = record { part = h; sent = tt }
  answered_shows t (Receiving n) = go (n == 0)
    where
      taken_row : (room : ℕ) (o : Option Msg) → StepShows (answers_taken x t n room o)
      taken_row room None = still
      taken_row room (Some m) = record { part = h; sent = tt }

      row : (o : Option ReceiveRow) → StepShows (answers_row x t n o)
      row None = still
      row (Some w) = taken_row w.room w.taken

      go : (b : Bool) → StepShows (if b then answers x t from_nobody else answers_row x t n (receive_of x.receives n))
      go true = record { part = h; sent = tt }
      go false = row (receive_of x.receives n)
  answered_shows t (Awaiting name) = record { part = h; sent = tt }

  -- The agreement

  agreed_shows : (y : Rank) (m : agree.Moved) → MovedShows m → StepShows (agreed y m)
  agreed_shows y m w = record { part = w.part; sent = on_links m.sent w.sent }

  settles_shows : (key : Key) → Shows key → StepShows (settles x key)
  unfolding settles
  settles_shows key k = go (is_share key.kind)
    where
      after : MovedShows (agree_moves.settle x.rank x.setting.contexts x.agree key)
      after = shows-settle x.rank x.setting.contexts x.agree key k h

      go : (b : Bool) → StepShows (settles_as x key b)
      go true = record { part = after.part; sent = on_links _ after.sent }
      go false = record { part = after.part; sent = on_links _ after.sent }

  agrees_shows : (p : agree.Packet) (m : agree.Moved) → MovedShows m → StepShows (agrees x p m)
  agrees_shows (agree.Up key i own mask) m w = agreed_shows x m w
  agrees_shows (agree.Down key i v) m w = agreed_shows (with_verdict x key v) m w
  agrees_shows (agree.Share key s) m w = agreed_shows x m w
  agrees_shows (agree.Shares key list) m w = agreed_shows (with_shares x key list) m w

  taken_shows : (from : ℕ) (p : Packet) → PacketShows p → StepShows (taken x from p)
  taken_shows from (Agreeing p) k = agrees_shows p _ (shows-deliver x.rank x.setting.contexts x.agree from p k h)
  taken_shows from (Message m) k = record { part = arrives_apart x m h; sent = tt }
  taken_shows from (Marker c) k = record { part = h; sent = tt }

  delivers_shows : (from : ℕ) (p : Option Packet) → FitsIf PacketShows p → StepShows (delivers x from p)
  unfolding delivers
  delivers_shows from None k = still
  delivers_shows from (Some p) k = go (takes_packet x from p)
    where
      go : (b : Bool) → StepShows (taken_if b x from p)
      go true = taken_shows from p k
      go false = still

  -- Any act
  pub shows-step : (act : Act) (p : Option Packet) → is_enabled x act ≡ true → FitsIf PacketShows p → StepShows (step x act p)
  unfolding is_enabled step calls offers leaves gives_back
  shows-step (Call t op) p may k = let e = effect_of x.setting x.rank (around_here x) x.local op in called_shows x t (local_after x.posts x.local e) e h
  shows-step (Answer t) p may k = answered_shows t (thread_at x t).waits
  shows-step (Deliver from) p may k = delivers_shows from p k
  shows-step (MakeOffer key) p may k = let w = shows-offer x.rank x.setting.contexts x.agree key h in record { part = w.part; sent = on_links _ w.sent }
  shows-step (Settle key) p may k = settles_shows key (settled_shows x.rank x.agree key may h)
  shows-step (Leave c) p may k = record { part = h; sent = none_agree x.rank c (comm_at x.comms c).members }
  shows-step (Back c) p may k = record { part = shows-give_back x.agree c h; sent = tt }
