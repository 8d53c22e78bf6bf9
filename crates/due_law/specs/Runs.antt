-- What is due at the end of every protocol run, and what each act finds there. `s` is the setting, `w` the world, `due` what is due
-- there, and `r` a rank.
use Rattle.std.specs.Prelude.{◌≡◌, ◌<◌, ℕ, Bool, true, false, List, [], ◌∷◌, length, slice_get, Option, Some, None}
use Rattle.mpi_base.specs.declared.keys.Key.{Key}
use Rattle.mpi_base.specs.MemberLists.{has_rank}
use Rattle.mpi_base.specs.declared.entries.Act.{Act}
use Rattle.mpi_base.specs.declared.entries.Act.TheVariants.{Call, Answer, Deliver, Offer as MakeOffer, Settle, Leave, Back}
use Rattle.mpi_base.specs.declared.entries.Choice.{Choice}
use Rattle.mpi_base.specs.declared.entries.Entry.{Entry}
use Rattle.mpi_law.specs.declared.setting.Setting.{Setting}
use Rattle.agree_law.specs.declared.rows.Verdict.{Verdict}
use Rattle.agree_law.specs.Packets as agree
use Rattle.agree_law.specs.Kinds.{is_share}
use Rattle.agree_law.specs.Verdicts.{takes_down}
use Rattle.mpi_protocol.specs.Packets.{Packet, Agreeing, Message, Marker}
use Rattle.mpi_protocol.specs.Rank.{Rank}
use Rattle.mpi_protocol.specs.Agreeing.{verdict_at}
use Rattle.mpi_protocol.specs.World.{World, opening, rank_at, link, head_for, moved}
use Rattle.projection_law.specs.Events.{agreement_events}
use Rattle.projection_law.specs.Facts.{MaySettle}
use Rattle.due_law.specs.Dues.{Dues, none_due, dues_settled, dues_came, dues_after}
use Rattle.due_law.specs.Agreed.{Untold, DueIsFree, HasWaited, SaysFinds, TakesFinds}

-- Dues of protocol runs

-- a packet comes to a rank: messages and markers change nothing that is due
abbrev pub dues_arrived : Rank → Dues → ℕ → ℕ → Option Packet → Dues
dues_arrived x due r from None = due
dues_arrived x due r from (Some (Agreeing p)) = dues_came x.agree due r from (Some p)
dues_arrived x due r from (Some (Message m)) = due
dues_arrived x due r from (Some (Marker c)) = due

-- what is due after an act of a rank, with the packet that a delivery takes
abbrev pub dues_act : Rank → Dues → ℕ → Act → Option Packet → Dues
dues_act x due r (Call t op) p = due
dues_act x due r (Answer t) p = due
dues_act x due r (Deliver from) p = dues_arrived x due r from p
dues_act x due r (MakeOffer key) p = due
dues_act x due r (Settle key) p = dues_settled x.setting.contexts x.agree due r key
dues_act x due r (Leave c) p = due
dues_act x due r (Back c) p = due

-- what is due after a choice, in the world before it
abbrev pub dues_chosen : World → Dues → Choice → Dues
dues_chosen w due c = dues_act (rank_at w c.rank) due c.rank c.act (head_for w c.rank c.act)

-- what is due after a journal, from a world
abbrev pub dues_from : World → Dues → List Entry → Dues
dues_from w due [] = due
dues_from w due (e ∷ es) = dues_from (moved w e.choice) (dues_chosen w due e.choice) es

-- what is due at the end of a journal
abbrev pub dues_of : Setting → List Entry → Dues
dues_of s journal = dues_from (opening s) none_due journal

-- what is due at the end of a journal is what is due after its events in the agreement
abbrev pub DuesAreTheAgreements : Setting → List Entry → Type 0
DuesAreTheAgreements s journal = dues_of s journal ≡ dues_after s.ranks s.contexts (agreement_events (opening s) journal)

-- What acts find

-- the first member is one of the members, and finds what its verdict asks
pub record Says (s : Setting) (w : World) (due : Dues) (r : ℕ) (key : Key) : Type 0 where
  pub member : has_rank key.members r ≡ true
  pub finds : SaysFinds s w.ranks due r key (verdict_at (rank_at w r) key)

-- each settle of offers
abbrev pub SettlesFind : Setting → World → Dues → Type 0
SettlesFind s w due = (r : ℕ) (key : Key) → MaySettle w r key → Says s w due r key

-- a verdict that comes is taken, and its member finds what it asks
pub record Takes (w : World) (due : Dues) (r from : ℕ) (key : Key) (i : ℕ) (v : Verdict) : Type 0 where
  pub taken : takes_down (rank_at w r).rank (rank_at w r).agree from key i v ≡ true
  pub finds : TakesFinds (rank_at w r) (due r key) key v

-- each verdict at the head of a link
abbrev pub DownsFind : World → Dues → Type 0
DownsFind w due =
    (r from : ℕ) (key : Key) (i : ℕ) (v : Verdict) → r < length w.ranks → from < length w.ranks → slice_get (link w from r) 0 ≡ Some (Agreeing (agree.Down key i v)) → Takes w due r from key i v

-- What each act of a run finds

abbrev pub SettleFinds : Setting → World → Dues → ℕ → Key → Bool → Type 0
SettleFinds s w due r key true = Unit {0}
SettleFinds s w due r key false = Says s w due r key

abbrev pub PacketFinds : World → Dues → ℕ → ℕ → Option Packet → Type 0
PacketFinds w due r from None = Unit {0}
PacketFinds w due r from (Some (Agreeing (agree.Up key i own mask))) = Unit {0}
PacketFinds w due r from (Some (Agreeing (agree.Down key i v))) = Takes w due r from key i v
PacketFinds w due r from (Some (Agreeing (agree.Share key s))) = Unit {0}
PacketFinds w due r from (Some (Agreeing (agree.Shares key list))) = Unit {0}
PacketFinds w due r from (Some (Message m)) = Unit {0}
PacketFinds w due r from (Some (Marker c)) = Unit {0}

-- an offer, a settle and a delivery
abbrev pub ActFinds : Setting → World → Dues → ℕ → Act → Option Packet → Type 0
ActFinds s w due r (Call t op) p = Unit {0}
ActFinds s w due r (Answer t) p = Unit {0}
ActFinds s w due r (Deliver from) p = PacketFinds w due r from p
ActFinds s w due r (MakeOffer key) p = HasWaited (rank_at w r) (due r key) key
ActFinds s w due r (Settle key) p = SettleFinds s w due r key (is_share key.kind)
ActFinds s w due r (Leave c) p = Unit {0}
ActFinds s w due r (Back c) p = Unit {0}

-- each act, and so a call, finds nothing due that is not open, and each context that is due free
pub record ChoiceFinds (s : Setting) (w : World) (due : Dues) (c : Choice) : Type 0 where
  pub untold : Untold w.ranks due
  pub free : DueIsFree w.ranks due
  pub act : ActFinds s w due c.rank c.act (head_for w c.rank c.act)

-- each choice of a journal, from a world, with what is due there
abbrev pub EachFinds : Setting → World → Dues → List Entry → Type 0
EachFinds s w due [] = Unit {0}
EachFinds s w due (e ∷ es) = ChoiceFinds s w due e.choice × EachFinds s (moved w e.choice) (dues_chosen w due e.choice) es
