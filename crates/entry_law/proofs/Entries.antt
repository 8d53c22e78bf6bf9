-- The entry of each choice is well formed.
use Rattle.std.proofs.Common.{◌≡◌, ℕ, Bool, true, false, if◌then◌else◌, Option, Some, None, slice_get, refl, arith}
use Rattle.std.specs.Option.{is_some, option_map}
use Rattle.mpi_base.specs.declared.keys.Kind.{Kind}
use Rattle.mpi_base.specs.declared.keys.Kind.TheVariants as kind
use Rattle.mpi_base.specs.declared.keys.Key.{Key}
use Rattle.mpi_base.specs.declared.entries.Act.{Act}
use Rattle.mpi_base.specs.declared.entries.Act.TheVariants.{Call, Answer, Deliver, Offer as MakeOffer, Settle, Leave, Back}
use Rattle.mpi_base.specs.declared.entries.Said.TheVariants as said
use Rattle.mpi_base.specs.declared.replies.Reply.{Reply}
use Rattle.mpi_base.specs.declared.replies.Reply.TheVariants.{Fine, Refused, Null, Psets, NthName, Size0, Group, Ranks, Like, Size, Rank as OwnRank, Comm, Received}
use Rattle.token_text.specs.Words.{FitsIf}
use Rattle.script_text.specs.Spelling.{IsOp}
use Rattle.entry_text.specs.Labels.{IsRoundSaid}
use Rattle.entry_text.specs.Keys.{IsKey}
use Rattle.entry_text.specs.Said.{IsOffered, IsVerdict, IsSettled}
use Rattle.entry_text.specs.Briefs.{IsBrief}
use Rattle.entry_text.specs.Replies.{IsReply}
use Rattle.history_text.specs.Text.{IsThere, IsEntry}
use Rattle.history_text.specs.Ranges.{KeyInRange, SaidInRange, BriefInRange, ReplyInRange, EntryInRange}
use Rattle.agree_law.specs.declared.rows.Verdict.{Verdict}
use Rattle.agree_law.specs.declared.rows.Verdict.TheVariants.{Ready, Retry, Context, Exhausted}
use Rattle.agree_law.specs.Packets as agree
use Rattle.agree_law.specs.Kinds.{is_share}
use Rattle.mpi_protocol.specs.Packets.{Packet, Agreeing, Message, Marker, said_of, brief_of}
use Rattle.mpi_protocol.specs.Rank.{Rank, thread_at}
use Rattle.mpi_protocol.specs.Moves.{Move}
use Rattle.mpi_protocol.specs.Agreeing.{offers, settles_as, settles, verdict_at}
use Rattle.mpi_protocol.specs.Step.{step, is_enabled, leaves, gives_back}
use Rattle.mpi_protocol.specs.World.{World, rank_at, link, may_happen, entry_at}
use Rattle.entry_law.proofs.Keys.{Shows, due_shows, settled_shows}
use Rattle.entry_law.proofs.Steps.{PacketShows}
use Rattle.entry_law.proofs.Worlds.{WorldShows, rank_shows, delivered_shows}
use Rattle.entry_law.proofs.Replies.{ReplyWhole}
use Rattle.entry_law.proofs.Says.{call_says, answer_says, deliver_says}

key_fits : (k : Key) → Shows k → KeyInRange k → IsKey k
key_fits k w h = record { parent = h.parent; number = h.number; tag = h.tag; members = h.members; shows_all = w }

-- Packets

round_fits : (v : Verdict) → SaidInRange (said_of v) → IsRoundSaid (said_of v)
round_fits Ready h = tt
round_fits Retry h = tt
round_fits (Context c) h = h
round_fits Exhausted h = tt

brief_fits : (p : Packet) → PacketShows p → BriefInRange (brief_of p) → IsBrief (brief_of p)
brief_fits (Agreeing (agree.Up key i own mask)) w h = (h.0, key_fits key w h.1)
brief_fits (Agreeing (agree.Down key i v)) w h = (h.0, round_fits v h.1, key_fits key w h.2)
brief_fits (Agreeing (agree.Share key s)) w h = key_fits key w h
brief_fits (Agreeing (agree.Shares key list)) w h = key_fits key w h
brief_fits (Message m) w h = h
brief_fits (Marker c) w h = h

packet_fits : (o : Option Packet) → is_some o ≡ true → FitsIf PacketShows o → FitsIf BriefInRange (option_map brief_of o) → IsThere IsBrief (option_map brief_of o)
packet_fits None e w h = absurd (cc (e))
packet_fits (Some p) e w h = brief_fits p w h

-- Replies

reply_fits : (r : Reply) → ReplyWhole r → ReplyInRange r → IsReply r
reply_fits Fine w h = h
reply_fits (Refused c) w h = h
reply_fits Null w h = h
reply_fits (Psets n) w h = h
reply_fits (NthName name) w h = h
reply_fits (Size0 n) w h = h
reply_fits (Group members) w h = h
reply_fits (Ranks ranks) w h = h
reply_fits (Like l) w h = h
reply_fits (Size n) w h = h
reply_fits (OwnRank r) w h = h
reply_fits (Comm c r s) w h = h
reply_fits (Received (Some s) (Some t) bytes) w h = h
reply_fits (Received (Some s) None bytes) w h = absurd w
reply_fits (Received None (Some t) bytes) w h = absurd w
reply_fits (Received None None bytes) w h = w

reply_if : (r : Option Reply) → FitsIf ReplyWhole r → FitsIf ReplyInRange r → FitsIf IsReply r
reply_if None w h = tt
reply_if (Some r) w h = reply_fits r w h

reply_there : (r : Option Reply) → IsThere ReplyWhole r → FitsIf ReplyInRange r → IsThere IsReply r
reply_there None w h = absurd w
reply_there (Some r) w h = reply_fits r w h

-- Settles

verdict_fits : (v : Verdict) → SaidInRange (said_of v) → IsVerdict (said_of v)
verdict_fits Ready h = tt
verdict_fits Retry h = tt
verdict_fits (Context c) h = h
verdict_fits Exhausted h = tt

settled_fits : (k : Kind) (v : Verdict) → is_share k ≡ false → SaidInRange (said_of v) → IsSettled k (said_of v)
settled_fits kind.From v e h = verdict_fits v h
settled_fits kind.Group v e h = verdict_fits v h
settled_fits kind.Dup v e h = verdict_fits v h
settled_fits kind.Split v e h = verdict_fits v h
settled_fits kind.Share v e h = absurd (cc (e))

shared_fits : (k : Kind) → is_share k ≡ true → IsSettled k said.Shared
shared_fits kind.From e = absurd (cc (e))
shared_fits kind.Group e = absurd (cc (e))
shared_fits kind.Dup e = absurd (cc (e))
shared_fits kind.Split e = absurd (cc (e))
shared_fits kind.Share e = refl

-- what a settle says of its key, and that is all
record SaysSettle (k : Kind) (m : Move) : Type 0 where
  said : IsThere (IsSettled k) m.said
  matched : m.matched ≡ None
  dropped : m.dropped ≡ None
  reply : m.reply ≡ None

settle_says : (x : Rank) (key : Key) (b : Bool) → is_share key.kind ≡ b → FitsIf SaidInRange (settles_as x key b).said → SaysSettle key.kind (settles_as x key b)
settle_says x key true e h = record { said = shared_fits key.kind e; matched = refl; dropped = refl; reply = refl }
settle_says x key false e h = record { said = settled_fits key.kind (verdict_at x key) e h; matched = refl; dropped = refl; reply = refl }

-- Offers

offered_fits : (b : Bool) → IsOffered (if b then said.Own else said.Zero)
offered_fits true = tt
offered_fits false = tt

-- the operation of a call is well formed
abbrev pub OpFits : Act → Type 0
OpFits (Call t op) = IsOp op
OpFits (Answer t) = Unit {0}
OpFits (Deliver from) = Unit {0}
OpFits (MakeOffer key) = Unit {0}
OpFits (Settle key) = Unit {0}
OpFits (Leave c) = Unit {0}
OpFits (Back c) = Unit {0}

module _ (w : World) (r : ℕ) (shows : WorldShows w) where
  abbrev Fits : Act → Type 0
  Fits act =
      may_happen w (record { rank = r; act = act }) ≡ true → OpFits act → EntryInRange (entry_at w (record { rank = r; act = act }))
      → IsEntry (entry_at w (record { rank = r; act = act }))

  pub entry_fits : (act : Act) → Fits act
  unfolding step is_enabled offers settles leaves gives_back
  entry_fits (Call t op) may is h =
      let s = call_says (rank_at w r) t op in
      record { rank = h.rank; act = (h.act, is); brief = refl; said = s.said; matched = h.matched; dropped = s.dropped; reply = reply_if _ s.reply h.reply }
  entry_fits (Answer t) may is h =
      let s = answer_says (rank_at w r) t (thread_at (rank_at w r) t).waits (grind (arith, may)) in
      record { rank = h.rank; act = h.act; brief = refl; said = s.said; matched = s.matched; dropped = s.dropped; reply = reply_there _ s.reply h.reply }
  entry_fits (Deliver from) may is h =
      let s = deliver_says (rank_at w r) from (slice_get (link w from r) 0) in
      let there : is_some (slice_get (link w from r) 0) ≡ true = grind (arith, may) in
      let brief = packet_fits (slice_get (link w from r) 0) there (delivered_shows w r (Deliver from) shows) h.brief in
      record { rank = h.rank; act = h.act; brief = brief; said = s.said; matched = h.matched; dropped = s.dropped; reply = s.reply }
  entry_fits (MakeOffer key) may is h =
      let k = due_shows (rank_at w r).agree key (grind (arith, may)) (rank_shows w r shows) in
      record { rank = h.rank; act = key_fits key k h.act; brief = refl; said = offered_fits _; matched = refl; dropped = refl; reply = refl }
  entry_fits (Settle key) may is h =
      let k = settled_shows (rank_at w r).rank (rank_at w r).agree key (grind (arith, may)) (rank_shows w r shows) in
      let s = settle_says (rank_at w r) key (is_share key.kind) refl h.said in
      record { rank = h.rank; act = key_fits key k h.act; brief = refl; said = s.said; matched = s.matched; dropped = s.dropped; reply = s.reply }
  entry_fits (Leave c) may is h = record { rank = h.rank; act = h.act; brief = refl; said = refl; matched = refl; dropped = refl; reply = refl }
  entry_fits (Back c) may is h = record { rank = h.rank; act = h.act; brief = refl; said = refl; matched = refl; dropped = h.dropped; reply = refl }
