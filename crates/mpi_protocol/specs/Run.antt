-- Protocol runs, and what the registry sees of them. This project's own.
use Rattle.std.specs.Prelude.{◌≡◌, ℕ, Bool, false, if◌then◌else◌, ◌==◌, ◌&&◌, true, if◌then◌else◌, List, [], ◌∷◌, ◌++◌, Option, Some, None, is_some}
use Rattle.std.specs.List.{flat_map}
use Rattle.mpi_base.specs.declared.ops.Op.{Op}
use Rattle.mpi_base.specs.declared.ops.Op.TheVariants as op
use Rattle.mpi_base.specs.declared.messages.SrcArg.{SrcArg}
use Rattle.mpi_base.specs.declared.messages.SrcArg.TheVariants as source
use Rattle.mpi_base.specs.declared.messages.Matched.{Matched}
use Rattle.mpi_base.specs.declared.replies.Reply.{Reply}
use Rattle.mpi_base.specs.declared.replies.Reply.TheVariants as reply
use Rattle.mpi_base.specs.declared.keys.Key.{Key}
use Rattle.mpi_base.specs.declared.entries.Act.{Act}
use Rattle.mpi_base.specs.declared.entries.Act.TheVariants.{Call, Answer, Deliver, Offer as MakeOffer, Settle, Leave, Back}
use Rattle.mpi_base.specs.declared.entries.Said.{Said}
use Rattle.mpi_base.specs.declared.entries.Said.TheVariants as said
use Rattle.mpi_base.specs.declared.entries.Entry.{Entry}
use Rattle.mpi_law.specs.declared.setting.Setting.{Setting}
use Rattle.mpi_law.specs.Registry.Events.{Event, Calls, Sends, Posts, Picks, Matches, Backs, Replies}
use Rattle.mpi_protocol.specs.World.{World, opening, may_happen, moved, entry_at}

-- each entry is the one that its choice gives, and each choice is enabled when it is made
abbrev pub RunsFrom : World → List Entry → Type 0
RunsFrom w [] = Unit {0}
RunsFrom w (e ∷ es) = (may_happen w e.choice ≡ true) × (e ≡ entry_at w e.choice) × RunsFrom (moved w e.choice) es

-- the world that a journal leaves
abbrev pub world_after : World → List Entry → World
world_after w [] = w
world_after w (e ∷ es) = world_after (moved w e.choice) es

abbrev pub IsProtocolRun : Setting → List Entry → Type 0
IsProtocolRun s journal = RunsFrom (opening s) journal

-- the world at the end of a protocol run
abbrev pub end_of : Setting → List Entry → World
end_of s journal = world_after (opening s) journal

-- The events of an entry

abbrev pub reply_events : ℕ → ℕ → Option Reply → List Event
reply_events r t None = []
reply_events r t (Some said) = Replies r t said ∷ []

-- a message that is not refused is sent
abbrev pub is_fine : Option Reply → Bool
is_fine None = false
is_fine (Some reply.Fine) = true
is_fine (Some (reply.Refused c)) = false
is_fine (Some reply.Null) = false
is_fine (Some (reply.Psets number)) = false
is_fine (Some (reply.NthName name)) = false
is_fine (Some (reply.Size0 size)) = false
is_fine (Some (reply.Group members)) = false
is_fine (Some (reply.Ranks ranks)) = false
is_fine (Some (reply.Like likeness)) = false
is_fine (Some (reply.Size size)) = false
is_fine (Some (reply.Rank rank)) = false
is_fine (Some (reply.Comm ctx rank size)) = false
is_fine (Some (reply.Received from tag payload)) = false

abbrev pub if_fine : List Event → Option Reply → List Event
if_fine events said = if is_fine said then events else []

-- a receive that is not answered in its call is posted
abbrev pub if_silent : List Event → Option Reply → List Event
if_silent events None = events
if_silent events (Some said) = []

-- to the null process nothing is sent, from it nothing is posted
abbrev pub unless_null : List Event → SrcArg → List Event
unless_null events (source.At rank) = events
unless_null events source.Any = events
unless_null events source.Null = []

abbrev pub unless_none : List Event → Option ℕ → List Event
unless_none events None = []
unless_none events (Some to) = events

-- what is sent or posted within a call
abbrev pub message_events : ℕ → ℕ → Op → Option Reply → List Event
message_events r t (op.Session target) said = []
message_events r t (op.Finalize session) said = []
message_events r t (op.Psets session) said = []
message_events r t (op.Nth session number) said = []
message_events r t (op.Info session set) said = []
message_events r t (op.Pset session set target) said = []
message_events r t (op.Union first second target) said = []
message_events r t (op.Intersect first second target) said = []
message_events r t (op.Difference first second target) said = []
message_events r t (op.Incl group ranks target) said = []
message_events r t (op.Excl group ranks target) said = []
message_events r t (op.RangeIncl group ranges target) said = []
message_events r t (op.RangeExcl group ranges target) said = []
message_events r t (op.Translate from ranks to) said = []
message_events r t (op.Compare first second) said = []
message_events r t (op.Size group) said = []
message_events r t (op.Rank group) said = []
message_events r t (op.Gfree group) said = []
message_events r t (op.Create group tag target) said = []
message_events r t (op.Dup comm target) said = []
message_events r t (op.Split comm colour key target) said = []
message_events r t (op.CreateGroup comm group tag target) said = []
message_events r t (op.Group comm target) said = []
message_events r t (op.Ccompare first second) said = []
message_events r t (op.Csize comm) said = []
message_events r t (op.Crank comm) said = []
message_events r t (op.Free comm) said = []
message_events r t (op.Send comm to tag payload) said = unless_none (if_fine (Sends r t ∷ []) said) to
message_events r t (op.Recv comm from tag room) said = unless_null (if_silent (Posts r t ∷ []) said) from
message_events r t (op.Irecv comm from tag room target) said = unless_null (if_fine (Posts r t ∷ []) said) from
message_events r t (op.Wait request) said = []
message_events r t (op.Await name) said = []

abbrev pub match_events : ℕ → Option Matched → List Event
match_events r None = []
match_events r (Some m) = Matches r m.receive m.from m.number ∷ []

abbrev pub pick_events : ℕ → Key → Option Said → List Event
pick_events r key None = []
pick_events r key (Some said.Own) = []
pick_events r key (Some said.Zero) = []
pick_events r key (Some said.Ready) = []
pick_events r key (Some said.Retry) = []
pick_events r key (Some (said.Picked c)) = Picks r key (Some c) ∷ []
pick_events r key (Some said.Exhausted) = Picks r key None ∷ []
pick_events r key (Some said.Shared) = []

abbrev pub back_events : ℕ → ℕ → Option ℕ → List Event
back_events r c None = []
back_events r c (Some dropped) = Backs r c dropped ∷ []

-- the call, the send, the post, the pick, the match, the give-back and the reply, as far as the entry has them
abbrev pub act_events : ℕ → Act → Entry → List Event
act_events r (Call t op) e = Calls r t op (is_some e.reply) ∷ message_events r t op e.reply ++ match_events r e.matched ++ reply_events r t e.reply
act_events r (Answer t) e = reply_events r t e.reply
act_events r (Deliver from) e = match_events r e.matched
act_events r (MakeOffer key) e = []
act_events r (Settle key) e = pick_events r key e.said
act_events r (Leave c) e = []
act_events r (Back c) e = back_events r c e.dropped

unfoldable pub entry_events : Entry → List Event
entry_events e = act_events e.choice.rank e.choice.act e

abbrev pub events_of : List Entry → List Event
events_of journal = flat_map entry_events journal

-- The calls of a thread

abbrev pub call_of : ℕ → ℕ → ℕ → Act → List Op
call_of r t rank (Call u op) = if (rank == r) && (u == t) then op ∷ [] else []
call_of r t rank (Answer u) = []
call_of r t rank (Deliver from) = []
call_of r t rank (MakeOffer key) = []
call_of r t rank (Settle key) = []
call_of r t rank (Leave c) = []
call_of r t rank (Back c) = []

-- the operations that a thread of a rank calls in a journal, in order
abbrev pub calls_of : ℕ → ℕ → List Entry → List Op
calls_of r t journal = flat_map (λ e. call_of r t e.choice.rank e.choice.act) journal
