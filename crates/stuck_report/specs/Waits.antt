-- Who waits at the end of a journal, and in which call. This project's own.
use Rattle.std.specs.Prelude.{ℕ, ◌==◌, ◌&&◌, Bool, false, List, reverse, find, Option, Some, None}
use Rattle.std.specs.Option.{option_and_then}
use Rattle.mpi_base.specs.declared.ops.Op.{Op}
use Rattle.mpi_base.specs.declared.replies.Reply.{Reply}
use Rattle.mpi_base.specs.declared.entries.Act.{Act}
use Rattle.mpi_base.specs.declared.entries.Act.TheVariants.{Call, Answer, Deliver, Offer, Settle, Leave, Back}
use Rattle.mpi_base.specs.declared.entries.Entry.{Entry}

-- The last entry of a thread

-- the thread that calls or is answered; None for every other step
abbrev pub thread_in : Act → Option ℕ
thread_in (Call thread op) = Some thread
thread_in (Answer thread) = Some thread
thread_in (Deliver from) = None
thread_in (Offer k) = None
thread_in (Settle k) = None
thread_in (Leave c) = None
thread_in (Back c) = None

abbrev pub is_thread : ℕ → Option ℕ → Bool
is_thread t None = false
is_thread t (Some s) = s == t

-- whether an entry is of a thread of a rank: a call or an answer of the thread, at the rank
abbrev pub is_entry_of : ℕ → ℕ → Entry → Bool
is_entry_of r t e = (e.choice.rank == r) && is_thread t (thread_in e.choice.act)

abbrev pub last_of : List Entry → ℕ → ℕ → Option Entry
last_of es r t = find (is_entry_of r t) (reverse es)

-- Waiting

-- the operation that is called, where the step is a call
abbrev pub called : Act → Option Op
called (Call thread op) = Some op
called (Answer thread) = None
called (Deliver from) = None
called (Offer k) = None
called (Settle k) = None
called (Leave c) = None
called (Back c) = None

abbrev pub open_at : Act → Option Reply → Option Op
open_at act None = called act
open_at act (Some reply) = None

-- the operation of a call without a reply; None for every other entry
abbrev pub open_call : Entry → Option Op
open_call e = open_at e.choice.act e.reply

-- the operation in which a thread waits at the end of a journal: that of its last entry, where this is a call without a reply
abbrev pub waits_in : List Entry → ℕ → ℕ → Option Op
waits_in es r t = option_and_then open_call (last_of es r t)
