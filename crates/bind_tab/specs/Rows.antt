-- The names of a rank, as contracts see them.
use Rattle.std.specs.Prelude.{ℕ, ◌==◌, Bool, Option}
use Rattle.local_law.specs.Names.{Rows, unbind_all}
use Rattle.local_law.specs.NameFacts.{left_of}
use Rattle.local_law.specs.Objects as objects
use Rattle.bind_tab.specs.declared.bound.Bound.{Bound}
use Rattle.bind_tab.specs.declared.bound.Bound.TheVariants.{Reserved, Session, Group, Comm, Request}

-- the names, each with what it is bound to, in the order in which they were first held, and for how many there is room
pub record Table : Type 0 where
  pub rows : Rows (objects.Bound ℕ ℕ)
  pub spare : ℕ

-- what a name is bound to, as the objects of a rank have it: a session by its serial, a communicator by its context
abbrev pub seen : Bound → objects.Bound ℕ ℕ
seen Reserved = objects.Reserved
seen (Session id) = objects.Session id.serial
seen (Group members serial) = objects.Group members serial
seen (Comm ctx serial) = objects.Comm ctx serial
seen (Request number) = objects.Request number

-- whether it is the session with a serial, or a group or a communicator of it
abbrev pub is_of : ℕ → objects.Bound ℕ ℕ → Bool
is_of serial bound = objects.is_of (λ s. s == serial) bound

-- without each name that is bound to a session, or to a group or a communicator of it
abbrev pub unbind_session : Rows (objects.Bound ℕ ℕ) → ℕ → Rows (objects.Bound ℕ ℕ)
unbind_session rows serial = unbind_all rows (is_of serial)

-- what is left of this where the session ends
abbrev pub without : ℕ → Option (objects.Bound ℕ ℕ) → Option (objects.Bound ℕ ℕ)
without serial bound = left_of (is_of serial) bound
