-- The communicators of a rank: from the pick until the rank gives each back, and the markers by which members tell that they
-- left one. All of it is this project's own.
use Rattle.std.specs.Prelude.{ℕ, ◌+◌, ◌==◌, ◌&&◌, ◌||◌, not, Bool, true, false, if◌then◌else◌, List, [], ◌∷◌, ◌++◌, map, filter, find, Option, Some, None, unwrap_or}
use Rattle.std.specs.List.{list_all, list_any}
use Rattle.comm_law.specs.declared.rows.CommRow.{CommRow}
use Rattle.comm_law.specs.declared.rows.CommStage.{CommStage}
use Rattle.comm_law.specs.declared.rows.CommStage.TheVariants.{Live, Freed, Left}
use Rattle.comm_law.specs.declared.rows.MarkerRow.{MarkerRow}

-- the communicators, how many there were so far, and the markers that came
pub record Comms : Type 0 where
  pub rows : List CommRow
  pub added : ℕ
  pub noted : List MarkerRow

abbrev pub no_comms : Comms
no_comms = record { rows = []; added = 0; noted = [] }

-- Lookups

abbrev pub blank_comm : CommRow
blank_comm = record { ctx = 0; members = []; session = 0; serial = 0; calls = 0; stage = Live }

-- the communicator with this context, if there is one here
abbrev pub row_at : Comms → ℕ → Option CommRow
row_at t c = find (λ m. m.ctx == c) t.rows

abbrev pub comm_at : Comms → ℕ → CommRow
comm_at t c = unwrap_or (row_at t c) blank_comm

-- whether a communicator with this serial is here, or one of this session
abbrev pub has_serial : Comms → ℕ → Bool
has_serial t n = list_any (λ m. m.serial == n) t.rows

abbrev pub has_session : Comms → ℕ → Bool
has_session t s = list_any (λ m. m.session == s) t.rows

abbrev pub is_noted : Comms → ℕ → ℕ → Bool
is_noted t c from = list_any (λ k. (k.ctx == c) && (k.from == from)) t.noted

-- freed, and not left yet
abbrev pub is_freed : CommStage → Bool
is_freed Live = false
is_freed Freed = true
is_freed Left = false

abbrev pub is_left : CommStage → Bool
is_left Live = false
is_left Freed = false
is_left Left = true

-- Changes

-- a communicator more, with the next serial
abbrev pub add : Comms → ℕ → List ℕ → ℕ → Comms
add t c members session =
    record {
      rows = t.rows ++ record { ctx = c; members = members; session = session; serial = t.added + 1; calls = 0; stage = Live } ∷ [];
      added = t.added + 1;
      noted = t.noted;
    }

-- the rows that pass a test, changed
abbrev pub changed : (CommRow → Bool) → (CommRow → CommRow) → Comms → Comms
changed test f t = record { rows = map (λ m. if test m then f m else m) t.rows; added = t.added; noted = t.noted }

abbrev pub at : ℕ → CommRow → Bool
at c m = m.ctx == c

abbrev pub one_call_more : CommRow → CommRow
one_call_more m = record { ctx = m.ctx; members = m.members; session = m.session; serial = m.serial; calls = m.calls + 1; stage = m.stage }

abbrev pub with_stage : CommStage → CommRow → CommRow
with_stage stage m = record { ctx = m.ctx; members = m.members; session = m.session; serial = m.serial; calls = m.calls; stage = stage }

-- a communicator that is in use is freed; one that was freed stays as it is
abbrev pub freed_stage : CommStage → CommStage
freed_stage Live = Freed
freed_stage Freed = Freed
freed_stage Left = Left

abbrev pub freed : CommRow → CommRow
freed m = with_stage (freed_stage m.stage) m

-- one more call of dup or split on the communicator with this context
abbrev pub count_call : Comms → ℕ → Comms
count_call t c = changed (at c) one_call_more t

-- the communicator with this context is freed, each of this session is
abbrev pub mark_free : Comms → ℕ → Comms
mark_free t c = changed (at c) freed t

abbrev pub free_session : Comms → ℕ → Comms
free_session t s = changed (λ m. m.session == s) freed t

-- the rank leaves the communicator with this context
abbrev pub leave : Comms → ℕ → Comms
leave t c = changed (at c) (with_stage Left) t

-- a marker came, for a context that is not known yet too
abbrev pub note_marker : Comms → ℕ → ℕ → Comms
note_marker t c from = record { rows = t.rows; added = t.added; noted = t.noted ++ record { ctx = c; from = from } ∷ [] }

-- the rank has left the communicator with this context, and so has each other member
abbrev pub is_marked_by : Comms → ℕ → ℕ → ℕ → Bool
is_marked_by t rank c member = (member == rank) || is_noted t c member

abbrev pub all_marked_row : Comms → ℕ → Option CommRow → Bool
all_marked_row t rank None = false
all_marked_row t rank (Some m) = is_left m.stage && list_all (is_marked_by t rank m.ctx) m.members

unfoldable pub all_marked : Comms → ℕ → ℕ → Bool
all_marked t rank c = all_marked_row t rank (row_at t c)

-- the communicator with this context is here and freed, and not left
abbrev pub is_freed_row : Option CommRow → Bool
is_freed_row None = false
is_freed_row (Some m) = is_freed m.stage

abbrev pub is_freed_at : Comms → ℕ → Bool
is_freed_at t c = is_freed_row (row_at t c)

-- the communicator with this context and its markers are gone
abbrev pub remove : Comms → ℕ → Comms
remove t c = record { rows = filter (λ m. not (at c m)) t.rows; added = t.added; noted = filter (λ k. not (k.ctx == c)) t.noted }
