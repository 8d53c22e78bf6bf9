-- What sources and sinks in memory count, and when a sink is full.
use Rattle.std.specs.Prelude.{ℕ, ◌+◌, ◌-◌, ◌^◌, ◌==◌, min, Bool, List, ◌&&◌, nat_lt, length}
use Rattle.std.specs.List.{list_any}

-- the count after this one
abbrev pub next_count : ℕ → ℕ
next_count count = min (count + 1) (2 ^ 64 - 1)

-- whether the call with this number is among those that fail
abbrev pub names_call : List ℕ → ℕ → Bool
names_call fails number = list_any (λ named. named == number) fails

-- whether a sink with so much room can take nothing of the piece, which is not empty
abbrev pub lacks_room : ℕ → List ℕ → Bool
lacks_room room piece = (room == 0) && nat_lt 0 (length piece)
