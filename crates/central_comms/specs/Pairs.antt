-- Numbers that are found by two numbers. This project's own.
use Rattle.std.specs.Prelude.{ℕ, ◌==◌, ◌&&◌, Bool, List, Option}
use Rattle.std.specs.Map.{lookup}
use Rattle.central_comms.specs.declared.pairs.Pair.{Pair}

abbrev pub same_pair : Pair → Pair → Bool
same_pair a b = (a.first == b.first) && (a.second == b.second)

abbrev pub found_by : List (Pair × ℕ) → ℕ → ℕ → Option ℕ
found_by rows a b = lookup (same_pair (record { first = a; second = b })) rows
