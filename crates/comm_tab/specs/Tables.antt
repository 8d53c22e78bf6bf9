-- The table of a rank's communicators, as contracts see it.
use Rattle.std.specs.Prelude.{◌≡◌, ℕ, ◌&&◌, Bool, true, List, [], ◌∷◌, nat_lt, nat_le}
use Rattle.comm_law.specs.declared.rows.CommRow.{CommRow}
use Rattle.comm_law.specs.Comms.{Comms}

-- the communicators and markers, the rank that they are of, and for how many communicators and markers there is room
pub record Table : Type 0 where
  pub comms : Comms
  pub rank : ℕ
  pub spare : ℕ

-- the serials rise: each is above the one before it, the first above a number, and none is above another number
abbrev pub rise : ℕ → ℕ → List CommRow → Bool
rise below top [] = true
rise below top (m ∷ ms) = nat_lt below m.serial && (nat_le m.serial top && rise m.serial top ms)

-- the serials differ, and are from 1 to the number of communicators so far; two may have one context
pub record IsOrderly (t : Comms) : Type 0 where
  pub given : rise 0 t.added t.rows ≡ true
