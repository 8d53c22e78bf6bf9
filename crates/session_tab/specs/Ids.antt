-- The sessions of a rank, as contracts see them.
use Rattle.std.specs.Prelude.{◌≡◌, ℕ, ◌==◌, ◌&&◌, Bool, true, List, map, nat_lt, nat_le}
use Rattle.std.specs.List.{list_any, list_all}
use Rattle.std.specs.List.Sorted.{IsStrictlyIncreasing}
use Rattle.session_tab.specs.declared.ids.SessionId.{SessionId}

-- the live sessions in the order in which they were given, how many were given in all, and for how many there is room
pub record Table : Type 0 where
  pub live : List SessionId
  pub count : ℕ
  pub spare : ℕ

-- whether two ids are the same
abbrev pub same_id : SessionId → SessionId → Bool
same_id a b = (a.slot == b.slot) && (a.serial == b.serial)

-- whether an id is in a list
abbrev pub has_id : List SessionId → SessionId → Bool
has_id ids id = list_any (same_id id) ids

-- the serials rise, so they differ, and each is from 1 to the count
pub record AreGiven (live : List SessionId) (count : ℕ) : Type 0 where
  pub rising : IsStrictlyIncreasing (map (λ id. id.serial) live)
  pub each : list_all (λ id. nat_lt 0 id.serial && nat_le id.serial count) live ≡ true
