-- The objects of a rank, as contracts see them.
use Rattle.std.specs.Prelude.{ℕ, List, map}
use Rattle.session_tab.specs.declared.ids.SessionId.{SessionId}
use Rattle.local_law.specs.Names.{Rows}
use Rattle.local_law.specs.Objects.{Bound, Objects}

-- the names and the sessions of a rank, and for how many names and sessions more there is room
pub record Held : Type 0 where
  pub local : Objects ℕ ℕ
  pub spare : ℕ

-- the serials of sessions
abbrev pub serials : List SessionId → List ℕ
serials live = map (λ id. id.serial) live

-- the same with other names
abbrev pub with_names : Objects ℕ ℕ → Rows (Bound ℕ ℕ) → Objects ℕ ℕ
with_names l names = record { names = names; live = l.live; opened = l.opened }
