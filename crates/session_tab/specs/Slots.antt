-- The slots of the table: each has a serial or nothing.
use Rattle.std.specs.Prelude.{◌≡◌, ℕ, ◌==◌, ◌<◌, ◌≤◌, Bool, false, List, Option, Some, None, option_map, position, get_or}
use Rattle.std.specs.List.{filter_map, range_with_len}
use Rattle.session_tab.specs.declared.ids.SessionId.{SessionId}

-- whether a slot has this serial
abbrev pub holds : ℕ → Option ℕ → Bool
holds serial None = false
holds serial (Some other) = other == serial

-- the id of the session with this serial, if it is in a slot
abbrev pub id_in : List (Option ℕ) → ℕ → Option SessionId
id_in slots serial = option_map (λ slot. record { slot = slot; serial = serial }) (position (holds serial) slots)

-- the ids of those in slots, in the order of their serials from 1 to the count
abbrev pub live_in : List (Option ℕ) → ℕ → List SessionId
live_in slots count = filter_map (id_in slots) (range_with_len 1 count)

-- each serial is from 1 to the count, and in one slot alone
pub record AreSlots (slots : List (Option ℕ)) (count : ℕ) : Type 0 where
  pub each : (slot serial : ℕ) → get_or slots slot None ≡ Some serial → (0 < serial) × (serial ≤ count)
  pub alone : (slot other serial : ℕ) → get_or slots slot None ≡ Some serial → get_or slots other None ≡ Some serial → slot ≡ other
