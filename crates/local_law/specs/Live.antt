-- Whether a session is live: a word of the tables of code.
use Rattle.std.specs.Prelude.{Bool}
use Rattle.std.specs.List.{list_any}
use Rattle.local_law.specs.Objects.{Objects}

-- whether a session that passes a test is live
abbrev pub is_live : {S C : Type 0} → Objects S C → (S → Bool) → Bool
is_live o test = list_any test o.live
