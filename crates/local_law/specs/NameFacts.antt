-- What is said of rows of names in facts of them.
use Rattle.std.specs.Prelude.{Bool, if◌then◌else◌, map, Option, Some, None, bytes_eq}
use Rattle.std.specs.List.{IsDistinct}
use Rattle.local_law.specs.Names.{Rows}

-- what is left of this without what passes a test
abbrev pub left_of : {B : Type 0} → (B → Bool) → Option B → Option B
left_of test None = None
left_of test (Some bound) = if test bound then None else Some bound

-- no two rows have the same name
abbrev pub AreDistinct : {B : Type 0} → Rows B → Type 0
AreDistinct rows = IsDistinct bytes_eq (map (λ r. r.0) rows)
