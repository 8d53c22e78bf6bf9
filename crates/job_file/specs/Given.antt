-- The members of a table that may be missing.
use Rattle.std.specs.Prelude.{Option, Some, None}
use Rattle.toml.specs.Data.{Members, no_members}

-- those of a table, and none where there is no table
abbrev pub members_or_none : Option Members → Members
members_or_none None = no_members
members_or_none (Some ms) = ms
