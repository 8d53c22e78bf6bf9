-- The keys of the classes of a split: words of this crate's facts.
use Rattle.std.specs.Prelude.{Bool, true, false}
use Rattle.mpi_base.specs.declared.keys.Kind.{Kind}
use Rattle.mpi_base.specs.declared.keys.Kind.TheVariants.{From, Group, Dup, Split, Share}

-- whether a key of this kind is the creation of a class of a split
abbrev pub is_split : Kind → Bool
is_split From = false
is_split Group = false
is_split Dup = false
is_split Split = true
is_split Share = false
