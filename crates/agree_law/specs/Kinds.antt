-- The two kinds of key by which a communicator is split: the exchange of shares, and then the creation of each class.
use Rattle.std.specs.Prelude.{Bool, true, false}
use Rattle.mpi_base.specs.declared.keys.Kind.{Kind}
use Rattle.mpi_base.specs.declared.keys.Kind.TheVariants.{From, Group, Dup, Split, Share}

-- whether a key of this kind is an exchange of shares, and agrees on no context
abbrev pub is_share : Kind → Bool
is_share From = false
is_share Group = false
is_share Dup = false
is_share Split = false
is_share Share = true
