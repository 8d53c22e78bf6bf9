-- Numbers of the error classes.
use Rattle.std.specs.Prelude.{ℕ}
use Rattle.mpi_base.specs.declared.errors.ErrClass.{ErrClass}
use Rattle.mpi_base.specs.declared.errors.ErrClass.TheVariants.{Session, Group, Comm, Rank, Tag, Arg, Request, Truncate, Busy, Exhausted}

abbrev pub number_of : ErrClass → ℕ
number_of Session = 1
number_of Group = 2
number_of Comm = 3
number_of Rank = 4
number_of Tag = 5
number_of Arg = 6
number_of Request = 7
number_of Truncate = 8
number_of Busy = 9
number_of Exhausted = 10
