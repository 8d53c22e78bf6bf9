-- How a creation begins.
use Rattle.std.specs.Prelude.{ℕ}
use Rattle.mpi_base.specs.declared.keys.Key.{Key}
use Rattle.mpi_law.specs.declared.effects.Origin.{Origin}
use Rattle.mpi_law.specs.declared.effects.Origin.TheVariants.{Grouped, Duplicated, Divided, GroupedOn}
use Rattle.agree_law.specs.Offers.{begin}
use Rattle.agree_law.specs.Packets.{Moved}
use Rattle.agree_law.specs.Part.{Agree}
use Rattle.agree_law.specs.Shares.{begin_share}

-- the move of the agreement by which a creation with a key is called: `r` is the rank's number and `top` the greatest context
abbrev pub opening : ℕ → ℕ → Agree → Key → Origin ℕ → Moved
opening r top a key (Grouped group tag) = begin r top a key
opening r top a key (Duplicated c) = begin r top a key
opening r top a key (Divided c share) = begin_share r a key share
opening r top a key (GroupedOn c tag group) = begin r top a key
