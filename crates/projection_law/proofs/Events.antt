-- A choice against its event: both may happen, and the worlds belong together after them.
use Rattle.std.proofs.Common.{ℕ, Bool}
use Rattle.mpi_base.specs.declared.keys.Kind.TheVariants as kind
use Rattle.mpi_base.specs.declared.entries.Act.{Act}
use Rattle.mpi_law.specs.declared.effects.Origin.{Origin}
use Rattle.mpi_law.specs.declared.effects.Origin.TheVariants.{Grouped, Duplicated, Divided, GroupedOn}
use Rattle.agree_law.specs.World as agreement
use Rattle.agree_law.specs.World.{Event, may_begin, may_begin_share, run}
use Rattle.mpi_protocol.specs.Rank.{Rank}
use Rattle.mpi_protocol.specs.Calls.{key_from, key_on, key_under}
use Rattle.mpi_protocol.specs.World.{World, moved}
use Rattle.projection_law.specs.Facts.{EachMayHappen}
use Rattle.projection_law.specs.Events.{events_at}
use Rattle.projection_law.proofs.Projected.{Projects}

-- the events may happen in the agreement's world, and the worlds belong together after them
pub record Mirrors (top : ℕ) (w : World) (a : agreement.World) (r : ℕ) (act : Act) : Type 0 where
  pub may : EachMayHappen top a (events_at w r act)
  pub projects : Projects (moved w (record { rank = r; act = act })) (run top (events_at w r act) a)

-- a rank may open a creation in the agreement
abbrev pub may_open : ℕ → Rank → Origin ℕ → Bool
may_open n x (Grouped group tag) = may_begin n x.rank x.agree (key_from group tag)
may_open n x (Duplicated c) = may_begin n x.rank x.agree (key_on x.comms c kind.Dup)
may_open n x (Divided c share) = may_begin_share n x.rank x.agree (key_on x.comms c kind.Share)
may_open n x (GroupedOn c tag group) = may_begin n x.rank x.agree (key_under c tag group)
