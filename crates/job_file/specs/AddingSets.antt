-- Process sets to which those of a table were added.
use Rattle.std.specs.Prelude.{◌≡◌, ℕ, List, [], ◌++◌}
use Rattle.pset_reg.specs.Sets.{ProcessSets}
use Rattle.toml.specs.Data.{Data, Members}
use Rattle.job_file.specs.ConfiguredSets.{ranks_in, set_in_front, sets_in}

-- a set was added at the end, if the value lists ranks
abbrev pub AddsSet : List ℕ → Data → ProcessSets → ProcessSets → Type 0
AddsSet k d old new = new ≡ record { ranks = old.ranks; sets = old.sets ++ set_in_front k (ranks_in old.ranks d) [] }

-- the sets of a table were added at the end
abbrev pub AddsSets : Members → ProcessSets → ProcessSets → Type 0
AddsSets ms old new = new ≡ record { ranks = old.ranks; sets = old.sets ++ sets_in old.ranks ms }
