use Rattle.std.proofs.Common.{◌≡◌, ℕ, ◌<◌, ◌≤◌, length, map, get_or, vec_capacity}
use Rattle.std.specs.List.{range_with_len}
use Rattle.mpi_protocol.specs.Rank.{fresh}
use Rattle.rank_core.specs.Held.{Held as RankHeld}
use Rattle.world_core.specs.Held.{IsRankOf}
use Rattle.world_core.proofs.world.World.start.Given as goal

abbrev pub invariant-loop-rank : goal.invariant-loop-rank
invariant-loop-rank g l = record {
  size : length l.ranks.items ≡ l.rank;
  room : l.setting.ranks ≤ vec_capacity l.ranks;
  states : map (λ (x : RankHeld). x.state) l.ranks.items ≡ map (fresh l.setting) (range_with_len 0 l.rank);
  each : (r : ℕ) (x : RankHeld) → r < l.rank → IsRankOf l.setting r 0 (get_or l.ranks.items r x);
}
