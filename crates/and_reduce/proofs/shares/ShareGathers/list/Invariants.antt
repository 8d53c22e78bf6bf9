use Rattle.std.proofs.Common.{◌≡◌, ◌≤◌, length}
use Rattle.std.specs.List.{range_with_len}
use Rattle.agree_law.specs.Shares.{shares_at}
use Rattle.and_reduce.proofs.shares.ShareGathers.list.Given as goal

abbrev pub invariant-loop-place : goal.invariant-loop-place
invariant-loop-place l = (l.list ≡ shares_at l.self.rows l.key (range_with_len 0 l.place)) × (length l.list ≤ l.place)
