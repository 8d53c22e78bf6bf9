-- What is asked of the agreement, each of one step, in the words of the ranks and of what is due.
use Rattle.std.proofs.Common.{◌≡◌, ◌<◌, ℕ, List, length, slice_get, Option, Some}
use Rattle.mpi_base.specs.declared.keys.Key.{Key}
use Rattle.mpi_base.specs.declared.shares.Shared1.{Shared1}
use Rattle.agree_law.specs.declared.rows.Stage.TheVariants.{Sharing}
use Rattle.agree_law.specs.Tree.{member_at}
use Rattle.agree_law.specs.Part.{stage_of}
use Rattle.mpi_protocol.specs.Rank.{Rank}
use Rattle.run_law.proofs.Joined.{rank_in}

-- at a settle of an exchange, the list has for each member the share that the member has told and waits with
pub record TellsShare (x : Rank) (key : Key) (item : Option Shared1) : Type 0 where
  pub share : Shared1
  pub stage : stage_of x.agree.opened key ≡ Some (Sharing share)
  pub item_is : item ≡ Some share

pub record AllTold (ranks : List Rank) (key : Key) (list : List Shared1) : Type 0 where
  pub long : length list ≡ length key.members
  pub each : (p : ℕ) → p < length key.members → TellsShare (rank_in ranks (member_at key.members p)) key (slice_get list p)
