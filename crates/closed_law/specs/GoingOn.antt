-- What may come yet, in the registry and in the world. This project's own.
use Rattle.std.specs.Prelude.{◌≡◌, ℕ, ◌<◌, Bool, true, false, Option, Some}
use Rattle.mpi_base.specs.declared.entries.Choice.{Choice}
use Rattle.mpi_base.specs.declared.keys.Key.{Key}
use Rattle.mpi_base.specs.declared.ops.Op.{Op}
use Rattle.mpi_base.specs.declared.replies.Reply.{Reply}
use Rattle.mpi_law.specs.declared.setting.Setting.{Setting}
use Rattle.mpi_law.specs.declared.setting.TheConstants.{THREADS}
use Rattle.mpi_law.specs.ScriptLists.{AllScripts, next_op}
use Rattle.mpi_law.specs.Registry.State.{Registry, thread_of}
use Rattle.mpi_law.specs.Registry.Events.{Calls, Picks, Matches, Backs, Replies}
use Rattle.mpi_law.specs.Registry.Runs.{Allowed}
use Rattle.mpi_protocol.specs.World.{World, may_happen}
use Rattle.mpi_protocol.specs.Order.{is_call}

-- the registry allows a pick, a match, a give-back or a reply, or that a thread calls the next operation of its script
pub data GoesOn (s : Setting) (scripts : AllScripts) (g : Registry) : Type 0 where
  by_pick : (r : ℕ) (key : Key) (pick : Option ℕ) → r < s.ranks → Allowed s g (Picks r key pick) → GoesOn s scripts g
  by_match : (r number from sent : ℕ) → r < s.ranks → Allowed s g (Matches r number from sent) → GoesOn s scripts g
  by_back : (r c dropped : ℕ) → r < s.ranks → Allowed s g (Backs r c dropped) → GoesOn s scripts g
  by_reply : (r t : ℕ) (said : Reply) → r < s.ranks → t < THREADS → Allowed s g (Replies r t said) → GoesOn s scripts g
  by_call : (r t : ℕ) (op : Op) (now : Bool) → r < s.ranks → t < THREADS → Allowed s g (Calls r t op now) → next_op scripts r t (thread_of g r t).calls ≡ Some op → GoesOn s scripts g

-- a rank of the world may do something that is no call
pub record IsUnderWay (w : World) : Type 0 where
  pub choice : Choice
  pub own : is_call choice.act ≡ false
  pub may : may_happen w choice ≡ true
