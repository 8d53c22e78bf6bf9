-- What an entry needs, as tests that compute. That a reply is owed stays an equation.
use Rattle.std.specs.Prelude.{ℕ, ◌&&◌, not, Bool, true, nat_lt, nat_le, Option, Some, None}
use Rattle.std.specs.List.{list_all, range_with_len}
use Rattle.mpi_base.specs.declared.keys.Key.{Key}
use Rattle.mpi_base.specs.declared.messages.Matched.{Matched}
use Rattle.mpi_base.specs.declared.ops.Op.{Op}
use Rattle.mpi_base.specs.declared.entries.Said.{Said}
use Rattle.mpi_base.specs.declared.entries.Said.TheVariants as said
use Rattle.mpi_law.specs.declared.setting.Setting.{Setting}
use Rattle.mpi_law.specs.declared.setting.TheConstants.{THREADS}
use Rattle.mpi_law.specs.Registry.State.{Registry, thread_of, is_idle_wait}
use Rattle.mpi_law.specs.Registry.Contexts.{comm_of}
use Rattle.mpi_law.specs.Registry.Messages.{receive_of, message_of}
use Rattle.mpi_law.specs.Registry.Tests.{can_take, can_pick, is_taken, can_return}
use Rattle.mpi_law.specs.Registry.Calls.{effect_at}
use Rattle.central_law.specs.Within.{posted_state}

-- a match
abbrev pub match_test : Registry → ℕ → Option Matched → Bool
match_test g r None = true
match_test g r (Some m) = can_take g (receive_of g r m.receive) (message_of g m.from m.number)

-- a pick
abbrev pub pick_test : Setting → Registry → ℕ → Key → Option Said → Bool
pick_test s g r key None = true
pick_test s g r key (Some said.Own) = true
pick_test s g r key (Some said.Zero) = true
pick_test s g r key (Some said.Ready) = true
pick_test s g r key (Some said.Retry) = true
pick_test s g r key (Some (said.Picked c)) = can_pick g r key && (nat_le 1 c && (nat_le c s.contexts && not (is_taken g key c)))
pick_test s g r key (Some said.Exhausted) = can_pick g r key && list_all (is_taken g key) (range_with_len 1 s.contexts)
pick_test s g r key (Some said.Shared) = true

-- a give-back
abbrev pub back_test : Registry → ℕ → ℕ → Option ℕ → Bool
back_test g r c None = true
back_test g r c (Some dropped) = can_return g r dropped (comm_of g.comms r c)

-- a call, but for its reply
abbrev pub call_test : Setting → Registry → ℕ → ℕ → Op → Option Matched → Bool
call_test s g r t op matched =
    nat_lt r s.ranks && (nat_lt t THREADS && (is_idle_wait (thread_of g r t).wait && match_test (posted_state g r (effect_at s g r op)) r matched))
