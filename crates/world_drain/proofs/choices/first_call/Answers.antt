use Rattle.std.proofs.Common.{subst, ℕ, sym, ◌∙◌}
use Rattle.mpi_protocol.specs.Rank.{thread_at}
use Rattle.mpi_protocol.specs.World.{rank_at}
use Rattle.world_drain.proofs.Ranks.{in_world, all_ranks, script_op}
use Rattle.world_drain.proofs.Searched.{NoneCalls, call_found, no_call}
use Rattle.world_drain.proofs.choices.first_call.Goals as goal

pub returns-in-Some-clause-found : goal.returns-in-Some-clause-found
returns-in-Some-clause-found g c =
    call_found c.args.world.now.world c.args.scripts.now c.loop-rank.rank c.loop-thread.thread c.copy.result
    (in_world c.args.world.now.world.ranks c.setting.result.now c.args.world.now.setting c.loop-rank.rank c.setting.ensures.setting c.setting.ensures.ranks c.loop-rank-test.true)
    c.loop-thread-test.true c.loop-rank.invariant c.loop-thread.invariant (sym c.idle.ensures ∙ c.if-idle.true)
    (script_op c.args.scripts.now c.loop-rank.rank c.loop-thread.thread c.calls.result (thread_at (rank_at c.args.world.now.world c.loop-rank.rank) c.loop-thread.thread).calls c.in-Some.op.now c.copy.result
    c.in-Some.ensures c.calls.ensures c.copy.ensures.same)

pub returns-clause-none : goal.returns-clause-none
returns-clause-none g c =
    no_call c.args.world.now.world c.args.scripts.now
    (subst (λ (n : ℕ). NoneCalls c.args.world.now.world c.args.scripts.now n)
    (all_ranks c.args.world.now.world.ranks c.setting.result.now c.args.world.now.setting c.loop-rank.rank c.setting.ensures.setting c.setting.ensures.ranks c.loop-rank-test.false c.loop-rank.auto.rank-end) c.loop-rank.invariant)
