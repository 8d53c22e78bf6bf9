use Rattle.world_drain.proofs.Ranks.{in_world}
use Rattle.world_drain.proofs.Searched.{step_found}
use Rattle.world_drain.proofs.choices.first_of.Goals as goal

pub returns-in-Some-clause-found : goal.returns-in-Some-clause-found
returns-in-Some-clause-found g c =
    step_found c.args.world.now.world c.args.kind c.loop-rank.rank c.in-Some.act c.requires
    (in_world c.args.world.now.world.ranks c.setting.result.now c.args.world.now.setting c.loop-rank.rank c.setting.ensures.setting c.setting.ensures.ranks c.loop-rank-test.true)
    c.loop-rank.invariant c.in-Some.ensures.found
