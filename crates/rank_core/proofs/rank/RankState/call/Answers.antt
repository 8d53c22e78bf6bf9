use Rattle.rank_core.proofs.CallFacts.{makes-call}
use Rattle.rank_core.proofs.rank.RankState.call.Goals as goal

pub returns : goal.returns
returns g c =
    makes-call c.args.self.now c.carry_out-matched.new.self c.args.thread c.args.op c.effect-effect.result c.carry_out-matched.result.0 c.carry_out-matched.result.1 c.entry.result c.carry_out-matched.new.out
    c.effect-effect.ensures.effect c.carry_out-matched.ensures.carried c.carry_out-matched.ensures.few (rw c.nothing.ensures at c.entry.ensures) c.carry_out-matched.ensures.boxed c.carry_out-matched.ensures.spare
