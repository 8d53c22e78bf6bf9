use Rattle.rank_core.proofs.AgreeFacts.{makes-settle}
use Rattle.rank_core.proofs.rank.RankState.settle.Goals as goal

pub returns : goal.returns
returns g c =
    makes-settle c.args.self.now c.settle_either-said.new.self c.args.key c.settle_either-said.result c.entry.result _ c.settle_either-said.ensures.state c.settle_either-said.ensures.said
    (rw c.nothing.ensures at c.entry.ensures) c.settle_either-said.ensures.sent c.settle_either-said.ensures.few c.settle_either-said.ensures.boxed c.settle_either-said.ensures.spare
