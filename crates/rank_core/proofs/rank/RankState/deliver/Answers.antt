use Rattle.rank_core.specs.Packets.{packet_of}
use Rattle.rank_core.proofs.DeliverFacts.{makes-deliver}
use Rattle.rank_core.proofs.rank.RankState.deliver.Goals as goal

pub returns : goal.returns
returns g c =
    makes-deliver c.args.self.now c.take-matched.new.self c.args.from (packet_of c.args.self.now.state.setting.contexts c.args.packet) c.brief-brief.result c.take-matched.result c.entry.result _ c.take-matched.ensures.state c.take-matched.ensures.matched
    (c.brief-brief.ensures _) (rw c.nothing.ensures at c.entry.ensures) c.take-matched.ensures.sent c.take-matched.ensures.few c.take-matched.ensures.boxed c.take-matched.ensures.spare
