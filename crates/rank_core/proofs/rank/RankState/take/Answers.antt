use Rattle.std.proofs.Common.{◌∙◌, refl}
use Rattle.rank_core.proofs.ActFacts.{sent_by-nothing}
use Rattle.rank_core.proofs.DeliverFacts.{agreeing-matched, marker-quiet, message-sent}
use Rattle.rank_core.proofs.rank.RankState.take.Goals as goal

pub returns-in-Agreeing-clause-matched : goal.returns-in-Agreeing-clause-matched
returns-in-Agreeing-clause-matched g c = rw c.in-Agreeing.is (agreeing-matched c.args.self.now.state c.args.from _)

pub returns-in-Message-clause-sent : goal.returns-in-Message-clause-sent
returns-in-Message-clause-sent g c = sent_by-nothing _ _ c.args.out.now 0 refl c.requires.ready ∙ rw c.in-Message.is (message-sent c.args.self.now.state c.args.from c.in-Message.msg)

pub returns-in-Marker-clause-matched : goal.returns-in-Marker-clause-matched
returns-in-Marker-clause-matched g c = rw c.in-Marker.is (marker-quiet c.args.self.now.state c.args.from c.in-Marker.ctx).0

pub returns-in-Marker-clause-sent : goal.returns-in-Marker-clause-sent
returns-in-Marker-clause-sent g c = sent_by-nothing _ _ c.args.out.now 0 refl c.requires.ready ∙ rw c.in-Marker.is (marker-quiet c.args.self.now.state c.args.from c.in-Marker.ctx).1
