use Rattle.std.proofs.Common.{◌≡◌, ◌∙◌, true, ap, refl, rules}
use Rattle.agree_law.specs.Shares.{may_settle_share}
use Rattle.mpi_protocol.specs.Moves.{Move}
use Rattle.rank_core.proofs.ActFacts.{sent_by-made}
use Rattle.rank_core.proofs.AgreeFacts.{may-settle-shares, settled-shares}
use Rattle.rank_core.proofs.rank.RankState.settle_shares.Goals as goal

pub settle_share-next-requires : goal.settle_share-next-requires
settle_share-next-requires g c =
    let whole : may_settle_share c.self.inside.agree.rank c.self.inside.agree.part c.args.key.now ≡ true = may-settle-shares _ _ c.args.key.now c.self.view_is c.requires.enabled c.requires.shares in
    search rules

pub returns-clause-state : goal.returns-clause-state
returns-clause-state g c =
    ap (λ (m : Move). m.state)
    (settled-shares _ _ c.args.key.now _ c.settle_share-next.new.self _ _ c.self.view_is refl c.self.invariant.reach refl c.settle_share-next.result c.go_on.new.self c.requires.shares c.settle_share-next.ensures.step
    c.settle_share-next.ensures.opened c.go_on.ensures)

pub returns-clause-sent : goal.returns-clause-sent
returns-clause-sent g c =
    sent_by-made _ _ _ _ _ _ 0 _ _ c.self.view_is c.self.invariant.reach c.out.view_is c.requires.ready c.settle_share-next.ensures.step
    ∙ ap (λ (m : Move). m.sent)
    (settled-shares _ _ c.args.key.now _ c.settle_share-next.new.self _ _ c.self.view_is refl c.self.invariant.reach refl c.settle_share-next.result c.go_on.new.self c.requires.shares c.settle_share-next.ensures.step
    c.settle_share-next.ensures.opened c.go_on.ensures)
