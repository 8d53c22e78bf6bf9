use Rattle.std.proofs.Common.{arith, refl}
use Rattle.rank_core.proofs.AgreeFacts.{makes-offer}
use Rattle.rank_core.proofs.rank.RankState.offer.Goals as goal

pub returns : goal.returns
returns g c =
    makes-offer _ _ _ c.args.key _ c.offer-own.new.self c.offer-own.result c.entry.result _ _ c.offer-own.new.out.items _ c.self.view_is c.out.view_is c.requires.ready refl c.self.invariant.reach refl
    c.offer-own.ensures.step c.offer-own.ensures.few c.offer-own.ensures.own (rw (c.nothing.ensures, c.said_of_offer.ensures, c.offer-own.ensures.step.becomes.rank) at c.entry.ensures) refl refl (omega (arith, c.offer-own.ensures.spare))
