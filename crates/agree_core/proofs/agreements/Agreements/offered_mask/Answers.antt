use Rattle.std.proofs.Common.{◌≡◌, ◌+◌, subst, if◌then◌else◌}
use Rattle.ctx_mask.specs.Masks.{none_of}
use Rattle.and_reduce.specs.Fronts.{front}
use Rattle.and_reduce.proofs.FrontFacts.{front-none_of}
use Rattle.agree_core.specs.Held.{Held}
use Rattle.agree_core.proofs.agreements.Agreements.offered_mask.Goals as goal

pub returns : goal.returns
returns g c =
    let top = c.self.inside.gathers.top in
    subst (λ (h : Held). front h.top c.none.result ≡ (if c.args.own then h.part.mask else none_of (h.top + 1))) c.self.view_is
    (rw (c.if-own.false, c.none.ensures.value) (front-none_of top _ c.self.invariant.places.wide))
