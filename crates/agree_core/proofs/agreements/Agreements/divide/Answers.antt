use Rattle.std.proofs.Common.{refl, rules}
use Rattle.std.proofs.lemmas.Int.{to_z-of_z}
use mir.Syntax.{w32}
use mir.Val.{SFits}
use Rattle.agree_core.proofs.ShareMoves.{made-divide-none, made-divide-some}
use Rattle.agree_core.proofs.agreements.Agreements.divide.Goals as goal

pub returns-in_default-clause-step : goal.returns-in_default-clause-step
returns-in_default-clause-step g c =
    rw c.in_default.is (made-divide-none _ _ _ c.args.key.now c.args.list.now _ c.self.view_is refl refl (rw c.close_creation.ensures.rows refl))

pub returns-clause-step : goal.returns-clause-step
returns-clause-step g c =
    let fits : SFits w32 c.in-Some.colour = search rules in
    let same = to_z-of_z w32 c.in-Some.colour fits in
    rw c.in-Some.is
    (made-divide-some _ _ _ _ c.args.key.now c.in-Some.colour c.args.list.now c.split_key-class.result _ _ c.self.view_is refl refl (rw c.close_creation.ensures.rows refl) (rw same at c.split_key-class.ensures)
    c.open.ensures.step)
