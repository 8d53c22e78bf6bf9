use Rattle.std.proofs.Common.{sym, ap}
use Rattle.token_text.specs.Steps.{Ahead, first_of}
use Rattle.token_text.proofs.Cuts.{last_part, marked_part, behind}
use Rattle.token_text.proofs.parts.Parts.next.Goals as goal

pub returns-in-None-clause-part : goal.returns-in-None-clause-part
returns-in-None-clause-part c =
    sym (ap (λ (a : Ahead). first_of a.parts) (last_part c.self.inside.mark c.self.inside.rest c.in_ok-rest.rest _ c.self.view_is c.in_ok-rest.was (sym c.in-None.ensures.value)))

pub returns-in-None-clause-rest : goal.returns-in-None-clause-rest
returns-in-None-clause-rest c =
    sym (ap behind (last_part c.self.inside.mark c.self.inside.rest c.in_ok-rest.rest _ c.self.view_is c.in_ok-rest.was (sym c.in-None.ensures.value)))

pub returns-in-Some-clause-part : goal.returns-in-Some-clause-part
returns-in-Some-clause-part c =
    let e = marked_part c.self.inside.mark c.in-Some.place c.self.inside.rest c.in_ok-rest.rest _ c.self.view_is c.in_ok-rest.was (sym c.in-Some.ensures.value) c.in-Some.ensures.bound in
    rw c.split_at.ensures.front (sym (ap (λ (a : Ahead). first_of a.parts) e))

pub returns-in-Some-clause-rest : goal.returns-in-Some-clause-rest
returns-in-Some-clause-rest c =
    let e = marked_part c.self.inside.mark c.in-Some.place c.self.inside.rest c.in_ok-rest.rest _ c.self.view_is c.in_ok-rest.was (sym c.in-Some.ensures.value) c.in-Some.ensures.bound in
    rw (c.split_at-in-Some.ensures.back, c.split_at.ensures.back) (sym (ap behind e))
