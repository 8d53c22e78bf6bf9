use Rattle.std.proofs.Common.{◌≡◌, None, ap, ◌∙◌, arith}
use Rattle.local_law.specs.Names.{bound_of}
use Rattle.local_law.specs.Objects.{Reserved}
use Rattle.local_law.proofs.Lookups.{bound_of-bind}
use Rattle.bind_tab.proofs.binds.Binds.hold.Goals as goal

pub returns-clause-held : goal.returns-clause-held
returns-clause-held c =
    let absent : bound_of c.args.self.now.rows c.args.name ≡ None = grind (arith, c.find.ensures.value, c.is_some.ensures, c.if-is_some.false) in
    ap (λ rows. bound_of rows c.args.name) c.bind.ensures.rows ∙ bound_of-bind c.args.self.now.rows c.args.name Reserved absent
