use Rattle.std.proofs.Common.{◌≡◌, List, length, sym, ap, ◌∙◌, arith}
use Rattle.mpi_law.specs.Registry.State.{Creation}
use Rattle.mpi_law.specs.Registry.Creations.{place_where, is_pickable}
use Rattle.central_creations.proofs.CountFacts.{split_found}
use Rattle.central_creations.proofs.WaitingFacts.{place_pickable_is}
use Rattle.central_creations.proofs.creations.Creations.place_pickable.Goals as goal

pub returns-then-not-is_split : goal.returns-then-not-is_split
returns-then-not-is_split c = c.place_joinable.ensures ∙ place_pickable_is c.args.name.now (sym c.if-not-is_split.ensures) c.args.self.now

pub returns : goal.returns
returns c =
    let long : c.len.result ≡ length c.self.inside.rows.items = omega (arith, c.len.ensures, c.self.inside.rows.ok) in
    rw (c.first.ensures, long) at c.unwrap_or.ensures
    ∙ split_found c.args.name.now c.self.inside.waiting.items c.self.inside.calls c.self.inside.splits c.self.inside.rows.items (sym c.if-not-is_split.ensures) c.self.invariant
    ∙ ap (λ (cs : List Creation). place_where (is_pickable c.args.name.now) cs) c.self.view_is
