use Rattle.std.proofs.Common.{sym, ap, ◌∙◌, arith}
use Rattle.mpi_law.specs.Registry.Contexts.{in_use}
use Rattle.central_comms.proofs.CommFacts.{none_below}
use Rattle.central_registry.proofs.Members.{one_passes, one_more_fails}
use Rattle.central_registry.specs.Held.{TablesHeld}
use Rattle.central_registry.proofs.tables.Tables.is_taken.Goals as goal
use Rattle.central_registry.proofs.tables.Tables.is_taken.Goals.{in-Some+else-is_in_use, in_default}

pub returns-then-is_in_use : goal.returns-then-is_in_use
returns-then-is_in_use c =
    let here = ap (λ (t : TablesHeld). in_use t.state.comms c.in-Some.member c.args.ctx) c.self.view_is in
    sym (one_passes (λ m. in_use c.args.self.now.state.comms m c.args.ctx) c.args.key.now.members c.loop-place.place c.in-Some.member c.in-Some.ensures (sym (c.if-is_in_use.ensures ∙ here)))

pub loop-place-preserved : goal.loop-place-preserved
loop-place-preserved c = elim c.match-get.branch [
  | in-Some+else-is_in_use w ↦
      let here = ap (λ (t : TablesHeld). in_use t.state.comms w.in-Some.member c.args.ctx) c.self.view_is in
      one_more_fails (λ m. in_use c.args.self.now.state.comms m c.args.ctx) c.args.key.now.members c.loop-place.place w.in-Some.member w.in-Some.ensures (sym (w.if-is_in_use.ensures ∙ here)) c.loop-place.invariant
  | in_default w ↦ absurd (omega (arith, none_below c.args.key.now.members c.loop-place.place w.in_default.ensures, c.loop-place-test.true, c.len-place-end.ensures.value))
]
