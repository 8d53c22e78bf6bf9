use Rattle.std.proofs.Common.{sym, ◌∙◌, ap, List, ℕ, arith}
use Rattle.std.specs.List.{list_all}
use Rattle.mpi_law.specs.Closed.{is_back_or_held}
use Rattle.central_comms.proofs.CommFacts.{one_fails, one_more_passes, none_below}
use Rattle.central_registry.proofs.tables.Tables.is_settled.Goals as goal
use Rattle.central_registry.proofs.tables.Tables.is_settled.Goals.{in-Some+else-not-is_back_or_held, in_default}

pub returns-then-not-is_back_or_held : goal.returns-then-not-is_back_or_held
returns-then-not-is_back_or_held c =
    let test = is_back_or_held c.args.self.now.state c.args.comm in
    sym (ap (λ (ms : List ℕ). list_all test ms) (sym c.members-members.ensures)
    ∙ one_fails test c.members-members.result c.loop-place.place c.in-Some.member c.in-Some.ensures (sym c.if-not-is_back_or_held.ensures))

pub loop-place-preserved : goal.loop-place-preserved
loop-place-preserved c = elim c.match-get.branch [
  | in-Some+else-not-is_back_or_held w ↦
      one_more_passes (is_back_or_held c.args.self.now.state c.args.comm) c.members-members.result c.loop-place.place w.in-Some.member w.in-Some.ensures (sym w.if-not-is_back_or_held.ensures) c.loop-place.invariant
  | in_default w ↦ absurd (omega (arith, none_below c.members-members.result c.loop-place.place w.in_default.ensures, c.loop-place-test.true, c.len-place-end.ensures.value))
]
