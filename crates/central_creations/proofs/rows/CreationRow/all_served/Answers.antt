use Rattle.std.proofs.Common.{List, ℕ, slice_get, sym, ap, ◌∙◌, arith}
use Rattle.mpi_law.specs.Registry.State.{Creation}
use Rattle.mpi_law.specs.Closed.{is_served}
use Rattle.central_creations.proofs.ListFacts.{one_fails, one_more_passes, none_below}
use Rattle.central_creations.proofs.rows.CreationRow.all_served.Goals as goal
use Rattle.central_creations.proofs.rows.CreationRow.all_served.Goals.{in-Some+else-not-is_served, in_default}

pub returns-then-not-is_served : goal.returns-then-not-is_served
returns-then-not-is_served c =
    let same = ap (λ (k : Creation). k.group) c.self.view_is in
    sym (one_fails (is_served c.args.self.now) c.args.self.now.group c.loop-place.place c.in-Some.member (c.in-Some.ensures ∙ ap (λ (g : List ℕ). slice_get g c.loop-place.place) same) (sym c.if-not-is_served.ensures))

pub loop-place-preserved : goal.loop-place-preserved
loop-place-preserved c =
    let same = ap (λ (k : Creation). k.group) c.self.view_is in
    elim c.match-get.branch [
      | in-Some+else-not-is_served w ↦
          one_more_passes (is_served c.args.self.now) c.args.self.now.group c.loop-place.place w.in-Some.member (w.in-Some.ensures ∙ ap (λ (g : List ℕ). slice_get g c.loop-place.place) same) (sym w.if-not-is_served.ensures) c.loop-place.invariant
      | in_default w ↦ absurd (omega (arith, none_below c.self.inside.group c.loop-place.place w.in_default.ensures, c.loop-place-test.true, c.len-place-end.ensures.value))
    ]
