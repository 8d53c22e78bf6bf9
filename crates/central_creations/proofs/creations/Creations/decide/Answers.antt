use Rattle.std.proofs.Common.{◌≡◌, ◌<◌, List, length, filter, get_or, set, ap, ◌∙◌, arith}
use Rattle.mpi_law.specs.Registry.State.{Creation, blank_creation}
use Rattle.mpi_law.specs.Registry.Creations.{with_pick}
use Rattle.central_comms.specs.Places.{places_where}
use Rattle.central_creations.specs.Outcomes.{outcome_seen}
use Rattle.central_creations.specs.Waiting.{is_waiting}
use Rattle.central_creations.proofs.CountFacts.{found_set}
use Rattle.central_creations.proofs.WaitingFacts.{picked_pick, set_left}
use Rattle.central_creations.proofs.creations.Creations.decide.Goals as goal

pub invariant_of-self-then-place-len : goal.invariant_of-self-then-place-len
invariant_of-self-then-place-len c =
    let within : c.args.place < length c.self.inside.rows.items = omega (arith, c.if-place-len.true, c.len.ensures, c.self.inside.rows.ok) in
    let left : c.let_go.new.waiting.items ≡ places_where is_waiting (set c.self.inside.rows.items c.args.place c.pick.new.self) =
    set_left (λ k. with_pick k (record { members = c.args.members; outcome = outcome_seen c.args.outcome })) (picked_pick (record { members = c.args.members; outcome = outcome_seen c.args.outcome })) c.self.inside.rows.items c.self.inside.waiting.items c.let_go.new.waiting.items c.args.place
    c.index_mut.result.now c.pick.new.self c.index_mut.result.now within c.index_mut.ensures.value c.in_ok-pick.ensures.ok c.self.invariant.places
    (c.let_go.ensures ∙ ap (λ (cs : List Creation). filter (λ p. is_waiting (get_or cs p blank_creation)) c.self.inside.waiting.items) c.deref.ensures.value) in
    found_set c.self.inside.rows.items c.self.inside.waiting.items c.let_go.new.waiting.items c.self.inside.calls c.self.inside.calls c.self.inside.calls c.self.inside.splits c.self.invariant
    c.args.place c.index_mut.result.now c.pick.new.self c.index_mut.result.now within c.index_mut.ensures.value left
    (ap (λ (k : Creation). k.name) c.in_ok-pick.ensures.ok) (ap (λ (k : Creation). k.callers) c.in_ok-pick.ensures.ok)
