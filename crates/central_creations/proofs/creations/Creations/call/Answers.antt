use Rattle.std.proofs.Common.{◌≡◌, ◌<◌, ◌==◌, ◌&&◌, ◌+◌, if◌then◌else◌, List, length, filter, get_or, set, sym, ap, subst, ◌∙◌, arith}
use Rattle.std.proofs.lemmas.List.{get_or_default}
use Rattle.mpi_law.specs.Registry.State.{Caller, Creation, blank_creation}
use Rattle.mpi_law.specs.Registry.Creations.{is_place, with_caller}
use Rattle.central_comms.specs.Places.{places_where}
use Rattle.central_creations.specs.Found.{count_in, newly_counted}
use Rattle.central_creations.specs.Waiting.{is_waiting}
use Rattle.central_creations.proofs.CountFacts.{found_called}
use Rattle.central_creations.proofs.WaitingFacts.{picked_call, set_left}
use Rattle.central_creations.proofs.creations.Creations.call.Goals as goal

pub invariant_of-self-2 : goal.invariant_of-self-2
invariant_of-self-2 c =
    let within : c.args.place < length c.self.inside.rows.items = omega (arith, c.requires, ap (λ (cs : List Creation). length cs) c.self.view_is) in
    let left : c.let_go.new.waiting.items ≡ places_where is_waiting (set c.self.inside.rows.items c.args.place c.call.new.self) =
    set_left (λ k. with_caller k c.args.caller) (picked_call c.args.caller) c.self.inside.rows.items c.self.inside.waiting.items c.let_go.new.waiting.items c.args.place
    c.index_mut.result.now c.call.new.self c.index_mut.result.now within c.index_mut.ensures.value c.in_ok-call.ensures.ok c.self.invariant.places
    (c.let_go.ensures ∙ ap (λ (cs : List Creation). filter (λ p. is_waiting (get_or cs p blank_creation)) c.self.inside.waiting.items) c.deref.ensures.value) in
    let rank : c.caller.inside.rank ≡ c.args.caller.rank = ap (λ (k : Caller). k.rank) c.caller.view_is in
    let same : c.index.result.now ≡ c.index_mut.result.now = c.index.ensures ∙ get_or_default c.self.inside.rows.items c.args.place c.index.result.now c.index_mut.result.now within ∙ sym c.index_mut.ensures.value in
    let parent : c.newly_counted-parent.result ≡ newly_counted c.index_mut.result.now c.args.caller.rank = c.newly_counted-parent.ensures ∙ ap (λ (k : Creation). newly_counted k c.caller.inside.rank) same ∙ ap (λ q. newly_counted c.index_mut.result.now q) rank in
    found_called c.self.inside.rows.items c.self.inside.waiting.items c.let_go.new.waiting.items c.self.inside.calls c.next.new.calls c.raise.new.calls c.self.inside.splits c.self.invariant
    c.args.place c.index_mut.result.now c.call.new.self c.index_mut.result.now within c.index_mut.ensures.value left
    c.args.caller c.in_ok-call.ensures.ok c.next.ensures.same
    (λ p r. subst (λ o. count_in c.raise.new.calls p r ≡ (if is_place p o && (c.args.caller.rank == r) then count_in c.next.new.calls p r + 1 else count_in c.next.new.calls p r)) parent
    (subst (λ q. count_in c.raise.new.calls p r ≡ (if is_place p c.newly_counted-parent.result && (q == r) then count_in c.next.new.calls p r + 1 else count_in c.next.new.calls p r)) rank (c.raise.ensures p r)))
