use Rattle.std.proofs.Common.{◌<◌, List, length, map, filter, get_or, set, sym, ap, ◌∙◌, arith}
use Rattle.std.proofs.lemmas.List.{length-map}
use Rattle.std.proofs.lemmas.Result.{err_from_is_err_and}
use Rattle.mpi_law.specs.Registry.State.{Communicator, blank_comm}
use Rattle.mpi_law.specs.Registry.Events.{with_returned}
use Rattle.central_comms.specs.declared.rows.CommRow.{CommRow}
use Rattle.central_comms.specs.Places.{places_where}
use Rattle.central_comms.specs.Rows.{row_comm, is_held}
use Rattle.central_comms.proofs.CommFacts.{left_after_return}
use Rattle.central_comms.proofs.RowFacts.{same_row, changed_row}
use Rattle.central_comms.proofs.comms.Comms.give_back.Goals as goal

pub invariant_of-self : goal.invariant_of-self
invariant_of-self c =
    c.self.invariant
    ∙ ap (λ comms. places_where is_held comms) (sym (same_row c.self.inside.rows.items c.args.place c.index_mut.result.now c.give_back.new.self c.index_mut.result.now c.index_mut.ensures.value c.in_err-give_back.ensures.err))

pub returns-in_err-give_back-clause-err : goal.returns-in_err-give_back-clause-err
returns-in_err-give_back-clause-err c =
    let p = err_from_is_err_and c.from_residual.result c.from_residual.ensures.1 in
    rw p.1 (same_row c.self.inside.rows.items c.args.place c.index_mut.result.now c.give_back.new.self c.index_mut.result.now c.index_mut.ensures.value c.in_err-give_back.ensures.err ∙ c.self.view_is)

pub invariant_of-self-2 : goal.invariant_of-self-2
invariant_of-self-2 c =
    let within : c.args.place < length c.self.inside.rows.items = omega (arith, c.requires, ap (λ (comms : List Communicator). length comms) c.self.view_is, length-map c.self.inside.rows.items row_comm) in
    let changed = changed_row c.self.inside.rows.items c.args.place c.index_mut.result.now c.give_back.new.self c.index_mut.result.now c.index_mut.ensures.value within (with_returned c.args.rank) c.in_ok-give_back.ensures.ok in
    left_after_return (map row_comm c.self.inside.rows.items) (map row_comm (set c.self.inside.rows.items c.args.place c.give_back.new.self)) c.self.inside.held.items c.let_go.new.held.items c.args.rank c.args.place
    changed c.self.invariant
    (c.let_go.ensures ∙ ap (λ (rows : List CommRow). filter (λ p. is_held (get_or (map row_comm rows) p blank_comm)) c.self.inside.held.items) c.deref.ensures.value)

pub returns-clause-ok : goal.returns-clause-ok
returns-clause-ok c =
    let within : c.args.place < length c.self.inside.rows.items = omega (arith, c.requires, ap (λ (comms : List Communicator). length comms) c.self.view_is, length-map c.self.inside.rows.items row_comm) in
    changed_row c.self.inside.rows.items c.args.place c.index_mut.result.now c.give_back.new.self c.index_mut.result.now c.index_mut.ensures.value within (with_returned c.args.rank) c.in_ok-give_back.ensures.ok
    ∙ ap (λ comms. set comms c.args.place (with_returned c.args.rank (get_or comms c.args.place blank_comm))) c.self.view_is
