use Rattle.std.proofs.Common.{◌++◌, List, map, option_map, refl, ap, ◌∙◌}
use Rattle.std.specs.Option.{option_to_list}
use Rattle.mpi_law.specs.Registry.State.{Communicator, blank_comm}
use Rattle.central_comms.specs.declared.rows.CommRow.{CommRow}
use Rattle.central_comms.specs.Places.{places_where}
use Rattle.central_comms.specs.Rows.{row_comm, is_held}
use Rattle.central_comms.proofs.PlaceFacts.{places_left, places_popped}
use Rattle.central_comms.proofs.RowFacts.{comms_popped}
use Rattle.central_comms.proofs.comms.Comms.drop_last.Goals as goal

pub invariant_of-self : goal.invariant_of-self
invariant_of-self c =
    let kept = map row_comm c.pop.new.self.items in
    let last = option_map row_comm c.pop.result in
    places_left blank_comm is_held (kept ++ option_to_list last) kept (map row_comm c.deref.result.now) c.self.inside.held.items c.let_go.new.held.items
    (c.self.invariant ∙ ap (λ (rows : List CommRow). places_where is_held (map row_comm rows)) c.pop.ensures.items ∙ ap (λ (comms : List Communicator). places_where is_held comms) (comms_popped c.pop.new.self.items c.pop.result))
    (ap (λ (rows : List CommRow). map row_comm rows) c.deref.ensures.value) c.let_go.ensures
    (places_popped blank_comm is_held refl kept last)
