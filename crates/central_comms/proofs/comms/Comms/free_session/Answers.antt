use Rattle.std.proofs.Common.{◌≡◌, ◌<◌, List, length, map, filter, get_or, sym, ap, subst, ◌∙◌, arith}
use Rattle.std.specs.List.{fold}
use Rattle.std.specs.Vec.{with_items}
use Rattle.std.proofs.lemmas.List.{length-map, with_items_is}
use Rattle.mpi_law.specs.Registry.State.{blank_comm}
use Rattle.mpi_law.specs.Registry.Calls.{freed_all}
use Rattle.central_comms.specs.declared.rows.CommRow.{CommRow}
use Rattle.central_comms.specs.Rows.{row_comm, is_held, with_freed_at}
use Rattle.central_comms.proofs.PlaceFacts.{places_within}
use Rattle.central_comms.proofs.CommFacts.{freed_at_places, left_after_session}
use Rattle.central_comms.proofs.comms.Comms.free_session.Goals as goal

pub make_room-requires : goal.make_room-requires
make_room-requires c = λ k d below.
    let places = c.deref.ensures.value ∙ c.self.invariant in
    let within = places_within is_held (map row_comm c.self.inside.rows.items) k d (subst (λ ps. k < length ps) places below) in
    subst (λ ps. get_or ps k d < length c.deref_mut.result.now) (sym places)
    (omega (arith, within, length-map c.self.inside.rows.items row_comm, ap (λ (rows : List CommRow). length rows) c.deref_mut.ensures.value))

-- the rows, once a rank has freed those of a session
freed_rows : (c : goal.After-let_go) → map row_comm (with_items (with_items c.self.inside.rows c.make_room.new.rows) c.free_kept.new.rows).items ≡ freed_all (map row_comm c.self.inside.rows.items) c.args.rank c.args.session
freed_rows c =
    let roomy : (with_items c.self.inside.rows c.make_room.new.rows).items ≡ c.make_room.new.rows =
    with_items_is c.self.inside.rows c.make_room.new.rows (omega (arith, c.make_room.auto.rows, c.deref_mut.ensures.len)) in
    let kept : (with_items (with_items c.self.inside.rows c.make_room.new.rows) c.free_kept.new.rows).items ≡ c.free_kept.new.rows =
    with_items_is (with_items c.self.inside.rows c.make_room.new.rows) c.free_kept.new.rows (omega (arith, c.free_kept.auto.rows, c.deref_mut-2.ensures.len)) in
    let same = ap (λ (rows : List CommRow). map row_comm rows) (c.deref_mut-2.ensures.value ∙ roomy) ∙ c.make_room.ensures.same ∙ ap (λ (rows : List CommRow). map row_comm rows) c.deref_mut.ensures.value in
    ap (λ (rows : List CommRow). map row_comm rows) kept ∙ c.free_kept.ensures
    ∙ ap (λ comms. fold (with_freed_at c.args.rank c.args.session) comms c.deref-2.result.now) same
    ∙ ap (λ ps. fold (with_freed_at c.args.rank c.args.session) (map row_comm c.self.inside.rows.items) ps) (c.deref-2.ensures.value ∙ c.self.invariant)
    ∙ freed_at_places c.args.rank c.args.session (map row_comm c.self.inside.rows.items)

pub invariant_of-self-2 : goal.invariant_of-self-2
invariant_of-self-2 c =
    left_after_session (map row_comm c.self.inside.rows.items) (map row_comm (with_items (with_items c.self.inside.rows c.make_room.new.rows) c.free_kept.new.rows).items)
    c.self.inside.held.items c.let_go.new.held.items c.args.rank c.args.session (freed_rows c) c.self.invariant
    (c.let_go.ensures ∙ ap (λ (rows : List CommRow). filter (λ p. is_held (get_or (map row_comm rows) p blank_comm)) c.self.inside.held.items) c.deref-3.ensures.value)

pub returns-clause-ok : goal.returns-clause-ok
returns-clause-ok c = freed_rows c ∙ ap (λ comms. freed_all comms c.args.rank c.args.session) c.self.view_is
