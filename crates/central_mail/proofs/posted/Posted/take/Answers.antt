use Rattle.std.proofs.Common.{◌≡◌, ◌-◌, length, map, sym, ap, ◌∙◌}
use Rattle.std.specs.Vec.{with_items}
use borrow.Rule.Slice.PartMut.{put_mid}
use Rattle.central_comms.specs.Places.{places_where}
use Rattle.mpi_law.specs.Registry.Messages.{is_receive, is_waiting}
use Rattle.central_mail.specs.Rows.{blank_receive, taking_if}
use Rattle.central_comms.proofs.PlaceFacts.{places_left}
use Rattle.central_mail.proofs.Indexed.{indexed_changed, map_unplaced, rows_changed}
use Rattle.central_mail.proofs.Kept.{waiting_once_taken, taken_numbers, not_taking}
use Rattle.central_mail.proofs.posted.Posted.take.Goals as goal

changed_rows : (c : goal.After-let_go) → (with_items c.self.inside.rows (put_mid c.in-Some.place (length c.deref_mut.result.now - c.in-Some.place) c.deref_mut.result.now c.take_all.new.rows)).items ≡ map (taking_if c.args.rank c.args.number c.args.message.now) c.self.inside.rows.items
changed_rows c =
    rows_changed (is_receive c.args.rank c.args.number) (taking_if c.args.rank c.args.number c.args.message.now) (not_taking c.args.rank c.args.number c.args.message.now) c.self.inside.rows c.deref_mut.result.now c.take_all.new.rows c.in-Some.place
    c.deref_mut.ensures.value c.deref_mut.ensures.len (sym (c.self.invariant.first c.args.rank c.args.number) ∙ sym c.get.ensures ∙ c.in-Some.is) c.take_all.ensures

pub invariant_of-self : goal.invariant_of-self
invariant_of-self c =
    indexed_changed is_waiting is_receive c.self.inside.waiting.items c.let_go.new.waiting.items c.self.inside.places c.self.inside.places c.self.inside.rows.items
    (with_items c.self.inside.rows (put_mid c.in-Some.place (length c.deref_mut.result.now - c.in-Some.place) c.deref_mut.result.now c.take_all.new.rows)).items
    c.self.invariant (taking_if c.args.rank c.args.number c.args.message.now) (λ a b m. taken_numbers a b m c.args.rank c.args.number c.args.message.now) (changed_rows c)
    (places_left blank_receive is_waiting c.self.inside.rows.items (map (taking_if c.args.rank c.args.number c.args.message.now) c.self.inside.rows.items) c.deref.result.now c.self.inside.waiting.items c.let_go.new.waiting.items
    c.self.invariant.passing (c.deref.ensures.value ∙ changed_rows c) c.let_go.ensures
    (waiting_once_taken c.self.inside.rows.items c.args.rank c.args.number c.args.message.now)
    ∙ ap (λ xs. places_where is_waiting xs) (sym (changed_rows c)))

pub returns-in-Some : goal.returns-in-Some
returns-in-Some c = changed_rows c ∙ ap (λ xs. map (taking_if c.args.rank c.args.number c.args.message.now) xs) c.self.view_is

pub returns-in_default : goal.returns-in_default
returns-in_default c =
    sym c.self.view_is
    ∙ sym (map_unplaced (is_receive c.args.rank c.args.number) (taking_if c.args.rank c.args.number c.args.message.now) (not_taking c.args.rank c.args.number c.args.message.now) c.self.inside.rows.items (sym (c.self.invariant.first c.args.rank c.args.number) ∙ sym c.get.ensures ∙ c.in_default.is))
    ∙ ap (λ xs. map (taking_if c.args.rank c.args.number c.args.message.now) xs) c.self.view_is
