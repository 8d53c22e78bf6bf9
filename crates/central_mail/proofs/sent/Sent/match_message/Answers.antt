use Rattle.std.proofs.Common.{◌≡◌, ◌-◌, length, map, sym, ap, ◌∙◌}
use Rattle.std.specs.Vec.{with_items}
use borrow.Rule.Slice.PartMut.{put_mid}
use Rattle.central_comms.specs.Places.{places_where}
use Rattle.mpi_law.specs.Registry.Messages.{is_message, is_unmatched}
use Rattle.central_mail.specs.Rows.{blank_message, matched_if}
use Rattle.central_comms.proofs.PlaceFacts.{places_left}
use Rattle.central_mail.proofs.Indexed.{indexed_changed, map_unplaced, rows_changed}
use Rattle.central_mail.proofs.Kept.{open_once_matched, matched_numbers, not_matched}
use Rattle.central_mail.proofs.sent.Sent.match_message.Goals as goal

changed_rows : (c : goal.After-let_go) → (with_items c.self.inside.rows (put_mid c.in-Some.place (length c.deref_mut.result.now - c.in-Some.place) c.deref_mut.result.now c.match_all.new.rows)).items ≡ map (matched_if c.args.from c.args.number) c.self.inside.rows.items
changed_rows c =
    rows_changed (is_message c.args.from c.args.number) (matched_if c.args.from c.args.number) (not_matched c.args.from c.args.number) c.self.inside.rows c.deref_mut.result.now c.match_all.new.rows c.in-Some.place
    c.deref_mut.ensures.value c.deref_mut.ensures.len (sym (c.self.invariant.first c.args.from c.args.number) ∙ sym c.get.ensures ∙ c.in-Some.is) c.match_all.ensures

pub invariant_of-self : goal.invariant_of-self
invariant_of-self c =
    indexed_changed is_unmatched is_message c.self.inside.unmatched.items c.let_go.new.places.items c.self.inside.places c.self.inside.places c.self.inside.rows.items
    (with_items c.self.inside.rows (put_mid c.in-Some.place (length c.deref_mut.result.now - c.in-Some.place) c.deref_mut.result.now c.match_all.new.rows)).items
    c.self.invariant (matched_if c.args.from c.args.number) (λ a b m. matched_numbers a b m c.args.from c.args.number) (changed_rows c)
    (places_left blank_message is_unmatched c.self.inside.rows.items (map (matched_if c.args.from c.args.number) c.self.inside.rows.items) c.deref.result.now c.self.inside.unmatched.items c.let_go.new.places.items
    c.self.invariant.passing (c.deref.ensures.value ∙ changed_rows c) c.let_go.ensures
    (open_once_matched c.self.inside.rows.items c.args.from c.args.number)
    ∙ ap (λ xs. places_where is_unmatched xs) (sym (changed_rows c)))

pub returns-in-Some : goal.returns-in-Some
returns-in-Some c = changed_rows c ∙ ap (λ xs. map (matched_if c.args.from c.args.number) xs) c.self.view_is

pub returns-in_default : goal.returns-in_default
returns-in_default c =
    sym c.self.view_is
    ∙ sym (map_unplaced (is_message c.args.from c.args.number) (matched_if c.args.from c.args.number) (not_matched c.args.from c.args.number) c.self.inside.rows.items (sym (c.self.invariant.first c.args.from c.args.number) ∙ sym c.get.ensures ∙ c.in_default.is))
    ∙ ap (λ xs. map (matched_if c.args.from c.args.number) xs) c.self.view_is
