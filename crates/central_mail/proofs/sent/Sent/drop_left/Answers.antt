use Rattle.std.proofs.Common.{◌≡◌, ◌<◌, List, length, map, get_or, sym, ap, subst, ◌∙◌, arith}
use Rattle.std.specs.List.{fold}
use Rattle.std.specs.Vec.{with_items}
use Rattle.std.proofs.lemmas.List.{with_items_is}
use Rattle.mpi_law.specs.Registry.State.{Message}
use Rattle.mpi_law.specs.Registry.Messages.{is_message, is_unmatched}
use Rattle.central_comms.specs.Places.{places_where}
use Rattle.central_comms.proofs.PlaceFacts.{places_within, fold_at_places, places_left}
use Rattle.central_mail.specs.Rows.{blank_message, dropped_if, dropped_at}
use Rattle.central_mail.proofs.Indexed.{indexed_changed}
use Rattle.central_mail.proofs.Kept.{not_dropped, open_once_dropped, dropped_numbers}
use Rattle.central_mail.proofs.sent.Sent.drop_left.Goals as goal

pub drop_at-requires : goal.drop_at-requires
drop_at-requires c = λ k d below.
    let places = c.deref.ensures.value ∙ c.self.invariant.passing in
    let within = places_within is_unmatched c.self.inside.rows.items k d (subst (λ ps. k < length ps) places below) in
    subst (λ ps. get_or ps k d < length c.deref_mut.result.now) (sym places)
    (omega (arith, within, ap (λ (rows : List Message). length rows) c.deref_mut.ensures.value))

-- the messages, once those that are left are dropped
dropped_rows : (c : goal.After-let_go) → (with_items c.self.inside.rows c.drop_at.new.rows).items ≡ map (dropped_if c.args.comm c.args.rank) c.self.inside.rows.items
dropped_rows c =
    with_items_is c.self.inside.rows c.drop_at.new.rows (omega (arith, c.drop_at.auto.rows, c.deref_mut.ensures.len))
    ∙ c.drop_at.ensures
    ∙ ap (λ rows. fold (dropped_at c.args.comm c.args.rank) rows c.deref.result.now) c.deref_mut.ensures.value
    ∙ ap (λ ps. fold (dropped_at c.args.comm c.args.rank) c.self.inside.rows.items ps) (c.deref.ensures.value ∙ c.self.invariant.passing)
    ∙ fold_at_places blank_message is_unmatched (dropped_if c.args.comm c.args.rank) (λ m done. not_dropped m done c.args.comm c.args.rank) c.self.inside.rows.items

pub invariant_of-self : goal.invariant_of-self
invariant_of-self c =
    indexed_changed is_unmatched is_message c.self.inside.unmatched.items c.let_go.new.places.items c.self.inside.places c.self.inside.places c.self.inside.rows.items (with_items c.self.inside.rows c.drop_at.new.rows).items c.self.invariant
    (dropped_if c.args.comm c.args.rank) (λ a b m. dropped_numbers a b m c.args.comm c.args.rank) (dropped_rows c)
    (places_left blank_message is_unmatched c.self.inside.rows.items (map (dropped_if c.args.comm c.args.rank) c.self.inside.rows.items) c.deref-2.result.now c.self.inside.unmatched.items c.let_go.new.places.items
    c.self.invariant.passing (c.deref-2.ensures.value ∙ dropped_rows c) c.let_go.ensures
    (open_once_dropped c.self.inside.rows.items c.args.comm c.args.rank)
    ∙ ap (λ xs. places_where is_unmatched xs) (sym (dropped_rows c)))

pub returns : goal.returns
returns c = dropped_rows c ∙ ap (λ ms. map (dropped_if c.args.comm c.args.rank) ms) c.self.view_is
