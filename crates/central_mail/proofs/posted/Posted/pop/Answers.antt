use Rattle.std.proofs.Common.{◌≡◌, ◌==◌, ◌&&◌, ◌∷◌, ◌++◌, [], Some, length, refl, sym, ap, ◌∙◌}
use Rattle.std.specs.Option.{option_to_list}
use Rattle.central_comms.specs.Places.{places_where}
use Rattle.mpi_law.specs.Registry.Messages.{is_receive, is_waiting}
use Rattle.central_mail.specs.Rows.{blank_receive}
use Rattle.central_comms.proofs.PlaceFacts.{places_left, places_popped}
use Rattle.central_mail.proofs.Indexed.{indexed_popped}
use Rattle.central_mail.proofs.posted.Posted.pop.Goals as goal

pub invariant_of-self : goal.invariant_of-self
invariant_of-self c =
    let rows : c.self.inside.rows.items ≡ c.pop.new.self.items ++ c.in-Some.row ∷ [] = c.pop.ensures.items ∙ ap (λ o. c.pop.new.self.items ++ option_to_list o) c.in-Some.is in
    indexed_popped is_waiting is_receive c.self.inside.waiting.items c.let_go.new.waiting.items c.self.inside.places c.let_last_go.new.places c.self.inside.rows.items c.pop.new.self.items c.self.invariant
    c.rank.result c.number.result c.len.result c.in-Some.row
    (λ a b. ap (λ n. (n == a) && (c.in-Some.row.number == b)) (sym c.rank.ensures) ∙ ap (λ n. (c.rank.result == a) && (n == b)) (sym c.number.ensures))
    (c.len.ensures ∙ sym c.deref.ensures.len ∙ ap (λ xs. length xs) c.deref.ensures.value) rows
    (places_left blank_receive is_waiting (c.pop.new.self.items ++ c.in-Some.row ∷ []) c.pop.new.self.items c.deref.result.now c.self.inside.waiting.items c.let_go.new.waiting.items
    (c.self.invariant.passing ∙ ap (λ xs. places_where is_waiting xs) rows) c.deref.ensures.value c.let_go.ensures
    (places_popped blank_receive is_waiting refl c.pop.new.self.items (Some c.in-Some.row)))
    c.let_last_go.ensures
