use Rattle.std.proofs.Common.{◌≡◌, ◌∷◌, ◌++◌, [], if◌then◌else◌, List, length, map, sym, ap, ◌∙◌, arith}
use Rattle.std.proofs.lemmas.Grind.{common_steps}
use Rattle.central_comms.specs.declared.rows.CommRow.{CommRow}
use Rattle.central_comms.specs.Places.{places_where}
use Rattle.central_comms.specs.Rows.{row_comm, is_held}
use Rattle.central_comms.proofs.RowFacts.{places_more}
use Rattle.central_comms.proofs.comms.Comms.add.Goals as goal
use Rattle.central_comms.proofs.comms.Comms.add.Goals.{then-is_held, else-is_held}

pub invariant_of-self-2 : goal.invariant_of-self-2
invariant_of-self-2 c = elim c.if-is_held.branch [
  | then-is_held w ↦
      let rows : c.push_reserved-2.new.self.items ≡ c.self.inside.rows.items ++ c.new-row.result ∷ [] =
      grind (arith, common_steps, w.self-inside-is, c.push_reserved-2.ensures.items, c.in_ok-reserve.ensures.items) in
      let held : c.if-is_held.self-inside.held.items ≡ c.self.inside.held.items ++ (if is_held (row_comm c.new-row.result) then length c.self.inside.rows.items ∷ [] else []) =
      grind (arith, common_steps, w.self-inside-is, w.push_reserved.ensures.items, w.len.ensures, w.if-is_held.ensures, w.if-is_held.true, c.is_held.ensures, c.in_ok-reserve.ensures.items, c.in_ok-reserve-2.ensures.items, c.in_ok-reserve.ensures.len) in
      places_more c.self.inside.rows.items c.new-row.result c.self.inside.held.items c.if-is_held.self-inside.held.items c.self.invariant held
      ∙ ap (λ (kept : List CommRow). places_where is_held (map row_comm kept)) (sym rows)
  | else-is_held w ↦
      let rows : c.push_reserved-2.new.self.items ≡ c.self.inside.rows.items ++ c.new-row.result ∷ [] =
      grind (arith, common_steps, w.self-inside-is, c.push_reserved-2.ensures.items, c.in_ok-reserve.ensures.items) in
      let held : c.if-is_held.self-inside.held.items ≡ c.self.inside.held.items ++ (if is_held (row_comm c.new-row.result) then length c.self.inside.rows.items ∷ [] else []) =
      grind (arith, common_steps, w.self-inside-is, w.if-is_held.ensures, w.if-is_held.false, c.is_held.ensures, c.in_ok-reserve-2.ensures.items) in
      places_more c.self.inside.rows.items c.new-row.result c.self.inside.held.items c.if-is_held.self-inside.held.items c.self.invariant held
      ∙ ap (λ (kept : List CommRow). places_where is_held (map row_comm kept)) (sym rows)
]
