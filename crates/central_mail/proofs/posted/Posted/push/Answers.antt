use Rattle.std.proofs.Common.{◌≡◌, ◌∷◌, ◌++◌, [], length, refl, arith}
use Rattle.std.proofs.lemmas.Grind.{common_steps}
use Rattle.mpi_law.specs.Registry.Messages.{is_receive, is_waiting}
use Rattle.central_mail.specs.Rows.{blank_receive, as_posted}
use Rattle.central_mail.proofs.Indexed.{indexed_pushed}
use Rattle.central_mail.proofs.Walks.{places_pushed}
use Rattle.central_mail.proofs.posted.Posted.push.Goals as goal

pub invariant_of-self-2 : goal.invariant_of-self-2
invariant_of-self-2 c =
    let rows : c.push_reserved-2.new.self.items ≡ c.self.inside.rows.items ++ as_posted c.args.receive ∷ [] =
    grind (arith, common_steps, c.push_reserved-2.ensures.items, c.new.ensures, c.in_ok-reserve.ensures.items) in
    let places : c.push_reserved.new.self.items ≡ c.self.inside.waiting.items ++ length c.self.inside.rows.items ∷ [] =
    grind (arith, common_steps, c.push_reserved.ensures.items, c.len-2.ensures, c.in_ok-reserve.ensures.items, c.in_ok-reserve.ensures.len, c.in_ok-reserve-2.ensures.items) in
    let last : c.len.result ≡ length c.self.inside.rows.items = grind (arith, common_steps, c.len.ensures, c.in_ok-reserve.ensures.items, c.in_ok-reserve.ensures.len) in
    indexed_pushed is_waiting is_receive c.self.inside.waiting.items c.push_reserved.new.self.items c.self.inside.places c.add_last.new.places c.self.inside.rows.items c.push_reserved-2.new.self.items c.self.invariant
    c.args.receive.rank c.args.receive.number c.len.result (as_posted c.args.receive) (λ a b. refl) last rows
    (places_pushed blank_receive is_waiting c.self.inside.rows.items c.push_reserved-2.new.self.items (as_posted c.args.receive) c.push_reserved.new.self.items c.self.inside.waiting.items refl rows c.self.invariant.passing places)
    c.in_ok-add_last.ensures.ok
