use Rattle.std.proofs.Common.{◌≡◌, ◌&&◌, ◌++◌, ◌∙◌, false, map, sym, subst, arith, refl}
use Rattle.std.specs.Prelude.{nat_lt}
use Rattle.std.proofs.lemmas.Bool.Decides.{nat_tests}
use Rattle.agree_law.specs.Tree.{place_in}
use Rattle.agree_law.specs.Gather.{is_ready}
use Rattle.agree_law.specs.Offers.{up_from}
use Rattle.and_reduce.specs.Rows.{sent_of}
use Rattle.agree_core.specs.Held.{Held}
use Rattle.agree_core.proofs.MoveFacts.{sent-up, sent-none}
use Rattle.agree_core.proofs.agreements.Agreements.send_up.Goals as goal
use Rattle.agree_core.proofs.agreements.Agreements.send_up.Goals.{else-place-gt0-via-then-place-gt0+else-is_ready, else-place-gt0-via-else-place-gt0}

pub returns-then-is_ready-clause-sent : goal.returns-then-is_ready-clause-sent
returns-then-is_ready-clause-sent g c =
    subst
    (λ (h : Held). map (sent_of h.top) c.push_reserved.new.self.items ≡ map (sent_of h.top) c.args.out.now.items ++ up_from h.top h.part c.args.key.now (place_in c.args.key.now.members h.rank))
    c.self.view_is
    (rw (c.push_reserved.ensures.items, ← c.place_in-place.ensures)
    (sent-up _ _ c.args.key.now c.place_in-place.result c.args.out.now.items _ c.if-place-gt0.true (sym c.is_ready.ensures ∙ c.if-is_ready.true)
    (rw (c.member_at.ensures, c.parent_of.ensures, c.copy.ensures.same, c.round.ensures, c.joined-joined.ensures.own, c.joined-joined.ensures.mask) refl)))

pub returns-else-place-gt0-clause-sent : goal.returns-else-place-gt0-clause-sent
returns-else-place-gt0-clause-sent g c =
    let none : (nat_lt 0 c.place_in-place.result && is_ready c.self.inside.gathers.offers c.args.key.now c.place_in-place.result) ≡ false = elim c.else-place-gt0.branch [
      | else-place-gt0-via-then-place-gt0+else-is_ready w ↦ grind (arith, nat_tests, w.is_ready.ensures, w.if-is_ready.false)
      | else-place-gt0-via-else-place-gt0 w ↦ grind (arith, nat_tests, w.if-place-gt0.false)
    ] in
    subst
    (λ (h : Held). map (sent_of h.top) c.args.out.now.items ≡ map (sent_of h.top) c.args.out.now.items ++ up_from h.top h.part c.args.key.now (place_in c.args.key.now.members h.rank))
    c.self.view_is
    (rw (← c.place_in-place.ensures) (sent-none _ _ c.args.key.now c.place_in-place.result c.args.out.now.items none))
