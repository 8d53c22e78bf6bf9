use Rattle.std.proofs.Common.{◌++◌, ◌∙◌, map, length-append, sym, ap, refl, arith, List}
use Rattle.and_reduce.specs.Rows.{sent_of}
use Rattle.agree_law.specs.Packets.{Sent as Sent_seen}
use Rattle.agree_core.proofs.MoveFacts.{down-child, down-other, down-all}
use Rattle.agree_core.proofs.settling.send_down.Goals as goal
use Rattle.agree_core.proofs.settling.send_down.Goals.{then-is_child, else-is_child}

pub loop-place-preserved : goal.loop-place-preserved
loop-place-preserved g c = elim c.if-is_child.branch [
  | then-is_child w ↦
      rw w.out-is (
        λ top. (rw w.push_reserved.ensures.items
            (down-child top c.args.key.now c.args.parent c.args.round c.loop-place.place c.args.verdict c.args.out.now.items c.loop-place.out.items (c.loop-place.invariant.0 top) _
            (sym c.is_child.ensures ∙ w.if-is_child.true) (rw (w.member_at.ensures, w.copy.ensures.same) refl))),
        omega (arith, w.push_reserved.ensures.len, w.push_reserved.ensures.capacity, c.loop-place.invariant.1),
        grind (arith, w.push_reserved.ensures.items, length-append, c.loop-place.invariant.2),
      )
  | else-is_child w ↦
      rw w.out-is (
        λ top. (down-other top c.args.key.now c.args.parent c.args.round c.loop-place.place c.args.verdict c.args.out.now.items c.loop-place.out.items (c.loop-place.invariant.0 top)
            (sym c.is_child.ensures ∙ w.if-is_child.false)),
        omega (arith, c.loop-place.invariant.1),
        omega (arith, c.loop-place.invariant.2),
      )
]

pub returns-clause-sent : goal.returns-clause-sent
returns-clause-sent g c top =
    c.loop-place.invariant.0 top
    ∙ ap (λ (xs : List Sent_seen). map (sent_of top) c.args.out.now.items ++ xs)
    (down-all c.args.key.now c.args.parent c.args.round c.loop-place.place c.args.verdict (omega (arith, c.loop-place-test.false, c.loop-place.auto.place-end, c.len-place-end.ensures.value)))
