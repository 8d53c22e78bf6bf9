use Rattle.std.proofs.Common.{◌<◌, length, arith, sym, ◌∙◌}
use Rattle.std.proofs.lemmas.Option.{slice_get-get_or}
use Rattle.token_text.proofs.Joined.{rank_written}
use Rattle.token_text.proofs.lists.put_members.Goals.{in-Some, in_default}
use Rattle.token_text.proofs.lists.put_members.Goals as goal

pub loop-place-preserved : goal.loop-place-preserved
loop-place-preserved c =
    let v = c.get.ensures in
    let l : c.loop-place.place < length c.args.members.now = omega (arith, c.loop-place-test.true, c.len-place-end.ensures.value) in
    elim c.match-get.branch [
      | in-Some w ↦ rw (w.out-is, w.mark-is) (rank_written 10 _ _ _ _ _ c.args.members.now c.loop-place.place w.in-Some.rank c.loop-place.invariant l (sym v ∙ w.in-Some.is) w.put-in-Some.ensures.added (rw w.from.ensures at w.put_num.ensures.added) w.put_num.ensures.short)
      | in_default w ↦ absurd (let e = slice_get-get_or c.args.members.now c.loop-place.place 0 l in let n = w.in_default.is in cc)
    ]
