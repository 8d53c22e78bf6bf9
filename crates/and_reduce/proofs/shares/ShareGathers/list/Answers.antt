use Rattle.std.proofs.Common.{◌<◌, ◌∙◌, sym, length, arith}
use Rattle.and_reduce.proofs.ShareFacts.{pushed, shares_at-some, shares_at-none, share_list-is}
use Rattle.and_reduce.proofs.shares.ShareGathers.list.Goals as goal
use Rattle.and_reduce.proofs.shares.ShareGathers.list.Goals.{in-Some, in_default}

pub loop-place-preserved : goal.loop-place-preserved
loop-place-preserved c = elim c.match-share.branch [
  | in-Some w ↦
      let less : length c.loop-place.list < 16 = omega (arith, c.loop-place.invariant.1, c.loop-place-test.true, c.len-place-end.ensures.small) in
      let more = pushed c.loop-place.list w.push.new.self w.in-Some.share w.push.result w.push.ensures.when w.push.ensures.after less in
      rw (w.list-is, more.0) (
        shares_at-some c.args.self.now.rows c.args.key.now c.loop-place.place c.loop-place.list c.loop-place.invariant.0 w.in-Some.share (sym c.share.ensures ∙ w.in-Some.is),
        omega (arith, c.loop-place.invariant.1, more.1),
      )
  | in_default w ↦
      rw w.list-is (
        shares_at-none c.args.self.now.rows c.args.key.now c.loop-place.place c.loop-place.list c.loop-place.invariant.0 (sym c.share.ensures ∙ w.in_default.is),
        omega (arith, c.loop-place.invariant.1),
      )
]

pub returns : goal.returns
returns c =
    share_list-is c.args.self.now.rows c.args.key.now c.loop-place.place c.loop-place.list c.loop-place.invariant.0
    (omega (arith, c.loop-place-test.false, c.loop-place.auto.place-end, c.len-place-end.ensures.value))
