use Rattle.std.proofs.Common.{arith, ◌∙◌}
use Rattle.std.proofs.lemmas.Bool.Decides.{nat_tests}
use Rattle.world_core.proofs.PostFacts.{turn_sent, room_after}
use Rattle.world_core.proofs.step.post.Goals as goal

pub loop-sent-preserved-then-sent-ranks : goal.loop-sent-preserved-then-sent-ranks
loop-sent-preserved-then-sent-ranks g c =
    let inv = c.loop-sent.invariant in
    let lt = c.if-sent-ranks.true in
    let same = inv.ranks ∙ c.requires.ranks in
    rw c.push.ensures.after (record {
      ranks = inv.ranks;
      room = room_after c.args.rank c.loop-sent.links c.loop-sent.out c.take_first.new.self c.in-Some.sent (c.in-Some.ensures.some 0) inv.room;
      posted =
          turn_sent c.args.rank c.args.links.now c.loop-sent.links c.args.out.now c.loop-sent.out c.in-Some.sent c.take_first.new.self
          c.in-Some.ensures.some inv.posted inv.ranks (grind (arith, nat_tests, lt, same));
    })
