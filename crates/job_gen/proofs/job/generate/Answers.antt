use Rattle.std.proofs.Common.{◌+◌, ◌<◌, ◌≤◌, ap, arith}
use Rattle.mpi_law.specs.declared.setting.Setting.{Setting}
use Rattle.mpi_law.specs.ScriptLists.{total_of}
use Rattle.pset_reg.specs.Sets.{ProcessSets}
use Rattle.job_gen.proofs.Rounds.{goes_on, grows, goes_all}
use Rattle.job_gen.proofs.job.generate.Goals as goal

pub loop-draws-smaller : goal.loop-draws-smaller
loop-draws-smaller c =
    let there = c.total.ensures in
    let room : total_of c.loop-draws.scripts + 16 ≤ c.args.ops = omega (arith, there) in
    let more : total_of c.loop-draws.scripts < total_of c.add_part-in-loop-draws.new.scripts = grows c.args.ops c.args.number _ _ _ _ _ c.loop-draws.invariant c.round.ensures.part c.in_ok-add_part-2.ensures in
    omega (arith, room, more)

pub loop-draws-preserved : goal.loop-draws-preserved
loop-draws-preserved c =
    let there = c.total.ensures in
    let room : total_of c.loop-draws.scripts + 16 ≤ c.args.ops = omega (arith, there) in
    goes_on _ _ _ _ _ _ _ _ c.loop-draws.invariant room c.round.ensures.part c.round.ensures.state c.in_ok-add_part-2.ensures

pub returns-clause-job : goal.returns-clause-job
returns-clause-job c =
    let there = c.total.ensures in
    let full : c.args.ops < total_of c.loop-draws.scripts + 16 = omega (arith, there) in
    let set : ProcessSets → Setting = λ sets. record { ranks = 4; contexts = 63; psets = sets } in
    let same = ap set c.in_ok-start.ensures in
    goes_all _ _ _ _ _ _ _ c.loop-draws.invariant full c.in_ok-add_part-3.ensures same
