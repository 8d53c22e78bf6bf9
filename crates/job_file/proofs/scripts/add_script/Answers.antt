use Rattle.std.proofs.Common.{length, refl, ap, ◌∙◌, subst, arith}
use Rattle.job_file.specs.Lines.{lines_of}
use Rattle.job_file.proofs.Spelled.{HasNoFault, no_fault}
use Rattle.job_file.proofs.Added.{added_none, added_more}
use Rattle.job_file.proofs.scripts.add_script.Goals as goal

pub loop-line-init : goal.loop-line-init
loop-line-init c = record { added = added_none _ _ _ _; ranks = refl; total = omega arith; good = no_fault 1 (lines_of c.args.bytes.now) c.requires.good }

pub loop-line-preserved : goal.loop-line-preserved
loop-line-preserved c =
    let good = subst HasNoFault c.in-Some.ensures.cut c.loop-line.invariant.good in
    let one = ap length c.in-Some.ensures.cut in
    let total = c.loop-line.invariant.total in
    let more = c.in_ok-add_line.ensures.total in
    record {
      added = added_more _ _ _ _ _ _ _ _ _ c.loop-line.invariant.added c.in-Some.ensures.cut c.in_ok-add_line.ensures.line;
      ranks = c.in_ok-add_line.ensures.ranks ∙ c.loop-line.invariant.ranks;
      total = omega (arith, one, total, more);
      good = good.1;
    }
