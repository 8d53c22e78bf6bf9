use Rattle.std.proofs.Common.{◌<◌, length, ◌∙◌, rules, arith}
use Rattle.central_registry.proofs.Journals.{moves_as, goes_by, refused}
use Rattle.central_registry.proofs.registry.Registry.try_steps.Goals as goal

pub returns-then-not-branch-clause-run : goal.returns-then-not-branch-clause-run
returns-then-not-branch-clause-run c =
    let within : c.loop-entry.entry-index < length c.args.entries.now = omega arith in
    let step = moves_as _ _ _ _ _ _ c.loop-entry.invariant.setting c.in_ok-try_step.ensures.ok in (
      λ f. absurd (cc (f)),
      λ run. absurd (refused _ _ c.args.entries.now c.loop-entry.entry-index c.entry-item.result within c.entry-item.is _ _ c.in_ok-try_step.field-0 (search rules) c.loop-entry.invariant.at step run),
    )

pub loop-entry-preserved : goal.loop-entry-preserved
loop-entry-preserved c =
    let within : c.loop-entry.entry-index < length c.args.entries.now = omega arith in
    let step = moves_as _ _ _ _ _ _ c.loop-entry.invariant.setting c.in_ok-try_step.ensures.ok in
    record {
      setting = c.try_step.ensures.setting ∙ c.loop-entry.invariant.setting;
      at = goes_by _ _ c.args.entries.now c.loop-entry.entry-index c.entry-item.result within c.entry-item.is _ _ c.in_ok-try_step.field-0 (search rules) c.loop-entry.invariant.at step;
    }
