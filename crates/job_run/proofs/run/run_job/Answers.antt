use Rattle.std.proofs.Common.{List, All, ap, subst, ◌∙◌}
use Rattle.mpi_base.specs.declared.entries.Entry.{Entry}
use Rattle.history_text.specs.Ranges.{EntryInRange}
use Rattle.mpi_protocol.specs.World.{opening}
use Rattle.job_run.proofs.Drained.{DrainedRun, drained_run, all_ended, none_ended}
use Rattle.job_run.proofs.Formed.{calls_are_ops}
use Rattle.job_run.proofs.run.run_job.Goals as goal

drained : (c : goal.After-ended_scripts_are_called_whole) → DrainedRun c.args.job.now.setting c.args.job.now.scripts c.into_journal-journal.result.entries c.drain.new.world
drained c =
    drained_run c.args.job.now.setting c.args.job.now.scripts c.in_ok-world.world c.drain.new.world c.into_journal-journal.result.entries
    (c.in_ok-world.ensures.setting ∙ c.in_ok-try_copy.ensures) (c.in_ok-world.ensures.opening ∙ ap opening c.in_ok-try_copy.ensures) c.in_ok-world.ensures.entries
    c.drain.ensures.setting c.drain.ensures.drained c.in_ok-drain.ensures.quiet c.into_journal-journal.ensures.run c.into_journal-journal.ensures.end c.into_journal-journal.ensures.entries
    (c.ranks_stay.ensures c.args.job.now.setting c.into_journal-journal.result.entries)

pub returns-clause-run : goal.returns-clause-run
returns-clause-run c = (drained c).run

pub returns-clause-registry : goal.returns-clause-registry
returns-clause-registry c = c.runs_are_registry_runs.ensures _ _ c.requires.sets (drained c).run

pub returns-clause-drained : goal.returns-clause-drained
returns-clause-drained c = (drained c).drained

pub returns-clause-quiet : goal.returns-clause-quiet
returns-clause-quiet c = (drained c).quiet

pub returns-clause-closed : goal.returns-clause-closed
returns-clause-closed c = c.quiet_ends_are_closed.ensures _ _ _ c.requires.sets (drained c).run (drained c).quiet

pub returns-clause-script : goal.returns-clause-script
returns-clause-script c = c.drained_calls_are_of_scripts.ensures _ _ _ (drained c).run (drained c).drained

pub returns-clause-well_formed : goal.returns-clause-well_formed
returns-clause-well_formed c =
    let setting = c.args.job.now.setting in
    let scripts = c.args.job.now.scripts in
    let entries = c.into_journal-journal.result.entries in
    let script = c.drained_calls_are_of_scripts.ensures setting scripts entries (drained c).run (drained c).drained in
    let ops = calls_are_ops setting scripts entries (c.ranks_stay.ensures setting entries) script c.requires.ops in
    c.entries_are_well_formed.ensures setting entries (drained c).run ops (subst (λ (es : List Entry). All EntryInRange es) c.as_slice.ensures c.entries_are_in_range.ensures)

pub returns-clause-ended : goal.returns-clause-ended
returns-clause-ended c = λ e. all_ended _ _ _ _ (drained c) (c.ranks_are_idle-ended.ensures.idle e)

pub returns-clause-whole : goal.returns-clause-whole
returns-clause-whole c = λ e. c.ended_scripts_are_called_whole.ensures _ _ _ (drained c).run (drained c).drained (all_ended _ _ _ _ (drained c) (c.ranks_are_idle-ended.ensures.idle e))

pub returns-clause-stuck : goal.returns-clause-stuck
returns-clause-stuck c = λ e. none_ended _ _ _ _ (drained c) (c.ranks_are_idle-ended.ensures.waits e)
