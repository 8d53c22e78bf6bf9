use Rattle.std.proofs.Common.{◌≤◌, length, arith}
use Rattle.toml.specs.View.{table_view}
use Rattle.job_file.specs.Threads.{script_at}
use Rattle.job_file.proofs.Added.{placed_none, placed_more, no_total}
use Rattle.job_file.specs.Lines.{lines_of}
use Rattle.job_file.proofs.Faultless.{short_at, good_at}
use Rattle.job_file.proofs.scripts.add_scripts.Goals as goal

pub add_script-requires-clause-few : goal.add_script-requires-clause-few
add_script-requires-clause-few c = rw c.script_at.ensures (short_at c.args.ranks (table_view c.args.table.now) c.loop-place.place c.requires.good c.loop-place-test.true)

pub add_script-requires-clause-good : goal.add_script-requires-clause-good
add_script-requires-clause-good c = rw c.script_at.ensures (good_at c.args.ranks (table_view c.args.table.now) c.loop-place.place c.requires.good c.loop-place-test.true)

pub add_script-requires-clause-room : goal.add_script-requires-clause-room
add_script-requires-clause-room c =
    let short : length (lines_of c.script_at.result.now) ≤ 4096 = rw c.script_at.ensures (short_at c.args.ranks (table_view c.args.table.now) c.loop-place.place c.requires.good c.loop-place-test.true) in
    let total = c.loop-place.invariant.total in
    let below = c.loop-place-test.true in
    let few = c.requires.ranks in
    omega (arith, short, total, below, few)

pub loop-place-init : goal.loop-place-init
loop-place-init c = record { placed = placed_none _ _ _ c.requires.none; total = no_total c.args.ranks _ c.requires.none }

pub loop-place-preserved : goal.loop-place-preserved
loop-place-preserved c =
    let short : length (lines_of c.script_at.result.now) ≤ 4096 = rw c.script_at.ensures (short_at c.args.ranks (table_view c.args.table.now) c.loop-place.place c.requires.good c.loop-place-test.true) in
    let total = c.loop-place.invariant.total in
    let more = c.in_ok-add_script.ensures.total in
    let lines = rw (c.script_at.ensures, c.rank_at.ensures, c.thread_at.ensures.value) at c.in_ok-add_script.ensures.lines in
    record {
      placed = placed_more c.args.ranks (script_at (table_view c.args.table.now)) c.loop-place.place _ _ c.loop-place-test.true c.loop-place.invariant.placed lines;
      total = omega (arith, short, total, more);
    }
