use Rattle.std.proofs.Common.{◌≡◌, ◌<◌, length, ◌∙◌, refl, arith}
use Rattle.journal_out.proofs.Written.{gone_on, gone_all, gone_front, front_of_all, whole_front, fed, journal_more, on_err}
use Rattle.journal_out.proofs.write_journal.Goals as goal

pub returns-in_err-collect-clause-front : goal.returns-in_err-collect-clause-front
returns-in_err-collect-clause-front g c =
    let front = gone_front _ _ _ _ _ _ c.loop-entry.invariant.gone refl c.in_err-collect.ensures.front in
    on_err _ (front_of_all _ _ c.args.entries.now c.loop-entry.entry-index front)

pub returns-in_err-write_all-clause-front : goal.returns-in_err-write_all-clause-front
returns-in_err-write_all-clause-front g c =
    let front = gone_front _ _ _ _ _ _ c.loop-entry.invariant.gone c.as_slice-2.ensures.value c.in_err-write_all.ensures.front in
    on_err _ (front_of_all _ _ c.args.entries.now c.loop-entry.entry-index front)

pub returns-clause-front : goal.returns-clause-front
returns-clause-front g c =
    let all = gone_all _ _ _ _ _ _ c.loop-entry.invariant.gone c.as_slice-2.ensures.value c.in_ok-write_all.ensures.whole in
    on_err _ (front_of_all _ _ c.args.entries.now c.loop-entry.entry-index (whole_front _ _ _ _ all c.finish.ensures.bytes))

pub loop-entry-preserved : goal.loop-entry-preserved
loop-entry-preserved g c =
    let line : c.as_slice.result.now ≡ fed c.entry-item.result = rw (c.as_slice.ensures.value, c.put.ensures.added, c.write_entry.ensures.text) refl in
    let inside : c.loop-entry.entry-index < length c.args.entries.now = omega arith in
    let more = journal_more c.args.entries.now c.loop-entry.entry-index c.entry-item.result inside c.entry-item.is in
    let on = gone_on _ _ _ _ _ c.as_slice.result.now _ c.loop-entry.invariant.gone c.in_ok-collect.ensures.whole in
    record {
      gone = rw (more, ← line) on;
      count = c.in_ok-collect.ensures.same_count ∙ c.loop-entry.invariant.count;
    }
