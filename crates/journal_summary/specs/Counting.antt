-- The summary of a journal, entry by entry.
use Rattle.std.specs.Prelude.{◌+◌, is_some}
use Rattle.std.specs.Int.{from_bool}
use Rattle.mpi_base.specs.declared.entries.Entry.{Entry}
use Rattle.journal_summary.specs.declared.counts.Summary.{Summary}
use Rattle.journal_summary.specs.Summaries.{is_call, settled, is_pick, is_exhausted, is_retry, settles, dropped_in}

-- with one entry more
abbrev pub with_entry : Summary → Entry → Summary
with_entry s e = record {
  ops = s.ops + from_bool (is_call e);
  steps = s.steps + 1;
  picks = s.picks + from_bool (settles is_pick (settled e));
  exhausted = s.exhausted + from_bool (settles is_exhausted (settled e));
  matches = s.matches + from_bool (is_some e.matched);
  retries = s.retries + from_bool (settles is_retry (settled e));
  dropped = s.dropped + dropped_in e;
}
