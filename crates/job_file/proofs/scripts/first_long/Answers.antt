use Rattle.std.proofs.Common.{◌*◌, nat_lt, length, sym, ap, ◌∙◌}
use Rattle.toml.specs.View.{table_view}
use Rattle.job_file.specs.Lines.{lines_of}
use Rattle.job_file.specs.Threads.{long_at}
use Rattle.job_file.proofs.Places.{first_skip, long_none}
use Rattle.job_file.proofs.scripts.first_long.Goals as goal

pub loop-place-preserved : goal.loop-place-preserved
loop-place-preserved c =
    let none = long_none (table_view c.args.table.now) c.loop-place.place (sym (c.are_many.ensures ∙ ap (λ s. nat_lt 4096 (length (lines_of s))) c.script_at.ensures) ∙ c.if-are_many.false) in
    c.loop-place.invariant ∙ first_skip (long_at (table_view c.args.table.now)) c.loop-place.place (8 * c.args.ranks) c.loop-place-test.true none
