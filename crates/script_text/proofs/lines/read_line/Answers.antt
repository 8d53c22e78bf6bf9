use Rattle.std.proofs.Common.{lit<}
use Rattle.script_text.proofs.Laws.{exact}
use Rattle.script_text.proofs.Spelled.{line_only}
use Rattle.script_text.proofs.lines.read_line.Goals as goal

pub returns-clause-only : goal.returns-clause-only
returns-clause-only c =
    let e = c.forms_are_exact.ensures in
    let all = exact e.name e.pset_name e.tag (e.number 2147483647 (lit< tt)) e.int e.hex e.ints e.rank_args e.triplets e.dest e.source e.any_tag e.colour in
    line_only all c.args.line.now c.read_tokens.result c.read_tokens.ensures.found c.read_tokens.ensures.fault
