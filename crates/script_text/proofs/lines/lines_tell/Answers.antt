use Rattle.std.proofs.Common.{lit<}
use Rattle.script_text.proofs.Laws.{exact}
use Rattle.script_text.proofs.Spelled.{own_line, alone, op_tells, spelling_good}
use Rattle.script_text.proofs.Blanks.{blank_alone}
use Rattle.script_text.proofs.lines.lines_tell.Goals as goal

pub returns-clause-own : goal.returns-clause-own
returns-clause-own c = let e = c.forms_are_exact.ensures in own_line (exact e.name e.pset_name e.tag (e.number 2147483647 (lit< tt)) e.int e.hex e.ints e.rank_args e.triplets e.dest e.source e.any_tag e.colour)

pub returns-clause-alone : goal.returns-clause-alone
returns-clause-alone c = let e = c.forms_are_exact.ensures in alone (exact e.name e.pset_name e.tag (e.number 2147483647 (lit< tt)) e.int e.hex e.ints e.rank_args e.triplets e.dest e.source e.any_tag e.colour)

pub returns-clause-inside : goal.returns-clause-inside
returns-clause-inside c = let e = c.forms_are_exact.ensures in op_tells (exact e.name e.pset_name e.tag (e.number 2147483647 (lit< tt)) e.int e.hex e.ints e.rank_args e.triplets e.dest e.source e.any_tag e.colour)

pub returns-clause-blank : goal.returns-clause-blank
returns-clause-blank c = blank_alone

pub returns-clause-good : goal.returns-clause-good
returns-clause-good c = let e = c.forms_are_exact.ensures in spelling_good (exact e.name e.pset_name e.tag (e.number 2147483647 (lit< tt)) e.int e.hex e.ints e.rank_args e.triplets e.dest e.source e.any_tag e.colour)
