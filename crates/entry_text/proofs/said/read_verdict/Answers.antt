use Rattle.entry_text.specs.Grammar.{verdict}
use Rattle.entry_text.proofs.Takes.{row_none}
use Rattle.entry_text.proofs.Rows.{no_verdict}
use Rattle.entry_text.proofs.said.read_verdict.Goals as goal

pub returns-in_default : goal.returns-in_default
returns-in_default c = row_none verdict _ _ _ c.in_ok-word.ensures (no_verdict _ c.in_default.not-Ready c.in_default.not-Retry c.in_default.not-Pick)
