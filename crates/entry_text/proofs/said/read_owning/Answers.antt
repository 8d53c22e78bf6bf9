use Rattle.entry_text.specs.Grammar.{owning}
use Rattle.entry_text.proofs.Takes.{row_none}
use Rattle.entry_text.proofs.Rows.{no_owning}
use Rattle.entry_text.proofs.said.read_owning.Goals as goal

pub returns-in_default : goal.returns-in_default
returns-in_default c = row_none owning _ _ _ c.in_ok-word.ensures (no_owning _ c.in_default.not-Own c.in_default.not-Zero)
