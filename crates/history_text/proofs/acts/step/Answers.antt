use Rattle.entry_text.specs.Grammar.{choice}
use Rattle.entry_text.proofs.Takes.{row_none}
use Rattle.entry_text.proofs.Rows.{no_choice}
use Rattle.history_text.proofs.acts.step.Goals as goal

pub returns-in_default : goal.returns-in_default
returns-in_default c = row_none choice _ _ _ c.in_ok-word.ensures (no_choice _ c.in_default.not-Call c.in_default.not-Answer c.in_default.not-Deliver c.in_default.not-Offer c.in_default.not-Settle c.in_default.not-Leave c.in_default.not-Back)
