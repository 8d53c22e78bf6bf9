use Rattle.entry_text.specs.Grammar.{brief}
use Rattle.entry_text.proofs.Takes.{row_none}
use Rattle.entry_text.proofs.Rows.{no_brief}
use Rattle.entry_text.proofs.briefs.read_brief.Goals as goal

pub returns-in_default : goal.returns-in_default
returns-in_default c = row_none brief _ _ _ c.in_ok-word.ensures (no_brief _ c.in_default.not-Up c.in_default.not-Down c.in_default.not-Share c.in_default.not-Shares c.in_default.not-Msg c.in_default.not-Marker)
