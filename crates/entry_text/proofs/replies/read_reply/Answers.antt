use Rattle.entry_text.specs.Grammar.{reply}
use Rattle.entry_text.proofs.Takes.{row_none}
use Rattle.entry_text.proofs.Rows.{no_reply}
use Rattle.entry_text.proofs.replies.read_reply.Goals as goal

pub returns-in_default : goal.returns-in_default
returns-in_default c = row_none reply _ _ _ c.in_ok-word.ensures (no_reply _ c.in_default.not-Fine c.in_default.not-Err c.in_default.not-Null c.in_default.not-Psets c.in_default.not-Name c.in_default.not-Info c.in_default.not-Group c.in_default.not-Ranks c.in_default.not-Ident c.in_default.not-Congruent c.in_default.not-Similar c.in_default.not-Unequal c.in_default.not-Size c.in_default.not-Rank c.in_default.not-Comm c.in_default.not-Received)
