use Rattle.history_text.proofs.Journals.{one_journal}
use Rattle.history_text.proofs.PlainEntries.{one_line}
use Rattle.history_text.proofs.Unique.{one_text}
use Rattle.history_text.proofs.reading.texts_tell.Goals as goal

pub returns-clause-one_line : goal.returns-clause-one_line
returns-clause-one_line c = one_line

pub returns-clause-alone : goal.returns-clause-alone
returns-clause-alone c = one_text

pub returns-clause-journals : goal.returns-clause-journals
returns-clause-journals c = one_journal
