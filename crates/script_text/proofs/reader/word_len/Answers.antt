use Rattle.std.proofs.Common.{sym}
use Rattle.script_text.proofs.Words.{word_at, word_whole}
use Rattle.script_text.proofs.reader.word_len.Goals as goal

pub returns-in-Some-clause-part : goal.returns-in-Some-clause-part
returns-in-Some-clause-part c = word_at c.args.bytes.now c.in-Some.place (sym c.in-Some.ensures.value)

pub returns-in-None-clause-part : goal.returns-in-None-clause-part
returns-in-None-clause-part c = word_whole c.args.bytes.now (sym c.in-None.ensures.value)
