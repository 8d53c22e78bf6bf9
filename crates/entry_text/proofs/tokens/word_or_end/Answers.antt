use Rattle.entry_text.proofs.Takes.{word_some, word_other}
use Rattle.entry_text.proofs.tokens.word_or_end.Goals as goal

pub returns-in-Some-word_of : goal.returns-in-Some-word_of
returns-in-Some-word_of c = word_some _ _ _ _ c.in-Some.ensures.some c.in-Some-word_of.ensures.value c.in-Some-word_of.ensures.found

pub returns-in-None : goal.returns-in-None
returns-in-None c = word_other _ _ c.args.reader.now c.in-Some.ensures.some c.in-None.ensures.value
