use Rattle.entry_text.proofs.WordFacts.{found_word}
use Rattle.entry_text.proofs.words.word_of.Goals as goal

pub returns-clause-found : goal.returns-clause-found
returns-clause-found c = found_word c.args.text.now c.first_with.result c.first_with.ensures
