use Rattle.op_table.proofs.WordFacts.{found_word}
use Rattle.op_table.proofs.table.kind_of.Goals as goal

pub returns-clause-found : goal.returns-clause-found
returns-clause-found c = found_word c.args.word.now c.first_with.result c.first_with.ensures
