use Rattle.history_text.proofs.Operations.{no_call_end}
use Rattle.history_text.proofs.ends.read_call_end.Goals as goal

pub returns-in-None : goal.returns-in-None
returns-in-None c = no_call_end c.in_ok-word_or_end.field-0 c.args.reader.now c.word_or_end.new.reader c.in_ok-word_or_end.ensures c.in-None.is
