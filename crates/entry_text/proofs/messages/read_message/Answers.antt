use Rattle.entry_text.proofs.Received.{null_message}
use Rattle.entry_text.proofs.messages.read_message.Goals as goal

pub returns-in_ok-new-in-None : goal.returns-in_ok-new-in-None
returns-in_ok-new-in-None c = null_message _ _ c.args.reader.now _ _ _ _ c.in-None.is c.in_ok-new-in-None.ensures.value c.in_ok-source.ensures.1 c.in_ok-exactly-in-None.ensures c.in_ok-exactly-in-None-2.ensures c.in_ok-exactly-in-None-3.ensures
