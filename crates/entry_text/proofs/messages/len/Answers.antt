use Rattle.std.proofs.Common.{rules}
use Rattle.entry_text.proofs.Received.{len_some, len_other, len_none}
use Rattle.entry_text.proofs.messages.len.Goals as goal

pub returns-in_err-text : goal.returns-in_err-text
returns-in_err-text c = let s = len_none c.args.reader.now c.in_err-text.ensures.none in search (rules, s)

pub returns-in-Ok : goal.returns-in-Ok
returns-in-Ok c = len_some _ _ c.args.reader.now c.text.new.reader c.in_ok-text.ensures.some c.in-Ok.ensures

pub returns-in-Err : goal.returns-in-Err
returns-in-Err c = len_other _ _ _ c.args.reader.now c.in_ok-text.ensures.some c.in-Err.ensures
