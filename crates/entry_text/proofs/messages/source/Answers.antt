use Rattle.std.proofs.Common.{rules}
use Rattle.entry_text.proofs.Received.{source_null, source_some, source_other, source_none}
use Rattle.entry_text.proofs.messages.source.Goals as goal

pub returns-in_err-token : goal.returns-in_err-token
returns-in_err-token c = let s = source_none c.args.reader.now c.in_err-token.ensures.none in search (rules, s)

pub returns-then-eq : goal.returns-then-eq
returns-then-eq c = (tt, source_null _ _ c.args.reader.now c.text.new.reader c.in_ok-token.ensures.some c.if-eq.ensures c.as_slice.ensures)

pub returns-in-Ok : goal.returns-in-Ok
returns-in-Ok c = (c.in-Ok.ensures.fits, source_some _ _ _ c.args.reader.now c.text.new.reader c.in_ok-token.ensures.some c.if-eq.ensures c.as_slice.ensures c.in-Ok.ensures)

pub returns-in-Err : goal.returns-in-Err
returns-in-Err c = source_other _ _ _ _ c.args.reader.now c.in_ok-token.ensures.some c.if-eq.ensures c.as_slice.ensures c.in-Err.ensures
