use Rattle.std.proofs.Common.{rules, arith, length, ◌≡◌, ◌==◌, false}
use Rattle.std.proofs.lemmas.Bool.Decides.{nat_tests}
use Rattle.entry_text.proofs.Received.{bytes_some, bytes_off, bytes_other, bytes_none}
use Rattle.entry_text.proofs.messages.bytes.Goals as goal

pub returns-in_err-text : goal.returns-in_err-text
returns-in_err-text c = let s = bytes_none c.args.len c.args.reader.now c.in_err-text.ensures.none in search (rules, s)

pub returns-then-bytes-len : goal.returns-then-bytes-len
returns-then-bytes-len c = let l : length c.in-Ok.payload ≡ c.args.len = search rules in bytes_some _ _ _ c.args.reader.now c.text.new.reader c.in_ok-text.ensures.some c.in-Ok.ensures l

pub returns-else-bytes-len : goal.returns-else-bytes-len
returns-else-bytes-len c = let l : (length c.in-Ok.payload == c.args.len) ≡ false = grind (arith, nat_tests, c.if-bytes-len.false, c.bytes.ensures.value) in bytes_off _ _ _ _ c.args.reader.now c.in_ok-text.ensures.some c.in-Ok.ensures l

pub returns-in-Err : goal.returns-in-Err
returns-in-Err c = bytes_other _ _ _ _ c.args.reader.now c.in_ok-text.ensures.some c.in-Err.ensures
