use Rattle.std.proofs.Common.{rules}
use Rattle.history_text.proofs.Operations.{op_read, op_none, op_other}
use Rattle.history_text.proofs.ends.read_op.Goals as goal

pub returns-in_err-text : goal.returns-in_err-text
returns-in_err-text c = let s = op_none c.args.reader.now c.in_err-text.ensures.none in search (rules, s)

pub returns-in_err-kind : goal.returns-in_err-kind
returns-in_err-kind c = let s = op_other _ _ c.args.reader.now c.in_ok-text.ensures.some c.in_err-kind.ensures.value in search (rules, s)

pub returns : goal.returns
returns c = op_read _ c.in_ok-kind.kind c.read_fields.result c.ok.result c.args.reader.now c.text.new.reader c.read_fields.new.reader c.in_ok-text.ensures.some c.in_ok-kind.ensures.value c.in_ok-kind.ensures.found c.read_fields.ensures c.ok.ensures.value
