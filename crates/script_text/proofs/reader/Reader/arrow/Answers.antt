use Rattle.op_table.specs.declared.kinds.Field.TheVariants as field
use Rattle.script_text.specs.Spelling.{arrow}
use Rattle.script_text.proofs.Walks.{took, stops, arrow_is, arrow_not}
use Rattle.script_text.proofs.reader.Reader.arrow.Goals as goal

pub returns-then-eq : goal.returns-then-eq
returns-then-eq c =
    let is = arrow_is _ _ c.if-eq.ensures c.as_slice.ensures in
    took field.Arrow arrow _ _ _ _ c.in_ok-token.ensures.some c.in_ok-token.ensures.end is.0 is.1 tt

pub returns-else-eq : goal.returns-else-eq
returns-else-eq c = rw c.fault.ensures (stops field.Arrow _ _ _ _ _ c.in_ok-token.ensures.some (arrow_not _ _ c.if-eq.ensures c.as_slice.ensures))
