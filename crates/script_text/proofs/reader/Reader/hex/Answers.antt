use Rattle.std.proofs.Common.{ap}
use Rattle.std.specs.Option.{option_map}
use Rattle.op_table.specs.declared.kinds.Field.TheVariants as field
use Rattle.script_text.specs.Faults.{named, token_fault}
use Rattle.script_text.specs.declared.faults.FaultKind.TheVariants.{BadHex}
use Rattle.script_text.proofs.Walks.{took, stops}
use Rattle.script_text.proofs.reader.Reader.hex.Goals as goal

pub returns-in-Ok : goal.returns-in-Ok
unfolding token_fault
returns-in-Ok c = took field.Hex _ _ _ _ _ c.in_ok-token.ensures.some c.in_ok-token.ensures.end (ap (option_map (named BadHex)) c.in-Ok.ensures.good) c.in-Ok.ensures.text c.in-Ok.ensures.fits

pub returns-in-Err : goal.returns-in-Err
unfolding token_fault
returns-in-Err c = rw c.bad.ensures (stops field.Hex _ _ _ _ _ c.in_ok-token.ensures.some (ap (option_map (named BadHex)) c.in-Err.ensures))
