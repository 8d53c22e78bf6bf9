use Rattle.std.proofs.Common.{◌≡◌, ◌≤◌, drop}
use Rattle.token_text.specs.Steps.{digits_on}
use Rattle.token_text.proofs.numbers.digits.Given as goal

abbrev pub invariant-loop-byte : goal.invariant-loop-byte
invariant-loop-byte l = record {
  on : digits_on l.most l.number (drop l.byte-index l.text) ≡ digits_on l.most 0 l.text;
  small : l.number ≤ l.most;
}
