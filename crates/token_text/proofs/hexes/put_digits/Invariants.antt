use Rattle.std.proofs.Common.{◌≡◌, ◌≤◌, ◌+◌, ◌*◌, ◌++◌, drop, length}
use Rattle.token_text.specs.Texts.{hex_digits}
use Rattle.token_text.proofs.hexes.put_digits.Given as goal

abbrev pub invariant-loop-byte : goal.invariant-loop-byte
invariant-loop-byte l = record {
  on : l.out.items ++ hex_digits (drop l.byte-index l.bytes) ≡ l.fn.out.items ++ hex_digits l.bytes;
  short : length l.out.items ≤ length l.fn.out.items + 2 * l.byte-index;
}
