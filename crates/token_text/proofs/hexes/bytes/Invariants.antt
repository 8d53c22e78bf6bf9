use Rattle.std.proofs.Common.{◌≡◌, ◌*◌, ◌++◌, drop, length}
use Rattle.token_text.specs.Steps.{hex_bytes}
use Rattle.token_text.proofs.hexes.bytes.Given as goal

abbrev pub invariant-loop-place : goal.invariant-loop-place
invariant-loop-place l = record {
  on : l.bytes.items ++ hex_bytes (drop (2 * l.place) l.text) ≡ hex_bytes l.text;
  count : length l.bytes.items ≡ l.place;
}
