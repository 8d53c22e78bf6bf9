use Rattle.std.proofs.Common.{◌+◌, ◌≤◌, length, take, arith, length-take}
use Rattle.std.proofs.lemmas.Grind.{common_steps}
use Rattle.mpisess.proofs.Formed.{more_at_most}
use Rattle.mpisess.proofs.input.read_front.Goals as goal

-- the last bytes were read, though there was no memory to keep them
pub returns-in_err-extend_from_slice-clause-most : goal.returns-in_err-extend_from_slice-clause-most
returns-in_err-extend_from_slice-clause-most g c =
    let bound = c.in_ok-count.ensures.bound in
    let min = c.min-wanted.ensures in
    let len = c.len-in-loop-piece.ensures in
    let short = c.loop-piece.invariant.short in
    let piece = length-take c.min-wanted.result c.loop-piece.piece in
    let read = length-take c.in_ok-count.count c.read.new.buf in
    let few : length c.loop-piece.bytes.items + length (take c.in_ok-count.count c.read.new.buf) ≤ c.args.most = grind (arith, common_steps, bound, min, len, short, piece, read) in
    more_at_most c.args.most _ _ _ c.loop-piece.bytes.items (take c.in_ok-count.count c.read.new.buf) c.loop-piece.invariant.gives c.in_ok-count.ensures.bytes few
