use Rattle.std.proofs.Common.{sym, arith}
use Rattle.job_gen.proofs.Told.{read_few, read_enough}
use Rattle.job_gen.proofs.words.read_words.Goals as goal

pub returns-then-ops-from-clause-told : goal.returns-then-ops-from-clause-told
returns-then-ops-from-clause-told c =
    let is = c.from-2.ensures in
    let low = c.if-ops-from.true in
    sym (read_few c.args.number.now c.args.ops.now c.in-Ok.number c.in-Ok-read_number.ops (rw c.as_bytes.ensures.value at c.in-Ok.ensures) (rw (c.as_bytes-2.ensures.value, c.from.ensures) at c.in-Ok-read_number.ensures) (omega (arith, is, low)))

pub returns-clause-told : goal.returns-clause-told
returns-clause-told c =
    let is = c.from-2.ensures in
    let high = c.if-ops-from.false in
    sym (read_enough c.args.number.now c.args.ops.now c.in-Ok.number c.in-Ok-read_number.ops (rw c.as_bytes.ensures.value at c.in-Ok.ensures) (rw (c.as_bytes-2.ensures.value, c.from.ensures) at c.in-Ok-read_number.ensures) (omega (arith, is, high)))
