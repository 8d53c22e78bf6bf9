use Rattle.std.proofs.Common.{arith}
use Rattle.std.proofs.lemmas.Bool.Decides.{nat_tests}
use Rattle.central_mail.proofs.receives.ReceiveRow.fits_earlier.Goals as goal
use Rattle.central_mail.proofs.receives.ReceiveRow.fits_earlier.Goals.{then-is_unmatched, else-is_unmatched, then-from, else-from, then-comm, else-comm}

pub returns-then-number : goal.returns-then-number
returns-then-number c = elim c.if-comm.branch [
  | else-comm m ↦ absurd (cc (m.value-is, c.if-number.true))
  | then-comm m ↦ elim c.if-from.branch [
    | else-from f ↦ absurd (cc (f.value-is, m.if-comm.true))
    | then-from f ↦ elim c.if-is_unmatched.branch [
      | else-is_unmatched u ↦ absurd (cc (u.value-is, f.if-from.true))
      | then-is_unmatched u ↦
          grind (arith, nat_tests, c.is_unmatched.ensures, u.if-is_unmatched.true, u.value-is, u.from.ensures, u.from-then-is_unmatched.ensures, f.if-from.true, f.value-is, f.comm.ensures.value, f.comm.ensures.lane, f.comm-then-from.ensures.value, f.comm-then-from.ensures.lane, m.if-comm.true, m.value-is, m.number.ensures, m.number-then-comm.ensures, c.if-number.true, c.fits.ensures)
    ]
  ]
]
