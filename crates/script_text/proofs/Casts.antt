-- Numbers of 32 bits, as a pattern hands them on.
use Rattle.std.proofs.Common.{◌≡◌, ℤ, pos, negsuc, arith, to_z, of_z, w32}
use Rattle.std.proofs.lemmas.Int.{to_z-of_z}
use Rattle.token_text.specs.Numbers.{IsInt}

-- an `i32` that is bound by a pattern and given on
pub cast_again : (z : ℤ) → IsInt z → to_z w32 (of_z w32 z) ≡ z
cast_again (pos n) h = to_z-of_z w32 (pos n) (omega (arith, h))
cast_again (negsuc n) h = to_z-of_z w32 (negsuc n) (omega (arith, h))
