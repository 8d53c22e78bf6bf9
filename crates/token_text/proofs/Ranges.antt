-- Ranges of ranks.
use Rattle.std.proofs.Common.{◌≡◌, ℕ, true, List, [], ◌∷◌, ◌++◌, None, ℤ, pos, negsuc, refl, sym, ap, ◌∙◌, arith, to_z, of_z, w32}
use Rattle.std.proofs.lemmas.Grind.{common_steps}
use Rattle.std.proofs.lemmas.Int.{to_z-of_z}
use Rattle.std.proofs.lemmas.List.Splits.{join_with_byte-slice_split}
use Rattle.std.specs.List.{join_with_byte}
use Rattle.std.specs.Fmt.{signed_decimal}
use Rattle.mpi_base.specs.declared.groups.Triplet.{Triplet}
use Rattle.token_text.specs.Reading.{Shows}
use Rattle.token_text.specs.Numbers.{is_int, IsInt}
use Rattle.token_text.specs.Lists.{parts_of, triplet_form}
use Rattle.token_text.specs.Steps.{first_of}

-- a number of 32 bits that is given on
pub cast_again : (z : ℤ) → IsInt z → to_z w32 (of_z w32 z) ≡ z
cast_again (pos n) h = to_z-of_z w32 (pos n) (omega (arith, h))
cast_again (negsuc n) h = to_z-of_z w32 (negsuc n) (omega (arith, h))

-- the parts of a text make up the text
pub parts_joined : (m : ℕ) (t : List ℕ) → join_with_byte m (parts_of m t) ≡ t
parts_joined m [] = refl
parts_joined m (b ∷ bs) = join_with_byte-slice_split m (b ∷ bs)

-- a range of these numbers
abbrev range : ℤ → ℤ → ℤ → Triplet
range a b c = record { first = a; last = b; stride = c }

-- three numbers are a range
three_found : (t : List ℕ) (a b c : ℤ) → parts_of 58 t ≡ signed_decimal a ∷ signed_decimal b ∷ signed_decimal c ∷ [] → is_int (signed_decimal a) ≡ true → is_int (signed_decimal b) ≡ true → is_int (signed_decimal c) ≡ true
    → IsInt a → IsInt b → IsInt c → Shows triplet_form t (range a b c)
three_found t a b c e p q r x y z = record {
  good = rw (e, p, q, r) refl;
  text = sym (parts_joined 58 t) ∙ ap (join_with_byte 58) e;
  fits = (x, (y, (z, tt)));
}

-- the same where the numbers were given on
pub range_found : (t : List ℕ) (a b c : ℤ) (ps : List (List ℕ)) → parts_of 58 t ≡ signed_decimal a ∷ signed_decimal b ∷ signed_decimal c ∷ ps → first_of ps ≡ None
    → is_int (signed_decimal a) ≡ true → is_int (signed_decimal b) ≡ true → is_int (signed_decimal c) ≡ true → IsInt a → IsInt b → IsInt c
    → Shows triplet_form t (range (to_z w32 (of_z w32 a)) (to_z w32 (of_z w32 b)) (to_z w32 (of_z w32 c)))
range_found t a b c (p ∷ ps) e n p' q r x y z = absurd (cc)
range_found t a b c [] e n p q r x y z = rw (cast_again a x, cast_again b y, cast_again c z) (three_found t a b c e p q r x y z)

-- three numbers are written with a colon between two
pub range_written : (p : Triplet) (old a b c d new : List ℕ) → a ≡ old ++ signed_decimal p.first → b ≡ a ++ 58 ∷ [] → c ≡ b ++ signed_decimal p.last → d ≡ c ++ 58 ∷ [] → new ≡ d ++ signed_decimal p.stride → new ≡ old ++ triplet_form.text p
range_written p old a b c d new e f g h i = rw (i, h, g, f, e) (grind (arith, common_steps))
