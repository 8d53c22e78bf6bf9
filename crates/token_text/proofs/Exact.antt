-- Each form is exact.
use Rattle.std.proofs.Common.{◌≡◌, ℕ, suc, ◌^◌, ◌<◌, ◌==◌, nat_lt, true, false, List, [], ◌∷◌, ◌++◌, length, None, Result, Ok, Err, ℤ, pos, negsuc, decimal, refl, sym, ap, ◌∙◌, arith, lit<, get_or}
use Rattle.std.proofs.lemmas.Bool.Decides.{nat_tests}
use Rattle.std.proofs.lemmas.Fmt.{first_decimal, decimal_injective, signed_decimal_injective, digits_decimal}
use Rattle.std.specs.Str.{all_ascii_digits}
use Rattle.std.specs.Fmt.{signed_decimal}
use Rattle.mpi_base.specs.Texts.{begins_with_letter_lem, is_name_byte, is_pset_byte, is_tag_byte}
use Rattle.token_text.specs.Forms.{Form, fault_of}
use Rattle.token_text.specs.Reading.{Reads, IsExact, is_solid}
use Rattle.token_text.specs.Numbers.{begins_with, is_number, is_int, IsInt, number_form, int_form}
use Rattle.token_text.specs.Texts.{name_form, pset_name_form, tag_form, inside, hex_form, hex_text, hex_digits, IsBytes, is_hex_digit, are_hex_digits}
use Rattle.token_text.specs.declared.faults.TokenFault.{TokenFault}
use Rattle.token_text.specs.Steps.{hex_bytes}
use Rattle.token_text.proofs.Decimals.{own, decimal_number}
use Rattle.token_text.proofs.Hex.{digits_again}
use Rattle.token_text.proofs.Marks.{lacks_both, lacks_by, number_lacks, int_lacks, number_some, int_some, solid_of, ends_again, inside_again}

-- a reader that is given the token of a value answers this value
pub read_again : {V : Type 0} (f : Form V) → IsExact f → (v : V) → f.Fits v → (r : Result V TokenFault) → Reads f (f.text v) r → r ≡ Ok v
read_again f x v h (Ok w) k = let e = x.alone v w h k.fits k.text in ap (λ (u : _). Ok u) (sym e)
read_again f x v h (Err e) k = absurd (let o = x.own v h in cc (o, k))

-- numbers

pub number_exact : (most : ℕ) → most < 2 ^ 64 → IsExact (number_form most)
number_exact most h = record {
  own = λ n l. (let e = decimal_number most n l h in rw e refl);
  alone = λ m n k l e. decimal_injective m n (omega arith) (omega arith) e;
  solid = λ n l. solid_of (decimal n) (number_some n (omega arith)) (number_lacks 32 n refl (omega arith));
}

-- a text of a number of 32 bits is of the form
pub int_has : (z : ℤ) → IsInt z → is_int (signed_decimal z) ≡ true
int_has (pos n) h = go (decimal n) (digits_decimal own n (omega (arith, h))) (decimal_number 2147483647 n h (lit< tt))
  where
    go : (t : List ℕ) → all_ascii_digits t ≡ true → is_number 2147483647 t ≡ true → is_int t ≡ true
    go [] d k = absurd (grind (arith, k))
    go (b ∷ bs) d k = let m : (b == 45) ≡ false = grind (arith, nat_tests, d) in rw m k
int_has (negsuc n) h =
    let a = decimal_number 2147483648 (suc n) (omega (arith, h)) (lit< tt) in
    let f = go (decimal (suc n)) (first_decimal (suc n) (omega arith) (omega (arith, h))) in
    rw (a, f) refl
  where
    go : (t : List ℕ) → 48 < get_or t 0 0 → begins_with 48 t ≡ false
    go [] u = absurd (omega (arith, u))
    go (b ∷ bs) u = grind (arith, nat_tests, u)

-- numbers with one text are the same
int_alone : (y z : ℤ) → IsInt y → IsInt z → signed_decimal y ≡ signed_decimal z → y ≡ z
int_alone (pos m) (pos n) k l e = signed_decimal_injective (pos m) (pos n) (omega (arith, k)) (omega (arith, l)) e
int_alone (pos m) (negsuc n) k l e = signed_decimal_injective (pos m) (negsuc n) (omega (arith, k)) (omega (arith, l)) e
int_alone (negsuc m) (pos n) k l e = signed_decimal_injective (negsuc m) (pos n) (omega (arith, k)) (omega (arith, l)) e
int_alone (negsuc m) (negsuc n) k l e = signed_decimal_injective (negsuc m) (negsuc n) (omega (arith, k)) (omega (arith, l)) e

pub int_exact : IsExact int_form
int_exact = record {
  own = λ z l. (let e = int_has z l in rw e refl);
  alone = int_alone;
  solid = λ z l. solid_of (signed_decimal z) (int_some z l) (int_lacks 32 z refl refl l);
}

-- names

-- a name has a letter
name_some : (t : List ℕ) → begins_with_letter_lem t ≡ true → 0 < length t
name_some [] h = absurd (cc)
name_some (b ∷ bs) h = omega arith

pub name_exact : IsExact name_form
name_exact = record {
  own = λ t h. (let f = h.first in let a = h.all in let s = h.short in grind (arith, nat_tests, f, a, s));
  alone = λ a b h k e. e;
  solid = λ t h. solid_of t (name_some t h.first) (lacks_by is_name_byte 32 (λ b q. grind (arith, nat_tests, q)) t h.all);
}

pub pset_name_exact : IsExact pset_name_form
pset_name_exact = record {
  own = λ t h. (let f = h.some in let a = h.all in let s = h.short in grind (arith, nat_tests, f, a, s));
  alone = λ a b h k e. e;
  solid = λ t h. solid_of t h.some (lacks_by is_pset_byte 32 (λ b q. grind (arith, nat_tests, q)) t h.all);
}

pub tag_exact : IsExact tag_form
tag_exact = record {
  own = λ t h. (let w = ends_again 34 34 t in let i = inside_again 34 34 t in let a = h.all in let s = h.short in rw (w, i, a) (grind (arith, nat_tests, s)));
  alone = λ a b h k e. sym (inside_again 34 34 a) ∙ ap inside e ∙ inside_again 34 34 b;
  solid = λ t h. solid_of (34 ∷ (t ++ 34 ∷ [])) (omega arith) (lacks_both 32 t (34 ∷ []) (lacks_by is_tag_byte 32 (λ b q. grind (arith, nat_tests, q)) t h.all) refl);
}

-- bytes

-- the digits of bytes have no fault
hex_own : (bs : List ℕ) → IsBytes bs → fault_of hex_form (hex_text bs) ≡ None
hex_own [] h = refl
hex_own (b ∷ bs) h =
    let a = digits_again (b ∷ bs) h.each in
    let l = a.2 in
    let s = h.short in
    let d = a.0 in
    let g : are_hex_digits (hex_digits (b ∷ bs)) ≡ true = grind (arith, nat_tests, d, l) in
    let e : nat_lt 512 (length (hex_digits (b ∷ bs))) ≡ false = grind (arith, nat_tests, l, s) in
    grind (arith, g, e)

-- bytes with the same digits are the same
hex_alone : (a b : List ℕ) → IsBytes a → IsBytes b → hex_text a ≡ hex_text b → a ≡ b
hex_alone [] [] h k e = refl
hex_alone [] (b ∷ bs) h k e = absurd (omega (arith, ap length e))
hex_alone (a ∷ xs) [] h k e = absurd (omega (arith, ap length e))
hex_alone (a ∷ xs) (b ∷ bs) h k e = sym (digits_again (a ∷ xs) h.each).1 ∙ ap hex_bytes e ∙ (digits_again (b ∷ bs) k.each).1

-- no digit is a space
hex_solid : (bs : List ℕ) → IsBytes bs → is_solid (hex_text bs) ≡ true
hex_solid [] h = refl
hex_solid (b ∷ bs) h = solid_of (hex_digits (b ∷ bs)) (omega arith) (lacks_by is_hex_digit 32 (λ c q. grind (arith, nat_tests, q)) (hex_digits (b ∷ bs)) (digits_again (b ∷ bs) h.each).0)

pub hex_exact : IsExact hex_form
hex_exact = record { own = hex_own; alone = hex_alone; solid = hex_solid }
