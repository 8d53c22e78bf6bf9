-- Texts without a byte, and lists of them joined at it and cut again.
use Rattle.std.proofs.Common.{◌≡◌, ℕ, suc, ◌^◌, ◌<◌, ◌==◌, not, Bool, true, false, List, [], ◌∷◌, ◌++◌, length, ℤ, pos, negsuc, decimal, refl, ap, ◌∙◌, arith, length-append}
use Rattle.std.proofs.lemmas.Grind.{common_steps}
use Rattle.std.proofs.lemmas.Bool.Decides.{nat_tests}
use Rattle.std.proofs.lemmas.Fmt.{digits_decimal, decimal_nonempty}
use Rattle.std.proofs.lemmas.List.Splits.{slice_split_at, slice_split_none}
use Rattle.std.proofs.lemmas.List.Elements.{All-from_recursion}
use Rattle.std.specs.Str.{all_ascii_digits}
use Rattle.std.specs.List.{list_all, AllByRecursion, slice_split, join_with_byte}
use Rattle.std.specs.Fmt.{signed_decimal}
use Rattle.mpi_base.specs.Texts.{between}
use Rattle.token_text.specs.Reading.{is_solid}
use Rattle.token_text.specs.Numbers.{IsInt}
use Rattle.token_text.specs.Texts.{is_wrapped, inside}
use Rattle.token_text.specs.Lists.{parts_of}
use Rattle.token_text.proofs.Decimals.{own}

-- whether a text lacks a byte
abbrev pub lacks : ℕ → List ℕ → Bool
lacks m t = list_all (λ b. not (b == m)) t

-- two texts one behind the other
pub lacks_both : (m : ℕ) (s t : List ℕ) → lacks m s ≡ true → lacks m t ≡ true → lacks m (s ++ t) ≡ true
lacks_both m [] t h k = k
lacks_both m (b ∷ bs) t h k = let x : lacks m bs ≡ true = grind (arith, h) in let ih = lacks_both m bs t x k in grind (arith, ih, h)

-- a text whose bytes pass a test that the byte does not
pub lacks_by : (p : ℕ → Bool) (m : ℕ) → ((b : ℕ) → p b ≡ true → (b == m) ≡ false) → (t : List ℕ) → list_all p t ≡ true → lacks m t ≡ true
lacks_by p m apart [] h = refl
lacks_by p m apart (b ∷ bs) h =
    let x : p b ≡ true = grind (arith, h) in
    let y : list_all p bs ≡ true = grind (arith, h) in
    let ih = lacks_by p m apart bs y in
    let z = apart b x in
    grind (arith, ih, z)

-- no digit is another byte
digits_lack : (m : ℕ) (t : List ℕ) → between 48 57 m ≡ false → all_ascii_digits t ≡ true → lacks m t ≡ true
digits_lack m [] n d = refl
digits_lack m (b ∷ bs) n d =
    let e : all_ascii_digits bs ≡ true = grind (arith, nat_tests, d) in
    let ih = digits_lack m bs n e in
    grind (arith, nat_tests, d, ih, n)

-- a number has digits alone
pub number_lacks : (m n : ℕ) → between 48 57 m ≡ false → n < 2 ^ 64 → lacks m (decimal n) ≡ true
number_lacks m n h l = digits_lack m (decimal n) h (digits_decimal own n l)

-- with a sign it has `-` besides
pub int_lacks : (m : ℕ) (z : ℤ) → between 48 57 m ≡ false → (45 == m) ≡ false → IsInt z → lacks m (signed_decimal z) ≡ true
int_lacks m (pos n) h k l = number_lacks m n h (omega (arith, l))
int_lacks m (negsuc n) h k l = let e = number_lacks m (suc n) h (omega (arith, l)) in grind (arith, e, k)

-- a number has a digit
pub number_some : (n : ℕ) → n < 2 ^ 64 → 0 < length (decimal n)
number_some n l = decimal_nonempty n l

-- the same with a sign
pub int_some : (z : ℤ) → IsInt z → 0 < length (signed_decimal z)
int_some (pos n) h = decimal_nonempty n (omega (arith, h))
int_some (negsuc n) h = omega arith

-- a text that is not empty and has no space
pub solid_of : (t : List ℕ) → 0 < length t → lacks 32 t ≡ true → is_solid t ≡ true
solid_of t l h = grind (arith, nat_tests, l, h)

-- texts that are not empty and lack a byte
pub record IsApart (m : ℕ) (t : List ℕ) : Type 0 where
  pub some : 0 < length t
  pub free : lacks m t ≡ true

-- texts joined lack what each lacks
pub joined_lacks : (m mark : ℕ) (ts : List (List ℕ)) → (mark == m) ≡ false → AllByRecursion (λ t. lacks m t ≡ true) ts → lacks m (join_with_byte mark ts) ≡ true
joined_lacks m mark [] n h = refl
joined_lacks m mark (t ∷ []) n h = h.0
joined_lacks m mark (t ∷ u ∷ us) n h = let ih = joined_lacks m mark (u ∷ us) n h.1 in lacks_both m t (mark ∷ join_with_byte mark (u ∷ us)) h.0 (grind (arith, ih, n))

-- the same byte by byte
each_free : (m : ℕ) (t : List ℕ) → lacks m t ≡ true → AllByRecursion (λ b. (b == m) ≡ false) t
each_free m [] h = tt
each_free m (b ∷ bs) h = (grind (arith, h), each_free m bs (grind (arith, h)))

-- joined at a byte that they lack, they are cut again
split_again : (m : ℕ) (t : List ℕ) (ts : List (List ℕ)) → AllByRecursion (IsApart m) (t ∷ ts) → slice_split (λ b. b == m) (join_with_byte m (t ∷ ts)) ≡ t ∷ ts
split_again m t [] h = slice_split_none (λ b. b == m) t (All-from_recursion _ _ (each_free m t h.0.free))
split_again m t (u ∷ us) h =
    slice_split_at (λ b. b == m) t m (join_with_byte m (u ∷ us)) (All-from_recursion _ _ (each_free m t h.0.free)) (grind (arith, nat_tests))
    ∙ ap (λ (r : List (List ℕ)). t ∷ r) (split_again m u us h.1)

-- a text that is not empty is cut at each mark
parts_split : (m : ℕ) (t : List ℕ) → 0 < length t → parts_of m t ≡ slice_split (λ b. b == m) t
parts_split m [] h = absurd (omega arith)
parts_split m (b ∷ bs) h = refl

-- joined texts are not empty where the first is not
joined_some : (m : ℕ) (t : List ℕ) (ts : List (List ℕ)) → 0 < length t → 0 < length (join_with_byte m (t ∷ ts))
joined_some m t [] h = h
joined_some m t (u ∷ us) h = omega (arith, h, length-append t (m ∷ join_with_byte m (u ∷ us)))

-- texts joined at a byte that they lack are the parts of the whole
pub parts_again : (m : ℕ) (ts : List (List ℕ)) → AllByRecursion (IsApart m) ts → parts_of m (join_with_byte m ts) ≡ ts
parts_again m [] h = refl
parts_again m (t ∷ ts) h = parts_split m (join_with_byte m (t ∷ ts)) (joined_some m t ts h.0.some) ∙ split_again m t ts h

-- what stands between two bytes
pub ends_again : (first last : ℕ) (t : List ℕ) → is_wrapped first last (first ∷ (t ++ last ∷ [])) ≡ true
ends_again first last t = grind (arith, nat_tests, common_steps)

-- what was put between them
pub inside_again : (first last : ℕ) (t : List ℕ) → inside (first ∷ (t ++ last ∷ [])) ≡ t
inside_again first last t = grind (arith, nat_tests, common_steps)
