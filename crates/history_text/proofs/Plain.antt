-- No token of an entry has a line feed.
use Rattle.std.proofs.Common.{◌≡◌, ℕ, ◌<◌, ◌^◌, true, List, [], ◌∷◌, ◌++◌, map, Some, None, ℤ, decimal, refl, arith}
use Rattle.std.proofs.lemmas.Bool.Decides.{nat_tests}
use Rattle.std.specs.Fmt.{signed_decimal}
use Rattle.std.specs.List.{AllByRecursion, list_all, join_with_byte}
use Rattle.mpi_base.specs.Texts.{is_name_byte, is_pset_byte, is_tag_byte}
use Rattle.mpi_base.specs.declared.groups.RankArg.{RankArg}
use Rattle.mpi_base.specs.declared.groups.RankArg.TheVariants as arg
use Rattle.mpi_base.specs.declared.groups.Triplet.{Triplet}
use Rattle.mpi_base.specs.declared.messages.SrcArg.TheVariants as src
use Rattle.token_text.specs.Numbers.{IsInt}
use Rattle.token_text.specs.Words.{rank_arg_text, IsRankArg}
use Rattle.token_text.specs.Texts.{hex_digits, is_hex_digit}
use Rattle.token_text.specs.Lists.{triplet_form}
use Rattle.token_text.proofs.Hex.{digits_again}
use Rattle.token_text.proofs.Marks.{lacks, lacks_both, lacks_by, number_lacks, int_lacks, joined_lacks}
use Rattle.script_text.specs.Spelling.{Value, name, pset, quoted, num, int, hex, list, null_list, triplet_list, arrow, dest, source, tag_or_any, colour, text_of, Fits}

-- a text without a line feed
abbrev pub IsPlain : List ℕ → Type 0
IsPlain t = lacks 10 t ≡ true

-- some texts, each made of a value that fits
pub texts_plain : {V : Type 0} (g : V → List ℕ) (P : V → Type 0) → ((v : V) → P v → IsPlain (g v)) → (vs : List V) → AllByRecursion P vs → AllByRecursion IsPlain (map g vs)
texts_plain g P each [] h = tt
texts_plain g P each (v ∷ vs) h = (each v h.0, texts_plain g P each vs h.1)

-- a list between brackets
pub listed_plain : (ts : List (List ℕ)) → AllByRecursion IsPlain ts → IsPlain (91 ∷ (join_with_byte 44 ts ++ 93 ∷ []))
listed_plain ts h = lacks_both 10 (join_with_byte 44 ts) (93 ∷ []) (joined_lacks 10 44 ts refl h) refl

int_plain : (z : ℤ) → IsInt z → IsPlain (signed_decimal z)
int_plain z h = int_lacks 10 z refl refl h

rank_arg_plain : (r : RankArg) → IsRankArg r → IsPlain (rank_arg_text r)
rank_arg_plain (arg.At z) h = int_plain z h
rank_arg_plain arg.Null h = refl

triplet_plain : (p : Triplet) → triplet_form.Fits p → IsPlain (triplet_form.text p)
triplet_plain p h = joined_lacks 10 58 (signed_decimal p.first ∷ signed_decimal p.last ∷ signed_decimal p.stride ∷ []) refl (int_plain p.first h.0, (int_plain p.last h.1.0, (int_plain p.stride h.1.1.0, tt)))

pub number_plain : (n : ℕ) → n < 2 ^ 64 → IsPlain (decimal n)
number_plain n h = number_lacks 10 n refl h

pub hex_plain : (bs : List ℕ) → AllByRecursion (λ b. b < 256) bs → IsPlain (hex_digits bs)
hex_plain bs h = lacks_by is_hex_digit 10 (λ b q. grind (arith, nat_tests, q)) (hex_digits bs) (digits_again bs h).0

pub pset_plain : (t : List ℕ) → list_all is_pset_byte t ≡ true → IsPlain t
pset_plain t h = lacks_by is_pset_byte 10 (λ b q. grind (arith, nat_tests, q)) t h

pub tag_plain : (t : List ℕ) → list_all is_tag_byte t ≡ true → IsPlain (34 ∷ (t ++ 34 ∷ []))
tag_plain t h = lacks_both 10 t (34 ∷ []) (lacks_by is_tag_byte 10 (λ b q. grind (arith, nat_tests, q)) t h) refl

-- the token of a value of an operation
pub value_plain : (v : Value) → Fits v → IsPlain (text_of v)
value_plain (name s) h = lacks_by is_name_byte 10 (λ b q. grind (arith, nat_tests, q)) s h.all
value_plain (pset s) h = pset_plain s h.all
value_plain (quoted s) h = tag_plain s h.all
value_plain (num n) h = number_plain n (omega (arith, h))
value_plain (int z) h = int_plain z h
value_plain (hex []) h = refl
value_plain (hex (b ∷ bs)) h = hex_plain (b ∷ bs) h.each
value_plain (list zs) h = listed_plain (map signed_decimal zs) (texts_plain signed_decimal IsInt int_plain zs h.each)
value_plain (null_list rs) h = listed_plain (map rank_arg_text rs) (texts_plain rank_arg_text IsRankArg rank_arg_plain rs h.each)
value_plain (triplet_list ps) h = listed_plain (map triplet_form.text ps) (texts_plain triplet_form.text triplet_form.Fits triplet_plain ps h.each)
value_plain arrow h = refl
value_plain (dest None) h = refl
value_plain (dest (Some n)) h = number_plain n (omega (arith, h))
value_plain (source (src.At n)) h = number_plain n (omega (arith, h))
value_plain (source src.Any) h = refl
value_plain (source src.Null) h = refl
value_plain (tag_or_any None) h = refl
value_plain (tag_or_any (Some n)) h = number_plain n (omega (arith, h))
value_plain (colour None) h = refl
value_plain (colour (Some z)) h = int_plain z h
