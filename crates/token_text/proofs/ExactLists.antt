-- Forms with words, and lists of a form, are exact.
use Rattle.std.proofs.Common.{◌≡◌, ℕ, ◌^◌, ◌<◌, ◌≤◌, ◌==◌, nat_lt, true, false, List, [], ◌∷◌, length, map, Option, Some, None, ℤ, pos, negsuc, decimal, codes, refl, sym, ap, ◌∙◌, arith, lit<, length-append}
use Rattle.std.proofs.lemmas.Bool.Decides.{nat_tests}
use Rattle.std.proofs.lemmas.Fmt.{digits_decimal, decimal_injective}
use Rattle.std.specs.List.{list_all, AllByRecursion, join_with_byte}
use Rattle.std.specs.Fmt.{signed_decimal}
use Rattle.mpi_base.specs.Texts.{between}
use Rattle.mpi_base.proofs.KeyFacts.{bytes_eq-refl}
use Rattle.mpi_base.specs.declared.groups.RankArg.{RankArg}
use Rattle.mpi_base.specs.declared.groups.RankArg.TheVariants as arg
use Rattle.mpi_base.specs.declared.groups.RankOut.{RankOut}
use Rattle.mpi_base.specs.declared.groups.RankOut.TheVariants as out
use Rattle.mpi_base.specs.declared.groups.Triplet.{Triplet}
use Rattle.mpi_base.specs.declared.messages.SrcArg.{SrcArg}
use Rattle.mpi_base.specs.declared.messages.SrcArg.TheVariants as source
use Rattle.token_text.specs.Forms.{Form, fault_of}
use Rattle.token_text.specs.Reading.{IsExact, is_solid}
use Rattle.token_text.specs.Numbers.{IsInt, number_form, num_form, int_form}
use Rattle.token_text.specs.Words.{text_or, FitsIf, word_or, dest_form, any_tag_form, colour_form, source_text, IsSource, source_form, rank_arg_text, IsRankArg, rank_arg_form, rank_out_text, IsRankOut, rank_out_form}
use Rattle.token_text.specs.Lists.{parts_of, items_of, list_text, list_form, triplet_ints, triplet_form, ints_form, rank_args_form, rank_outs_form, triplets_form, members_form}
use Rattle.token_text.proofs.Decimals.{own, decimal_number}
use Rattle.token_text.proofs.Marks.{lacks, lacks_both, number_lacks, int_lacks, number_some, int_some, solid_of, IsApart, joined_lacks, parts_again, ends_again, inside_again}
use Rattle.token_text.proofs.Exact.{number_exact, int_exact, int_has}
use Rattle.token_text.proofs.Seen.{has_of, map_length}
use Rattle.token_text.proofs.RankLists.{rank_texts, values_alone}

-- a text without fault has the form
has_own : {V : Type 0} (f : Form V) → IsExact f → (v : V) → f.Fits v → f.has (f.text v) ≡ true
has_own f x v h = has_of f (f.text v) (x.own v h)

-- a text that begins with another byte is no number
pub number_apart : (n b : ℕ) (bs : List ℕ) → n < 2 ^ 64 → between 48 57 b ≡ false → decimal n ≡ b ∷ bs → ⊥
number_apart n b bs l h e = let d = digits_decimal own n l in grind (arith, nat_tests, (rw e at d), h)

-- nor with a sign
int_apart : (z : ℤ) (b : ℕ) (bs : List ℕ) → IsInt z → between 48 57 b ≡ false → (45 == b) ≡ false → signed_decimal z ≡ b ∷ bs → ⊥
int_apart (pos n) b bs l h k e = number_apart n b bs (omega (arith, l)) h e
int_apart (negsuc n) b bs l h k e = let q : 45 ≡ b = cc (e) in grind (arith, nat_tests, k, q)

-- a form with a word is exact where the word is the text of no value
pub word_exact : {V : Type 0} (word : List ℕ) (f : Form V) → IsExact f → is_solid word ≡ true → ((v : V) → f.Fits v → f.text v ≡ word → ⊥) → IsExact (word_or word f)
word_exact {V} word f x s apart = record { own = good; alone = one; solid = whole }
  where
    good : (o : Option V) → FitsIf f.Fits o → fault_of (word_or word f) (text_or word f.text o) ≡ None
    good None h = let e = bytes_eq-refl word in grind (arith, e)
    good (Some v) h = let e = has_own f x v h in grind (arith, e)

    one : (a b : Option V) → FitsIf f.Fits a → FitsIf f.Fits b → text_or word f.text a ≡ text_or word f.text b → a ≡ b
    one None None h k e = refl
    one None (Some v) h k e = absurd (apart v k (sym e))
    one (Some v) None h k e = absurd (apart v h e)
    one (Some u) (Some v) h k e = ap (λ (w : V). Some w) (x.alone u v h k e)

    whole : (o : Option V) → FitsIf f.Fits o → is_solid (text_or word f.text o) ≡ true
    whole None h = s
    whole (Some v) h = x.solid v h

pub dest_exact : IsExact dest_form
dest_exact = word_exact (codes "null") num_form (number_exact 2147483647 (lit< tt)) refl (λ n l e. number_apart n 110 _ (omega arith) refl e)

pub any_tag_exact : IsExact any_tag_form
any_tag_exact = word_exact (codes "any") num_form (number_exact 2147483647 (lit< tt)) refl (λ n l e. number_apart n 97 _ (omega arith) refl e)

pub colour_exact : IsExact colour_form
colour_exact = word_exact (codes "undefined") int_form int_exact refl (λ z l e. int_apart z 117 _ l refl refl e)

-- sources with one text are the same
source_alone : (a b : SrcArg) → IsSource a → IsSource b → source_text a ≡ source_text b → a ≡ b
source_alone (source.At m) (source.At n) h k e = ap (λ (i : ℕ). source.At i) (decimal_injective m n (omega (arith, h)) (omega (arith, k)) e)
source_alone (source.At m) source.Any h k e = absurd (number_apart m 97 _ (omega (arith, h)) refl e)
source_alone (source.At m) source.Null h k e = absurd (number_apart m 110 _ (omega (arith, h)) refl e)
source_alone source.Any (source.At n) h k e = absurd (number_apart n 97 _ (omega (arith, k)) refl (sym e))
source_alone source.Any source.Any h k e = refl
source_alone source.Any source.Null h k e = absurd (cc)
source_alone source.Null (source.At n) h k e = absurd (number_apart n 110 _ (omega (arith, k)) refl (sym e))
source_alone source.Null source.Any h k e = absurd (cc)
source_alone source.Null source.Null h k e = refl

-- the text of a source has no fault
source_own : (a : SrcArg) → IsSource a → fault_of source_form (source_text a) ≡ None
source_own (source.At n) h = let e = decimal_number 2147483647 n h (lit< tt) in grind (arith, e)
source_own source.Any h = refl
source_own source.Null h = refl

-- it has no space
source_solid : (a : SrcArg) → IsSource a → is_solid (source_text a) ≡ true
source_solid (source.At n) h = solid_of (decimal n) (number_some n (omega (arith, h))) (number_lacks 32 n refl (omega (arith, h)))
source_solid source.Any h = refl
source_solid source.Null h = refl

pub source_exact : IsExact source_form
source_exact = record { own = source_own; alone = source_alone; solid = source_solid }

-- items of lists

-- a form whose tokens may stand between commas
record IsItem {V : Type 0} (f : Form V) : Type 0 where
  exact : IsExact f
  apart : (v : V) → f.Fits v → lacks 44 (f.text v) ≡ true

-- a solid text is not empty
some_of : (t : List ℕ) → is_solid t ≡ true → 0 < length t
some_of t h = grind (arith, nat_tests, h)

-- it has no space
free_of : (t : List ℕ) → is_solid t ≡ true → lacks 32 t ≡ true
free_of t h = grind (arith, h)

int_item : IsItem int_form
int_item = record { exact = int_exact; apart = λ z h. int_lacks 44 z refl refl h }

-- the text of a rank that is to be translated has no fault
rank_arg_own : (a : RankArg) → IsRankArg a → fault_of rank_arg_form (rank_arg_text a) ≡ None
rank_arg_own (arg.At z) h = let e = int_has z h in grind (arith, e)
rank_arg_own arg.Null h = refl

-- such ranks with one text are the same
rank_arg_alone : (a b : RankArg) → IsRankArg a → IsRankArg b → rank_arg_text a ≡ rank_arg_text b → a ≡ b
rank_arg_alone (arg.At y) (arg.At z) h k e = ap (λ (i : ℤ). arg.At i) (int_exact.alone y z h k e)
rank_arg_alone (arg.At y) arg.Null h k e = absurd (int_apart y 110 _ h refl refl e)
rank_arg_alone arg.Null (arg.At z) h k e = absurd (int_apart z 110 _ k refl refl (sym e))
rank_arg_alone arg.Null arg.Null h k e = refl

-- such a text has digits, `-` and letters alone
rank_arg_lacks : (m : ℕ) → between 48 57 m ≡ false → (45 == m) ≡ false → lacks m (codes "null") ≡ true → (a : RankArg) → IsRankArg a → lacks m (rank_arg_text a) ≡ true
rank_arg_lacks m p q r (arg.At z) h = int_lacks m z p q h
rank_arg_lacks m p q r arg.Null h = r

-- it is not empty
rank_arg_some : (a : RankArg) → IsRankArg a → 0 < length (rank_arg_text a)
rank_arg_some (arg.At z) h = int_some z h
rank_arg_some arg.Null h = omega arith

rank_arg_item : IsItem rank_arg_form
rank_arg_item = record {
  exact = record { own = rank_arg_own; alone = rank_arg_alone; solid = λ a h. solid_of (rank_arg_text a) (rank_arg_some a h) (rank_arg_lacks 32 refl refl refl a h) };
  apart = rank_arg_lacks 44 refl refl refl;
}

-- the text of a rank that was translated has no fault
rank_out_own : (a : RankOut) → IsRankOut a → fault_of rank_out_form (rank_out_text a) ≡ None
rank_out_own (out.At n) h = let e = decimal_number 65535 n h (lit< tt) in grind (arith, e)
rank_out_own out.Null h = refl
rank_out_own out.Undefined h = refl

-- such ranks with one text are the same
rank_out_alone : (a b : RankOut) → IsRankOut a → IsRankOut b → rank_out_text a ≡ rank_out_text b → a ≡ b
rank_out_alone (out.At m) (out.At n) h k e = ap (λ (i : ℕ). out.At i) (decimal_injective m n (omega (arith, h)) (omega (arith, k)) e)
rank_out_alone (out.At m) out.Null h k e = absurd (number_apart m 110 _ (omega (arith, h)) refl e)
rank_out_alone (out.At m) out.Undefined h k e = absurd (number_apart m 117 _ (omega (arith, h)) refl e)
rank_out_alone out.Null (out.At n) h k e = absurd (number_apart n 110 _ (omega (arith, k)) refl (sym e))
rank_out_alone out.Null out.Null h k e = refl
rank_out_alone out.Null out.Undefined h k e = absurd (cc)
rank_out_alone out.Undefined (out.At n) h k e = absurd (number_apart n 117 _ (omega (arith, k)) refl (sym e))
rank_out_alone out.Undefined out.Null h k e = absurd (cc)
rank_out_alone out.Undefined out.Undefined h k e = refl

-- such a text has digits and letters alone
rank_out_lacks : (m : ℕ) → between 48 57 m ≡ false → lacks m (codes "null") ≡ true → lacks m (codes "undefined") ≡ true → (a : RankOut) → IsRankOut a → lacks m (rank_out_text a) ≡ true
rank_out_lacks m p q r (out.At n) h = number_lacks m n p (omega (arith, h))
rank_out_lacks m p q r out.Null h = q
rank_out_lacks m p q r out.Undefined h = r

-- it is not empty
rank_out_some : (a : RankOut) → IsRankOut a → 0 < length (rank_out_text a)
rank_out_some (out.At n) h = number_some n (omega (arith, h))
rank_out_some out.Null h = omega arith
rank_out_some out.Undefined h = omega arith

rank_out_item : IsItem rank_out_form
rank_out_item = record {
  exact = record { own = rank_out_own; alone = rank_out_alone; solid = λ a h. solid_of (rank_out_text a) (rank_out_some a h) (rank_out_lacks 32 refl refl refl a h) };
  apart = rank_out_lacks 44 refl refl refl;
}

-- the parts of a range are its numbers
range_parts : (p : Triplet) → triplet_form.Fits p → parts_of 58 (triplet_form.text p) ≡ map signed_decimal (triplet_ints p)
range_parts p h = parts_again 58 (map signed_decimal (triplet_ints p)) (apart p.first h.0, (apart p.last h.1.0, (apart p.stride h.1.1.0, tt)))
  where
    apart : (z : ℤ) → IsInt z → IsApart 58 (signed_decimal z)
    apart z l = record { some = int_some z l; free = int_lacks 58 z refl refl l }

-- a range is that of its numbers
range_is : (p q : Triplet) → p.first ≡ q.first → p.last ≡ q.last → p.stride ≡ q.stride → p ≡ q
range_is p q x y z i = record { first = x i; last = y i; stride = z i }

-- ranges with one text are the same
range_alone : (p q : Triplet) → triplet_form.Fits p → triplet_form.Fits q → triplet_form.text p ≡ triplet_form.text q → p ≡ q
range_alone p q h k e =
    let es = sym (range_parts p h) ∙ ap (parts_of 58) e ∙ range_parts q k in
    let x = int_exact.alone p.first q.first h.0 k.0 (cc es) in
    let y = int_exact.alone p.last q.last h.1.0 k.1.0 (cc es) in
    let z = int_exact.alone p.stride q.stride h.1.1.0 k.1.1.0 (cc es) in
    range_is p q x y z

-- the text of a range has digits, `-` and colons alone
range_lacks : (m : ℕ) → between 48 57 m ≡ false → (45 == m) ≡ false → (58 == m) ≡ false → (p : Triplet) → triplet_form.Fits p → lacks m (triplet_form.text p) ≡ true
range_lacks m a b c p h = joined_lacks m 58 (map signed_decimal (triplet_ints p)) c (int_lacks m p.first a b h.0, (int_lacks m p.last a b h.1.0, (int_lacks m p.stride a b h.1.1.0, tt)))

-- it has no fault
range_own : (p : Triplet) → triplet_form.Fits p → fault_of triplet_form (triplet_form.text p) ≡ None
range_own p h = let e = range_parts p h in let x = int_has p.first h.0 in let y = int_has p.last h.1.0 in let z = int_has p.stride h.1.1.0 in rw (e, x, y, z) refl

-- it is not empty
range_some : (p : Triplet) → triplet_form.Fits p → 0 < length (triplet_form.text p)
range_some p h = omega (arith, int_some p.first h.0, length-append (signed_decimal p.first) (58 ∷ join_with_byte 58 (signed_decimal p.last ∷ signed_decimal p.stride ∷ [])))

range_item : IsItem triplet_form
range_item = record {
  exact = record { own = range_own; alone = range_alone; solid = λ p h. solid_of (triplet_form.text p) (range_some p h) (range_lacks 32 refl refl refl p h) };
  apart = range_lacks 44 refl refl refl;
}

-- lists

-- the texts of items lack the mark
items_apart : {V : Type 0} (f : Form V) → IsItem f → (vs : List V) → AllByRecursion f.Fits vs → AllByRecursion (IsApart 44) (map f.text vs)
items_apart f x [] h = tt
items_apart f x (v ∷ vs) h = (record { some = some_of (f.text v) (x.exact.solid v h.0); free = x.apart v h.0 }, items_apart f x vs h.1)

-- the texts of items lack spaces
items_solid : {V : Type 0} (f : Form V) → IsItem f → (vs : List V) → AllByRecursion f.Fits vs → AllByRecursion (λ t. lacks 32 t ≡ true) (map f.text vs)
items_solid f x [] h = tt
items_solid f x (v ∷ vs) h = (free_of (f.text v) (x.exact.solid v h.0), items_solid f x vs h.1)

-- the texts of items are of their form
items_have : {V : Type 0} (f : Form V) → IsItem f → (vs : List V) → AllByRecursion f.Fits vs → list_all f.has (map f.text vs) ≡ true
items_have f x [] h = refl
items_have f x (v ∷ vs) h = let e = has_own f x.exact v h.0 in let ih = items_have f x vs h.1 in rw (e, ih) refl

-- items with the same texts are the same
items_alone : {V : Type 0} (f : Form V) → IsItem f → (us vs : List V) → AllByRecursion f.Fits us → AllByRecursion f.Fits vs → map f.text us ≡ map f.text vs → us ≡ vs
items_alone f x [] [] h k e = refl
items_alone f x [] (v ∷ vs) h k e = absurd (cc)
items_alone f x (u ∷ us) [] h k e = absurd (cc)
items_alone f x (u ∷ us) (v ∷ vs) h k e =
    let a = x.exact.alone u v h.0 k.0 (cc e) in
    let ih = items_alone f x us vs h.1 k.1 (cc e) in
    cc (a, ih)

-- the items of a list are read again
items_again : {V : Type 0} (f : Form V) → IsItem f → (vs : List V) → AllByRecursion f.Fits vs → items_of (list_text f.text vs) ≡ map f.text vs
items_again f x vs h = ap (parts_of 44) (inside_again 91 93 (join_with_byte 44 (map f.text vs))) ∙ parts_again 44 (map f.text vs) (items_apart f x vs h)

-- a list has no space
list_solid : {V : Type 0} (f : Form V) → IsItem f → (vs : List V) → AllByRecursion f.Fits vs → is_solid (list_text f.text vs) ≡ true
list_solid f x vs h =
    solid_of (list_text f.text vs) (omega arith) (lacks_both 32 (join_with_byte 44 (map f.text vs)) (93 ∷ []) (joined_lacks 32 44 (map f.text vs) refl (items_solid f x vs h)) refl)

-- lists of items are exact
list_exact : {V : Type 0} (f : Form V) → IsItem f → IsExact (list_form f)
list_exact f x = record {
  own = λ vs h. (
      let w = ends_again 91 93 (join_with_byte 44 (map f.text vs)) in
      let i = items_again f x vs h.each in
      let a = items_have f x vs h.each in
      let l = map_length f.text vs in
      let s = h.short in
      rw (w, i, a, l) (grind (arith, nat_tests, s)));
  alone = λ us vs h k e. items_alone f x us vs h.each k.each (sym (items_again f x us h.each) ∙ ap items_of e ∙ items_again f x vs k.each);
  solid = λ vs h. list_solid f x vs h.each;
}

pub ints_exact : IsExact ints_form
ints_exact = list_exact int_form int_item

pub rank_args_exact : IsExact rank_args_form
rank_args_exact = list_exact rank_arg_form rank_arg_item

pub rank_outs_exact : IsExact rank_outs_form
rank_outs_exact = list_exact rank_out_form rank_out_item

pub triplets_exact : IsExact triplets_form
triplets_exact = list_exact triplet_form range_item

rank_item : IsItem (number_form 15)
rank_item = record { exact = number_exact 15 (lit< tt); apart = λ n h. number_lacks 44 n refl (omega (arith, h)) }

-- ranks are numbers of at most 15
ranks_fit : (ranks : List ℕ) → list_all (λ m. nat_lt m 16) ranks ≡ true → AllByRecursion (λ n. n ≤ 15) ranks
ranks_fit [] h = tt
ranks_fit (m ∷ ms) h = ((let l : m < 16 = grind (arith, nat_tests, h) in omega (arith, l)), ranks_fit ms (grind (arith, h)))

pub members_exact : IsExact members_form
members_exact = record {
  own = λ ms h. (
      let w = ends_again 91 93 (join_with_byte 44 (map decimal ms)) in
      let i = items_again (number_form 15) rank_item ms (ranks_fit ms h.each) in
      let a = rank_texts ms h.each in
      let v = values_alone ms h.each in
      let d = h.distinct in
      rw (w, i, a, v, d) refl);
  alone = λ ks ms h k e.
      items_alone (number_form 15) rank_item ks ms (ranks_fit ks h.each) (ranks_fit ms k.each)
      (sym (items_again (number_form 15) rank_item ks (ranks_fit ks h.each)) ∙ ap items_of e ∙ items_again (number_form 15) rank_item ms (ranks_fit ms k.each));
  solid = λ ms h. list_solid (number_form 15) rank_item ms (ranks_fit ms h.each);
}
