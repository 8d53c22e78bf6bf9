-- Lists, between brackets and with a comma between two items.
use Rattle.std.specs.Prelude.{ℕ, ◌≤◌, ◌==◌, ◌&&◌, Bool, false, List, [], ◌∷◌, ◌++◌, length, map, nat_lt, ℤ, decimal}
use Rattle.std.specs.List.{list_all, AllByRecursion, slice_split, join_with_byte}
use Rattle.std.specs.Fmt.{signed_decimal}
use Rattle.std.specs.Str.Parse.{digits_value}
use Rattle.mpi_base.specs.MemberLists.{are_distinct, AreRanks}
use Rattle.mpi_base.specs.declared.groups.RankArg.{RankArg}
use Rattle.mpi_base.specs.declared.groups.RankOut.{RankOut}
use Rattle.mpi_base.specs.declared.groups.Triplet.{Triplet}
use Rattle.token_text.specs.Forms.{Form}
use Rattle.token_text.specs.Numbers.{is_number, is_int, IsInt, int_form}
use Rattle.token_text.specs.Texts.{is_wrapped, inside}
use Rattle.token_text.specs.Words.{rank_arg_form, rank_out_form}

-- the parts between marks; an empty text has none
abbrev pub parts_of : ℕ → List ℕ → List (List ℕ)
parts_of mark [] = []
parts_of mark (b ∷ bs) = slice_split (λ c. c == mark) (b ∷ bs)

-- the items of a list
abbrev pub items_of : List ℕ → List (List ℕ)
items_of t = parts_of 44 (inside t)

-- at most 16 values that have a token
pub record AreItems {V : Type 0} (Fits : V → Type 0) (vs : List V) : Type 0 where
  pub each : AllByRecursion Fits vs
  pub short : length vs ≤ 16

-- values between brackets
abbrev pub list_text : {V : Type 0} → (V → List ℕ) → List V → List ℕ
list_text text vs = 91 ∷ (join_with_byte 44 (map text vs) ++ 93 ∷ [])

-- lists of at most 16 items of a form
abbrev pub list_form : {V : Type 0} → Form V → Form (List V)
list_form f = record {
  text = list_text f.text;
  Fits = AreItems f.Fits;
  has = λ t. is_wrapped 91 93 t && list_all f.has (items_of t);
  is_long = λ t. nat_lt 16 (length (items_of t));
}

-- the numbers of a range of ranks
abbrev pub triplet_ints : Triplet → List ℤ
triplet_ints p = p.first ∷ p.last ∷ p.stride ∷ []

-- three numbers
abbrev pub are_three : List (List ℕ) → Bool
are_three ts = (length ts == 3) && list_all is_int ts

-- a range of ranks: three numbers with a colon between two
abbrev pub triplet_form : Form Triplet
triplet_form = record {
  text = λ p. join_with_byte 58 (map signed_decimal (triplet_ints p));
  Fits = λ p. AllByRecursion IsInt (triplet_ints p);
  has = λ t. are_three (parts_of 58 t);
  is_long = λ t. false;
}

-- lists of numbers with or without a sign
abbrev pub ints_form : Form (List ℤ)
ints_form = list_form int_form

-- lists of ranks that are to be translated
abbrev pub rank_args_form : Form (List RankArg)
rank_args_form = list_form rank_arg_form

-- lists of ranks that were translated
abbrev pub rank_outs_form : Form (List RankOut)
rank_outs_form = list_form rank_out_form

-- lists of ranges of ranks
abbrev pub triplets_form : Form (List Triplet)
triplets_form = list_form triplet_form

-- lists of distinct ranks of a job
abbrev pub members_form : Form (List ℕ)
members_form = record {
  text = list_text decimal;
  Fits = AreRanks;
  has = λ t. is_wrapped 91 93 t && list_all (is_number 15) (items_of t) && are_distinct (map (digits_value 10) (items_of t));
  is_long = λ t. false;
}
