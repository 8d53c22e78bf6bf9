-- Words that stand in the place of a number.
use Rattle.std.specs.Prelude.{ℕ, ◌≤◌, ◌||◌, false, List, Option, Some, None, ℤ, codes, bytes_eq, decimal}
use Rattle.std.specs.Fmt.{signed_decimal}
use Rattle.mpi_base.specs.declared.groups.RankArg.{RankArg}
use Rattle.mpi_base.specs.declared.groups.RankArg.TheVariants as arg
use Rattle.mpi_base.specs.declared.groups.RankOut.{RankOut}
use Rattle.mpi_base.specs.declared.groups.RankOut.TheVariants as out
use Rattle.mpi_base.specs.declared.messages.SrcArg.{SrcArg}
use Rattle.mpi_base.specs.declared.messages.SrcArg.TheVariants as source
use Rattle.token_text.specs.Forms.{Form}
use Rattle.token_text.specs.Numbers.{is_number, is_int, IsInt, num_form, int_form}

-- the text of a value, or a word where there is none
abbrev pub text_or : {V : Type 0} → List ℕ → (V → List ℕ) → Option V → List ℕ
text_or word text None = word
text_or word text (Some v) = text v

-- a condition on a value, if there is one
abbrev pub FitsIf : {V : Type 0} → (V → Type 0) → Option V → Type 0
FitsIf Fits None = Unit {0}
FitsIf Fits (Some v) = Fits v

-- values of a form, or a word where there is none
abbrev pub word_or : {V : Type 0} → List ℕ → Form V → Form (Option V)
word_or word f = record { text = text_or word f.text; Fits = FitsIf f.Fits; has = λ t. bytes_eq t word || f.has t; is_long = λ t. false }

-- the destination of a send: a rank or the null process
abbrev pub dest_form : Form (Option ℕ)
dest_form = word_or (codes "null") num_form

-- the tag of a receive: a number or any
abbrev pub any_tag_form : Form (Option ℕ)
any_tag_form = word_or (codes "any") num_form

-- the colour of a split: a number or the undefined colour
abbrev pub colour_form : Form (Option ℤ)
colour_form = word_or (codes "undefined") int_form

-- the token of a source
abbrev pub source_text : SrcArg → List ℕ
source_text (source.At rank) = decimal rank
source_text source.Any = codes "any"
source_text source.Null = codes "null"

-- a rank that a token can show, or a word
abbrev pub IsSource : SrcArg → Type 0
IsSource (source.At rank) = rank ≤ 2147483647
IsSource source.Any = Unit {0}
IsSource source.Null = Unit {0}

-- the source of a receive: a rank, any process or the null process
abbrev pub source_form : Form SrcArg
source_form = record {
  text = source_text;
  Fits = IsSource;
  has = λ t. bytes_eq t (codes "any") || (bytes_eq t (codes "null") || is_number 2147483647 t);
  is_long = λ t. false;
}

-- the token of a rank that is to be translated
abbrev pub rank_arg_text : RankArg → List ℕ
rank_arg_text (arg.At rank) = signed_decimal rank
rank_arg_text arg.Null = codes "null"

-- a rank that a token can show, or a word
abbrev pub IsRankArg : RankArg → Type 0
IsRankArg (arg.At rank) = IsInt rank
IsRankArg arg.Null = Unit {0}

-- a rank that is to be translated, or the null process
abbrev pub rank_arg_form : Form RankArg
rank_arg_form = record { text = rank_arg_text; Fits = IsRankArg; has = λ t. bytes_eq t (codes "null") || is_int t; is_long = λ t. false }

-- the token of a rank that was translated
abbrev pub rank_out_text : RankOut → List ℕ
rank_out_text (out.At rank) = decimal rank
rank_out_text out.Null = codes "null"
rank_out_text out.Undefined = codes "undefined"

-- a rank that a token can show, or a word
abbrev pub IsRankOut : RankOut → Type 0
IsRankOut (out.At rank) = rank ≤ 65535
IsRankOut out.Null = Unit {0}
IsRankOut out.Undefined = Unit {0}

-- a rank that was translated, the null process, or none
abbrev pub rank_out_form : Form RankOut
rank_out_form = record {
  text = rank_out_text;
  Fits = IsRankOut;
  has = λ t. bytes_eq t (codes "null") || (bytes_eq t (codes "undefined") || is_number 65535 t);
  is_long = λ t. false;
}
