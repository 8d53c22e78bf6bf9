-- What a line of each operation is.
use Rattle.std.specs.Prelude.{◌≡◌, ℕ, ℤ, List, [], ◌∷◌, Option, map, codes}
use Rattle.std.specs.List.{AllByRecursion}
use Rattle.mpi_base.specs.declared.groups.RankArg.{RankArg}
use Rattle.mpi_base.specs.declared.groups.Triplet.{Triplet}
use Rattle.mpi_base.specs.declared.messages.SrcArg.{SrcArg}
use Rattle.mpi_base.specs.declared.ops.Op.{Op}
use Rattle.mpi_base.specs.declared.ops.Op.TheVariants.{Session, Finalize, Psets, Nth, Info, Pset, Union, Intersect, Difference, Incl, Excl, RangeIncl, RangeExcl, Translate, Compare, Size, Rank, Gfree, Create, Dup, Split, CreateGroup, Group, Ccompare, Csize, Crank, Free, Send, Recv, Irecv, Wait, Await}
use Rattle.op_table.specs.declared.kinds.OpKind.{OpKind}
use Rattle.op_table.specs.declared.kinds.OpKind.TheVariants as kind
use Rattle.op_table.specs.Table.{word_text}
use Rattle.token_text.specs.Numbers.{num_form, int_form}
use Rattle.token_text.specs.Texts.{name_form, pset_name_form, tag_form, hex_form}
use Rattle.token_text.specs.Words.{dest_form, any_tag_form, colour_form, source_form}
use Rattle.token_text.specs.Lists.{ints_form, rank_args_form, triplets_form}
use Rattle.script_text.specs.Tokens.{words}

-- what stands in one place of a line
pub data Value : Type 0 where
  name : List ℕ → Value
  pset : List ℕ → Value
  quoted : List ℕ → Value
  num : ℕ → Value
  int : ℤ → Value
  hex : List ℕ → Value
  list : List ℤ → Value
  null_list : List RankArg → Value
  triplet_list : List Triplet → Value
  arrow : Value
  dest : Option ℕ → Value
  source : SrcArg → Value
  tag_or_any : Option ℕ → Value
  colour : Option ℤ → Value

-- the one token of a value
abbrev pub text_of : Value → List ℕ
text_of (name s) = name_form.text s
text_of (pset s) = pset_name_form.text s
text_of (quoted s) = tag_form.text s
text_of (num n) = num_form.text n
text_of (int z) = int_form.text z
text_of (hex bs) = hex_form.text bs
text_of (list zs) = ints_form.text zs
text_of (null_list rs) = rank_args_form.text rs
text_of (triplet_list ps) = triplets_form.text ps
text_of arrow = codes "->"
text_of (dest r) = dest_form.text r
text_of (source r) = source_form.text r
text_of (tag_or_any t) = any_tag_form.text t
text_of (colour k) = colour_form.text k

-- the values that a token can show
abbrev pub Fits : Value → Type 0
Fits (name s) = name_form.Fits s
Fits (pset s) = pset_name_form.Fits s
Fits (quoted s) = tag_form.Fits s
Fits (num n) = num_form.Fits n
Fits (int z) = int_form.Fits z
Fits (hex bs) = hex_form.Fits bs
Fits (list zs) = ints_form.Fits zs
Fits (null_list rs) = rank_args_form.Fits rs
Fits (triplet_list ps) = triplets_form.Fits ps
Fits arrow = Unit {0}
Fits (dest r) = dest_form.Fits r
Fits (source r) = source_form.Fits r
Fits (tag_or_any t) = any_tag_form.Fits t
Fits (colour k) = colour_form.Fits k

-- the kind of an operation
abbrev pub kind_of : Op → OpKind
kind_of (Session s) = kind.Session
kind_of (Finalize s) = kind.Finalize
kind_of (Psets s) = kind.Psets
kind_of (Nth s n) = kind.Nth
kind_of (Info s p) = kind.Info
kind_of (Pset s p g) = kind.Pset
kind_of (Union a b g) = kind.Union
kind_of (Intersect a b g) = kind.Intersect
kind_of (Difference a b g) = kind.Difference
kind_of (Incl a zs g) = kind.Incl
kind_of (Excl a zs g) = kind.Excl
kind_of (RangeIncl a ps g) = kind.RangeIncl
kind_of (RangeExcl a ps g) = kind.RangeExcl
kind_of (Translate a rs b) = kind.Translate
kind_of (Compare a b) = kind.Compare
kind_of (Size a) = kind.Size
kind_of (Rank a) = kind.Rank
kind_of (Gfree a) = kind.Gfree
kind_of (Create a t c) = kind.Create
kind_of (Dup c d) = kind.Dup
kind_of (Split c k z d) = kind.Split
kind_of (CreateGroup c a n d) = kind.CreateGroup
kind_of (Group c g) = kind.Group
kind_of (Ccompare c d) = kind.Ccompare
kind_of (Csize c) = kind.Csize
kind_of (Crank c) = kind.Crank
kind_of (Free c) = kind.Free
kind_of (Send c r n bs) = kind.Send
kind_of (Recv c r t n) = kind.Recv
kind_of (Irecv c r t n q) = kind.Irecv
kind_of (Wait q) = kind.Wait
kind_of (Await x) = kind.Await

-- what stands behind the word of an operation, place by place
abbrev pub values_of : Op → List Value
values_of (Session s) = name s ∷ []
values_of (Finalize s) = name s ∷ []
values_of (Psets s) = name s ∷ []
values_of (Nth s n) = name s ∷ num n ∷ []
values_of (Info s p) = name s ∷ pset p ∷ []
values_of (Pset s p g) = name s ∷ pset p ∷ arrow ∷ name g ∷ []
values_of (Union a b g) = name a ∷ name b ∷ arrow ∷ name g ∷ []
values_of (Intersect a b g) = name a ∷ name b ∷ arrow ∷ name g ∷ []
values_of (Difference a b g) = name a ∷ name b ∷ arrow ∷ name g ∷ []
values_of (Incl a zs g) = name a ∷ list zs ∷ arrow ∷ name g ∷ []
values_of (Excl a zs g) = name a ∷ list zs ∷ arrow ∷ name g ∷ []
values_of (RangeIncl a ps g) = name a ∷ triplet_list ps ∷ arrow ∷ name g ∷ []
values_of (RangeExcl a ps g) = name a ∷ triplet_list ps ∷ arrow ∷ name g ∷ []
values_of (Translate a rs b) = name a ∷ null_list rs ∷ name b ∷ []
values_of (Compare a b) = name a ∷ name b ∷ []
values_of (Size a) = name a ∷ []
values_of (Rank a) = name a ∷ []
values_of (Gfree a) = name a ∷ []
values_of (Create a t c) = name a ∷ quoted t ∷ arrow ∷ name c ∷ []
values_of (Dup c d) = name c ∷ arrow ∷ name d ∷ []
values_of (Split c k z d) = name c ∷ colour k ∷ int z ∷ arrow ∷ name d ∷ []
values_of (CreateGroup c a n d) = name c ∷ name a ∷ num n ∷ arrow ∷ name d ∷ []
values_of (Group c g) = name c ∷ arrow ∷ name g ∷ []
values_of (Ccompare c d) = name c ∷ name d ∷ []
values_of (Csize c) = name c ∷ []
values_of (Crank c) = name c ∷ []
values_of (Free c) = name c ∷ []
values_of (Send c r n bs) = name c ∷ dest r ∷ num n ∷ hex bs ∷ []
values_of (Recv c r t n) = name c ∷ source r ∷ tag_or_any t ∷ num n ∷ []
values_of (Irecv c r t n q) = name c ∷ source r ∷ tag_or_any t ∷ num n ∷ arrow ∷ name q ∷ []
values_of (Wait q) = name q ∷ []
values_of (Await x) = name x ∷ []

-- the tokens of an operation: its word, and one token for each value
abbrev pub tokens_of : Op → List (List ℕ)
tokens_of op = word_text (kind_of op) ∷ map text_of (values_of op)

-- a well-formed operation: each value fits its place, so each number is within its bounds
abbrev pub IsOp : Op → Type 0
IsOp op = AllByRecursion Fits (values_of op)

-- a line is a spelling of an operation: its tokens are those of the operation, whatever spaces stand between
abbrev pub Spells : List ℕ → Op → Type 0
Spells line op = words line ≡ tokens_of op
