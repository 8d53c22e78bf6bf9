-- The table of the operations: each word, and the fields that stand behind it.
use Rattle.std.specs.Prelude.{ℕ, List, [], ◌∷◌, Option, codes, bytes_eq, find}
use Rattle.op_table.specs.declared.kinds.OpKind.{OpKind}
use Rattle.op_table.specs.declared.kinds.OpKind.TheVariants as kind
use Rattle.op_table.specs.declared.kinds.Field.{Field}
use Rattle.op_table.specs.declared.kinds.Field.TheVariants as field

-- a row: the word of a kind, and its fields in written order
pub record Row : Type 0 where
  pub word : List ℕ
  pub fields : List Field

abbrev pub row_of : OpKind → Row
row_of kind.Session = record { word = codes "session"; fields = field.Name ∷ [] }
row_of kind.Finalize = record { word = codes "finalize"; fields = field.Name ∷ [] }
row_of kind.Psets = record { word = codes "psets"; fields = field.Name ∷ [] }
row_of kind.Nth = record { word = codes "nth"; fields = field.Name ∷ field.Num ∷ [] }
row_of kind.Info = record { word = codes "info"; fields = field.Name ∷ field.Pset ∷ [] }
row_of kind.Pset = record { word = codes "pset"; fields = field.Name ∷ field.Pset ∷ field.Arrow ∷ field.Name ∷ [] }
row_of kind.Union = record { word = codes "union"; fields = field.Name ∷ field.Name ∷ field.Arrow ∷ field.Name ∷ [] }
row_of kind.Intersect = record { word = codes "intersect"; fields = field.Name ∷ field.Name ∷ field.Arrow ∷ field.Name ∷ [] }
row_of kind.Difference = record { word = codes "difference"; fields = field.Name ∷ field.Name ∷ field.Arrow ∷ field.Name ∷ [] }
row_of kind.Incl = record { word = codes "incl"; fields = field.Name ∷ field.List ∷ field.Arrow ∷ field.Name ∷ [] }
row_of kind.Excl = record { word = codes "excl"; fields = field.Name ∷ field.List ∷ field.Arrow ∷ field.Name ∷ [] }
row_of kind.RangeIncl = record { word = codes "range_incl"; fields = field.Name ∷ field.TripletList ∷ field.Arrow ∷ field.Name ∷ [] }
row_of kind.RangeExcl = record { word = codes "range_excl"; fields = field.Name ∷ field.TripletList ∷ field.Arrow ∷ field.Name ∷ [] }
row_of kind.Translate = record { word = codes "translate"; fields = field.Name ∷ field.NullList ∷ field.Name ∷ [] }
row_of kind.Compare = record { word = codes "compare"; fields = field.Name ∷ field.Name ∷ [] }
row_of kind.Size = record { word = codes "size"; fields = field.Name ∷ [] }
row_of kind.Rank = record { word = codes "rank"; fields = field.Name ∷ [] }
row_of kind.Gfree = record { word = codes "gfree"; fields = field.Name ∷ [] }
row_of kind.Create = record { word = codes "create"; fields = field.Name ∷ field.Quoted ∷ field.Arrow ∷ field.Name ∷ [] }
row_of kind.Dup = record { word = codes "dup"; fields = field.Name ∷ field.Arrow ∷ field.Name ∷ [] }
row_of kind.Split = record { word = codes "split"; fields = field.Name ∷ field.Colour ∷ field.Int ∷ field.Arrow ∷ field.Name ∷ [] }
row_of kind.CreateGroup = record { word = codes "create_group"; fields = field.Name ∷ field.Name ∷ field.Num ∷ field.Arrow ∷ field.Name ∷ [] }
row_of kind.Group = record { word = codes "group"; fields = field.Name ∷ field.Arrow ∷ field.Name ∷ [] }
row_of kind.Ccompare = record { word = codes "ccompare"; fields = field.Name ∷ field.Name ∷ [] }
row_of kind.Csize = record { word = codes "csize"; fields = field.Name ∷ [] }
row_of kind.Crank = record { word = codes "crank"; fields = field.Name ∷ [] }
row_of kind.Free = record { word = codes "free"; fields = field.Name ∷ [] }
row_of kind.Send = record { word = codes "send"; fields = field.Name ∷ field.Dest ∷ field.Num ∷ field.Hex ∷ [] }
row_of kind.Recv = record { word = codes "recv"; fields = field.Name ∷ field.Source ∷ field.TagOrAny ∷ field.Num ∷ [] }
row_of kind.Irecv = record { word = codes "irecv"; fields = field.Name ∷ field.Source ∷ field.TagOrAny ∷ field.Num ∷ field.Arrow ∷ field.Name ∷ [] }
row_of kind.Wait = record { word = codes "wait"; fields = field.Name ∷ [] }
row_of kind.Await = record { word = codes "await"; fields = field.Name ∷ [] }

-- the word of a kind
abbrev pub word_text : OpKind → List ℕ
word_text k = (row_of k).word

-- the fields behind the word
abbrev pub fields_of : OpKind → List Field
fields_of k = (row_of k).fields

abbrev pub all_kinds : List OpKind
all_kinds =
    kind.Session ∷ kind.Finalize ∷ kind.Psets ∷ kind.Nth ∷ kind.Info ∷ kind.Pset ∷ kind.Union ∷ kind.Intersect ∷
    kind.Difference ∷ kind.Incl ∷ kind.Excl ∷ kind.RangeIncl ∷ kind.RangeExcl ∷ kind.Translate ∷ kind.Compare ∷ kind.Size ∷
    kind.Rank ∷ kind.Gfree ∷ kind.Create ∷ kind.Dup ∷ kind.Split ∷ kind.CreateGroup ∷ kind.Group ∷ kind.Ccompare ∷
    kind.Csize ∷ kind.Crank ∷ kind.Free ∷ kind.Send ∷ kind.Recv ∷ kind.Irecv ∷ kind.Wait ∷ kind.Await ∷ []

-- the kind with this word, if there is one
abbrev pub kind_in : List ℕ → Option OpKind
kind_in word = find (λ k. bytes_eq (word_text k) word) all_kinds
