-- Operations and their values.
use Rattle.std.proofs.Common.{◌≡◌, ℕ, ◌++◌, List, [], ◌∷◌, map, get_or, ℤ, pos, Option, None, refl, sym, ap, ◌∙◌}
use Rattle.std.specs.List.{AllByRecursion}
use Rattle.mpi_base.specs.declared.groups.RankArg.{RankArg}
use Rattle.mpi_base.specs.declared.groups.Triplet.{Triplet}
use Rattle.mpi_base.specs.declared.messages.SrcArg.{SrcArg}
use Rattle.mpi_base.specs.declared.messages.SrcArg.TheVariants.{Any}
use Rattle.mpi_base.specs.declared.ops.Op.{Op}
use Rattle.mpi_base.specs.declared.ops.Op.TheVariants.{Session, Finalize, Psets, Nth, Info, Pset, Union, Intersect, Difference, Incl, Excl, RangeIncl, RangeExcl, Translate, Compare, Size, Rank, Gfree, Create, Dup, Split, CreateGroup, Group, Ccompare, Csize, Crank, Free, Send, Recv, Irecv, Wait, Await}
use Rattle.op_table.specs.declared.kinds.OpKind.{OpKind}
use Rattle.op_table.specs.declared.kinds.OpKind.TheVariants as kind
use Rattle.op_table.specs.Table.{fields_of}
use Rattle.script_text.specs.Spelling.{Value, name, pset, quoted, num, int, hex, list, null_list, triplet_list, arrow, dest, source, tag_or_any, colour, text_of, Fits, kind_of, values_of}
use Rattle.script_text.specs.Reads.{field_of}
use Rattle.script_text.proofs.Laws.{AreExact, same_value}

-- the fields of an operation's kind are those of its values
pub same_fields : (op : Op) → map field_of (values_of op) ≡ fields_of (kind_of op)
same_fields (Session s) = refl
same_fields _ = refl

-- what an operation has in one place

abbrev text_at : Value → List ℕ
text_at (name s) = s
text_at (pset s) = s
text_at (quoted s) = s
text_at (hex bs) = bs
text_at _ = []

abbrev num_at : Value → ℕ
num_at (num n) = n
num_at _ = 0

abbrev int_at : Value → ℤ
int_at (int z) = z
int_at _ = pos 0

abbrev ints_at : Value → List ℤ
ints_at (list zs) = zs
ints_at _ = []

abbrev rank_args_at : Value → List RankArg
rank_args_at (null_list rs) = rs
rank_args_at _ = []

abbrev triplets_at : Value → List Triplet
triplets_at (triplet_list ps) = ps
triplets_at _ = []

abbrev option_at : Value → Option ℕ
option_at (dest r) = r
option_at (tag_or_any t) = t
option_at _ = None

abbrev source_at : Value → SrcArg
source_at (source r) = r
source_at _ = Any

abbrev colour_at : Value → Option ℤ
colour_at (colour k) = k
colour_at _ = None

abbrev place : List Value → ℕ → Value
place vs i = get_or vs i arrow

-- the operation of a kind with these values
abbrev pub rebuild : OpKind → List Value → Op
rebuild kind.Session vs = Session (text_at (place vs 0))
rebuild kind.Finalize vs = Finalize (text_at (place vs 0))
rebuild kind.Psets vs = Psets (text_at (place vs 0))
rebuild kind.Nth vs = Nth (text_at (place vs 0)) (num_at (place vs 1))
rebuild kind.Info vs = Info (text_at (place vs 0)) (text_at (place vs 1))
rebuild kind.Pset vs = Pset (text_at (place vs 0)) (text_at (place vs 1)) (text_at (place vs 3))
rebuild kind.Union vs = Union (text_at (place vs 0)) (text_at (place vs 1)) (text_at (place vs 3))
rebuild kind.Intersect vs = Intersect (text_at (place vs 0)) (text_at (place vs 1)) (text_at (place vs 3))
rebuild kind.Difference vs = Difference (text_at (place vs 0)) (text_at (place vs 1)) (text_at (place vs 3))
rebuild kind.Incl vs = Incl (text_at (place vs 0)) (ints_at (place vs 1)) (text_at (place vs 3))
rebuild kind.Excl vs = Excl (text_at (place vs 0)) (ints_at (place vs 1)) (text_at (place vs 3))
rebuild kind.RangeIncl vs = RangeIncl (text_at (place vs 0)) (triplets_at (place vs 1)) (text_at (place vs 3))
rebuild kind.RangeExcl vs = RangeExcl (text_at (place vs 0)) (triplets_at (place vs 1)) (text_at (place vs 3))
rebuild kind.Translate vs = Translate (text_at (place vs 0)) (rank_args_at (place vs 1)) (text_at (place vs 2))
rebuild kind.Compare vs = Compare (text_at (place vs 0)) (text_at (place vs 1))
rebuild kind.Size vs = Size (text_at (place vs 0))
rebuild kind.Rank vs = Rank (text_at (place vs 0))
rebuild kind.Gfree vs = Gfree (text_at (place vs 0))
rebuild kind.Create vs = Create (text_at (place vs 0)) (text_at (place vs 1)) (text_at (place vs 3))
rebuild kind.Dup vs = Dup (text_at (place vs 0)) (text_at (place vs 2))
rebuild kind.Split vs = Split (text_at (place vs 0)) (colour_at (place vs 1)) (int_at (place vs 2)) (text_at (place vs 4))
rebuild kind.CreateGroup vs = CreateGroup (text_at (place vs 0)) (text_at (place vs 1)) (num_at (place vs 2)) (text_at (place vs 4))
rebuild kind.Group vs = Group (text_at (place vs 0)) (text_at (place vs 2))
rebuild kind.Ccompare vs = Ccompare (text_at (place vs 0)) (text_at (place vs 1))
rebuild kind.Csize vs = Csize (text_at (place vs 0))
rebuild kind.Crank vs = Crank (text_at (place vs 0))
rebuild kind.Free vs = Free (text_at (place vs 0))
rebuild kind.Send vs = Send (text_at (place vs 0)) (option_at (place vs 1)) (num_at (place vs 2)) (text_at (place vs 3))
rebuild kind.Recv vs = Recv (text_at (place vs 0)) (source_at (place vs 1)) (option_at (place vs 2)) (num_at (place vs 3))
rebuild kind.Irecv vs = Irecv (text_at (place vs 0)) (source_at (place vs 1)) (option_at (place vs 2)) (num_at (place vs 3)) (text_at (place vs 5))
rebuild kind.Wait vs = Wait (text_at (place vs 0))
rebuild kind.Await vs = Await (text_at (place vs 0))

-- kind and values make the operation
pub rebuilt : (op : Op) → rebuild (kind_of op) (values_of op) ≡ op
rebuilt (Session s) = refl
rebuilt _ = refl

-- fields and tokens tell the values, whatever tokens follow
pub same_values : AreExact → (vs ws : List Value) (xs ys : List (List ℕ)) → AllByRecursion Fits vs → AllByRecursion Fits ws
    → map field_of vs ≡ map field_of ws → map text_of vs ++ xs ≡ map text_of ws ++ ys → vs ≡ ws
same_values x [] [] xs ys h k e f = refl
same_values x [] (w ∷ ws) xs ys h k e f = absurd (cc)
same_values x (v ∷ vs) [] xs ys h k e f = absurd (cc)
same_values x (v ∷ vs) (w ∷ ws) xs ys h k e f =
    let first = same_value x v w h.0 k.0 (cc) (cc) in
    let rest = same_values x vs ws xs ys h.1 k.1 (cc) (cc) in
    cc (first, rest)

-- kind and values tell the operation
pub same_op : (a b : Op) → kind_of a ≡ kind_of b → values_of a ≡ values_of b → a ≡ b
same_op a b k v = sym (rebuilt a) ∙ (cc (ap (rebuild (kind_of a)) v, k) ∙ rebuilt b)
