-- What reading a line says, step by step.
use Rattle.std.specs.Prelude.{◌≡◌, ℕ, ◌+◌, ◌<◌, true, false, List, [], ◌∷◌, ◌++◌, map, take, drop, Result, Ok, Err}
use Rattle.std.specs.List.{AllByRecursion}
use Rattle.op_table.specs.declared.kinds.OpKind.{OpKind}
use Rattle.op_table.specs.declared.kinds.Field.{Field}
use Rattle.op_table.specs.declared.kinds.Field.TheVariants as field
use Rattle.op_table.specs.Table.{fields_of}
use Rattle.mpi_base.specs.declared.ops.Op.{Op}
use Rattle.script_text.specs.declared.faults.LineFault.{LineFault}
use Rattle.script_text.specs.Tokens.{Token, tokens, goes_on, texts}
use Rattle.script_text.specs.Spelling.{Value, name, pset, quoted, num, int, hex, list, null_list, triplet_list, arrow, dest, source, tag_or_any, colour, Fits, text_of, kind_of, values_of}
use Rattle.script_text.specs.Faults.{walk}

-- what is ahead of a reader: tokens, and the column behind the last byte
pub record Ahead : Type 0 where
  pub tokens : List Token
  pub end : ℕ

-- so many spaces in front, and then a token or nothing
pub record Blank (bytes : List ℕ) (len : ℕ) : Type 0 where
  pub skip : (column : ℕ) → tokens column bytes ≡ tokens (column + len) (drop len bytes)
  pub next : goes_on (drop len bytes) ≡ false → drop len bytes ≡ []

-- so many bytes in front are a token
pub record Word (bytes : List ℕ) (len : ℕ) : Type 0 where
  pub some : goes_on bytes ≡ true → 0 < len
  pub first : (column : ℕ) → 0 < len → tokens column bytes ≡ record { column = column; text = take len bytes } ∷ tokens (column + len) (drop len bytes)

-- these fields were taken with these values, and any other fields go on behind them
pub record Took (fs : List Field) (vs : List Value) (old new : Ahead) : Type 0 where
  pub text : texts old.tokens ≡ map text_of vs ++ texts new.tokens
  pub fits : AllByRecursion Fits vs
  pub on : (gs : List Field) → walk (fs ++ gs) old.tokens old.end ≡ walk gs new.tokens new.end

-- the first fault is among these fields, whatever fields follow
abbrev pub Stops : List Field → Ahead → LineFault → Type 0
Stops fs old fault = (gs : List Field) → walk (fs ++ gs) old.tokens old.end ≡ Err fault

-- fields read as these values, or the first fault
abbrev pub Reads : {X : Type 0} → List Field → (X → List Value) → Ahead → Ahead → Result X LineFault → Type 0
Reads fs values old new (Ok x) = Took fs (values x) old new
Reads fs values old new (Err fault) = Stops fs old fault

-- the fields of a kind, read as an operation of that kind, or the first fault
abbrev pub ReadsOp : OpKind → Ahead → Ahead → Result Op LineFault → Type 0
ReadsOp kind old new (Ok op) = (kind_of op ≡ kind) × Took (fields_of kind) (values_of op) old new
ReadsOp kind old new (Err fault) = Stops (fields_of kind) old fault

-- the field that a value belongs to
abbrev pub field_of : Value → Field
field_of (name s) = field.Name
field_of (pset s) = field.Pset
field_of (quoted s) = field.Quoted
field_of (num n) = field.Num
field_of (int z) = field.Int
field_of (hex bs) = field.Hex
field_of (list zs) = field.List
field_of (null_list rs) = field.NullList
field_of (triplet_list ps) = field.TripletList
field_of arrow = field.Arrow
field_of (dest r) = field.Dest
field_of (source r) = field.Source
field_of (tag_or_any t) = field.TagOrAny
field_of (colour k) = field.Colour
