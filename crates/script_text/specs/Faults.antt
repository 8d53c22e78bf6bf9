-- The first fault of a line.
use Rattle.std.specs.Prelude.{ℕ, ◌+◌, if◌then◌else◌, List, [], ◌∷◌, length, Option, Some, None, Result, Ok, Err, codes, bytes_eq}
use Rattle.std.specs.Option.{option_map}
use Rattle.op_table.specs.declared.kinds.OpKind.{OpKind}
use Rattle.op_table.specs.declared.kinds.Field.{Field}
use Rattle.op_table.specs.declared.kinds.Field.TheVariants as field
use Rattle.op_table.specs.Table.{fields_of, kind_in}
use Rattle.token_text.specs.declared.faults.TokenFault.{TokenFault}
use Rattle.token_text.specs.declared.faults.TokenFault.TheVariants as token
use Rattle.token_text.specs.Forms as forms
use Rattle.token_text.specs.Numbers.{num_form, int_form}
use Rattle.token_text.specs.Texts.{name_form, pset_name_form, tag_form, hex_form}
use Rattle.token_text.specs.Words.{dest_form, any_tag_form, colour_form, source_form}
use Rattle.token_text.specs.Lists.{ints_form, rank_args_form, triplets_form}
use Rattle.script_text.specs.Tokens.{Token, tokens}
use Rattle.script_text.specs.declared.faults.FaultKind.{FaultKind}
use Rattle.script_text.specs.declared.faults.FaultKind.TheVariants.{UnknownWord, Missing, BadName, BadNumber, BadHex, TooLong, Extra}
use Rattle.script_text.specs.declared.faults.LineFault.{LineFault}

-- what a fault of a token is called on a line, where it is called this if the token is not of its form
abbrev pub named : FaultKind → TokenFault → FaultKind
named bad token.NotOfForm = bad
named bad token.TooLong = TooLong

-- what is wrong with a token in a field's place
unfoldable pub token_fault : Field → List ℕ → Option FaultKind
token_fault field.Name t = option_map (named BadName) (forms.fault_of name_form t)
token_fault field.Pset t = option_map (named BadName) (forms.fault_of pset_name_form t)
token_fault field.Quoted t = option_map (named BadName) (forms.fault_of tag_form t)
token_fault field.Num t = option_map (named BadNumber) (forms.fault_of num_form t)
token_fault field.Int t = option_map (named BadNumber) (forms.fault_of int_form t)
token_fault field.Hex t = option_map (named BadHex) (forms.fault_of hex_form t)
token_fault field.List t = option_map (named BadNumber) (forms.fault_of ints_form t)
token_fault field.NullList t = option_map (named BadNumber) (forms.fault_of rank_args_form t)
token_fault field.TripletList t = option_map (named BadNumber) (forms.fault_of triplets_form t)
token_fault field.Arrow t = if bytes_eq t (codes "->") then None else Some UnknownWord
token_fault field.Dest t = option_map (named BadNumber) (forms.fault_of dest_form t)
token_fault field.Source t = option_map (named BadNumber) (forms.fault_of source_form t)
token_fault field.TagOrAny t = option_map (named BadNumber) (forms.fault_of any_tag_form t)
token_fault field.Colour t = option_map (named BadNumber) (forms.fault_of colour_form t)

-- a fault at this column, or what comes next where there is none
abbrev pub placed : Option FaultKind → ℕ → Result (List Token) LineFault → Result (List Token) LineFault
placed None column next = next
placed (Some kind) column next = Err (record { column = column; kind = kind })

-- fields against tokens, from the left, on a line with this column behind its last byte: the first fault, or the
-- tokens behind the fields
unfoldable pub walk : List Field → List Token → ℕ → Result (List Token) LineFault
walk [] ts end = Ok ts
walk (f ∷ fs) [] end = Err (record { column = end; kind = Missing })
walk (f ∷ fs) (t ∷ ts) end = placed (token_fault f t.text) t.column (walk fs ts end)

-- nothing may stand behind the last field
abbrev pub end_fault : Result (List Token) LineFault → Option LineFault
end_fault (Err fault) = Some fault
end_fault (Ok []) = None
end_fault (Ok (t ∷ ts)) = Some (record { column = t.column; kind = Extra })

-- the first fault behind a word at this column, of this kind if it is a word
abbrev pub fault_behind : Option OpKind → ℕ → List Token → ℕ → Option LineFault
fault_behind None column ts end = Some (record { column = column; kind = UnknownWord })
fault_behind (Some kind) column ts end = end_fault (walk (fields_of kind) ts end)

-- the first fault among tokens, on a line with this column behind its last byte
abbrev pub fault_among : List Token → ℕ → Option LineFault
fault_among [] end = Some (record { column = end; kind = Missing })
fault_among (t ∷ ts) end = fault_behind (kind_in t.text) t.column ts end

-- the first fault of a line, in reading order
abbrev pub fault_of : List ℕ → Option LineFault
fault_of line = fault_among (tokens 1 line) (length line + 1)
