-- Values and their tokens.
use Rattle.std.proofs.Common.{◌≡◌, true, None, refl, ap}
use Rattle.std.specs.Option.{option_map}
use Rattle.token_text.specs.Reading.{IsExact, is_solid}
use Rattle.token_text.specs.Numbers.{num_form, int_form}
use Rattle.token_text.specs.Texts.{name_form, pset_name_form, tag_form, hex_form}
use Rattle.token_text.specs.Words.{dest_form, any_tag_form, colour_form, source_form}
use Rattle.token_text.specs.Lists.{ints_form, rank_args_form, triplets_form}
use Rattle.script_text.specs.Spelling.{Value, name, pset, quoted, num, int, hex, list, null_list, triplet_list, arrow, dest, source, tag_or_any, colour, text_of, Fits}
use Rattle.script_text.specs.Reads.{field_of}
use Rattle.script_text.specs.Faults.{named, token_fault}
use Rattle.script_text.specs.declared.faults.FaultKind.TheVariants.{BadName, BadNumber, BadHex}

-- the forms of all values have tokens and values one to one
pub record AreExact : Type 0 where
  pub names : IsExact name_form
  pub psets : IsExact pset_name_form
  pub tags : IsExact tag_form
  pub nums : IsExact num_form
  pub ints : IsExact int_form
  pub hexes : IsExact hex_form
  pub lists : IsExact ints_form
  pub null_lists : IsExact rank_args_form
  pub triplet_lists : IsExact triplets_form
  pub dests : IsExact dest_form
  pub sources : IsExact source_form
  pub any_tags : IsExact any_tag_form
  pub colours : IsExact colour_form

pub exact : IsExact name_form → IsExact pset_name_form → IsExact tag_form → IsExact num_form → IsExact int_form → IsExact hex_form → IsExact ints_form → IsExact rank_args_form → IsExact triplets_form → IsExact dest_form → IsExact source_form → IsExact any_tag_form → IsExact colour_form → AreExact
exact x0 x1 x2 x3 x4 x5 x6 x7 x8 x9 x10 x11 x12 = record { names = x0; psets = x1; tags = x2; nums = x3; ints = x4; hexes = x5; lists = x6; null_lists = x7; triplet_lists = x8; dests = x9; sources = x10; any_tags = x11; colours = x12 }

-- a value's own token has no fault in its field's place
pub good_text : AreExact → (v : Value) → Fits v → token_fault (field_of v) (text_of v) ≡ None
unfolding token_fault
good_text x (name s) h = ap (option_map (named BadName)) (x.names.own s h)
good_text x (pset s) h = ap (option_map (named BadName)) (x.psets.own s h)
good_text x (quoted s) h = ap (option_map (named BadName)) (x.tags.own s h)
good_text x (num n) h = ap (option_map (named BadNumber)) (x.nums.own n h)
good_text x (int z) h = ap (option_map (named BadNumber)) (x.ints.own z h)
good_text x (hex bs) h = ap (option_map (named BadHex)) (x.hexes.own bs h)
good_text x (list zs) h = ap (option_map (named BadNumber)) (x.lists.own zs h)
good_text x (null_list rs) h = ap (option_map (named BadNumber)) (x.null_lists.own rs h)
good_text x (triplet_list ps) h = ap (option_map (named BadNumber)) (x.triplet_lists.own ps h)
good_text x (dest r) h = ap (option_map (named BadNumber)) (x.dests.own r h)
good_text x (source r) h = ap (option_map (named BadNumber)) (x.sources.own r h)
good_text x (tag_or_any t) h = ap (option_map (named BadNumber)) (x.any_tags.own t h)
good_text x (colour k) h = ap (option_map (named BadNumber)) (x.colours.own k h)
good_text x arrow h = refl

-- it is one token between spaces
pub solid_text : AreExact → (v : Value) → Fits v → is_solid (text_of v) ≡ true
solid_text x (name s) h = x.names.solid s h
solid_text x (pset s) h = x.psets.solid s h
solid_text x (quoted s) h = x.tags.solid s h
solid_text x (num n) h = x.nums.solid n h
solid_text x (int z) h = x.ints.solid z h
solid_text x (hex bs) h = x.hexes.solid bs h
solid_text x (list zs) h = x.lists.solid zs h
solid_text x (null_list rs) h = x.null_lists.solid rs h
solid_text x (triplet_list ps) h = x.triplet_lists.solid ps h
solid_text x (dest r) h = x.dests.solid r h
solid_text x (source r) h = x.sources.solid r h
solid_text x (tag_or_any t) h = x.any_tags.solid t h
solid_text x (colour k) h = x.colours.solid k h
solid_text x arrow h = refl

-- in one field, it is the token of no other value
pub same_value : AreExact → (v w : Value) → Fits v → Fits w → field_of v ≡ field_of w → text_of v ≡ text_of w → v ≡ w
same_value x (name a) (name b) h k e f = ap name (x.names.alone a b h k f)
same_value x (pset a) (pset b) h k e f = ap pset (x.psets.alone a b h k f)
same_value x (quoted a) (quoted b) h k e f = ap quoted (x.tags.alone a b h k f)
same_value x (num a) (num b) h k e f = ap num (x.nums.alone a b h k f)
same_value x (int a) (int b) h k e f = ap int (x.ints.alone a b h k f)
same_value x (hex a) (hex b) h k e f = ap hex (x.hexes.alone a b h k f)
same_value x (list a) (list b) h k e f = ap list (x.lists.alone a b h k f)
same_value x (null_list a) (null_list b) h k e f = ap null_list (x.null_lists.alone a b h k f)
same_value x (triplet_list a) (triplet_list b) h k e f = ap triplet_list (x.triplet_lists.alone a b h k f)
same_value x (dest a) (dest b) h k e f = ap dest (x.dests.alone a b h k f)
same_value x (source a) (source b) h k e f = ap source (x.sources.alone a b h k f)
same_value x (tag_or_any a) (tag_or_any b) h k e f = ap tag_or_any (x.any_tags.alone a b h k f)
same_value x (colour a) (colour b) h k e f = ap colour (x.colours.alone a b h k f)
same_value x arrow arrow h k e f = refl
same_value x v w h k e f = absurd (cc (e))
