-- Rows of the table.
use Rattle.std.proofs.Common.{◌≡◌, [], ◌∷◌, Some, None, codes, refl}
use Rattle.op_table.specs.Table.{fields_of, kind_in}
use Rattle.op_table.specs.declared.kinds.OpKind.TheVariants as kind
use Rattle.op_table.specs.declared.kinds.Field.TheVariants as field

dup_has_an_arrow : fields_of kind.Dup ≡ field.Name ∷ field.Arrow ∷ field.Name ∷ []
dup_has_an_arrow = refl

csize_is_no_size : kind_in (codes "csize") ≡ Some kind.Csize
csize_is_no_size = refl

no_part_of_a_word : kind_in (codes "sess") ≡ None
no_part_of_a_word = refl

no_empty_word : kind_in [] ≡ None
no_empty_word = refl
