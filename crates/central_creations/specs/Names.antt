-- The names of creations in code, as the registry's. This project's own.
use Rattle.mpi_law.specs.Registry.State.{CreationName, Group_and_tag, Nth_dup, Nth_split, Group_on}
use Rattle.central_creations.specs.declared.names.NameForm.{NameForm}
use Rattle.central_creations.specs.declared.names.NameForm.TheVariants as form

abbrev pub name_of_form : NameForm → CreationName
name_of_form (form.GroupAndTag group tag) = Group_and_tag group tag
name_of_form (form.NthDup parent number) = Nth_dup parent number
name_of_form (form.NthSplit parent number) = Nth_split parent number
name_of_form (form.GroupOn parent tag group) = Group_on parent tag group
