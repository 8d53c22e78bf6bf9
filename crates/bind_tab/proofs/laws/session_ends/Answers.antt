use Rattle.local_law.proofs.Lookups.{bound_of-unbind_all}
use Rattle.bind_tab.specs.Rows.{is_of}
use Rattle.bind_tab.proofs.laws.session_ends.Goals as goal

pub returns : goal.returns
returns c = λ rows session name distinct. bound_of-unbind_all rows (is_of session) name distinct
