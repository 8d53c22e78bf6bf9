use Rattle.local_law.proofs.Lookups.{bound_of-bind-other, bound_of-rebind-other, bound_of-unbind-other}
use Rattle.bind_tab.proofs.laws.other_names_stay.Goals as goal

pub returns-clause-bind : goal.returns-clause-bind
returns-clause-bind c = bound_of-bind-other

pub returns-clause-rebind : goal.returns-clause-rebind
returns-clause-rebind c = bound_of-rebind-other

pub returns-clause-unbind : goal.returns-clause-unbind
returns-clause-unbind c = bound_of-unbind-other
