use Rattle.local_law.proofs.Lookups.{bound_of-bind, bound_of-rebind, bound_of-unbind}
use Rattle.bind_tab.proofs.laws.changed_names_change.Goals as goal

pub returns-clause-bind : goal.returns-clause-bind
returns-clause-bind c = bound_of-bind

pub returns-clause-rebind : goal.returns-clause-rebind
returns-clause-rebind c = bound_of-rebind

pub returns-clause-unbind : goal.returns-clause-unbind
returns-clause-unbind c = bound_of-unbind
