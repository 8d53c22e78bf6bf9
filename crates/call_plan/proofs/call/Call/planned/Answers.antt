use Rattle.mpi_law.specs.Local.{call_of}
use Rattle.call_plan.proofs.call.Call.planned.Goals as goal

pub returns-in-Incl : goal.returns-in-Incl
unfolding call_of
returns-in-Incl g c = rw c.in-Incl.is c.incl.ensures

pub returns-in-Excl : goal.returns-in-Excl
unfolding call_of
returns-in-Excl g c = rw c.in-Excl.is c.excl.ensures

pub returns-in-RangeIncl : goal.returns-in-RangeIncl
unfolding call_of
returns-in-RangeIncl g c = rw c.in-RangeIncl.is c.range_incl.ensures

pub returns-in-RangeExcl : goal.returns-in-RangeExcl
unfolding call_of
returns-in-RangeExcl g c = rw c.in-RangeExcl.is c.range_excl.ensures
