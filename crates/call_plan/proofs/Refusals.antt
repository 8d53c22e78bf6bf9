-- What holds of every effect.
use Rattle.std.proofs.Common.{◌≡◌, ℕ, ◌<◌, List, length, Option, Some, None, IfSome, refl, arith}
use Rattle.std.proofs.lemmas.Bool.Decides.{nat_tests}
use Rattle.mpi_base.specs.declared.ops.Op.{Op}
use Rattle.mpi_base.specs.declared.ops.Op.TheVariants as op
use Rattle.local_law.specs.Names.{bound_of}
use Rattle.mpi_law.specs.declared.setting.Setting.{Setting}
use Rattle.mpi_law.specs.declared.effects.Sending.{Sending}
use Rattle.mpi_law.specs.Local.{call_of, effect_of}
use Rattle.mpi_law.specs.Local.Objects.{Local}
use Rattle.mpi_law.specs.Local.Effects.{Around}
use Rattle.call_plan.specs.Targets.{target_of}
use Rattle.call_plan.specs.Receivers.{message_of}

-- a target is free
pub target-free : (s : Setting) (rank : ℕ) (around : Around) (l : Local) (o : Op) (t : List ℕ) → target_of (effect_of s rank around l o) ≡ Some t → bound_of l.names t ≡ None
unfolding call_of
target-free s rank around l (op.Session target) t e = grind (arith, e)
target-free s rank around l (op.Finalize session) t e = grind (arith, e)
target-free s rank around l (op.Psets session) t e = grind (arith, e)
target-free s rank around l (op.Nth session number) t e = grind (arith, e)
target-free s rank around l (op.Info session set) t e = grind (arith, e)
target-free s rank around l (op.Pset session set target) t e = grind (arith, e)
target-free s rank around l (op.Union first second target) t e = grind (arith, e)
target-free s rank around l (op.Intersect first second target) t e = grind (arith, e)
target-free s rank around l (op.Difference first second target) t e = grind (arith, e)
target-free s rank around l (op.Incl group ranks target) t e = grind (arith, e)
target-free s rank around l (op.Excl group ranks target) t e = grind (arith, e)
target-free s rank around l (op.RangeIncl group ranges target) t e = grind (arith, e)
target-free s rank around l (op.RangeExcl group ranges target) t e = grind (arith, e)
target-free s rank around l (op.Translate from ranks to) t e = grind (arith, e)
target-free s rank around l (op.Compare first second) t e = grind (arith, e)
target-free s rank around l (op.Size group) t e = grind (arith, e)
target-free s rank around l (op.Rank group) t e = grind (arith, e)
target-free s rank around l (op.Gfree group) t e = grind (arith, e)
target-free s rank around l (op.Create group tag target) t e = grind (arith, e)
target-free s rank around l (op.Dup comm target) t e = grind (arith, e)
target-free s rank around l (op.Split comm colour key target) t e = grind (arith, e)
target-free s rank around l (op.CreateGroup comm group tag target) t e = grind (arith, e)
target-free s rank around l (op.Group comm target) t e = grind (arith, e)
target-free s rank around l (op.Ccompare first second) t e = grind (arith, e)
target-free s rank around l (op.Csize comm) t e = grind (arith, e)
target-free s rank around l (op.Crank comm) t e = grind (arith, e)
target-free s rank around l (op.Free comm) t e = grind (arith, e)
target-free s rank around l (op.Send comm to tag payload) t e = grind (arith, e)
target-free s rank around l (op.Recv comm from tag room) t e = grind (arith, e)
target-free s rank around l (op.Irecv comm from tag room target) t e = grind (arith, e)
target-free s rank around l (op.Wait request) t e = grind (arith, e)
target-free s rank around l (op.Await name) t e = grind (arith, e)

-- a receiver is a rank of the communicator
pub receiver-within : (s : Setting) (rank : ℕ) (around : Around) (l : Local) (o : Op) (m : Sending ℕ) → message_of (effect_of s rank around l o) ≡ Some m → m.to < length (around.members m.comm)
unfolding call_of
receiver-within s rank around l o m e = grind (arith, nat_tests, e)

-- what holds of a value wherever there is one
pub if_some : {A : Type 0} (o : Option A) (P : A → Type 0) → ((v : A) → o ≡ Some v → P v) → IfSome o P
if_some None P each = tt
if_some (Some v) P each = each v refl
