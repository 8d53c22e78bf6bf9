-- What each operation does to a rank's own objects, and what it asks for; the registry and a rank use this one definition.
-- Sections are those of MPI 4.0.
use Rattle.std.specs.Prelude.{ℕ, Result, Ok, Err}
use Rattle.mpi_base.specs.declared.ops.Op.{Op}
use Rattle.mpi_base.specs.declared.ops.Op.TheVariants as op
use Rattle.mpi_base.specs.declared.replies.Reply.TheVariants as reply
use Rattle.mpi_base.specs.declared.errors.ErrClass.{ErrClass}
use Rattle.mpi_group.specs.Algebra.{union_of, intersection_of, difference_of, included, excluded, range_included, range_excluded}
use Rattle.mpi_law.specs.declared.setting.Setting.{Setting}
use Rattle.mpi_law.specs.Local.Objects.{Local}
use Rattle.mpi_law.specs.declared.effects.Effect.{Effect}
use Rattle.mpi_law.specs.declared.effects.Effect.TheVariants.{Says}
use Rattle.mpi_law.specs.Local.Effects.{Around}
use Rattle.mpi_law.specs.Local.Groups.{call_session, call_finalize, call_psets, call_nth, call_info, call_pset, call_combined, call_chosen, call_translate, call_compare, call_size, call_rank, call_gfree}
use Rattle.mpi_law.specs.Local.Comms.{call_create, call_dup, call_split, call_create_group, call_group, call_ccompare, call_csize, call_crank, call_free}
use Rattle.mpi_law.specs.Local.Messages.{call_send, call_recv, call_irecv, call_wait, call_await}
pub mod Objects
pub mod Effects
pub mod Refusals
pub mod Groups
pub mod Comms
pub mod Messages

-- what an operation of a rank does, or why it is refused
unfoldable pub call_of : Setting → ℕ → Around → Local → Op → Result (Effect ℕ) ErrClass
call_of s rank around l (op.Session target) = call_session l target
call_of s rank around l (op.Finalize session) = call_finalize around l session
call_of s rank around l (op.Psets session) = call_psets s l session
call_of s rank around l (op.Nth session number) = call_nth s l session number
call_of s rank around l (op.Info session set) = call_info s rank l session set
call_of s rank around l (op.Pset session set target) = call_pset s rank l session set target
call_of s rank around l (op.Union first second target) = call_combined union_of l first second target
call_of s rank around l (op.Intersect first second target) = call_combined intersection_of l first second target
call_of s rank around l (op.Difference first second target) = call_combined difference_of l first second target
call_of s rank around l (op.Incl group ranks target) = call_chosen (λ members. included members ranks) l group target
call_of s rank around l (op.Excl group ranks target) = call_chosen (λ members. excluded members ranks) l group target
call_of s rank around l (op.RangeIncl group ranges target) = call_chosen (λ members. range_included members ranges) l group target
call_of s rank around l (op.RangeExcl group ranges target) = call_chosen (λ members. range_excluded members ranges) l group target
call_of s rank around l (op.Translate from ranks to) = call_translate l from ranks to
call_of s rank around l (op.Compare first second) = call_compare l first second
call_of s rank around l (op.Size group) = call_size l group
call_of s rank around l (op.Rank group) = call_rank rank l group
call_of s rank around l (op.Gfree group) = call_gfree l group
call_of s rank around l (op.Create group tag target) = call_create rank around l group tag target
call_of s rank around l (op.Dup comm target) = call_dup l comm target
call_of s rank around l (op.Split comm colour key target) = call_split l comm colour key target
call_of s rank around l (op.CreateGroup comm group tag target) = call_create_group rank around l comm group tag target
call_of s rank around l (op.Group comm target) = call_group around l comm target
call_of s rank around l (op.Ccompare first second) = call_ccompare around l first second
call_of s rank around l (op.Csize comm) = call_csize around l comm
call_of s rank around l (op.Crank comm) = call_crank rank around l comm
call_of s rank around l (op.Free comm) = call_free l comm
call_of s rank around l (op.Send comm to tag payload) = call_send around l comm to tag payload
call_of s rank around l (op.Recv comm from tag room) = call_recv around l comm from tag room
call_of s rank around l (op.Irecv comm from tag room target) = call_irecv around l comm from tag room target
call_of s rank around l (op.Wait request) = call_wait l request
call_of s rank around l (op.Await name) = call_await name

-- a refused call changes nothing
abbrev pub refusal : Result (Effect ℕ) ErrClass → Effect ℕ
refusal (Ok e) = e
refusal (Err c) = Says (reply.Refused c)

abbrev pub effect_of : Setting → ℕ → Around → Local → Op → Effect ℕ
effect_of s rank around l op = refusal (call_of s rank around l op)
