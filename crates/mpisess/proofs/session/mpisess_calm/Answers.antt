use Rattle.std.proofs.Common.{◌≡◌, Option, Some, Err, sym, ap, subst, ◌∙◌, true≢false, inr}
use Rattle.mpisess.specs.declared.command.Command.{Command}
use Rattle.mpisess.specs.Jobs.{IsJobOf, IsFaultOf, IsTold}
use Rattle.mpisess.specs.Statuses.{was_read}
use Rattle.mpisess.proofs.Sessions.{job_told, stops_faultless, stops_fault, stops_long}
use Rattle.mpisess.proofs.session.mpisess_calm.Goals as goal

-- the words name one command
one_command : (told here : Option Command) (a b : Command) → here ≡ Some a → here ≡ told → told ≡ Some b → b ≡ a
one_command told here a b p q r = cc (p, q, r)

pub returns-in_default-clause-reads_all : goal.returns-in_default-clause-reads_all
returns-in_default-clause-reads_all g c = λ h e. absurd (true≢false (sym e ∙ ap was_read c.without_run.ensures.status))

pub returns-in-Err-clause-complete : goal.returns-in-Err-clause-complete
returns-in-Err-clause-complete g c = λ command bytes setting scripts word is few job calm sink.
    let here = subst (λ (k : Command). IsJobOf k bytes setting scripts) (one_command _ _ _ _ c.in-Some.is c.command_in.ensures.named word) job in
    let memory = stops_faultless c.in-Some.command _ bytes is c.in-Err.stop (λ e. calm (c.in-Err.ensures.read_fault (ap Err e))) (λ e. c.in-Err.ensures.too_long (ap Err e)) (λ fault e. c.in-Err.ensures.bad_job fault (ap Err e)) few (λ fault f. c.commands_tell.ensures.apart c.in-Some.command bytes setting scripts fault here f) in
    rw (c.without_run-in-Err.ensures.status, c.status.ensures) (inr memory)

pub returns-in-Err-clause-complete_fault : goal.returns-in-Err-clause-complete_fault
returns-in-Err-clause-complete_fault g c = λ command bytes fault word is few told calm.
    let here = subst (λ (k : Command). IsFaultOf k bytes fault) (one_command _ _ _ _ c.in-Some.is c.command_in.ensures.named word) told in
    rw (c.without_run-in-Err.ensures.fault, c.fault.ensures, c.without_run-in-Err.ensures.status, c.status.ensures)
    (stops_fault c.in-Some.command _ bytes is c.in-Err.stop (λ e. calm (c.in-Err.ensures.read_fault (ap Err e))) (λ e. c.in-Err.ensures.too_long (ap Err e)) (λ other e. c.in-Err.ensures.bad_job other (ap Err e)) (IsTold bytes fault) few (λ other f. c.commands_tell.ensures.faults c.in-Some.command bytes other fault f here))

pub returns-in-Err-clause-complete_long : goal.returns-in-Err-clause-complete_long
returns-in-Err-clause-complete_long g c = λ bytes reading is many calm.
    rw (c.without_run-in-Err.ensures.status, c.status.ensures)
    (stops_long c.in-Some.command _ bytes is c.in-Err.stop (λ e. calm (c.in-Err.ensures.read_fault (ap Err e))) (λ e. c.in-Err.ensures.too_long (ap Err e)) (λ fault e. c.in-Err.ensures.bad_job fault (ap Err e)) many)

pub returns-clause-complete_fault : goal.returns-clause-complete_fault
returns-clause-complete_fault g c = λ command bytes fault word is few told calm.
    let here = subst (λ (k : Command). IsFaultOf k bytes fault) (one_command _ _ _ _ c.in-Some.is c.command_in.ensures.named word) told in
    absurd (c.commands_tell.ensures.apart c.in-Some.command bytes c.in-Ok.job.setting c.in-Ok.job.scripts fault (job_told c.in-Some.command _ bytes _ _ c.in-Ok.ensures.told is) here)
