use Rattle.std.proofs.Common.{◌≡◌, true, Result, Ok, Err, IfErr, sym, ap, ◌∙◌, true≢false}
use Rattle.std.specs.Result.{IsErrAnd}
use Rattle.mpisess.specs.Commands.{reads}
use Rattle.mpisess.specs.Statuses.{was_read}
use Rattle.mpisess.specs.Stops.{stop_status}
use Rattle.mpisess.specs.declared.status.Stop.{Stop}
use Rattle.mpisess.specs.declared.status.Stop.TheVariants as stop
use Rattle.mpisess.proofs.jobs.find_job.Goals as goal

-- where memory is wanting nothing was read to its end
none_read : (Read : Type 0) {A : Type 0} (r : Result A Stop) → IsErrAnd r (λ s. s ≡ stop.Memory) → IfErr r (λ s. was_read (stop_status s) ≡ true → Read)
none_read Read (Ok x) memory = tt
none_read Read (Err s) memory = λ e. absurd (true≢false (sym e ∙ ap (λ (s : Stop). was_read (stop_status s)) memory))

pub returns-in_err-made-in-Gen-clause-stops_all : goal.returns-in_err-made-in-Gen-clause-stops_all
returns-in_err-made-in-Gen-clause-stops_all g c = none_read _ _ c.from_residual.ensures.1

pub returns-in_ok-made-in-Gen-clause-reads_all : goal.returns-in_ok-made-in-Gen-clause-reads_all
returns-in_ok-made-in-Gen-clause-reads_all g c = λ e. absurd (true≢false (sym e ∙ ap reads c.in-Gen.is))
