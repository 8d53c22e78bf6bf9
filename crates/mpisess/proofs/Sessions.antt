-- What was read, and why a session stops.
use Rattle.std.proofs.Common.{◌≡◌, ℕ, ◌<◌, ◌≤◌, true, List, ◌⊎◌, ⊎_elim, length, take, Option, Some, Result, Err, refl, ap, ◌∙◌, subst, inl, inr, arith, min}
use Rattle.std.proofs.lemmas.List.{take_all, length-take}
use Rattle.std.specs.Result.{IsErrAnd}
use Rattle.mpi_law.specs.declared.setting.Setting.{Setting}
use Rattle.mpi_law.specs.ScriptLists.{AllScripts}
use Rattle.job_file.specs.declared.faults.JobFault.{JobFault}
use Rattle.job_file.specs.declared.faults.JobFault.TheVariants as job
use Rattle.job_file.specs.Jobs.{IsJob}
use Rattle.mpisess.specs.declared.command.Command.{Command}
use Rattle.mpisess.specs.declared.command.Command.TheVariants.{Serial, Solo, Gen}
use Rattle.mpisess.specs.Commands.{reads}
use Rattle.mpisess.specs.declared.status.Status.TheVariants.{TooLong, Memory}
use Rattle.mpisess.specs.declared.status.Stop.{Stop}
use Rattle.mpisess.specs.declared.status.Stop.TheVariants as stop
use Rattle.mpisess.specs.Input.{ReadsAll, TellsLong}
use Rattle.mpisess.specs.Reading.{ReadsFront, ReadsWhole}
use Rattle.mpisess.specs.Jobs.{IsSoloJob, IsJobOf, IsFaultOf, TellsJob, TellsFault}
use Rattle.mpisess.specs.Stops.{stop_status, stop_fault, stop_of_job}

-- of an input that is not too long all was read
whole : (most : ℕ) (xs bytes : List ℕ) → bytes ≡ take most xs → length xs < most → bytes ≡ xs
whole most xs bytes e l = e ∙ take_all most xs (omega (arith, l))

-- an input of which not too much was read is not too long
not_long : (most : ℕ) (xs bytes : List ℕ) → bytes ≡ take most xs → length bytes < most → length xs < most
not_long most xs bytes e l = let m : length bytes ≡ min most (length xs) = ap length e ∙ length-take most xs in omega (arith, m, l)

pub reads_all : (before after : Option (List ℕ)) (bytes : List ℕ) → ReadsFront 4194305 before bytes after → ReadsAll before after
reads_all before after bytes r = record { left = λ xs e. (r xs e).1 }

-- an input of which not too much was read was read whole
pub reads_whole : (before after : Option (List ℕ)) (bytes : List ℕ) → ReadsFront 4194305 before bytes after → length bytes ≤ 4194304 → ReadsWhole before bytes
reads_whole before after bytes r few = λ xs e.
    let l = not_long 4194305 xs bytes (r xs e).0 (omega (arith, few)) in
    (whole 4194305 xs bytes (r xs e).0 l, omega (arith, l))

-- and one of which more was read is too long
pub tells_long : (before after : Option (List ℕ)) (bytes : List ℕ) → ReadsFront 4194305 before bytes after → 4194304 < length bytes → TellsLong before
tells_long before after bytes r many = record { long = λ xs e. (let m : length bytes ≡ min 4194305 (length xs) = ap length (r xs e).0 ∙ length-take 4194305 xs in omega (arith, m, many)) }

-- what is wrong with what was read is wrong with the input
pub tells_fault : (command : Command) (before : Option (List ℕ)) (bytes seen : List ℕ) (fault : JobFault) → ReadsWhole before bytes → seen ≡ bytes → IsFaultOf command seen fault → TellsFault command before fault
tells_fault command before bytes seen fault r same f = record { told = λ xs e. subst (λ (ys : List ℕ). IsFaultOf command ys fault) (same ∙ (r xs e).0) f; short = λ xs e. (r xs e).1 }

-- the input is this job where what was read is it
pub tells_job : (command : Command) (before : Option (List ℕ)) (bytes seen : List ℕ) (s : Setting) (scripts : AllScripts) → reads command ≡ true → ReadsWhole before bytes → seen ≡ bytes → IsJobOf command seen s scripts → TellsJob command before s scripts
tells_job Serial before bytes seen s scripts h r same job = record { job = λ xs e. subst (λ (ys : List ℕ). IsJob ys s scripts) (same ∙ (r xs e).0) job; short = λ xs e. (r xs e).1 }
tells_job Solo before bytes seen s scripts h r same job = record { job = λ xs e. subst (λ (ys : List ℕ). IsSoloJob ys s scripts) (same ∙ (r xs e).0) job; short = λ xs e. (r xs e).1 }
tells_job (Gen number ops) before bytes seen s scripts h r same job = job

-- where the source tells its bytes, they are the job of the command
pub job_told : (command : Command) (before : Option (List ℕ)) (bytes : List ℕ) (s : Setting) (scripts : AllScripts) → TellsJob command before s scripts → before ≡ Some bytes → IsJobOf command bytes s scripts
job_told Serial before bytes s scripts told is = told.job bytes is
job_told Solo before bytes s scripts told is = told.job bytes is
job_told (Gen number ops) before bytes s scripts told is = told

-- a session that stops for a fault of the job was stopped by that fault
told_fault : (f fault : JobFault) → stop.BadJob fault ≡ stop_of_job f → f ≡ fault
told_fault (job.NotUtf8 line column) fault h = cc (h)
told_fault (job.NotToml line column) fault h = cc (h)
told_fault (job.UnknownKey key) fault h = cc (h)
told_fault (job.Missing key) fault h = cc (h)
told_fault (job.WrongKind key entry) fault h = cc (h)
told_fault (job.OutOfRange key least greatest) fault h = cc (h)
told_fault (job.PsetMember name) fault h = cc (h)
told_fault (job.ScriptName key) fault h = cc (h)
told_fault (job.ScriptLong rank thread) fault h = cc (h)
told_fault (job.Line rank thread line fault) told h = cc (h)
told_fault job.TooManyOps fault h = cc (h)
told_fault job.Memory fault h = absurd (cc (h))

stopped_by : {A : Type 0} (r : Result A Stop) (f fault : JobFault) → r ≡ Err (stop.BadJob fault) → IsErrAnd r (λ s. s ≡ stop_of_job f) → f ≡ fault
stopped_by r f fault bad holds = told_fault f fault (subst (λ (s : Result _ Stop). IsErrAnd s (λ s. s ≡ stop_of_job f)) bad holds)

-- and that fault is what is wrong with the input, since want of memory is no fault of the job
pub stopped_well : {A : Type 0} (Wrong : JobFault → Type 0) (r : Result A Stop) (f fault : JobFault) → r ≡ Err (stop.BadJob fault) → IsErrAnd r (λ s. s ≡ stop_of_job f) → (f ≡ job.Memory) ⊎ Wrong f → Wrong fault
stopped_well Wrong r f fault bad holds known = ⊎_elim memory told known
  where
    memory : f ≡ job.Memory → Wrong fault
    memory e = let none : stop.BadJob fault ≡ stop.Memory = subst (λ (s : Result _ Stop). IsErrAnd s (λ s. s ≡ stop_of_job job.Memory)) bad (subst (λ (g : JobFault). IsErrAnd r (λ s. s ≡ stop_of_job g)) e holds) in absurd (cc (none))

    told : Wrong f → Wrong fault
    told h = subst Wrong (stopped_by r f fault bad holds) h

-- What stopped a session, where the source tells its bytes and did not fail

module _ (command : Command) (before : Option (List ℕ)) (bytes : List ℕ) (is : before ≡ Some bytes) (why : Stop) (calm : why ≡ stop.ReadFault → ⊥) (long : why ≡ stop.TooLong → TellsLong before) (bad : (fault : JobFault) → why ≡ stop.BadJob fault → TellsFault command before fault) where
  -- an input without a fault stops a session only for want of memory
  pub stops_faultless : length bytes ≤ 4194304 → ((fault : JobFault) → IsFaultOf command bytes fault → ⊥) → stop_status why ≡ Memory
  stops_faultless few none = go why refl
    where
      go : (w : Stop) → why ≡ w → stop_status w ≡ Memory
      go stop.ReadFault e = absurd (calm e)
      go stop.TooLong e = let l = (long e).long bytes is in absurd (omega (arith, l, few))
      go (stop.BadJob fault) e = absurd (none fault ((bad fault e).told bytes is))
      go stop.Memory e = refl

  -- and any other for a fault that is told
  pub stops_fault : (Told : Option JobFault → Type 0) → length bytes ≤ 4194304 → ((fault : JobFault) → IsFaultOf command bytes fault → Told (Some fault)) → Told (stop_fault why) ⊎ (stop_status why ≡ Memory)
  stops_fault Told few one = go why refl
    where
      go : (w : Stop) → why ≡ w → Told (stop_fault w) ⊎ (stop_status w ≡ Memory)
      go stop.ReadFault e = absurd (calm e)
      go stop.TooLong e = let l = (long e).long bytes is in absurd (omega (arith, l, few))
      go (stop.BadJob fault) e = inl (one fault ((bad fault e).told bytes is))
      go stop.Memory e = inr refl

  pub stops_long : 4194304 < length bytes → (stop_status why ≡ TooLong) ⊎ (stop_status why ≡ Memory)
  stops_long many = go why refl
    where
      go : (w : Stop) → why ≡ w → (stop_status w ≡ TooLong) ⊎ (stop_status w ≡ Memory)
      go stop.ReadFault e = absurd (calm e)
      go stop.TooLong e = inl refl
      go (stop.BadJob fault) e = let l = (bad fault e).short bytes is in absurd (omega (arith, l, many))
      go stop.Memory e = inr refl
