-- Why a session stops before its job is run, and the number with which the process ends.
use Rattle.std.specs.Prelude.{ℕ, Option, Some, None}
use Rattle.job_file.specs.declared.faults.JobFault.{JobFault}
use Rattle.job_file.specs.declared.faults.JobFault.TheVariants as job
use Rattle.mpisess.specs.declared.status.Status.{Status}
use Rattle.mpisess.specs.declared.status.Status.TheVariants.{Fine, Usage, BadJob, Stuck, ReadFault, WriteFault, TooLong, Memory}
use Rattle.mpisess.specs.declared.status.Stop.{Stop}
use Rattle.mpisess.specs.declared.status.Stop.TheVariants as stop
use Rattle.mpisess.specs.declared.input.InputError.{InputError}
use Rattle.mpisess.specs.declared.input.InputError.TheVariants as input

-- the number with which the process ends
abbrev pub status_number : Status → ℕ
status_number Fine = 0
status_number Usage = 1
status_number BadJob = 2
status_number Stuck = 3
status_number ReadFault = 4
status_number WriteFault = 5
status_number TooLong = 6
status_number Memory = 7

-- the status of a session that stopped before its job was run, and what was wrong with the job
abbrev pub stop_status : Stop → Status
stop_status stop.ReadFault = ReadFault
stop_status stop.TooLong = TooLong
stop_status (stop.BadJob fault) = BadJob
stop_status stop.Memory = Memory

abbrev pub stop_fault : Stop → Option JobFault
stop_fault stop.ReadFault = None
stop_fault stop.TooLong = None
stop_fault (stop.BadJob fault) = Some fault
stop_fault stop.Memory = None

-- why a session stops where the input, or the job, was not read
abbrev pub stop_of_input : InputError → Stop
stop_of_input input.Fault = stop.ReadFault
stop_of_input input.TooLong = stop.TooLong
stop_of_input input.Memory = stop.Memory

abbrev pub stop_of_job : JobFault → Stop
stop_of_job (job.NotUtf8 line column) = stop.BadJob (job.NotUtf8 line column)
stop_of_job (job.NotToml line column) = stop.BadJob (job.NotToml line column)
stop_of_job (job.UnknownKey key) = stop.BadJob (job.UnknownKey key)
stop_of_job (job.Missing key) = stop.BadJob (job.Missing key)
stop_of_job (job.WrongKind key entry) = stop.BadJob (job.WrongKind key entry)
stop_of_job (job.OutOfRange key least greatest) = stop.BadJob (job.OutOfRange key least greatest)
stop_of_job (job.PsetMember name) = stop.BadJob (job.PsetMember name)
stop_of_job (job.ScriptName key) = stop.BadJob (job.ScriptName key)
stop_of_job (job.ScriptLong rank thread) = stop.BadJob (job.ScriptLong rank thread)
stop_of_job (job.Line rank thread line fault) = stop.BadJob (job.Line rank thread line fault)
stop_of_job job.TooManyOps = stop.BadJob job.TooManyOps
stop_of_job job.Memory = stop.Memory
