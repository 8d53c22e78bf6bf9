-- What the statuses of a session mean, and why a session stops before its job is run.
use Rattle.std.specs.Prelude.{Bool, true, false}
use Rattle.job_file.specs.declared.faults.JobFault.TheVariants as job
use Rattle.mpisess.specs.declared.status.Status.{Status}
use Rattle.mpisess.specs.declared.status.Status.TheVariants.{Fine, Usage, BadJob, Stuck, ReadFault, WriteFault, TooLong, Memory}
use Rattle.mpisess.specs.declared.input.InputError.TheVariants as input

-- the command line was not understood
abbrev pub is_usage : Status → Bool
is_usage Fine = false
is_usage Usage = true
is_usage BadJob = false
is_usage Stuck = false
is_usage ReadFault = false
is_usage WriteFault = false
is_usage TooLong = false
is_usage Memory = false

-- the input is no job
abbrev pub is_bad_job : Status → Bool
is_bad_job Fine = false
is_bad_job Usage = false
is_bad_job BadJob = true
is_bad_job Stuck = false
is_bad_job ReadFault = false
is_bad_job WriteFault = false
is_bad_job TooLong = false
is_bad_job Memory = false

-- the input was read as far as it may be read
abbrev pub was_read : Status → Bool
was_read Fine = true
was_read Usage = false
was_read BadJob = true
was_read Stuck = true
was_read ReadFault = false
was_read WriteFault = true
was_read TooLong = true
was_read Memory = false

-- the input could not be read, or is no job
abbrev pub is_of_input : Status → Bool
is_of_input Fine = false
is_of_input Usage = false
is_of_input BadJob = true
is_of_input Stuck = false
is_of_input ReadFault = true
is_of_input WriteFault = false
is_of_input TooLong = true
is_of_input Memory = false

-- the job was run until nothing was left to do
abbrev pub was_run : Status → Bool
was_run Fine = true
was_run Usage = false
was_run BadJob = false
was_run Stuck = true
was_run ReadFault = false
was_run WriteFault = true
was_run TooLong = false
was_run Memory = false

-- and its whole journal was written
abbrev pub was_written : Status → Bool
was_written Fine = true
was_written Usage = false
was_written BadJob = false
was_written Stuck = true
was_written ReadFault = false
was_written WriteFault = false
was_written TooLong = false
was_written Memory = false
