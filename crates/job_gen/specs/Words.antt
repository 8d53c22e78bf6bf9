-- The words of the command line that tell a generated job.
use Rattle.std.specs.Prelude.{ℕ, ◌&&◌, nat_le, if◌then◌else◌, List, Option, Some, None}
use Rattle.std.specs.Str.Parse.{digits_value}
use Rattle.token_text.specs.Numbers.{is_number}
use Rattle.job_gen.specs.declared.job.TheConstants.{LEAST_OPS, MOST_OPS}

-- the number of a job and the most operations that it may have, where two words are such numbers in decimal digits, without a
-- sign or a zero in front: one below 2 to the 64th, and one from LEAST_OPS to MOST_OPS
abbrev pub told_by : List ℕ → List ℕ → Option (ℕ × ℕ)
told_by number ops =
    if is_number 18446744073709551615 number && (is_number MOST_OPS ops && nat_le LEAST_OPS (digits_value 10 ops)) then Some (digits_value 10 number, digits_value 10 ops) else None
