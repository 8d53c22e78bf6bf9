use Rattle.std.proofs.Common.{◌≡◌, take}
use Rattle.stuck_report.specs.Waits.{last_of}
use Rattle.stuck_report.specs.Missing.{before_last}
use Rattle.stuck_report.specs.Places.{entry_at, before_place}
use Rattle.stuck_report.proofs.last_place.Given as goal

abbrev pub invariant-loop-place : goal.invariant-loop-place
invariant-loop-place l = (entry_at l.entries l.last ≡ last_of (take l.place l.entries) l.rank l.thread) × (before_place l.entries l.last ≡ before_last (take l.place l.entries) l.rank l.thread)
