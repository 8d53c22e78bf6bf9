-- The drain of every protocol run is within the bound, and where it ends nothing is under way.
use Rattle.std.proofs.Common.{ℕ, List, [], ◌∷◌, ◌++◌}
use Rattle.mpi_base.specs.declared.entries.Entry.{Entry}
use Rattle.mpi_law.specs.declared.setting.Setting.{Setting}
use Rattle.mpi_law.specs.ScriptLists.{AllScripts}
use Rattle.agree_law.specs.World.{Event}
use Rattle.mpi_protocol.specs.World.{World, opening, moved}
use Rattle.mpi_protocol.specs.Run.{IsProtocolRun, end_of}
use Rattle.mpi_protocol.specs.Order.{IsQuiet, IsDrained}
use Rattle.projection_law.specs.Events.{events_at, agreement_events}
use Rattle.projection_law.specs.Premises.{SetsAreOfRanks}
use Rattle.projection_law.specs.KnownNames.{NamesAreKnownFrom, CallersNamesAreKnown}
use Rattle.projection_law.proofs.SoundRuns.{Follows, follows-moved, runs_follow}
use Rattle.wayout_law.specs.Facts.{IsWithinBound, IsAtRest}
use Rattle.wayout_law.proofs.Stands.{Stands}
use Rattle.wayout_law.proofs.WayOut.{StandAlong, drain-is-short}
use Rattle.wayout_law.proofs.Quiet.{quiet-empty, quiet-nobody, quiet-waits, quiet-owner, quiet-called, quiet-shared}
use Rattle.wayout_law.proofs.RunStands.{run-stands, run-waited}

stand-along : (s : Setting) (scripts : AllScripts) (w : World) (events : List Event) (es : List Entry) → SetsAreOfRanks s → Follows s w events → NamesAreKnownFrom w es → IsDrained scripts w es → StandAlong s.contexts w es
stand-along s scripts w events [] sets h known drained = tt
stand-along s scripts w events (e ∷ es) sets h known drained = (
  run-stands s w events h,
  stand-along s scripts (moved w e.choice) (events ++ events_at w e.choice.rank e.choice.act) es sets (follows-moved s w events e.choice sets h drained.0.may.enabled known.0) known.1 drained.1,
)

pub drains_are_short : (s : Setting) (scripts : AllScripts) (journal es : List Entry) → SetsAreOfRanks s → CallersNamesAreKnown s journal → IsProtocolRun s journal → NamesAreKnownFrom (end_of s journal) es → IsDrained scripts (end_of s journal) es
    → IsWithinBound scripts (end_of s journal) es
drains_are_short s scripts journal es sets known run along drained =
    let events = agreement_events (opening s) journal in
    let h = runs_follow s journal sets run known in
    drain-is-short s.contexts scripts (end_of s journal) es (stand-along s scripts (end_of s journal) events es sets h along drained) (run-waited s (end_of s journal) events h) drained

rests : (top : ℕ) (scripts : AllScripts) (w : World) → Stands top w → IsQuiet w scripts → IsAtRest w
rests top scripts w h quiet = record {
  empty = quiet-empty top w scripts h quiet;
  offered = quiet-nobody top w scripts h quiet;
  waiting = quiet-waits top w scripts h quiet;
  owner = quiet-owner top w scripts h quiet;
  called = quiet-called top w scripts h quiet;
  shared = quiet-shared top w scripts h quiet;
}

pub quiet_worlds_are_at_rest : (s : Setting) (scripts : AllScripts) (journal : List Entry) → SetsAreOfRanks s → CallersNamesAreKnown s journal → IsProtocolRun s journal → IsQuiet (end_of s journal) scripts → IsAtRest (end_of s journal)
quiet_worlds_are_at_rest s scripts journal sets known run quiet =
    rests s.contexts scripts (end_of s journal) (run-stands s (end_of s journal) (agreement_events (opening s) journal) (runs_follow s journal sets run known)) quiet
