-- What holds of the registry at a quiet end of a protocol run.
use Rattle.std.proofs.Common.{◌≡◌, ◌<◌, ℕ, true, List, length}
use Rattle.mpi_base.specs.declared.entries.Entry.{Entry}
use Rattle.mpi_law.specs.declared.setting.Setting.{Setting}
use Rattle.mpi_law.specs.ScriptLists.{AllScripts}
use Rattle.mpi_law.specs.Registry.State.{creation_at}
use Rattle.mpi_law.specs.Closed.{is_picked_or_short, is_matched_out, is_settled, is_closed}
use Rattle.mpi_protocol.specs.World.{opening, rank_at}
use Rattle.mpi_protocol.specs.Run.{IsProtocolRun, end_of, events_of}
use Rattle.mpi_protocol.specs.Order.{IsQuiet}
use Rattle.projection_law.specs.Premises.{SetsAreOfRanks}
use Rattle.projection_law.specs.Events.{agreement_events}
use Rattle.due_law.specs.Runs.{dues_of}
use Rattle.registry_law.specs.Facts.{registry_of}
use Rattle.registry_law.proofs.Runs.{registry_runs}
use Rattle.closed_law.proofs.Rests.{Rests, end_rests}
use Rattle.closed_law.proofs.Matches.{matched_out}
use Rattle.closed_law.proofs.Backs.{settled}
use Rattle.closed_law.proofs.Asked.{Asked}
use Rattle.closed_law.proofs.AskedRuns.{asked_at_end}
use Rattle.closed_law.proofs.Creations.{NoneShares, decided}
use Rattle.closed_law.proofs.GatherRuns.{gathers_at_end, none_shares}
use Rattle.closed_law.proofs.Receives.{counted_has}
use Rattle.closed_law.proofs.ReceiveRuns.{counted_at_end}
use Rattle.closed_law.proofs.Closes.{closes}
use Rattle.closed_law.proofs.Rows.{differ_rows}
use Rattle.closed_law.proofs.RowRuns.{rows_differ}

module _ (s : Setting) (scripts : AllScripts) (journal : List Entry) (sets : SetsAreOfRanks s) (run : IsProtocolRun s journal) where
  pub asked_here : Asked s (registry_of s journal)
  asked_here = asked_at_end s (events_of journal) (registry_runs s sets journal run)

  module _ (quiet : IsQuiet (end_of s journal) scripts) where
    pub rests_here : Rests s scripts (end_of s journal) (agreement_events (opening s) journal) (dues_of s journal) (registry_of s journal)
    rests_here = end_rests s scripts journal sets run quiet

    pub takes_no_message : is_matched_out (registry_of s journal) ≡ true
    takes_no_message = matched_out s scripts (end_of s journal) (agreement_events (opening s) journal) (dues_of s journal) (registry_of s journal) rests_here

    pub gives_nothing_back : (p : ℕ) → p < length (registry_of s journal).comms → is_settled (registry_of s journal) p ≡ true
    gives_nothing_back p lp = settled s scripts (end_of s journal) (agreement_events (opening s) journal) (dues_of s journal) (registry_of s journal) rests_here p lp

    -- no exchange is held up
    none_share : (n : ℕ) → NoneShares (end_of s journal) (registry_of s journal) n
    none_share = none_shares s (end_of s journal) (agreement_events (opening s) journal) (dues_of s journal) (registry_of s journal) rests_here.together (gathers_at_end s sets journal run) rests_here.at_rest

    pub decides_no_creation : (n : ℕ) → n < length (registry_of s journal).creations → is_picked_or_short (creation_at (registry_of s journal) n) ≡ true
    decides_no_creation n ln = decided s scripts (end_of s journal) (agreement_events (opening s) journal) (dues_of s journal) (registry_of s journal) rests_here asked_here n (none_share n) ln

    pub closed_here : is_closed s scripts (registry_of s journal) ≡ true
    closed_here = closes s scripts (end_of s journal) (agreement_events (opening s) journal) (dues_of s journal) (registry_of s journal) rests_here asked_here (record {
      shares = none_share;
      differ = λ r lr. differ_rows (rank_at (end_of s journal) r).comms.rows (rows_differ s sets journal run r);
      rows = λ r lr. (let c = counted_at_end s journal run r in counted_has (rank_at (end_of s journal) r).local.names (rank_at (end_of s journal) r).threads (rank_at (end_of s journal) r).receives (rank_at (end_of s journal) r).posts c);
    })
