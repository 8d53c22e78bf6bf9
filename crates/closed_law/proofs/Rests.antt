-- A world where nothing but a call is left to do: what stands in it, and that none of its ranks may act.
use Rattle.std.proofs.Common.{◌≡◌, ◌<◌, ℕ, true, false, List, length, refl, arith}
use Rattle.std.proofs.lemmas.Bool.Decides.{nat_tests}
use Rattle.mpi_base.specs.MemberLists.{has_rank}
use Rattle.mpi_base.specs.declared.entries.Act.{Act}
use Rattle.mpi_base.specs.declared.entries.Entry.{Entry}
use Rattle.mpi_law.specs.declared.setting.Setting.{Setting}
use Rattle.mpi_law.specs.declared.setting.TheConstants.{THREADS}
use Rattle.mpi_law.specs.ScriptLists.{AllScripts}
use Rattle.mpi_law.specs.Registry.State.{Registry, comm_at}
use Rattle.agree_law.specs.World.{Event}
use Rattle.mpi_protocol.specs.Rank.{thread_at}
use Rattle.mpi_protocol.specs.Answers.{is_answerable}
use Rattle.mpi_base.specs.declared.entries.Act.TheVariants.{Answer}
use Rattle.mpi_protocol.specs.Step.{is_enabled}
use Rattle.mpi_protocol.specs.World.{World, opening, rank_at, has_packet}
use Rattle.mpi_protocol.specs.Order.{IsQuiet, is_call}
use Rattle.mpi_protocol.specs.Run.{IsProtocolRun, end_of}
use Rattle.projection_law.specs.Premises.{SetsAreOfRanks}
use Rattle.projection_law.specs.Events.{agreement_events}
use Rattle.due_law.specs.Dues.{Dues}
use Rattle.due_law.specs.Runs.{dues_of}
use Rattle.message_law.proofs.Topics.{Standing}
use Rattle.message_law.proofs.Worlds.{comms_of}
use Rattle.registry_law.specs.Facts.{registry_of}
use Rattle.registry_law.proofs.Together.{Together}
use Rattle.registry_law.proofs.Grounds.{standing}
use Rattle.registry_law.proofs.Runs.{end_together, names_are_known}
use Rattle.wayout_law.specs.Facts.{IsAtRest}
use Rattle.wayout_law.proofs.RunLaw.{quiet_worlds_are_at_rest}

-- what stands at a world, and that it is quiet
pub record Rests (s : Setting) (scripts : AllScripts) (w : World) (es : List Event) (due : Dues) (g : Registry) : Type 0 where
  pub together : Together s w es due g
  pub quiet : IsQuiet w scripts
  pub at_rest : IsAtRest w

pub end_rests : (s : Setting) (scripts : AllScripts) (journal : List Entry) → SetsAreOfRanks s → IsProtocolRun s journal → IsQuiet (end_of s journal) scripts
    → Rests s scripts (end_of s journal) (agreement_events (opening s) journal) (dues_of s journal) (registry_of s journal)
end_rests s scripts journal sets run quiet = record {
  together = end_together s sets journal run;
  quiet = quiet;
  at_rest = quiet_worlds_are_at_rest s scripts journal sets (names_are_known s sets journal run) run quiet;
}

module _ (s : Setting) (scripts : AllScripts) (w : World) (es : List Event) (due : Dues) (g : Registry) (h : Rests s scripts w es due g) where
  pub stands : Standing (length w.ranks) g (comms_of w)
  stands = standing s w due g h.together.joined h.together.members h.together.owned

  -- no rank may do anything but call or take a packet
  pub none_may : (r : ℕ) (act : Act) → r < length w.ranks → is_call act ≡ false → has_packet w r act ≡ true → is_enabled (rank_at w r) act ≡ false
  none_may r act lr e there = let still = h.quiet.still (record { rank = r; act = act }) e in grind (arith, nat_tests, still, lr, there)

  pub not_answerable : (r t : ℕ) → r < length w.ranks → t < THREADS → is_answerable (rank_at w r) (thread_at (rank_at w r) t).waits ≡ false
  unfolding is_enabled
  not_answerable r t lr lt = let still = none_may r (Answer t) lr refl refl in grind (arith, nat_tests, still, lt)

  -- a member of a communicator is a rank
  pub is_rank : (p r : ℕ) → has_rank (comm_at g p).members r ≡ true → r < length w.ranks
  is_rank p r i = stands.ranks p r i
