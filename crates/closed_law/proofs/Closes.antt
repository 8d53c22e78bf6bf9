-- The registry of a quiet world is closed.
use Rattle.std.proofs.Common.{◌≡◌, true, List, length, refl, arith}
use Rattle.std.specs.List.{list_all, range_with_len}
use Rattle.mpi_law.specs.declared.setting.Setting.{Setting}
use Rattle.mpi_law.specs.declared.setting.TheConstants.{THREADS}
use Rattle.mpi_law.specs.ScriptLists.{AllScripts}
use Rattle.mpi_law.specs.Registry.State.{Registry, blank_creation}
use Rattle.mpi_law.specs.Closed.{is_picked_or_short, is_settled, is_at_rest, is_closed}
use Rattle.agree_law.specs.World.{Event}
use Rattle.mpi_protocol.specs.World.{World}
use Rattle.due_law.specs.Dues.{Dues}
use Rattle.run_law.proofs.Lists.{all_range}
use Rattle.closed_law.proofs.Lists.{all_at}
use Rattle.closed_law.proofs.Rests.{Rests}
use Rattle.closed_law.proofs.Matches.{matched_out}
use Rattle.closed_law.proofs.Backs.{settled}
use Rattle.closed_law.proofs.Asked.{Asked}
use Rattle.closed_law.proofs.Creations.{decided}
use Rattle.closed_law.proofs.Threads.{Ends, at_rest}

pub closes : (s : Setting) (scripts : AllScripts) (w : World) (es : List Event) (due : Dues) (g : Registry) → Rests s scripts w es due g → Asked s g → Ends w g → is_closed s scripts g ≡ true
unfolding is_closed
closes s scripts w es due g h asked ends =
    let size = h.together.joined.sizes.ranks_are in
    let rows = all_at is_picked_or_short g.creations blank_creation (λ n ln. decided s scripts w es due g h asked n (ends.shares n) ln) in
    let matches = matched_out s scripts w es due g h in
    let comms = all_range (is_settled g) 0 (length g.comms) (λ p lo hi. settled s scripts w es due g h p (omega (arith, hi))) in
    let threads = all_range (λ r. list_all (is_at_rest scripts g r) (range_with_len 0 THREADS)) 0 s.ranks (λ r lo hi. all_range (is_at_rest scripts g r) 0 THREADS (λ t lo' hi'. at_rest s scripts w es due g h ends r t (omega (arith, size, hi)) (omega (arith, hi')))) in
    rw (rows, matches, comms, threads) refl
