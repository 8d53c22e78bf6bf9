-- The events of an entry, and the ranks after its choice.
use Rattle.std.proofs.Common.{◌≡◌, ℕ, List, [], set, ap, subst}
use Rattle.std.proofs.lemmas.List.{append-nil}
use Rattle.mpi_base.specs.declared.entries.Act.{Act}
use Rattle.mpi_base.specs.declared.entries.Choice.{Choice}
use Rattle.mpi_law.specs.declared.setting.Setting.{Setting}
use Rattle.mpi_law.specs.Registry.State.{Registry}
use Rattle.mpi_law.specs.Registry.Events.{Event}
use Rattle.mpi_law.specs.Registry.Runs.{IsRegistryRun}
use Rattle.mpi_protocol.specs.Run.{act_events, entry_events}
use Rattle.mpi_protocol.specs.World.{World, rank_at, move_of, moved, entry_at}
use Rattle.due_law.specs.Dues.{Dues}
use Rattle.run_law.proofs.Calling.{moved_ranks}
use Rattle.run_law.proofs.SettleSteps.{Goes}
use Rattle.message_law.proofs.Deliveries.{GoesOn}

abbrev pub choice_of : ℕ → Act → Choice
choice_of r act = record { rank = r; act = act }

-- the events of a choice's entry, by the number of its rank
pub events_by : (w : World) (r : ℕ) (act : Act) → (rank_at w r).rank ≡ r → entry_events (entry_at w (choice_of r act)) ≡ act_events r act (entry_at w (choice_of r act))
unfolding entry_events
events_by w r act named = ap (λ (q : ℕ). act_events q act (entry_at w (choice_of r act))) named

-- an act of run_law, as a choice of the world
pub goes_at : (s : Setting) (w : World) (g : Registry) (due : Dues) (r : ℕ) (act : Act) → (rank_at w r).rank ≡ r → Goes s g (act_events r act (entry_at w (choice_of r act))) (set w.ranks r (move_of w (choice_of r act)).state) due
    → Goes s g (entry_events (entry_at w (choice_of r act))) (moved w (choice_of r act)).ranks due
goes_at s w g due r act named h = rw (events_by w r act named, moved_ranks w (choice_of r act)) h

-- events that go on may come
pub allowed_all : (s : Setting) (g : Registry) (es : List Event) (w : World) → GoesOn s g es w → IsRegistryRun s g es
allowed_all s g es w h = subst (λ (xs : List Event). IsRegistryRun s g xs) (append-nil es) (h.allowed [] tt)
