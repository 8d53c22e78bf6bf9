-- A protocol run with one entry more.
use Rattle.std.proofs.Common.{◌≡◌, true, List, [], ◌∷◌, ◌++◌, refl, sym, subst}
use Rattle.mpi_base.specs.declared.entries.Choice.{Choice}
use Rattle.mpi_base.specs.declared.entries.Entry.{Entry}
use Rattle.mpi_protocol.specs.World.{World, may_happen, moved, entry_at}
use Rattle.mpi_protocol.specs.Run.{RunsFrom, world_after}

pub RunsFrom-snoc : (w : World) (es : List Entry) (e : Entry) (c : Choice) → RunsFrom w es → may_happen (world_after w es) c ≡ true → e ≡ entry_at (world_after w es) c → e.choice ≡ c → RunsFrom w (es ++ e ∷ [])
RunsFrom-snoc w [] e c run may is same = (subst (λ z. may_happen w z ≡ true) (sym same) may, subst (λ z. e ≡ entry_at w z) (sym same) is, tt)
RunsFrom-snoc w (x ∷ es) e c run may is same = (run.0, run.1, RunsFrom-snoc (moved w x.choice) es e c run.2 may is same)

pub world_after-snoc : (w : World) (es : List Entry) (e : Entry) → world_after w (es ++ e ∷ []) ≡ moved (world_after w es) e.choice
world_after-snoc w [] e = refl
world_after-snoc w (x ∷ es) e = world_after-snoc (moved w x.choice) es e
