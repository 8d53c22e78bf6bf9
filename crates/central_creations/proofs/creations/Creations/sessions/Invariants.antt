use Rattle.std.proofs.Common.{◌≡◌, map, get_or, take}
use Rattle.mpi_law.specs.Registry.State.{blank_creation}
use Rattle.mpi_law.specs.Registry.Creations.{caller_of}
use Rattle.central_creations.proofs.creations.Creations.sessions.Given as goal

abbrev pub invariant-loop-index : goal.invariant-loop-index
invariant-loop-index l = l.sessions.items ≡ map (λ m. (caller_of (get_or l.self l.place blank_creation).callers m).session) (take l.index l.members)
