use Rattle.std.proofs.Common.{◌≡◌, map, replicate}
use Rattle.mpi_law.specs.Registry.State.{blank_part}
use Rattle.central_ranks.specs.Parts.{PartHeld}
use Rattle.central_ranks.proofs.ranks.Ranks.start.Given as goal

abbrev pub invariant-loop : goal.invariant-loop
invariant-loop l = map (λ (h : PartHeld). h.part) l.parts.items ≡ replicate l.counter blank_part
