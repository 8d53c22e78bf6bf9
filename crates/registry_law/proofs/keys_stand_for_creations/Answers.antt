use Rattle.mpi_protocol.specs.Run.{end_of}
use Rattle.registry_law.specs.Facts.{registry_of}
use Rattle.due_law.specs.Runs.{dues_of}
use Rattle.registry_law.proofs.Runs.{end_together}
use Rattle.registry_law.proofs.KeysStand.{stands, one_creation}
use Rattle.registry_law.proofs.keys_stand_for_creations.Goals as goal

pub returns-clause-stands : goal.returns-clause-stands
returns-clause-stands c = λ s journal r key sets run e. stands s (end_of s journal) (dues_of s journal) (registry_of s journal) (end_together s sets journal run).joined r key e

pub returns-clause-one : goal.returns-clause-one
returns-clause-one c = λ s journal r q key sets run a b na nb. one_creation s (end_of s journal) (dues_of s journal) (registry_of s journal) (end_together s sets journal run).joined r q key a b na nb
