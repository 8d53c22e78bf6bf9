-- A context that is in use at one member alone is not picked, nor is any before all have called; and where another is free the creation is not exhausted.
use Rattle.std.proofs.Common.{◌≡◌, true, false, List, [], ◌∷◌, ◌++◌, map, Some, None, codes, refl}
use Rattle.mpi_base.specs.declared.keys.Key.{Key}
use Rattle.mpi_base.specs.declared.keys.Kind.TheVariants as kind
use Rattle.mpi_base.specs.declared.ops.Op.TheVariants as op
use Rattle.mpi_base.specs.declared.replies.Reply.TheVariants as reply
use Rattle.mpi_base.specs.Keys.{same_key}
use Rattle.mpi_group.specs.Algebra.{count_of, step_of, expanded}
use Rattle.mpi_law.specs.declared.setting.Setting.{Setting}
use Rattle.mpi_law.specs.Splits.{split_class}
use Rattle.mpi_law.specs.Local.{call_of}
use Rattle.mpi_law.specs.Registry.State.{Registry, registry_opening}
use Rattle.mpi_law.specs.Registry.Messages.{may_match}
use Rattle.mpi_law.specs.Registry.Events.{Event, Calls, Picks, Replies, registry_next}
use Rattle.mpi_law.specs.Registry.Runs.{registry_after}
use Rattle.mpi_law.proofs.Decided.{is_allowed, judged}

abbrev setting : Setting
setting = record { ranks = 2; contexts = 3; psets = record { ranks = 2; sets = (record { name = (codes "mpi://WORLD"); members = (0 ∷ 1 ∷ []) } ∷ record { name = (codes "mpi://SELF"); members = [] } ∷ []) } }

-- the same with one context
abbrev narrow : Setting
narrow = record { ranks = 2; contexts = 1; psets = record { ranks = 2; sets = (record { name = (codes "mpi://WORLD"); members = (0 ∷ 1 ∷ []) } ∷ record { name = (codes "mpi://SELF"); members = [] } ∷ []) } }

abbrev key_1 : Key
key_1 = record { parent = 0; kind = kind.From; number = 0; tag = (codes "a"); members = (1 ∷ []) }

abbrev key_2 : Key
key_2 = record { parent = 0; kind = kind.From; number = 0; tag = (codes "t"); members = (0 ∷ 1 ∷ []) }

-- rank 1 has a communicator of its own, with context 1, and has called the creation that rank 0 is to call too
abbrev events : List Event
events =
    Calls 0 0 (op.Session (codes "s")) true
    ∷ Replies 0 0 reply.Fine
    ∷ Calls 0 0 (op.Pset (codes "s") (codes "mpi://WORLD") (codes "w")) true
    ∷ Replies 0 0 (reply.Group (0 ∷ 1 ∷ []))
    ∷ Calls 1 0 (op.Session (codes "s")) true
    ∷ Replies 1 0 reply.Fine
    ∷ Calls 1 0 (op.Pset (codes "s") (codes "mpi://SELF") (codes "g")) true
    ∷ Replies 1 0 (reply.Group (1 ∷ []))
    ∷ Calls 1 0 (op.Create (codes "g") (codes "a") (codes "x")) false
    ∷ Picks 1 key_1 (Some 1)
    ∷ Replies 1 0 (reply.Comm 1 0 1)
    ∷ Calls 1 0 (op.Pset (codes "s") (codes "mpi://WORLD") (codes "w")) true
    ∷ Replies 1 0 (reply.Group (0 ∷ 1 ∷ []))
    ∷ Calls 1 0 (op.Create (codes "w") (codes "t") (codes "c")) false
    ∷ []

before : Registry
unfolding same_key split_class registry_next may_match call_of expanded step_of count_of judged
before = registry_after setting (registry_opening setting) events

after : Registry
unfolding same_key split_class registry_next may_match call_of expanded step_of count_of judged
after = registry_after setting (registry_opening setting) (events ++ Calls 0 0 (op.Create (codes "w") (codes "t") (codes "c")) false ∷ [])

abbrev asked : List Event
asked =
    Picks 0 key_2 (Some 1)
    ∷ Picks 0 key_2 (Some 2)
    ∷ Picks 0 key_2 (Some 3)
    ∷ Picks 1 key_2 (Some 2)
    ∷ Picks 0 key_2 None
    ∷ []

-- whether each is allowed before rank 0 has called
allowed_before : map (is_allowed setting before) asked ≡ false ∷ false ∷ false ∷ false ∷ false ∷ []
unfolding before same_key split_class registry_next may_match call_of expanded step_of count_of judged
allowed_before = refl

-- and after
allowed : map (is_allowed setting after) asked ≡ false ∷ true ∷ true ∷ true ∷ false ∷ []
unfolding after same_key split_class registry_next may_match call_of expanded step_of count_of judged
allowed = refl

-- with one context the creation is exhausted, though it is free at rank 0
allowed_narrow : map (is_allowed narrow after) asked ≡ false ∷ false ∷ false ∷ false ∷ true ∷ []
unfolding after same_key split_class registry_next may_match call_of expanded step_of count_of judged
allowed_narrow = refl
