-- A context that is in use at one member alone is not picked; a reply stands where the operation puts it.
use Rattle.std.proofs.Common.{◌≡◌, true, false, List, [], ◌∷◌, map, Some, None, codes, refl}
use Rattle.mpi_base.specs.declared.keys.Key.{Key}
use Rattle.mpi_base.specs.declared.keys.Kind.TheVariants as kind
use Rattle.mpi_base.specs.declared.ops.Op.TheVariants as op
use Rattle.mpi_base.specs.declared.replies.Reply.TheVariants as reply
use Rattle.mpi_base.specs.Keys.{same_key}
use Rattle.mpi_group.specs.Algebra.{count_of, step_of, expanded}
use Rattle.mpi_law.specs.declared.setting.Setting.{Setting}
use Rattle.mpi_law.specs.Splits.{split_class}
use Rattle.mpi_law.specs.Local.{call_of}
use Rattle.mpi_law.specs.Registry.State.{Registry, registry_opening}
use Rattle.mpi_law.specs.Registry.Messages.{may_match}
use Rattle.mpi_law.specs.Registry.Events.{Event, Calls, Picks, Replies, registry_next}
use Rattle.mpi_law.specs.Registry.Runs.{registry_after}
use Rattle.mpi_law.proofs.Decided.{is_allowed, judged}

abbrev setting : Setting
setting = record { ranks = 2; contexts = 63; psets = record { ranks = 2; sets = (record { name = (codes "mpi://WORLD"); members = (0 ∷ 1 ∷ []) } ∷ record { name = (codes "mpi://SELF"); members = [] } ∷ []) } }

abbrev key_1 : Key
key_1 = record { parent = 0; kind = kind.From; number = 0; tag = (codes "a"); members = (0 ∷ []) }

abbrev key_2 : Key
key_2 = record { parent = 0; kind = kind.From; number = 0; tag = (codes "t"); members = (0 ∷ 1 ∷ []) }

abbrev before : List Event
before =
    Calls 0 0 (op.Session (codes "s")) true
    ∷ Replies 0 0 reply.Fine
    ∷ Calls 0 0 (op.Pset (codes "s") (codes "mpi://SELF") (codes "g")) true
    ∷ Replies 0 0 (reply.Group (0 ∷ []))
    ∷ Calls 0 0 (op.Create (codes "g") (codes "a") (codes "x")) false
    ∷ Picks 0 key_1 (Some 1)
    ∷ Replies 0 0 (reply.Comm 1 0 1)
    ∷ Calls 0 0 (op.Pset (codes "s") (codes "mpi://WORLD") (codes "w")) true
    ∷ Replies 0 0 (reply.Group (0 ∷ 1 ∷ []))
    ∷ Calls 0 0 (op.Create (codes "w") (codes "t") (codes "c")) false
    ∷ Calls 1 0 (op.Session (codes "s")) true
    ∷ Replies 1 0 reply.Fine
    ∷ Calls 1 0 (op.Pset (codes "s") (codes "mpi://WORLD") (codes "w")) true
    ∷ Replies 1 0 (reply.Group (0 ∷ 1 ∷ []))
    ∷ []

abbrev call_at_1 : Event
call_at_1 = Calls 1 0 (op.Create (codes "w") (codes "t") (codes "c")) false

short : Registry
unfolding same_key split_class registry_next may_match call_of expanded step_of count_of judged
short = registry_after setting (registry_opening setting) before

after : Registry
unfolding short same_key split_class registry_next may_match call_of expanded step_of count_of judged
after = registry_after setting short (call_at_1 ∷ [])

-- while rank 1 has not called, nothing is picked; a reply at once stands in the call's entry, one that is waited for does not
early : map (is_allowed setting short) (Picks 0 key_2 (Some 2) ∷ Picks 1 key_2 (Some 2) ∷ Picks 0 key_2 None ∷ Calls 0 1 (op.Psets (codes "s")) true ∷ Calls 0 1 (op.Psets (codes "s")) false ∷ Calls 0 1 (op.Await (codes "w")) true ∷ Calls 0 1 (op.Await (codes "w")) false ∷ Calls 0 0 (op.Psets (codes "s")) true ∷ Calls 0 8 (op.Psets (codes "s")) true ∷ Calls 2 0 (op.Psets (codes "s")) true ∷ [])
    ≡ false ∷ false ∷ false ∷ true ∷ false ∷ false ∷ true ∷ false ∷ false ∷ false ∷ []
unfolding short same_key split_class registry_next may_match call_of expanded step_of count_of judged
early = refl

-- context 1 is in use at rank 0 alone; whichever member names the pick
picks : map (is_allowed setting after) (Picks 0 key_2 (Some 1) ∷ Picks 1 key_2 (Some 1) ∷ Picks 0 key_2 (Some 2) ∷ Picks 1 key_2 (Some 2) ∷ Picks 0 key_2 None ∷ [])
    ≡ false ∷ false ∷ true ∷ true ∷ false ∷ []
unfolding after short same_key split_class registry_next may_match call_of expanded step_of count_of judged
picks = refl

-- an answer comes once
once : map (is_allowed setting (registry_after setting after (Picks 0 key_2 (Some 2) ∷ Replies 0 0 (reply.Comm 2 0 2) ∷ []))) (Replies 0 0 (reply.Comm 2 0 2) ∷ Replies 1 0 (reply.Comm 2 1 2) ∷ Replies 1 0 (reply.Comm 2 0 2) ∷ [])
    ≡ false ∷ true ∷ false ∷ []
unfolding after short same_key split_class registry_next may_match call_of expanded step_of count_of judged
once = refl
