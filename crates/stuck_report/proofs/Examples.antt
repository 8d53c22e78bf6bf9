-- Who waits at the end of short journals, and who has not called.
use Rattle.std.proofs.Common.{◌≡◌, ℕ, List, [], ◌∷◌, Option, Some, None, refl, codes}
use Rattle.mpi_base.specs.declared.ops.Op.{Op}
use Rattle.mpi_base.specs.declared.ops.Op.TheVariants.{Free, Pset, Create}
use Rattle.mpi_base.specs.declared.replies.Reply.{Reply}
use Rattle.mpi_base.specs.declared.replies.Reply.TheVariants.{Fine, Group}
use Rattle.mpi_base.specs.declared.entries.Act.{Act}
use Rattle.mpi_base.specs.declared.entries.Act.TheVariants.{Call, Answer}
use Rattle.mpi_base.specs.declared.entries.Entry.{Entry}
use Rattle.stuck_report.specs.Waits.{waits_in}
use Rattle.stuck_report.specs.Missing.{missing}

-- an entry of a rank
abbrev entry : ℕ → Act → Option Reply → Entry
entry r act reply = record { choice = record { rank = r; act = act }; brief = None; said = None; matched = None; dropped = None; reply = reply }

-- the thread 0 of two ranks frees a communicator each: rank 0 is answered, and then calls once more; rank 1 waits for its answer
abbrev freed : Op
freed = Free (codes "c")

abbrev freed_later : Op
freed_later = Free (codes "d")

abbrev journal : List Entry
journal = entry 0 (Call 0 freed) None ∷ entry 1 (Call 0 freed) None ∷ entry 0 (Answer 0) (Some Fine) ∷ []

-- who was answered does not wait
answered_waits_not : waits_in journal 0 0 ≡ None
answered_waits_not = refl

-- whose last call has no reply waits in it
unanswered_waits : waits_in journal 1 0 ≡ Some freed
unanswered_waits = refl

-- a thread without an entry does not wait
others_wait_not : waits_in journal 1 1 ≡ None
others_wait_not = refl

-- a thread waits in its last call, not in one that was answered
last_call_counts : waits_in (entry 0 (Call 0 freed) (Some Fine) ∷ entry 0 (Call 0 freed_later) None ∷ []) 0 0 ≡ Some freed_later
last_call_counts = refl

-- Creations from a group

-- a rank has the group of ranks 0 and 1 as g
abbrev world : ℕ → Entry
world r = entry r (Call 0 (Pset (codes "s") (codes "mpi://WORLD") (codes "g"))) (Some (Group (0 ∷ 1 ∷ [])))

abbrev creates : ℕ → List ℕ → Entry
creates r tag = entry r (Call 0 (Create (codes "g") tag (codes "c"))) None

-- rank 1 has the group and has not called; it does not count that rank 0 gives the name to another group later
later_groups_do_not_count : missing (world 0 ∷ world 1 ∷ creates 0 (codes "t") ∷ entry 0 (Call 1 (Pset (codes "s") (codes "mpi://SELF") (codes "g"))) (Some (Group (0 ∷ []))) ∷ []) 0 0 ≡ Some (1 ∷ [])
later_groups_do_not_count = refl

-- rank 1 calls with another tag, so each misses the other
tags_tell_creations_apart : missing (world 0 ∷ world 1 ∷ creates 0 (codes "t") ∷ creates 1 (codes "u") ∷ []) 1 0 ≡ Some (0 ∷ [])
tags_tell_creations_apart = refl

-- both call with one tag, so nobody is missed
nobody_is_missed : missing (world 0 ∷ world 1 ∷ creates 0 (codes "t") ∷ creates 1 (codes "t") ∷ []) 0 0 ≡ Some []
nobody_is_missed = refl

-- a free is no creation
frees_have_no_members : missing journal 1 0 ≡ None
frees_have_no_members = refl
