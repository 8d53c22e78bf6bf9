-- The registry of one rank: a session, its group, a communicator, its duplicate and its end; and
-- what calls are refused.
use Rattle.std.proofs.Common.{◌≡◌, ℕ, true, false, List, [], ◌∷◌, ◌++◌, replicate, Some, None, codes, refl, lit≤, lit<}
use Rattle.std.specs.List.{list_all}
use Rattle.mpi_base.specs.MemberLists.{has_rank}
use Rattle.mpi_base.specs.declared.keys.Key.{Key}
use Rattle.mpi_base.specs.declared.keys.Kind.TheVariants as kind
use Rattle.mpi_base.specs.declared.ops.Op.{Op}
use Rattle.mpi_base.specs.declared.ops.Op.TheVariants as op
use Rattle.mpi_base.specs.declared.replies.Reply.TheVariants as reply
use Rattle.mpi_base.specs.declared.errors.ErrClass.TheVariants as class
use Rattle.pset_reg.specs.Sets.{start_of}
use Rattle.local_law.specs.Names.{bind}
use Rattle.local_law.specs.Objects.{Session, Group, Comm, no_objects}
use Rattle.mpi_law.specs.declared.setting.Setting.{Setting}
use Rattle.mpi_law.specs.ScriptLists.{AllScripts}
use Rattle.mpi_law.specs.Local.{call_of, effect_of}
use Rattle.mpi_law.specs.Local.Objects.{Local}
use Rattle.mpi_law.specs.declared.effects.Effect.{Effect}
use Rattle.mpi_law.specs.declared.effects.Effect.TheVariants.{Says, Frees}
use Rattle.mpi_law.specs.declared.effects.Origin.TheVariants.{Duplicated}
use Rattle.mpi_law.specs.Local.Effects.{local_after}
use Rattle.mpi_law.specs.Registry.State.{Registry, Group_and_tag, Nth_dup, registry_opening, comm_at}
use Rattle.mpi_law.specs.Registry.Creations.{is_open, has_open_under, name_of}
use Rattle.mpi_law.specs.Registry.Contexts.{stands_for, in_use}
use Rattle.mpi_law.specs.Registry.Calls.{effect_at}
use Rattle.mpi_law.specs.Registry.Events.{Event, Calls, Picks, Backs, Replies, registry_next}
use Rattle.mpi_law.specs.Registry.Runs.{registry_after, IsRegistryRun}
use Rattle.mpi_law.specs.Closed.{is_settled, is_closed}

-- one rank
abbrev one : Setting
one = record { ranks = 1; contexts = 63; psets = start_of 1 }

abbrev start : Registry
start = registry_opening one

abbrev open_session : Op
open_session = op.Session (codes "s")

abbrev group_of_self : Op
group_of_self = op.Pset (codes "s") (codes "mpi://SELF") (codes "g")

abbrev create : Op
create = op.Create (codes "g") (codes "a") (codes "c")

abbrev key : Key
key = record { parent = 0; kind = kind.From; number = 0; tag = codes "a"; members = 0 ∷ [] }

-- a session, its group, a creation and its pick
abbrev six : List Event
six =
    Calls 0 0 open_session true ∷ Replies 0 0 reply.Fine
    ∷ Calls 0 0 group_of_self true ∷ Replies 0 0 (reply.Group (0 ∷ []))
    ∷ Calls 0 0 create false
    ∷ Picks 0 key (Some 1)
    ∷ []

-- and the communicator
abbrev seven : List Event
seven = six ++ Replies 0 0 (reply.Comm 1 0 1) ∷ []

-- each of the seven events is allowed when it comes
seven_are_a_run : IsRegistryRun one start seven
unfolding registry_next call_of
seven_are_a_run = (
  record { between = refl; rank = lit< tt; thread = lit< tt; idle = refl; reply = refl },
  (
    refl,
    (
      record { between = refl; rank = lit< tt; thread = lit< tt; idle = refl; reply = refl },
      (
        refl,
        (
          record { between = refl; rank = lit< tt; thread = lit< tt; idle = refl; reply = refl },
          (
            (record { between = refl; proper = refl; there = lit< tt; all = refl; member = refl; members = refl; unpicked = refl }, record { above = lit≤ tt; below = lit≤ tt; unused = refl }),
            (
              refl,
              tt,
            ),
          ),
        ),
      ),
    ),
  ),
)

-- they leave one communicator, of context 1 and rank 0
one_communicator : (registry_after one start seven).comms ≡ record { ctx = 1; members = 0 ∷ []; sessions = 1 ∷ []; freed = []; returned = [] } ∷ []
unfolding registry_next call_of
one_communicator = refl

-- thread 0 calls three operations, no other thread calls any
abbrev scripts : AllScripts
scripts = record { ranks = 1; lists = (open_session ∷ group_of_self ∷ create ∷ []) ∷ replicate 7 [] }

-- nothing more may come after the seven
seven_close : is_closed one scripts (registry_after one start seven) ≡ true
unfolding registry_next call_of is_closed
seven_close = refl

-- from the pick to the answer the same group and tag is busy, and then no more
busy_when_picked : effect_at one (registry_after one start six) 0 (op.Create (codes "g") (codes "a") (codes "d")) ≡ Says (reply.Refused class.Busy)
unfolding registry_next call_of
busy_when_picked = refl

not_busy_when_answered : is_open (registry_after one start seven) 0 (Group_and_tag (0 ∷ []) (codes "a")) ≡ false
unfolding registry_next call_of
not_busy_when_answered = refl

-- while the communicator is owed, the registry is not closed
six_do_not_close : is_closed one scripts (registry_after one start six) ≡ false
unfolding registry_next call_of is_closed
six_do_not_close = refl

-- A duplicate

abbrev dup : Op
dup = op.Dup (codes "c") (codes "d")

abbrev dup_key : Key
dup_key = record { parent = 1; kind = kind.Dup; number = 0; tag = []; members = 0 ∷ [] }

-- the call of a duplicate, its pick and the communicator
abbrev three : List Event
three = Calls 0 0 dup false ∷ Picks 0 dup_key (Some 2) ∷ Replies 0 0 (reply.Comm 2 0 1) ∷ []

abbrev after_seven : Registry
after_seven = registry_after one start seven

-- they go on with the run
three_go_on : IsRegistryRun one after_seven three
unfolding registry_next call_of
three_go_on = (
  record { between = refl; rank = lit< tt; thread = lit< tt; idle = refl; reply = refl },
  (
    (record { between = refl; proper = refl; there = lit< tt; all = refl; member = refl; members = refl; unpicked = refl }, record { above = lit≤ tt; below = lit≤ tt; unused = refl }),
    (
      refl,
      tt,
    ),
  ),
)

-- the key stands for the first duplicate of the first communicator, and for nothing at a rank that is no member
dup_key_stands : stands_for after_seven.comms 0 dup_key ≡ Some (Nth_dup 0 0)
unfolding registry_next call_of
dup_key_stands = refl

dup_key_elsewhere : stands_for after_seven.comms 1 dup_key ≡ None
unfolding registry_next call_of
dup_key_elsewhere = refl

-- the next duplicate of it has another name
next_dup : name_of (registry_after one after_seven three).creations 0 (Duplicated 0) ≡ Nth_dup 0 1
unfolding registry_next call_of
next_dup = refl

-- a context that is in use is not free
context_in_use : in_use after_seven.comms 0 1 ≡ true
unfolding registry_next call_of
context_in_use = refl

-- A free

abbrev free : Op
free = op.Free (codes "c")

abbrev after_ten : Registry
after_ten = registry_after one after_seven three

-- the communicator is freed, given back, and the thread is answered
abbrev freed : List Event
freed = Calls 0 0 free false ∷ Backs 0 1 0 ∷ Replies 0 0 reply.Fine ∷ []

freed_go_on : IsRegistryRun one after_ten freed
unfolding registry_next call_of
freed_go_on = (
  record { between = refl; rank = lit< tt; thread = lit< tt; idle = refl; reply = refl },
  (
    record { between = refl; place = 0; here = refl; freed = refl; settled = refl; complete = refl; left = refl },
    (
      refl,
      tt,
    ),
  ),
)

-- after the call alone its context is still in use, and after the give-back it is not
still_in_use : in_use (registry_after one after_ten (Calls 0 0 free false ∷ [])).comms 0 1 ≡ true
unfolding registry_next call_of
still_in_use = refl

in_use_no_more : in_use (registry_after one after_ten freed).comms 0 1 ≡ false
unfolding registry_next call_of
in_use_no_more = refl

-- before the call not all members have freed it
not_freed_before : list_all (has_rank (comm_at after_ten 0).freed) (comm_at after_ten 0).members ≡ false
unfolding registry_next call_of
not_freed_before = refl

-- a duplicate that another thread has called is open on it until its answer
abbrev open_dup : Registry
open_dup = registry_after one after_ten (Calls 0 1 (op.Dup (codes "c") (codes "f")) false ∷ Calls 0 0 free false ∷ Picks 0 (record { parent = 1; kind = kind.Dup; number = 1; tag = []; members = 0 ∷ [] }) (Some 3) ∷ [])

held_by_dup : has_open_under open_dup 0 0 ≡ true
unfolding registry_next call_of
held_by_dup = refl

released : has_open_under (registry_after one open_dup (Replies 0 1 (reply.Comm 3 0 1) ∷ [])) 0 0 ≡ false
unfolding registry_next call_of
released = refl

-- while a give-back is allowed, the registry is not closed
not_closed_yet : is_settled (registry_after one after_ten (Calls 0 0 free false ∷ [])) 0 ≡ false
unfolding registry_next call_of
not_closed_yet = refl

-- What calls are answered

-- no name, and no session
abbrev nothing : Local
nothing = no_objects

-- a session and two groups of it: rank 0 alone, and the empty group
abbrev groups : Local
groups =
    record {
      names = bind (bind (bind [] (codes "s") (Session 1)) (codes "g") (Group (0 ∷ []) 1)) (codes "e") (Group [] 1);
      live = 1 ∷ [];
      opened = 1;
    }

-- a communicator of session 1
abbrev communicator : Local
communicator = record { names = bind [] (codes "c") (Comm 0 1); live = 1 ∷ []; opened = 1 }

-- a call at a rank where no creation is open
abbrev answer : ℕ → Local → Op → Effect ℕ
answer rank l o = effect_of one rank (record { members = λ p. 0 ∷ []; busy = λ origin. false; engaged = λ s. false }) l o

-- a session under a name that is bound
session_on_bound : answer 0 groups open_session ≡ Says (reply.Refused class.Arg)
unfolding call_of
session_on_bound = refl

-- a group of no session
pset_on_no_session : answer 0 nothing group_of_self ≡ Says (reply.Refused class.Session)
unfolding call_of
pset_on_no_session = refl

-- a group of a group
pset_on_group : answer 0 groups (op.Pset (codes "g") (codes "mpi://SELF") (codes "h")) ≡ Says (reply.Refused class.Session)
unfolding call_of
pset_on_group = refl

-- a process set that is not there
pset_of_no_set : answer 0 groups (op.Pset (codes "s") (codes "app://ocean") (codes "h")) ≡ Says (reply.Refused class.Arg)
unfolding call_of
pset_of_no_set = refl

-- a group under a name that is bound
pset_on_bound : answer 0 groups group_of_self ≡ Says (reply.Refused class.Arg)
unfolding call_of
pset_on_bound = refl

-- a creation from no group
create_on_no_group : answer 0 nothing create ≡ Says (reply.Refused class.Group)
unfolding call_of
create_on_no_group = refl

-- a creation from a group that lacks the caller
create_from_outside : answer 1 groups create ≡ Says (reply.Refused class.Group)
unfolding call_of
create_from_outside = refl

-- a creation under a name that is bound
create_on_bound : answer 0 groups (op.Create (codes "g") (codes "a") (codes "s")) ≡ Says (reply.Refused class.Arg)
unfolding call_of
create_on_bound = refl

-- a creation of a group and tag that is open at the rank
create_while_open : effect_of one 0 (record { members = λ p. []; busy = λ origin. true; engaged = λ s. false }) groups create ≡ Says (reply.Refused class.Busy)
unfolding call_of
create_while_open = refl

-- a duplicate of nothing, of a group, and under a name that is bound
dup_on_nothing : answer 0 nothing dup ≡ Says (reply.Refused class.Comm)
unfolding call_of
dup_on_nothing = refl

dup_on_group : answer 0 groups (op.Dup (codes "g") (codes "s")) ≡ Says (reply.Refused class.Comm)
unfolding call_of
dup_on_group = refl

dup_on_bound : answer 0 communicator (op.Dup (codes "c") (codes "c")) ≡ Says (reply.Refused class.Arg)
unfolding call_of
dup_on_bound = refl

-- a free of nothing and of a group; of a communicator it unbinds the name and waits
free_nothing : answer 0 nothing free ≡ Says (reply.Refused class.Comm)
unfolding call_of
free_nothing = refl

free_group : answer 0 groups (op.Free (codes "g")) ≡ Says (reply.Refused class.Comm)
unfolding call_of
free_group = refl

free_communicator : answer 0 communicator free ≡ Frees (codes "c") 0
unfolding call_of
free_communicator = refl

free_unbinds : local_after 0 communicator (answer 0 communicator free) ≡ record { names = []; live = 1 ∷ []; opened = 1 }
unfolding call_of
free_unbinds = refl

-- a creation from the empty group makes no communicator
create_from_empty : answer 0 groups (op.Create (codes "e") (codes "a") (codes "c")) ≡ Says reply.Null
unfolding call_of
create_from_empty = refl
