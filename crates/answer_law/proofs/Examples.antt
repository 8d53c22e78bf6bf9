-- The laws applied to a run of two ranks with one context: both create a communicator, rank 0 sends two messages, rank 1 receives
-- one of any sender, and both split the communicator, for which no context is left.
use Rattle.std.proofs.Common.{◌≡◌, ℕ, ◌==◌, if◌then◌else◌, nat_lt, pos, negsuc, true, false, List, [], ◌∷◌, ◌++◌, take, drop, Some, None, codes, refl, lit≤}
use Rattle.mpi_base.specs.declared.errors.ErrClass.TheVariants as class
use Rattle.mpi_base.specs.declared.keys.Key.{Key}
use Rattle.mpi_base.specs.declared.keys.Kind.TheVariants as kind
use Rattle.mpi_base.specs.declared.messages.SrcArg.TheVariants as source
use Rattle.mpi_base.specs.declared.ops.Op.TheVariants as op
use Rattle.mpi_base.specs.declared.replies.Reply.{Reply}
use Rattle.mpi_base.specs.declared.replies.Reply.TheVariants as reply
use Rattle.mpi_base.specs.declared.shares.Shared1.{Shared1}
use Rattle.pset_reg.specs.Sets.{start_of}
use Rattle.mpi_law.specs.declared.setting.Setting.{Setting}
use Rattle.mpi_law.specs.Local.{call_of}
use Rattle.mpi_law.specs.Splits.{split_class}
use Rattle.mpi_law.specs.Registry.State.{Message, Receive, registry_opening, place_in}
use Rattle.mpi_law.specs.Registry.Messages.{may_match, message_of, receive_of}
use Rattle.mpi_law.specs.Registry.Events.{Event, Calls, Sends, Posts, Picks, Matches, Replies, registry_next}
use Rattle.mpi_law.proofs.Decided.{judged, run_of}
use Rattle.answer_law.specs.Answers.{IsRun, registry_at, Answer, HasCalled, CalledLast, WasFree, NoneWasFree}
use Rattle.answer_law.specs.Receipts.{Receipt, TookFirst, SentBy, PostedBy}
use Rattle.answer_law.proofs.Callers.{caller_called}
use Rattle.answer_law.proofs.Called.{called_last}
use Rattle.answer_law.proofs.Told.{members_alike, rank_told, size_told, exhausted_alike, was_free, none_was_free}
use Rattle.answer_law.proofs.Made.{sent_by, posted_by}
use Rattle.answer_law.proofs.Received.{took_first}
use Rattle.answer_law.proofs.Order.{class_in_order}

abbrev two : Setting
two = record { ranks = 2; contexts = 1; psets = start_of 2 }

abbrev key : Key
key = record { parent = 0; kind = kind.From; number = 0; tag = codes "a"; members = 0 ∷ 1 ∷ [] }

-- the group of the split: rank 1 comes first by its key
abbrev split_key : Key
split_key = record { parent = 1; kind = kind.Split; number = 0; tag = []; members = 1 ∷ 0 ∷ [] }

abbrev begins : ℕ → List Event
begins r =
    Calls r 0 (op.Session (codes "s")) true ∷ Replies r 0 reply.Fine
    ∷ Calls r 0 (op.Pset (codes "s") (codes "mpi://WORLD") (codes "g")) true ∷ Replies r 0 (reply.Group (0 ∷ 1 ∷ []))
    ∷ Calls r 0 (op.Create (codes "g") (codes "a") (codes "c")) false ∷ []

abbrev sends : List ℕ → List Event
sends payload = Calls 0 0 (op.Send (codes "c") (Some 1) 7 payload) true ∷ Sends 0 0 ∷ Replies 0 0 reply.Fine ∷ []

abbrev events : List Event
events =
    begins 0 ++ begins 1 ++ (
    Picks 0 key (Some 1) ∷ Replies 0 0 (reply.Comm 1 0 2) ∷ Replies 1 0 (reply.Comm 1 1 2)
    ∷ sends (5 ∷ []) ++ sends (6 ∷ []) ++ (
    Calls 1 0 (op.Recv (codes "c") source.Any None 16) false ∷ Posts 1 0 ∷ Matches 1 1 0 1 ∷ Replies 1 0 (reply.Received (Some 0) (Some 7) (5 ∷ []))
    ∷ Calls 0 0 (op.Split (codes "c") (Some (pos 0)) (pos 3) (codes "d")) false ∷ Calls 1 0 (op.Split (codes "c") (Some (pos 0)) (negsuc 0) (codes "d")) false
    ∷ Picks 0 split_key None ∷ Replies 0 0 (reply.Refused class.Exhausted) ∷ Replies 1 0 (reply.Refused class.Exhausted) ∷ []
    )
    )

is_run : IsRun two events
unfolding judged registry_next call_of may_match split_class
is_run = run_of two (registry_opening two) events refl

front_is_run : IsRun two (take 22 events)
unfolding judged registry_next call_of may_match split_class
front_is_run = run_of two (registry_opening two) (take 22 events) refl

-- Answers

told_0 : Answer two events 0 0 (reply.Comm 1 0 2)
unfolding registry_next call_of may_match split_class
told_0 = record { thread = 0; before = take 11 events; after = drop 12 events; here = refl; waited = refl }

told_1 : Answer two events 0 1 (reply.Comm 1 1 2)
unfolding registry_next call_of may_match split_class
told_1 = record { thread = 0; before = take 12 events; after = drop 13 events; here = refl; waited = refl }

-- rank 0 is answered of its create
called_0 : CalledLast two (take 11 events) 0 0 0
unfolding registry_next call_of may_match split_class told_0
called_0 = called_last two events 0 0 (reply.Comm 1 0 2) is_run told_0

-- whatever rank 1 is told of the first creation, it is this
one_communicator : (told : Reply) → Answer two events 0 1 told → told ≡ reply.Comm 1 1 2
unfolding registry_next call_of may_match split_class
one_communicator told b = members_alike two events is_run 0 0 1 1 0 2 told told_0 b refl

its_place : (ctx rank size : ℕ) → Answer two events 0 1 (reply.Comm ctx rank size) → (Some 1 ≡ Some rank) × (size ≡ 2)
unfolding registry_next call_of may_match split_class
its_place ctx rank size b = (rank_told two events is_run 0 1 ctx rank size b, size_told two events is_run 0 1 ctx rank size b)

-- the context was free at both when it was picked
was_free_then : WasFree two (take 11 events) 0 (0 ∷ 1 ∷ []) 1
unfolding registry_next call_of may_match split_class told_0
was_free_then = was_free two events is_run 0 0 1 0 2 told_0

-- no run tells rank 1 another context
abbrev other_context : List Event
other_context = take 12 events ++ Replies 1 0 (reply.Comm 2 1 2) ∷ []

no_other_context : IsRun two other_context → ⊥
unfolding registry_next call_of may_match split_class
no_other_context run =
    let a : Answer two other_context 0 0 (reply.Comm 1 0 2) = record { thread = 0; before = take 11 events; after = Replies 1 0 (reply.Comm 2 1 2) ∷ []; here = refl; waited = refl } in
    let b : Answer two other_context 0 1 (reply.Comm 2 1 2) = record { thread = 0; before = take 12 events; after = []; here = refl; waited = refl } in
    let same : reply.Comm 2 1 2 ≡ reply.Comm 1 1 2 = members_alike two other_context run 0 0 1 1 0 2 (reply.Comm 2 1 2) a b refl in
    cc (same)

-- Exhausted

-- both have called the split, rank 1 with the key that stands there
called_split : HasCalled two events 1 1
unfolding registry_next call_of may_match split_class
called_split = caller_called two events 1 1 is_run refl

exhausted_0 : Answer two events 1 0 (reply.Refused class.Exhausted)
unfolding registry_next call_of may_match split_class
exhausted_0 = record { thread = 0; before = take 26 events; after = drop 27 events; here = refl; waited = refl }

both_are_told : (told : Reply) → Answer two events 1 1 told → told ≡ reply.Refused class.Exhausted
unfolding registry_next call_of may_match split_class
both_are_told told b = exhausted_alike two events is_run 1 0 1 told exhausted_0 b refl

-- the one context was in use at one of them
none_was_free_then : NoneWasFree two (take 26 events) 1 (1 ∷ 0 ∷ [])
unfolding registry_next call_of may_match split_class exhausted_0
none_was_free_then = none_was_free two events is_run 1 0 exhausted_0

-- Receives

received_1 : Receipt two events 1 1 (reply.Received (Some 0) (Some 7) (5 ∷ []))
unfolding registry_next call_of may_match split_class
received_1 = record { thread = 0; before = take 22 events; after = drop 23 events; here = refl; waited = refl }

-- of the two open messages it was the first
took_the_first : TookFirst two (take 22 events) 1 1 (reply.Received (Some 0) (Some 7) (5 ∷ []))
unfolding registry_next call_of may_match split_class received_1
took_the_first = took_first two events is_run 1 1 _ received_1 (lit≤ tt)

-- the message that it took is one of rank 0's calls, and the receive one of rank 1's
message_is_sent : (m : Message) → message_of (registry_at two (take 22 events)) 0 1 ≡ Some m → SentBy two (take 22 events) m
message_is_sent m e = sent_by two (take 22 events) 0 1 m front_is_run e

receive_is_posted : (x : Receive) → receive_of (registry_at two (take 22 events)) 1 1 ≡ Some x → PostedBy two (take 22 events) x
receive_is_posted x e = posted_by two (take 22 events) 1 1 x front_is_run e

-- The order of a class

abbrev shares : ℕ → Shared1
shares m = record { colour = Some (pos 0); key = if m == 1 then negsuc 0 else pos 3 }

class_is : split_class shares (0 ∷ 1 ∷ 2 ∷ []) (pos 0) ≡ 1 ∷ 0 ∷ 2 ∷ []
unfolding split_class
class_is = refl

-- 1 comes before 0 by its key, and 0 before 2 by its rank
in_order : (nat_lt (place_in (1 ∷ 0 ∷ 2 ∷ []) 1) (place_in (1 ∷ 0 ∷ 2 ∷ []) 0) ≡ true) × (nat_lt (place_in (1 ∷ 0 ∷ 2 ∷ []) 0) (place_in (1 ∷ 0 ∷ 2 ∷ []) 2) ≡ true)
unfolding split_class
in_order = (class_in_order shares (0 ∷ 1 ∷ 2 ∷ []) (pos 0) 1 0 refl refl, class_in_order shares (0 ∷ 1 ∷ 2 ∷ []) (pos 0) 0 2 refl refl)
