-- One rank makes a communicator of its own, sends itself a message and receives it, entry by entry.
use Rattle.std.proofs.Common.{◌≡◌, ℕ, zero, suc, true, false, List, [], ◌∷◌, length, Option, Some, None, codes, refl}
use Rattle.mpi_base.specs.declared.keys.Key.{Key}
use Rattle.mpi_base.specs.declared.keys.Kind.TheVariants as kind
use Rattle.mpi_base.specs.declared.messages.Matched.{Matched}
use Rattle.mpi_base.specs.declared.messages.SrcArg.TheVariants as source
use Rattle.mpi_base.specs.declared.ops.Op.{Op}
use Rattle.mpi_base.specs.declared.ops.Op.TheVariants as op
use Rattle.mpi_base.specs.declared.replies.Reply.{Reply}
use Rattle.mpi_base.specs.declared.replies.Reply.TheVariants as reply
use Rattle.mpi_base.specs.declared.entries.Act.TheVariants.{Call, Answer, Settle}
use Rattle.mpi_base.specs.declared.entries.Said.TheVariants as said
use Rattle.mpi_base.specs.declared.entries.Entry.{Entry}
use Rattle.pset_reg.specs.Sets.{start_of}
use Rattle.mpi_law.specs.declared.setting.Setting.{Setting}
use Rattle.mpi_law.specs.declared.setting.TheConstants.{THREADS}
use Rattle.mpi_law.specs.Local.{call_of}
use Rattle.mpi_law.specs.Registry.State as reg
use Rattle.mpi_law.specs.Registry.State.{Registry, registry_opening, part_of, thread_of}
use Rattle.mpi_law.specs.Registry.Messages.{may_match}
use Rattle.mpi_law.specs.Registry.Runs.{IsRegistryRun}
use Rattle.mpi_protocol.specs.Run.{entry_events}
use Rattle.central_law.specs.Rest.{AtRest}
use Rattle.central_law.specs.Fits.{after_entry}
use Rattle.central_law.specs.Tests.{match_test, pick_test, call_test}
use Rattle.central_law.proofs.Tests.{call_tests}
use Rattle.central_law.proofs.Entries.{entry_steps}

abbrev one : Setting
one = record { ranks = 1; contexts = 63; psets = start_of 1 }

abbrev key : Key
key = record { parent = 0; kind = kind.From; number = 0; tag = codes "a"; members = 0 ∷ [] }

abbrev calls : Op → Option Matched → Option Reply → Entry
calls o matched told = record { choice = record { rank = 0; act = Call 0 o }; brief = None; said = None; matched = matched; dropped = None; reply = told }

abbrev settles : Entry
settles = record { choice = record { rank = 0; act = Settle key }; brief = None; said = Some (said.Picked 1); matched = None; dropped = None; reply = None }

abbrev answers : Reply → Entry
answers told = record { choice = record { rank = 0; act = Answer 0 }; brief = None; said = None; matched = None; dropped = None; reply = Some told }

abbrev after_all : Registry → List Entry → Registry
after_all g [] = g
after_all g (e ∷ es) = after_all (after_entry one g e) es

-- a creation is called, and nothing is picked yet
abbrev called : Registry
called =
    after_all (registry_opening one) (
    calls (op.Session (codes "s")) None (Some reply.Fine)
    ∷ calls (op.Pset (codes "s") (codes "mpi://SELF") (codes "g")) None (Some (reply.Group (0 ∷ [])))
    ∷ calls (op.Create (codes "g") (codes "a") (codes "c")) None None
    ∷ []
    )

it_waits : (thread_of called 0 0).wait ≡ reg.Creating 0
unfolding call_of
it_waits = refl

it_may_be_picked : pick_test one called 0 key (Some (said.Picked 1)) ≡ true
unfolding call_of
it_may_be_picked = refl

-- the communicator is there, and a message is sent on it
abbrev sent : Registry
sent = after_all called (settles ∷ answers (reply.Comm 1 0 1) ∷ calls (op.Send (codes "c") (Some 0) 7 (5 ∷ [])) None (Some reply.Fine) ∷ [])

-- the receive takes it in its own call: there is none to take it before
abbrev receive : Op
receive = op.Recv (codes "c") source.Any None 16

abbrev taken : Matched
taken = record { receive = 1; from = 0; number = 1 }

it_may_be_taken : call_test one sent 0 0 receive (Some taken) ≡ true
unfolding call_of may_match
it_may_be_taken = refl

not_before : match_test sent 0 (Some taken) ≡ false
unfolding call_of may_match
not_before = refl

at_rest : AtRest one sent
unfolding call_of
at_rest = record { between = refl; ranks = refl; threads = at }
  where
    at : (r : ℕ) → length (part_of sent r).threads ≡ THREADS
    at zero = refl
    at (suc r) = refl

it_is_a_step : IsRegistryRun one sent (entry_events (calls receive (Some taken) None))
unfolding call_of
it_is_a_step = (entry_steps one sent (calls receive (Some taken) None) at_rest).steps ((call_tests one sent 0 0 receive (Some taken) None).1 (it_may_be_taken, refl))

-- and then the receive has it
received : (after_entry one sent (calls receive (Some taken) None)).messages ≡ record { comm = 0; lane = 0; from = 0; to = 0; tag = 7; number = 1; payload = 5 ∷ []; fate = reg.Matched } ∷ []
unfolding call_of
received = refl
