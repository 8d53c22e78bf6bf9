-- Messages on the links of two ranks.
use Rattle.std.proofs.Common.{◌≡◌, ℕ, [], ◌∷◌, Some, None, slice_get, refl}
use Rattle.mpi_base.specs.declared.messages.Msg.{Msg}
use Rattle.link_net.specs.Net.{Net, link, room, pushed, popped, in_flight, seen}

-- a message with a number
abbrev message : ℕ → Msg
message number = record { ctx = 1; lane = 0; from = 0; source = 0; tag = 7; number = number; payload = [] }

-- rank 0 has room for two on its link, rank 1 has none
abbrev start : Net Msg
start = record { ranks = 2; links = [] ∷ [] ∷ [] ∷ [] ∷ []; rooms = 0 ∷ 2 ∷ 0 ∷ 0 ∷ [] }

abbrev sent : Net Msg
sent = pushed (pushed start 0 1 (message 1)) 0 1 (message 2)

sent_is : sent ≡ record { ranks = 2; links = [] ∷ (message 1 ∷ message 2 ∷ []) ∷ [] ∷ [] ∷ []; rooms = 0 ∷ 0 ∷ 0 ∷ 0 ∷ [] }
sent_is = refl

-- the first that was sent comes first, and the other direction has nothing
first_is : slice_get (link sent 0 1) 0 ≡ Some (message 1)
first_is = refl

none_back : slice_get (link sent 1 0) 0 ≡ None
none_back = refl

second_is : slice_get (link (popped sent 0 1) 0 1) 0 ≡ Some (message 2)
second_is = refl

-- a message that is taken leaves room for another
room_again : room (popped sent 0 1) 0 1 ≡ 1
room_again = refl

two_in_flight : in_flight sent ≡ 2
two_in_flight = refl

-- where nothing is, nothing changes
nothing_popped : popped sent 1 0 ≡ sent
nothing_popped = refl

-- the same, seen as the messages' numbers alone
numbers_are : seen (λ m. m.number) (popped sent 0 1) ≡ record { ranks = 2; links = [] ∷ (2 ∷ []) ∷ [] ∷ [] ∷ []; rooms = 0 ∷ 1 ∷ 0 ∷ 0 ∷ [] }
numbers_are = refl
