-- A communicator of ranks 0 and 1, as rank 1 sees it, from a marker that comes before it to its context's next use.
use Rattle.std.proofs.Common.{◌≡◌, ℕ, ◌+◌, true, false, List, [], ◌∷◌, None, refl}
use Rattle.comm_law.specs.declared.rows.CommStage.TheVariants.{Live, Freed}
use Rattle.comm_law.specs.Comms.{Comms, no_comms, row_at, comm_at, has_serial, is_noted, add, count_call, mark_free, free_session, leave, note_marker, all_marked, remove}

-- The marker of rank 0 comes first

abbrev told : Comms
told = note_marker no_comms 3 0

it_is_noted : is_noted told 3 0 ≡ true
it_is_noted = refl

of_rank_0_alone : is_noted told 3 1 ≡ false
of_rank_0_alone = refl

not_known_yet : row_at told 3 ≡ None
not_known_yet = refl

nothing_to_give_back : all_marked told 1 3 ≡ false
unfolding all_marked
nothing_to_give_back = refl

-- The communicator comes, is duplicated once, freed and left

abbrev made : Comms
made = count_call (add told 3 (0 ∷ 1 ∷ []) 7) 3

made_is : comm_at made 3 ≡ record { ctx = 3; members = 0 ∷ 1 ∷ []; session = 7; serial = 1; calls = 1; stage = Live }
made_is = refl

abbrev freed_one : Comms
freed_one = mark_free made 3

freed_is : (comm_at freed_one 3).stage ≡ Freed
freed_is = refl

-- a session frees its own communicators
its_session_frees_it : free_session made 7 ≡ freed_one
its_session_frees_it = refl

another_session_does_not : free_session made 8 ≡ made
another_session_does_not = refl

-- the marker of the other member is not enough: the rank has to leave too
not_left_yet : all_marked freed_one 1 3 ≡ false
unfolding all_marked
not_left_yet = refl

abbrev left_one : Comms
left_one = leave freed_one 3

all_have_left : all_marked left_one 1 3 ≡ true
unfolding all_marked
all_have_left = refl

-- as rank 0 sees the same, the marker of rank 1 is missing
rank_1_is_missing : all_marked left_one 0 3 ≡ false
unfolding all_marked
rank_1_is_missing = refl

-- one that has left stays so where its session ends
stays_left : free_session left_one 7 ≡ left_one
stays_left = refl

-- The context is used again

abbrev given_back : Comms
given_back = remove left_one 3

nothing_is_left : given_back ≡ record { rows = []; added = 1; noted = [] }
nothing_is_left = refl

abbrev again : Comms
again = add given_back 3 (1 ∷ 2 ∷ []) 7

-- under a new serial, with no call and no marker of the old one
again_is : comm_at again 3 ≡ record { ctx = 3; members = 1 ∷ 2 ∷ []; session = 7; serial = 2; calls = 0; stage = Live }
again_is = refl

old_serial_is_gone : has_serial again 1 ≡ false
old_serial_is_gone = refl

old_marker_is_gone : is_noted again 3 0 ≡ false
old_marker_is_gone = refl

-- No serial is given twice: each communicator raises the count that the next serial comes from, and nothing lowers it

add_raises : (t : Comms) (c : ℕ) (members : List ℕ) (session : ℕ) → (add t c members session).added ≡ t.added + 1
add_raises t c members session = refl

remove_keeps : (t : Comms) (c : ℕ) → (remove t c).added ≡ t.added
remove_keeps t c = refl
