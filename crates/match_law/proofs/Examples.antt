-- What the definitions give on examples.
use Rattle.std.proofs.Common.{◌≡◌, ℕ, [], ◌∷◌, Option, Some, None, refl}
use Rattle.mpi_base.specs.declared.messages.Msg.{Msg}
use Rattle.match_law.specs.declared.rows.Posted.{Posted}
use Rattle.match_law.specs.Box.{arrive, post, kept_on, drop_ctx}
use Rattle.match_law.specs.Tallies.{posted_on}

-- messages of one sender, with a number and a tag, to a communicator with context 1
abbrev message : ℕ → ℕ → Msg
message number tag = record { ctx = 1; lane = 0; from = 0; source = 0; tag = tag; number = number; payload = [] }

abbrev receive : ℕ → Option ℕ → Option ℕ → Posted
receive number source tag = record { number = number; ctx = 1; lane = 0; source = source; tag = tag }

-- of two posted receives that fit, the one posted first takes the message, though the other names its tag
two_receives : arrive (record { kept = []; posted = receive 1 (Some 0) None ∷ receive 2 (Some 0) (Some 1) ∷ [] }) (message 1 1)
    ≡ (record { kept = []; posted = receive 2 (Some 0) (Some 1) ∷ [] }, Some (receive 1 (Some 0) None))
unfolding arrive
two_receives = refl

-- and a message with another tag is then kept
other_tag : arrive (record { kept = []; posted = receive 2 (Some 0) (Some 1) ∷ [] }) (message 2 2)
    ≡ (record { kept = message 2 2 ∷ []; posted = receive 2 (Some 0) (Some 1) ∷ [] }, None)
unfolding arrive
other_tag = refl

-- a receive with any tag takes the message that came first, one that names a tag the first with that tag
first_kept : post (record { kept = message 1 1 ∷ message 2 2 ∷ message 3 1 ∷ []; posted = [] }) (receive 1 None None)
    ≡ (record { kept = message 2 2 ∷ message 3 1 ∷ []; posted = [] }, Some (message 1 1))
unfolding post
first_kept = refl

named_tag : post (record { kept = message 1 1 ∷ message 2 2 ∷ message 3 1 ∷ []; posted = [] }) (receive 1 (Some 0) (Some 2))
    ≡ (record { kept = message 1 1 ∷ message 3 1 ∷ []; posted = [] }, Some (message 2 2))
unfolding post
named_tag = refl

-- a receive for messages takes none of a collective, and none of another communicator
apart : post (record { kept = record (message 1 1) { lane = 1 } ∷ record (message 2 1) { ctx = 2 } ∷ []; posted = [] }) (receive 1 None None)
    ≡ (record { kept = record (message 1 1) { lane = 1 } ∷ record (message 2 1) { ctx = 2 } ∷ []; posted = receive 1 None None ∷ [] }, None)
unfolding post
apart = refl

-- the messages of a context are dropped, its receives stay
dropped : drop_ctx (record { kept = message 1 1 ∷ record (message 2 1) { ctx = 2 } ∷ message 3 2 ∷ []; posted = receive 1 (Some 1) None ∷ [] }) 1
    ≡ record { kept = record (message 2 1) { ctx = 2 } ∷ []; posted = receive 1 (Some 1) None ∷ [] }
dropped = refl

counted : kept_on (record { kept = message 1 1 ∷ record (message 2 1) { ctx = 2 } ∷ message 3 2 ∷ []; posted = [] }) 1 ≡ 2
counted = refl

posted_counted : posted_on (record { kept = []; posted = receive 1 (Some 1) None ∷ record (receive 2 None None) { ctx = 2 } ∷ [] }) 2 ≡ 1
posted_counted = refl
