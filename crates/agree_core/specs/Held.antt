-- What a rank holds of the agreement, and a move of it.
use Rattle.std.specs.Prelude.{◌≡◌, ℕ, ◌++◌, Bool, true, false, List, get_or, map, Option, Some, None}
use Rattle.agree_law.specs.declared.rows.Outcome.{Outcome}
use Rattle.agree_law.specs.declared.rows.Stage.{Stage}
use Rattle.agree_law.specs.declared.rows.Stage.TheVariants.{Sharing, Called, Waiting, Offered, Done}
use Rattle.agree_law.specs.Part.{Agree}
use Rattle.agree_law.specs.Packets.{Moved}
use Rattle.and_reduce.specs.declared.packets.Sent.{Sent}
use Rattle.and_reduce.specs.Fronts.{HasPlaces}
use Rattle.and_reduce.specs.Rows.{sent_of}

-- the rank's number, the greatest context, its part, and how many more rows of each kind it has room for
pub record Held : Type 0 where
  pub rank : ℕ
  pub top : ℕ
  pub part : Agree
  pub spare : ℕ

-- a mask that has a place for each context, and none at 0
pub record IsMask (words top : ℕ) (mask : List Bool) : Type 0 where
  pub places : HasPlaces words top
  pub low : get_or mask 0 false ≡ false

-- the rank and the greatest context stay, and the part is this one
pub record Becomes (old new : Held) (next : Agree) : Type 0 where
  pub part : new.part ≡ next
  pub rank : new.rank ≡ old.rank
  pub top : new.top ≡ old.top

-- the part becomes that of the move, and what the move sends comes after what was sent before
pub record Makes {w : ℕ} (move : Moved) (old new : Held) (before after : List (Sent w)) : Type 0 where
  pub becomes : Becomes old new move.part
  pub sent : map (sent_of old.top) after ≡ map (sent_of old.top) before ++ move.sent

-- a creation that has made its offer and is not decided
abbrev pub has_offered : Option Stage → Bool
has_offered None = false
has_offered (Some (Sharing s)) = false
has_offered (Some Called) = false
has_offered (Some (Waiting i)) = false
has_offered (Some (Offered i own)) = true
has_offered (Some (Done c)) = false

-- what came of a creation that is decided
abbrev pub outcome_of : Option Stage → Option Outcome
outcome_of None = None
outcome_of (Some (Sharing s)) = None
outcome_of (Some Called) = None
outcome_of (Some (Waiting i)) = None
outcome_of (Some (Offered i own)) = None
outcome_of (Some (Done c)) = Some c

-- the round whose offer is due
abbrev pub round_due : Option Stage → Option ℕ
round_due None = None
round_due (Some (Sharing s)) = None
round_due (Some Called) = None
round_due (Some (Waiting i)) = Some i
round_due (Some (Offered i own)) = None
round_due (Some (Done c)) = None
