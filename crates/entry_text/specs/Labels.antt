-- Tokens that only journals have.
use Rattle.std.specs.Prelude.{ℕ, ◌≤◌, ◌==◌, ◌&&◌, false, if◌then◌else◌, List, [], ◌∷◌, ◌++◌, Option, codes, decimal}
use Rattle.mpi_base.specs.declared.entries.Said.{Said}
use Rattle.mpi_base.specs.declared.entries.Said.TheVariants.{Own, Zero, Ready, Retry, Picked, Exhausted, Shared}
use Rattle.token_text.specs.Forms.{Form}
use Rattle.token_text.specs.Numbers.{is_number, number_form}
use Rattle.token_text.specs.Words.{word_or}

-- the greatest values of numbers of 8, 16, 32 and 64 bits
abbrev pub most_8 : ℕ
most_8 = 255

abbrev pub most_16 : ℕ
most_16 = 65535

abbrev pub most_32 : ℕ
most_32 = 4294967295

abbrev pub most_64 : ℕ
most_64 = 18446744073709551615

-- a number behind a label
abbrev pub labelled_text : List ℕ → ℕ → List ℕ
labelled_text label n = label ++ decimal n

-- what stands before the first `.`
abbrev pub before_dot : List ℕ → List ℕ
before_dot [] = []
before_dot (b ∷ bs) = if b == 46 then [] else b ∷ before_dot bs

-- what stands behind it
abbrev pub behind_dot : List ℕ → List ℕ
behind_dot [] = []
behind_dot (b ∷ bs) = if b == 46 then bs else behind_dot bs

-- a rank and a message's number, with a `.` between
abbrev pub sent_form : Form (ℕ × ℕ)
sent_form = record {
  text = λ p. decimal p.0 ++ 46 ∷ decimal p.1;
  Fits = λ p. (p.0 ≤ most_16) × (p.1 ≤ most_64);
  has = λ t. is_number most_16 (before_dot t) && is_number most_64 (behind_dot t);
  is_long = λ t. false;
}

-- a rank in a group, or none where the caller is no member
abbrev pub own_rank_form : Form (Option ℕ)
own_rank_form = word_or (codes "undefined") (number_form most_16)

-- the one token of what a packet says of a round
abbrev pub round_text : Said → List ℕ
round_text Own = codes "own"
round_text Zero = codes "zero"
round_text Ready = codes "ready"
round_text Retry = codes "retry"
round_text (Picked c) = labelled_text (codes "ctx=") c
round_text Exhausted = codes "exhausted"
round_text Shared = codes "shared"

-- what a packet may say of a round
abbrev pub IsRoundSaid : Said → Type 0
IsRoundSaid Own = ⊥
IsRoundSaid Zero = ⊥
IsRoundSaid Ready = Unit {0}
IsRoundSaid Retry = Unit {0}
IsRoundSaid (Picked c) = c ≤ most_16
IsRoundSaid Exhausted = Unit {0}
IsRoundSaid Shared = ⊥
