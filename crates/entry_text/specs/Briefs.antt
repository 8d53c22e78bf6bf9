-- Packets, as a line shows them.
use Rattle.std.specs.Prelude.{ℕ, ◌≤◌, List, [], ◌∷◌, ◌++◌, codes, decimal}
use Rattle.mpi_base.specs.declared.entries.Brief.{Brief}
use Rattle.mpi_base.specs.declared.entries.Brief.TheVariants.{Up, Down, Share, Shares, Msg, Marker}
use Rattle.entry_text.specs.Labels.{most_8, most_16, most_64, labelled_text, round_text, IsRoundSaid}
use Rattle.entry_text.specs.Keys.{key_tokens, IsKey}
use Rattle.entry_text.specs.Said.{said_tokens, owning_said}

-- the tokens of a packet
abbrev pub brief_tokens : Brief → List (List ℕ)
brief_tokens (Up i own k) = codes "up" ∷ decimal i ∷ (said_tokens (owning_said own) ++ key_tokens k)
brief_tokens (Down i s k) = codes "down" ∷ decimal i ∷ round_text s ∷ key_tokens k
brief_tokens (Share k) = codes "share" ∷ key_tokens k
brief_tokens (Shares k) = codes "shares" ∷ key_tokens k
brief_tokens (Msg c l n) = codes "msg" ∷ labelled_text (codes "ctx=") c ∷ labelled_text (codes "lane=") l ∷ labelled_text (codes "number=") n ∷ []
brief_tokens (Marker c) = codes "marker" ∷ labelled_text (codes "ctx=") c ∷ []

-- a packet whose numbers and keys are in their ranges, and that says of a round what may be said of it
abbrev pub IsBrief : Brief → Type 0
IsBrief (Up i own k) = (i ≤ most_64) × IsKey k
IsBrief (Down i s k) = (i ≤ most_64) × IsRoundSaid s × IsKey k
IsBrief (Share k) = IsKey k
IsBrief (Shares k) = IsKey k
IsBrief (Msg c l n) = (c ≤ most_16) × (l ≤ most_8) × (n ≤ most_64)
IsBrief (Marker c) = c ≤ most_16
