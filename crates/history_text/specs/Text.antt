-- The text of an entry, and well-formed entries.
use Rattle.std.specs.Prelude.{◌≡◌, ℕ, ◌≤◌, List, [], ◌∷◌, ◌++◌, Option, Some, None, codes, decimal}
use Rattle.std.specs.List.{flat_map}
use Rattle.mpi_base.specs.declared.messages.Matched.{Matched}
use Rattle.mpi_base.specs.declared.entries.Act.{Act}
use Rattle.mpi_base.specs.declared.entries.Act.TheVariants.{Call, Answer, Deliver, Offer, Settle, Leave, Back}
use Rattle.mpi_base.specs.declared.entries.Brief.{Brief}
use Rattle.mpi_base.specs.declared.entries.Said.{Said}
use Rattle.mpi_base.specs.declared.replies.Reply.{Reply}
use Rattle.mpi_base.specs.declared.entries.Entry.{Entry}
use Rattle.token_text.specs.Words.{FitsIf}
use Rattle.script_text.specs.Tokens.{in_line}
use Rattle.script_text.specs.Spelling.{tokens_of, IsOp}
use Rattle.entry_text.specs.Labels.{most_8, most_16, most_64}
use Rattle.entry_text.specs.Keys.{key_tokens, IsKey}
use Rattle.entry_text.specs.Said.{said_tokens, IsOffered, IsSettled}
use Rattle.entry_text.specs.Briefs.{brief_tokens, IsBrief}
use Rattle.entry_text.specs.Replies.{reply_tokens, IsReply, match_tokens, IsMatched}

-- the word of a step
abbrev pub act_text : Act → List ℕ
act_text (Call thread op) = codes "call"
act_text (Answer thread) = codes "answer"
act_text (Deliver from) = codes "deliver"
act_text (Offer k) = codes "offer"
act_text (Settle k) = codes "settle"
act_text (Leave c) = codes "leave"
act_text (Back c) = codes "back"

-- the tokens of a value, and none where there is no value
abbrev pub tokens_if : {A : Type 0} → (A → List (List ℕ)) → Option A → List (List ℕ)
tokens_if tokens None = []
tokens_if tokens (Some x) = tokens x

-- what a step shows behind its word; a delivery shows the packet
abbrev pub behind_act : Act → Option Brief → List (List ℕ)
behind_act (Call thread op) packet = decimal thread ∷ tokens_of op
behind_act (Answer thread) packet = decimal thread ∷ []
behind_act (Deliver from) packet = decimal from ∷ tokens_if brief_tokens packet
behind_act (Offer k) packet = key_tokens k
behind_act (Settle k) packet = key_tokens k
behind_act (Leave c) packet = decimal c ∷ []
behind_act (Back c) packet = decimal c ∷ []

-- what was said, behind its mark
abbrev pub said_part : Option Said → List (List ℕ)
said_part s = tokens_if (λ x. codes "#" ∷ said_tokens x) s

-- which receive took which message, behind its mark
abbrev pub matched_part : Option Matched → List (List ℕ)
matched_part m = tokens_if (λ x. codes "#" ∷ match_tokens x) m

-- how many messages were dropped, behind its mark
abbrev pub dropped_part : Option ℕ → List (List ℕ)
dropped_part d = tokens_if (λ n. codes "#" ∷ codes "drop" ∷ decimal n ∷ []) d

-- the reply, behind its arrow
abbrev pub reply_part : Option Reply → List (List ℕ)
reply_part r = tokens_if (λ x. codes "=>" ∷ reply_tokens x) r

-- what stands behind the word of an entry's step
abbrev pub behind_word : Entry → List (List ℕ)
behind_word e = behind_act e.choice.act e.brief ++ (said_part e.said ++ (matched_part e.matched ++ (dropped_part e.dropped ++ reply_part e.reply)))

-- the tokens of an entry: the rank, the step, what was said, the match, what was dropped, and the reply
abbrev pub entry_tokens : Entry → List (List ℕ)
entry_tokens e = decimal e.choice.rank ∷ act_text e.choice.act ∷ behind_word e

-- the line of an entry, without its line feed
abbrev pub entry_text : Entry → List ℕ
entry_text e = in_line (entry_tokens e)

-- a line for each entry
abbrev pub journal_text : List Entry → List ℕ
journal_text es = flat_map (λ e. entry_text e ++ 10 ∷ []) es

-- a step whose numbers, operation and key are in their ranges
abbrev pub IsAct : Act → Type 0
IsAct (Call thread op) = (thread ≤ most_8) × IsOp op
IsAct (Answer thread) = thread ≤ most_8
IsAct (Deliver from) = from ≤ most_16
IsAct (Offer k) = IsKey k
IsAct (Settle k) = IsKey k
IsAct (Leave c) = c ≤ most_16
IsAct (Back c) = c ≤ most_16

-- a value is there, and a condition holds of it
abbrev pub IsThere : {A : Type 0} → (A → Type 0) → Option A → Type 0
IsThere P None = ⊥
IsThere P (Some x) = P x

-- a delivery has a packet, and no other step has
abbrev pub HasBrief : Act → Option Brief → Type 0
HasBrief (Call thread op) packet = packet ≡ None
HasBrief (Answer thread) packet = packet ≡ None
HasBrief (Deliver from) packet = IsThere IsBrief packet
HasBrief (Offer k) packet = packet ≡ None
HasBrief (Settle k) packet = packet ≡ None
HasBrief (Leave c) packet = packet ≡ None
HasBrief (Back c) packet = packet ≡ None

-- an offer and a settle say something, and no other step does
abbrev pub HasSaid : Act → Option Said → Type 0
HasSaid (Call thread op) s = s ≡ None
HasSaid (Answer thread) s = s ≡ None
HasSaid (Deliver from) s = s ≡ None
HasSaid (Offer k) s = IsThere IsOffered s
HasSaid (Settle k) s = IsThere (IsSettled k.kind) s
HasSaid (Leave c) s = s ≡ None
HasSaid (Back c) s = s ≡ None

-- a call and a delivery may bring a receive and a message together, and no other step does
abbrev pub HasMatch : Act → Option Matched → Type 0
HasMatch (Call thread op) m = FitsIf IsMatched m
HasMatch (Answer thread) m = m ≡ None
HasMatch (Deliver from) m = FitsIf IsMatched m
HasMatch (Offer k) m = m ≡ None
HasMatch (Settle k) m = m ≡ None
HasMatch (Leave c) m = m ≡ None
HasMatch (Back c) m = m ≡ None

-- a give-back tells how many messages it drops, and no other step does
abbrev pub HasDropped : Act → Option ℕ → Type 0
HasDropped (Call thread op) d = d ≡ None
HasDropped (Answer thread) d = d ≡ None
HasDropped (Deliver from) d = d ≡ None
HasDropped (Offer k) d = d ≡ None
HasDropped (Settle k) d = d ≡ None
HasDropped (Leave c) d = d ≡ None
HasDropped (Back c) d = IsThere (λ n. n ≤ most_64) d

-- an answer has a reply, a call may have one, and no other step has
abbrev pub HasReply : Act → Option Reply → Type 0
HasReply (Call thread op) r = FitsIf IsReply r
HasReply (Answer thread) r = IsThere IsReply r
HasReply (Deliver from) r = r ≡ None
HasReply (Offer k) r = r ≡ None
HasReply (Settle k) r = r ≡ None
HasReply (Leave c) r = r ≡ None
HasReply (Back c) r = r ≡ None

-- a well-formed entry: all is in its range, and each step has what belongs to it
pub record IsEntry (e : Entry) : Type 0 where
  pub rank : e.choice.rank ≤ most_16
  pub act : IsAct e.choice.act
  pub brief : HasBrief e.choice.act e.brief
  pub said : HasSaid e.choice.act e.said
  pub matched : HasMatch e.choice.act e.matched
  pub dropped : HasDropped e.choice.act e.dropped
  pub reply : HasReply e.choice.act e.reply
