-- Replies and matches, as a line shows them.
use Rattle.std.specs.Prelude.{◌≡◌, ℕ, ◌≤◌, List, [], ◌∷◌, length, Option, Some, None, codes, decimal}
use Rattle.mpi_base.specs.Texts.{IsPsetName}
use Rattle.mpi_base.specs.MemberLists.{AreRanks}
use Rattle.mpi_base.specs.Classes.{text_of_lem}
use Rattle.mpi_base.specs.declared.groups.Likeness.{Likeness}
use Rattle.mpi_base.specs.declared.groups.Likeness.TheVariants as like
use Rattle.mpi_base.specs.declared.messages.Matched.{Matched}
use Rattle.mpi_base.specs.declared.replies.Reply.{Reply}
use Rattle.mpi_base.specs.declared.replies.Reply.TheVariants.{Fine, Refused, Null, Psets, NthName, Size0, Group, Ranks, Like, Size, Rank, Comm, Received}
use Rattle.token_text.specs.Texts.{hex_form}
use Rattle.token_text.specs.Lists.{rank_outs_form, members_form}
use Rattle.entry_text.specs.Labels.{most_16, most_32, most_64, labelled_text, sent_form, own_rank_form}

abbrev pub like_text : Likeness → List ℕ
like_text like.Ident = codes "ident"
like_text like.Congruent = codes "congruent"
like_text like.Similar = codes "similar"
like_text like.Unequal = codes "unequal"

-- from whom a message came; from the null process it has no rank
abbrev pub source_text : Option ℕ → List ℕ
source_text None = codes "src=null"
source_text (Some s) = labelled_text (codes "src=") s

abbrev pub tag_text : Option ℕ → List ℕ
tag_text None = codes "tag=any"
tag_text (Some t) = labelled_text (codes "tag=") t

-- what a received message shows
abbrev pub message_tokens : Option ℕ → Option ℕ → List ℕ → List (List ℕ)
message_tokens s t bytes = source_text s ∷ tag_text t ∷ labelled_text (codes "len=") (length bytes) ∷ hex_form.text bytes ∷ []

-- the tokens of a reply
abbrev pub reply_tokens : Reply → List (List ℕ)
reply_tokens Fine = codes "ok" ∷ []
reply_tokens (Refused class) = codes "err" ∷ text_of_lem class ∷ []
reply_tokens Null = codes "null" ∷ []
reply_tokens (Psets n) = codes "psets" ∷ decimal n ∷ []
reply_tokens (NthName name) = codes "name" ∷ name ∷ []
reply_tokens (Size0 n) = codes "info" ∷ labelled_text (codes "mpi_size=") n ∷ []
reply_tokens (Group members) = codes "group" ∷ members_form.text members ∷ []
reply_tokens (Ranks ranks) = codes "ranks" ∷ rank_outs_form.text ranks ∷ []
reply_tokens (Like l) = like_text l ∷ []
reply_tokens (Size n) = codes "size" ∷ decimal n ∷ []
reply_tokens (Rank r) = codes "rank" ∷ own_rank_form.text r ∷ []
reply_tokens (Comm c r s) = codes "comm" ∷ labelled_text (codes "ctx=") c ∷ labelled_text (codes "rank=") r ∷ labelled_text (codes "size=") s ∷ []
reply_tokens (Received s t bytes) = codes "recv" ∷ message_tokens s t bytes

-- a message has a source and a tag, or neither and no bytes
abbrev pub IsMessage : Option ℕ → Option ℕ → List ℕ → Type 0
IsMessage (Some s) (Some t) bytes = (s ≤ most_16) × (t ≤ most_16) × hex_form.Fits bytes
IsMessage (Some s) None bytes = ⊥
IsMessage None (Some t) bytes = ⊥
IsMessage None None bytes = bytes ≡ []

-- a reply whose numbers, texts and lists are in their ranges
abbrev pub IsReply : Reply → Type 0
IsReply Fine = Unit {0}
IsReply (Refused class) = Unit {0}
IsReply Null = Unit {0}
IsReply (Psets n) = n ≤ most_32
IsReply (NthName name) = IsPsetName name
IsReply (Size0 n) = n ≤ most_32
IsReply (Group members) = AreRanks members
IsReply (Ranks ranks) = rank_outs_form.Fits ranks
IsReply (Like l) = Unit {0}
IsReply (Size n) = n ≤ most_16
IsReply (Rank r) = own_rank_form.Fits r
IsReply (Comm c r s) = (c ≤ most_16) × (r ≤ most_16) × (s ≤ most_16)
IsReply (Received s t bytes) = IsMessage s t bytes

-- which receive took which message of which rank
abbrev pub match_tokens : Matched → List (List ℕ)
match_tokens m = codes "match" ∷ decimal m.receive ∷ sent_form.text (m.from, m.number) ∷ []

abbrev pub IsMatched : Matched → Type 0
IsMatched m = (m.receive ≤ most_64) × (m.from ≤ most_16) × (m.number ≤ most_64)
