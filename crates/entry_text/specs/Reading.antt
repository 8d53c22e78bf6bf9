-- What readers and writers say of keys, of what is said of them, of packets, replies and matches.
use Rattle.std.specs.Prelude.{◌≡◌, ◌≤◌, [], ◌∷◌, ◌++◌, Option, Some, None, Bool, codes, ℕ, List, length}
use Rattle.mpi_base.specs.MemberLists.{AreRanks}
use Rattle.mpi_base.specs.declared.keys.Kind.{Kind}
use Rattle.mpi_base.specs.declared.keys.Kind.TheVariants as kind
use Rattle.mpi_base.specs.declared.keys.Key.{Key}
use Rattle.token_text.specs.Lists.{members_form}
use Rattle.script_text.specs.Reads.{Ahead}
use Rattle.entry_text.specs.Labels.{most_16, most_64, labelled_text}
use Rattle.entry_text.specs.Grammar.{branch, key, settled, number, token, key_pieces, said_pieces, owning, verdict, brief, reply, source, sized, source_pieces, bytes_piece, match_pieces}
use Rattle.entry_text.specs.Parts.{Part, Stops, Opens}
use Rattle.entry_text.specs.Keys.{parent_tokens, kind_text, behind_kind, key_tokens, IsKey}
use Rattle.mpi_base.specs.declared.entries.Said.{Said}
use Rattle.entry_text.specs.Said.{said_tokens, IsVerdict, IsSettled, owning_said}
use Rattle.mpi_base.specs.declared.entries.Brief.{Brief}
use Rattle.entry_text.specs.Briefs.{brief_tokens, IsBrief}
use Rattle.mpi_base.specs.declared.messages.Matched.{Matched}
use Rattle.mpi_base.specs.declared.replies.Reply.{Reply}
use Rattle.mpi_base.specs.declared.replies.Reply.TheVariants.{Received}
use Rattle.token_text.specs.Texts.{hex_form}
use Rattle.token_text.specs.Words.{FitsIf}
use Rattle.entry_text.specs.Replies.{source_text, message_tokens, reply_tokens, IsMessage, IsReply, match_tokens, IsMatched}

-- keys
abbrev pub key_part : Part Key
key_part = record { pieces = branch key ∷ []; tokens = key_tokens; Fits = IsKey }

-- the word of a key, and what it opens
abbrev pub ReadsKind : Ahead → Ahead → Option Kind → Type 0
ReadsKind old new (Some k) = Opens (branch key ∷ []) (key_pieces k) (kind_text k) old new × Opens (branch settled ∷ []) (key_pieces k ++ said_pieces k) (kind_text k) old new
ReadsKind old new None = Stops (branch key ∷ []) old × Stops (branch settled ∷ []) old

-- what a key with a parent shows behind the word of its kind
abbrev pub numbered_part : Kind → Part Key
numbered_part kind = record {
  pieces = number most_16 ∷ number most_64 ∷ token members_form ∷ [];
  tokens = parent_tokens;
  Fits = λ k. (k.kind ≡ kind) × (k.parent ≤ most_16) × (k.number ≤ most_64) × AreRanks k.members × (k.tag ≡ []);
}

-- keys of a kind, behind its word
abbrev pub kind_part : Kind → Part Key
kind_part kind = record { pieces = key_pieces kind; tokens = behind_kind kind; Fits = λ k. (k.kind ≡ kind) × IsKey k }

abbrev pub owning_part : Part Bool
owning_part = record { pieces = branch owning ∷ []; tokens = λ own. said_tokens (owning_said own); Fits = λ own. Unit {0} }

abbrev pub verdict_part : Part Said
verdict_part = record { pieces = branch verdict ∷ []; tokens = said_tokens; Fits = IsVerdict }

-- what is said where a key of a kind is settled, behind its mark
abbrev pub said_part : Kind → Part Said
said_part kind = record { pieces = said_pieces kind; tokens = λ s. codes "#" ∷ said_tokens s; Fits = IsSettled kind }

-- a key that is settled, and what is said of it
abbrev pub settled_part : Part (Key × Said)
settled_part = record {
  pieces = branch settled ∷ [];
  tokens = λ p. key_tokens p.0 ++ codes "#" ∷ said_tokens p.1;
  Fits = λ p. IsKey p.0 × IsSettled p.0.kind p.1;
}

-- packets
abbrev pub brief_part : Part Brief
brief_part = record { pieces = branch brief ∷ []; tokens = brief_tokens; Fits = IsBrief }

-- what a received message shows behind its word
abbrev pub received_tokens : Reply → List (List ℕ)
received_tokens (Received s t bytes) = message_tokens s t bytes
received_tokens _ = []

abbrev pub IsReceived : Reply → Type 0
IsReceived (Received s t bytes) = IsMessage s t bytes
IsReceived _ = ⊥

-- replies
abbrev pub reply_part : Part Reply
reply_part = record { pieces = branch reply ∷ []; tokens = reply_tokens; Fits = IsReply }

-- the source of a message, and what it opens
abbrev pub ReadsSource : Ahead → Ahead → Option (Option ℕ) → Type 0
ReadsSource old new (Some s) = FitsIf (λ n. n ≤ most_16) s × Opens (source ∷ []) (source_pieces s) (source_text s) old new
ReadsSource old new None = Stops (source ∷ []) old

-- a number of bytes, and what it opens
abbrev pub ReadsLen : Ahead → Ahead → Option ℕ → Type 0
ReadsLen old new (Some n) = Opens (sized ∷ []) (bytes_piece n ∷ []) (labelled_text (codes "len=") n) old new
ReadsLen old new None = Stops (sized ∷ []) old

-- so many bytes
abbrev pub bytes_part : ℕ → Part (List ℕ)
bytes_part n = record { pieces = bytes_piece n ∷ []; tokens = λ bs. hex_form.text bs ∷ []; Fits = λ bs. (length bs ≡ n) × hex_form.Fits bs }

-- how many bytes, and the bytes
abbrev pub sized_part : Part (List ℕ)
sized_part = record { pieces = sized ∷ []; tokens = λ bs. labelled_text (codes "len=") (length bs) ∷ hex_form.text bs ∷ []; Fits = hex_form.Fits }

-- what a received message shows
abbrev pub message_part : Part Reply
message_part = record { pieces = source ∷ []; tokens = received_tokens; Fits = IsReceived }

-- matches
abbrev pub match_part : Part Matched
match_part = record { pieces = match_pieces; tokens = match_tokens; Fits = IsMatched }
