-- Words for the private steps of reading; no public contract rests on them.
use Rattle.std.specs.Prelude.{◌≡◌, ℕ, List, [], ◌∷◌, ◌++◌, Option}
use Rattle.mpi_base.specs.declared.messages.Matched.{Matched}
use Rattle.mpi_base.specs.declared.ops.Op.{Op}
use Rattle.mpi_base.specs.declared.replies.Reply.{Reply}
use Rattle.mpi_base.specs.declared.entries.Entry.{Entry}
use Rattle.token_text.specs.Words.{FitsIf}
use Rattle.script_text.specs.Spelling.{tokens_of, IsOp}
use Rattle.entry_text.specs.Labels.{most_16}
use Rattle.entry_text.specs.Grammar.{Piece, branch, number, op, choice, call_end, match_end, reply_end}
use Rattle.entry_text.specs.Parts.{Part}
use Rattle.entry_text.specs.Replies.{IsReply, IsMatched}
use Rattle.history_text.specs.Text.{act_text, behind_word, entry_tokens, matched_part, reply_part, IsEntry}

-- operations
abbrev pub op_part : Part Op
op_part = record { pieces = op ∷ []; tokens = tokens_of; Fits = IsOp }

-- a reply or nothing
abbrev pub reply_end_part : Part (Option Reply)
reply_end_part = record { pieces = branch reply_end ∷ []; tokens = reply_part; Fits = FitsIf IsReply }

-- a match or nothing
abbrev pub match_end_part : Part (Option Matched)
match_end_part = record { pieces = branch match_end ∷ []; tokens = matched_part; Fits = FitsIf IsMatched }

-- a match, a reply, both or nothing
abbrev pub call_end_part : Part (Option Matched × Option Reply)
call_end_part = record { pieces = branch call_end ∷ []; tokens = λ p. matched_part p.0 ++ reply_part p.1; Fits = λ p. FitsIf IsMatched p.0 × FitsIf IsReply p.1 }

-- the entries of a rank with a step of this word, behind the word
abbrev pub behind_part : ℕ → List ℕ → List Piece → Part Entry
behind_part rank word pieces = record { pieces = pieces; tokens = behind_word; Fits = λ e. (e.choice.rank ≡ rank) × (act_text e.choice.act ≡ word) × IsEntry e }

-- the entries of a rank, behind the rank
abbrev pub step_part : ℕ → Part Entry
step_part rank = record { pieces = branch choice ∷ []; tokens = λ e. act_text e.choice.act ∷ behind_word e; Fits = λ e. (e.choice.rank ≡ rank) × IsEntry e }

-- entries
abbrev pub entry_part : Part Entry
entry_part = record { pieces = number most_16 ∷ branch choice ∷ []; tokens = entry_tokens; Fits = IsEntry }
