-- The words of a journal, and their texts.
use Rattle.std.specs.Prelude.{ℕ, List, [], ◌∷◌, Option, codes, bytes_eq, find}
use Rattle.entry_text.specs.declared.words.Word.{Word}
use Rattle.entry_text.specs.declared.words.Word.TheVariants as word

abbrev pub word_text : Word → List ℕ
word_text word.Call = codes "call"
word_text word.Answer = codes "answer"
word_text word.Deliver = codes "deliver"
word_text word.Offer = codes "offer"
word_text word.Settle = codes "settle"
word_text word.Leave = codes "leave"
word_text word.Back = codes "back"
word_text word.From = codes "from"
word_text word.Group = codes "group"
word_text word.Dup = codes "dup"
word_text word.Split = codes "split"
word_text word.Share = codes "share"
word_text word.Shares = codes "shares"
word_text word.Up = codes "up"
word_text word.Down = codes "down"
word_text word.Msg = codes "msg"
word_text word.Marker = codes "marker"
word_text word.Own = codes "own"
word_text word.Zero = codes "zero"
word_text word.Ready = codes "ready"
word_text word.Retry = codes "retry"
word_text word.Pick = codes "pick"
word_text word.Shared = codes "shared"
word_text word.Mark = codes "#"
word_text word.Match = codes "match"
word_text word.Drop = codes "drop"
word_text word.Gives = codes "=>"
word_text word.Fine = codes "ok"
word_text word.Err = codes "err"
word_text word.Null = codes "null"
word_text word.Psets = codes "psets"
word_text word.Name = codes "name"
word_text word.Info = codes "info"
word_text word.Ranks = codes "ranks"
word_text word.Ident = codes "ident"
word_text word.Congruent = codes "congruent"
word_text word.Similar = codes "similar"
word_text word.Unequal = codes "unequal"
word_text word.Size = codes "size"
word_text word.Rank = codes "rank"
word_text word.Comm = codes "comm"
word_text word.Received = codes "recv"

abbrev pub all_words : List Word
all_words =
    word.Call ∷ word.Answer ∷ word.Deliver ∷ word.Offer ∷ word.Settle ∷ word.Leave ∷ word.Back ∷ word.From ∷
    word.Group ∷ word.Dup ∷ word.Split ∷ word.Share ∷ word.Shares ∷ word.Up ∷ word.Down ∷ word.Msg ∷
    word.Marker ∷ word.Own ∷ word.Zero ∷ word.Ready ∷ word.Retry ∷ word.Pick ∷ word.Shared ∷ word.Mark ∷
    word.Match ∷ word.Drop ∷ word.Gives ∷ word.Fine ∷ word.Err ∷ word.Null ∷ word.Psets ∷ word.Name ∷
    word.Info ∷ word.Ranks ∷ word.Ident ∷ word.Congruent ∷ word.Similar ∷ word.Unequal ∷ word.Size ∷ word.Rank ∷
    word.Comm ∷ word.Received ∷ []

-- the word with this text, if there is one
abbrev pub word_in : List ℕ → Option Word
word_in text = find (λ w. bytes_eq (word_text w) text) all_words
