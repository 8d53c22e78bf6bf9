-- What may stand at each place of a line: each piece takes one token, and says what pieces follow.
use Rattle.std.specs.Prelude.{ℕ, ◌/◌, ◌==◌, ◌&&◌, Bool, true, false, if◌then◌else◌, List, [], ◌∷◌, ◌++◌, map, length, drop, Option, Some, None, codes, bytes_eq}
use Rattle.std.specs.Option.{option_map, is_none}
use Rattle.std.specs.List.{list_all}
use Rattle.std.specs.Str.Parse.{digits_value}
use Rattle.mpi_base.specs.declared.keys.Kind.{Kind}
use Rattle.mpi_base.specs.declared.keys.Kind.TheVariants as kind
use Rattle.op_table.specs.declared.kinds.Field.{Field}
use Rattle.op_table.specs.Table.{fields_of, kind_in}
use Rattle.token_text.specs.Forms.{Form, fault_of}
use Rattle.token_text.specs.Numbers.{number_form}
use Rattle.token_text.specs.Texts.{pset_name_form, tag_form, hex_form}
use Rattle.token_text.specs.Lists.{rank_outs_form, members_form}
use Rattle.script_text.specs.Faults.{token_fault}
use Rattle.entry_text.specs.Words.{word_text, word_in}
use Rattle.entry_text.specs.Labels.{most_8, most_16, most_32, most_64, sent_form, own_rank_form}
use Rattle.entry_text.specs.LabelForms.{labelled_form, picked_form, class_form, round_form}
use Rattle.entry_text.specs.declared.words.Word.{Word}
use Rattle.entry_text.specs.declared.words.Word.TheVariants as word

-- a place where a word decides what follows
pub data Row : Type 0 where
  -- what a rank does
  choice : Row
  -- a key
  key : Row
  -- a key that is settled, and what is said of it
  settled : Row
  -- whether an offer owns the mask
  owning : Row
  -- what is said of a key that is no exchange
  verdict : Row
  -- a packet
  brief : Row
  reply : Row
  -- a match, a reply, both or nothing
  call_end : Row
  -- a match or nothing
  match_end : Row
  -- a reply or nothing
  reply_end : Row

-- a piece of a line
pub data Piece : Type 0 where
  -- one token that passes a test
  one : (List ℕ → Bool) → Piece
  -- a word, and what it decides
  branch : Row → Piece
  -- an operation
  op : Piece
  -- from whom a message came, and the rest of its reply
  source : Piece
  -- how many bytes, and so many bytes
  sized : Piece

-- a token of a form
abbrev pub is_token : {V : Type 0} → Form V → List ℕ → Bool
is_token f t = is_none (fault_of f t)

abbrev pub token : {V : Type 0} → Form V → Piece
token f = one (is_token f)

-- a number of at most a greatest value
abbrev pub number : ℕ → Piece
number most = token (number_form most)

-- the same behind a label
abbrev pub labelled : List ℕ → ℕ → Piece
labelled label most = token (labelled_form label most)

-- this text
abbrev pub exactly : List ℕ → Piece
exactly text = one (λ t. bytes_eq t text)

-- this word
abbrev pub this : Word → Piece
this w = exactly (word_text w)

-- the field of an operation
abbrev pub field : Field → Piece
field f = one (λ t. is_none (token_fault f t))

-- the kind of key that begins with a word
abbrev pub kind_named : Word → Option Kind
kind_named word.From = Some kind.From
kind_named word.Group = Some kind.Group
kind_named word.Dup = Some kind.Dup
kind_named word.Split = Some kind.Split
kind_named word.Share = Some kind.Share
kind_named _ = None

-- what follows the word of a key
abbrev pub key_pieces : Kind → List Piece
key_pieces kind.From = token tag_form ∷ token members_form ∷ []
key_pieces kind.Group = number most_16 ∷ number most_64 ∷ token members_form ∷ []
key_pieces kind.Dup = number most_16 ∷ number most_64 ∷ token members_form ∷ []
key_pieces kind.Split = number most_16 ∷ number most_64 ∷ token members_form ∷ []
key_pieces kind.Share = number most_16 ∷ number most_64 ∷ token members_form ∷ []

-- what is said where a key of a kind is settled
abbrev pub said_pieces : Kind → List Piece
said_pieces kind.From = this word.Mark ∷ branch verdict ∷ []
said_pieces kind.Group = this word.Mark ∷ branch verdict ∷ []
said_pieces kind.Dup = this word.Mark ∷ branch verdict ∷ []
said_pieces kind.Split = this word.Mark ∷ branch verdict ∷ []
said_pieces kind.Share = this word.Mark ∷ this word.Shared ∷ []

abbrev pub key_row : Word → Option (List Piece)
key_row w = option_map key_pieces (kind_named w)

abbrev pub settled_row : Word → Option (List Piece)
settled_row w = option_map (λ k. key_pieces k ++ said_pieces k) (kind_named w)

abbrev pub owning_row : Word → Option (List Piece)
owning_row word.Own = Some []
owning_row word.Zero = Some []
owning_row _ = None

abbrev pub verdict_row : Word → Option (List Piece)
verdict_row word.Ready = Some []
verdict_row word.Retry = Some []
verdict_row word.Pick = Some (token picked_form ∷ [])
verdict_row _ = None

abbrev pub brief_row : Word → Option (List Piece)
brief_row word.Up = Some (number most_64 ∷ branch owning ∷ branch key ∷ [])
brief_row word.Down = Some (number most_64 ∷ token round_form ∷ branch key ∷ [])
brief_row word.Share = Some (branch key ∷ [])
brief_row word.Shares = Some (branch key ∷ [])
brief_row word.Msg = Some (labelled (codes "ctx=") most_16 ∷ labelled (codes "lane=") most_8 ∷ labelled (codes "number=") most_64 ∷ [])
brief_row word.Marker = Some (labelled (codes "ctx=") most_16 ∷ [])
brief_row _ = None

abbrev pub reply_row : Word → Option (List Piece)
reply_row word.Fine = Some []
reply_row word.Err = Some (token class_form ∷ [])
reply_row word.Null = Some []
reply_row word.Psets = Some (number most_32 ∷ [])
reply_row word.Name = Some (token pset_name_form ∷ [])
reply_row word.Info = Some (labelled (codes "mpi_size=") most_32 ∷ [])
reply_row word.Group = Some (token members_form ∷ [])
reply_row word.Ranks = Some (token rank_outs_form ∷ [])
reply_row word.Ident = Some []
reply_row word.Congruent = Some []
reply_row word.Similar = Some []
reply_row word.Unequal = Some []
reply_row word.Size = Some (number most_16 ∷ [])
reply_row word.Rank = Some (token own_rank_form ∷ [])
reply_row word.Comm = Some (labelled (codes "ctx=") most_16 ∷ labelled (codes "rank=") most_16 ∷ labelled (codes "size=") most_16 ∷ [])
reply_row word.Received = Some (source ∷ [])
reply_row _ = None

-- a match behind its mark
abbrev pub match_pieces : List Piece
match_pieces = this word.Match ∷ number most_64 ∷ token sent_form ∷ []

abbrev pub call_end_row : Word → Option (List Piece)
call_end_row word.Mark = Some (match_pieces ++ branch reply_end ∷ [])
call_end_row word.Gives = Some (branch reply ∷ [])
call_end_row _ = None

abbrev pub match_end_row : Word → Option (List Piece)
match_end_row word.Mark = Some match_pieces
match_end_row _ = None

abbrev pub reply_end_row : Word → Option (List Piece)
reply_end_row word.Gives = Some (branch reply ∷ [])
reply_end_row _ = None

abbrev pub choice_row : Word → Option (List Piece)
choice_row word.Call = Some (number most_8 ∷ op ∷ branch call_end ∷ [])
choice_row word.Answer = Some (number most_8 ∷ this word.Gives ∷ branch reply ∷ [])
choice_row word.Deliver = Some (number most_16 ∷ branch brief ∷ branch match_end ∷ [])
choice_row word.Offer = Some (branch key ∷ this word.Mark ∷ branch owning ∷ [])
choice_row word.Settle = Some (branch settled ∷ [])
choice_row word.Leave = Some (number most_16 ∷ [])
choice_row word.Back = Some (number most_16 ∷ this word.Mark ∷ this word.Drop ∷ number most_64 ∷ [])
choice_row _ = None

-- what follows a word in a row; None where the word does not stand there
abbrev pub row : Row → Word → Option (List Piece)
row choice w = choice_row w
row key w = key_row w
row settled w = settled_row w
row owning w = owning_row w
row verdict w = verdict_row w
row brief w = brief_row w
row reply w = reply_row w
row call_end w = call_end_row w
row match_end w = match_end_row w
row reply_end w = reply_end_row w

-- whether a line may end before this row
abbrev pub may_end : Row → Bool
may_end call_end = true
may_end match_end = true
may_end reply_end = true
may_end _ = false

-- whether a line may end before this piece
abbrev pub may_lack : Piece → Bool
may_lack (one test) = false
may_lack (branch r) = may_end r
may_lack op = false
may_lack source = false
may_lack sized = false

-- how many bytes a token of a payload shows
abbrev pub shown_bytes : List ℕ → ℕ
shown_bytes t = if bytes_eq t (codes "-") then 0 else length t / 2

-- a payload of so many bytes
abbrev pub bytes_piece : ℕ → Piece
bytes_piece n = one (λ t. is_token hex_form t && (shown_bytes t == n))

-- what follows the source of a message, or the null process in its place
abbrev pub source_pieces : Option ℕ → List Piece
source_pieces None = exactly (codes "tag=any") ∷ exactly (codes "len=0") ∷ exactly (codes "-") ∷ []
source_pieces (Some s) = labelled (codes "tag=") most_16 ∷ sized ∷ []

-- what follows a word in a row, where there is a word
abbrev pub behind_word : Row → Option Word → Option (List Piece)
behind_word r None = None
behind_word r (Some w) = row r w

-- what follows a token in a piece's place; None where it may not stand there
abbrev pub next : Piece → List ℕ → Option (List Piece)
next (one test) t = if test t then Some [] else None
next (branch r) t = behind_word r (word_in t)
next op t = option_map (λ k. map field (fields_of k)) (kind_in t)
next source t =
    if bytes_eq t (codes "src=null") then Some (source_pieces None)
    else if is_token (labelled_form (codes "src=") most_16) t then Some (source_pieces (Some 0))
    else None
next sized t = if is_token (labelled_form (codes "len=") most_64) t then Some (bytes_piece (digits_value 10 (drop 4 t)) ∷ []) else None

-- goes on where there is something to go on with
abbrev pub goes_on : Option (List Piece) → (List Piece → Bool) → Bool
goes_on None test = false
goes_on (Some ps) test = test ps

-- whether tokens are pieces of a line, one after the other
unfoldable pub fit : List Piece → List (List ℕ) → Bool
fit [] [] = true
fit [] (t ∷ ts) = false
fit (p ∷ ps) [] = list_all may_lack (p ∷ ps)
fit (p ∷ ps) (t ∷ ts) = goes_on (next p t) (λ qs. fit (qs ++ ps) ts)
