-- Parts of a line, read and written.
use Rattle.std.specs.Prelude.{◌≡◌, ℕ, ◌+◌, ◌≤◌, false, List, [], ◌∷◌, ◌++◌, length, Option, Some, None}
use Rattle.token_text.specs.Forms.{Form}
use Rattle.script_text.specs.Tokens.{texts, spaced}
use Rattle.script_text.specs.Reads.{Ahead}
use Rattle.entry_text.specs.Words.{word_text}
use Rattle.entry_text.specs.Grammar.{Row, Piece, branch, token, exactly, goes_on, row, may_end, fit}
use Rattle.entry_text.specs.declared.words.Word.{Word}

-- a part of a line that shows values of a type
pub record Part (V : Type 0) : Type 1 where
  -- what may stand there
  pub pieces : List Piece
  -- the tokens of a value
  pub tokens : V → List (List ℕ)
  -- the values that have tokens
  pub Fits : V → Type 0

-- one token of a form
abbrev pub one_token : {V : Type 0} → Form V → Part V
one_token f = record { pieces = token f ∷ []; tokens = λ v. f.text v ∷ []; Fits = f.Fits }

-- a value is read from the tokens in front, and other pieces go on behind it
pub record Took {V : Type 0} (p : Part V) (v : V) (old new : Ahead) : Type 0 where
  pub text : texts old.tokens ≡ p.tokens v ++ texts new.tokens
  pub fits : p.Fits v
  pub on : (ps : List Piece) → fit (p.pieces ++ ps) (texts old.tokens) ≡ fit ps (texts new.tokens)

-- these pieces do not fit, whatever pieces follow
abbrev pub Stops : List Piece → Ahead → Type 0
Stops ps old = (qs : List Piece) → fit (ps ++ qs) (texts old.tokens) ≡ false

-- what a reader says of a part
abbrev pub Reads : {V : Type 0} → Part V → Ahead → Ahead → Option V → Type 0
Reads p old new (Some v) = Took p v old new
Reads p old new None = Stops p.pieces old

-- a word was read, and each row goes on as it says
pub record TookWord (w : Word) (old new : Ahead) : Type 0 where
  pub text : texts old.tokens ≡ word_text w ∷ texts new.tokens
  pub on : (r : Row) (ps : List Piece) → fit (branch r ∷ ps) (texts old.tokens) ≡ goes_on (row r w) (λ qs. fit (qs ++ ps) (texts new.tokens))

-- what a reader says of a word
abbrev pub ReadsWord : Ahead → Ahead → Option Word → Type 0
ReadsWord old new (Some w) = TookWord w old new
ReadsWord old new None = (r : Row) (ps : List Piece) → may_end r ≡ false → fit (branch r ∷ ps) (texts old.tokens) ≡ false

-- one token opens pieces: they go on as others do behind it
pub record Opens (ps qs : List Piece) (t : List ℕ) (old new : Ahead) : Type 0 where
  pub text : texts old.tokens ≡ t ∷ texts new.tokens
  pub on : (rs : List Piece) → fit (ps ++ rs) (texts old.tokens) ≡ fit (qs ++ rs) (texts new.tokens)

-- this text
abbrev pub text_part : List ℕ → Part (Unit {0})
text_part t = record { pieces = exactly t ∷ []; tokens = λ u. t ∷ []; Fits = λ u. Unit {0} }

-- what a reader says of a word that a line may end before
abbrev pub ReadsEnd : Ahead → Ahead → Option (Option Word) → Type 0
ReadsEnd old new (Some (Some w)) = TookWord w old new
ReadsEnd old new (Some None) = (texts old.tokens ≡ []) × (texts new.tokens ≡ [])
ReadsEnd old new None = (r : Row) (ps : List Piece) → fit (branch r ∷ ps) (texts old.tokens) ≡ false

-- tokens are added with a space before each, in at most so many bytes
pub record Adds (most : ℕ) (ts : List (List ℕ)) (old new : List ℕ) : Type 0 where
  pub added : new ≡ old ++ spaced ts
  pub short : length new ≤ length old + most
