-- Pieces against tokens, one after the other.
use Rattle.std.proofs.Common.{◌≡◌, ℕ, true, false, List, [], ◌∷◌, ◌++◌, Option, Some, None, Result, Ok, Err, IfSome, bytes_eq, refl, sym, ap, ◌∙◌}
use Rattle.std.specs.Result.{result_ok}
use Rattle.std.proofs.lemmas.Slice.Eq.{bytes_eq-Decides}
use Rattle.token_text.specs.Reading as reading
use Rattle.token_text.specs.Forms.{Form, fault_of}
use Rattle.token_text.specs.Reading.{Shows}
use Rattle.token_text.specs.declared.faults.TokenFault.{TokenFault}
use Rattle.script_text.specs.Tokens.{texts}
use Rattle.script_text.specs.Reads.{Ahead}
use Rattle.entry_text.specs.Words.{word_text, word_in}
use Rattle.entry_text.specs.Grammar.{Row, Piece, branch, token, exactly, goes_on, row, fit}
use Rattle.entry_text.specs.Parts.{one_token, text_part, Took, Stops, Reads, TookWord, ReadsWord}
use Rattle.entry_text.specs.declared.words.Word.{Word}

-- a token of a form is taken
pub took_one : {V : Type 0} (f : Form V) (t : List ℕ) (v : V) (old new : Ahead) → texts old.tokens ≡ t ∷ texts new.tokens → Shows f t v → Took (one_token f) v old new
unfolding fit
took_one f t v old new e h =
    let g = h.good in
    record {
      text = e ∙ ap (λ (u : List ℕ). u ∷ texts new.tokens) h.text;
      fits = h.fits;
      on = λ ps. rw (e, g) refl;
    }

-- a token that is not of the form
pub stops_one : {V : Type 0} (f : Form V) (t : List ℕ) (ts : List (List ℕ)) (fault : TokenFault) (old : Ahead) → texts old.tokens ≡ t ∷ ts → fault_of f t ≡ Some fault → Stops (token f ∷ []) old
unfolding fit
stops_one f t ts fault old e h qs = rw (e, h) refl

-- no token where one is wanted
pub stops_short : {V : Type 0} (f : Form V) (old : Ahead) → texts old.tokens ≡ [] → Stops (token f ∷ []) old
unfolding fit
stops_short f old e qs = rw e refl

-- one token read as a form
pub read_one : {V : Type 0} (f : Form V) (t : List ℕ) (r : Result V TokenFault) (o : Option V) (old new : Ahead) → texts old.tokens ≡ t ∷ texts new.tokens → reading.Reads f t r → o ≡ result_ok r → Reads (one_token f) old new o
read_one f t (Ok v) o old new e h q = rw q (took_one f t v old new e h)
read_one f t (Err fault) o old new e h q = rw q (stops_one f t (texts new.tokens) fault old e h)

pub ruleset taking = (took_one, stops_one, stops_short, read_one)

-- a word and what it opens
pub word_read : (t : List ℕ) (o : Option Word) (old new : Ahead) → texts old.tokens ≡ t ∷ texts new.tokens → o ≡ word_in t → IfSome o (λ w. word_text w ≡ t) → ReadsWord old new o
unfolding fit
word_read t (Some w) old new e h g = record { text = e ∙ ap (λ (u : List ℕ). u ∷ texts new.tokens) (sym g); on = λ r ps. rw (e, ← h) refl }
word_read t None old new e h g = λ r ps m. rw (e, ← h) refl

-- no token where a word is wanted
pub word_none : (old new : Ahead) → texts old.tokens ≡ [] → ReadsWord old new None
unfolding fit
word_none old new e = λ r ps m. rw (e, m) refl

-- a word, and a token that is none
pub word_some : (t : List ℕ) (w : Word) (old new : Ahead) → texts old.tokens ≡ t ∷ texts new.tokens → Some w ≡ word_in t → word_text w ≡ t → TookWord w old new
unfolding fit
word_some t w old new e h g = record { text = e ∙ ap (λ (u : List ℕ). u ∷ texts new.tokens) (sym g); on = λ r ps. rw (e, ← h) refl }

pub word_other : (t : List ℕ) (ts : List (List ℕ)) (old : Ahead) → texts old.tokens ≡ t ∷ ts → None ≡ word_in t → (r : Row) → (ps : List Piece) → fit (branch r ∷ ps) (texts old.tokens) ≡ false
unfolding fit
word_other t ts old e h r ps = rw (e, ← h) refl

-- a word that does not stand in a row
pub row_none : (r : Row) (w : Word) (old new : Ahead) → TookWord w old new → row r w ≡ None → Stops (branch r ∷ []) old
row_none r w old new h e qs = h.on r qs ∙ ap (λ (o : Option (List Piece)). goes_on o (λ ps. fit (ps ++ qs) (texts new.tokens))) e

-- this text
pub text_read : (t a : List ℕ) (old new : Ahead) → texts old.tokens ≡ t ∷ texts new.tokens → true ≡ bytes_eq t a → Took (text_part a) tt old new
unfolding fit
text_read t a old new e h = record { text = e ∙ ap (λ (u : List ℕ). u ∷ texts new.tokens) ((bytes_eq-Decides t a).0 (sym h)); fits = tt; on = λ ps. rw (e, ← h) refl }

-- another text
pub text_other : (t a : List ℕ) (ts : List (List ℕ)) (old : Ahead) → texts old.tokens ≡ t ∷ ts → false ≡ bytes_eq t a → Stops (exactly a ∷ []) old
unfolding fit
text_other t a ts old e h qs = rw (e, ← h) refl

-- no text
pub text_none : (a : List ℕ) (old : Ahead) → texts old.tokens ≡ [] → Stops (exactly a ∷ []) old
unfolding fit
text_none a old e qs = rw e refl
