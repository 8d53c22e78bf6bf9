-- The tokens of a part fit its pieces, and tell what it shows, whatever tokens follow.
use Rattle.std.proofs.Common.{◌≡◌, ℕ, true, List, ◌∷◌, ◌++◌, bytes_eq, refl}
use Rattle.std.specs.List.{AllByRecursion}
use Rattle.token_text.specs.Forms.{Form}
use Rattle.token_text.specs.Reading.{IsExact, is_solid}
use Rattle.entry_text.specs.Words.{word_text}
use Rattle.entry_text.specs.Grammar.{Row, Piece, branch, token, exactly, goes_on, row, fit}
use Rattle.entry_text.specs.Parts.{Part, one_token}
use Rattle.entry_text.specs.declared.words.Word.{Word}
use Rattle.entry_text.proofs.WordFacts.{word_again}

-- a text that is one token between spaces
abbrev pub IsSolid : List ℕ → Type 0
IsSolid w = is_solid w ≡ true

-- a part whose tokens fit its pieces, are one by one between spaces, and tell the value and where the part ends
pub record IsSure {V : Type 0} (p : Part V) : Type 0 where
  pub own : (v : V) (ts : List (List ℕ)) (ps : List Piece) → p.Fits v → fit (p.pieces ++ ps) (p.tokens v ++ ts) ≡ fit ps ts
  pub alone : (a b : V) (r s : List (List ℕ)) → p.Fits a → p.Fits b → p.tokens a ++ r ≡ p.tokens b ++ s → (a ≡ b) × (r ≡ s)
  pub solid : (v : V) → p.Fits v → AllByRecursion IsSolid (p.tokens v)

-- a token of a form
pub fit_token : {V : Type 0} (f : Form V) (x : IsExact f) (v : V) (ts : List (List ℕ)) (ps : List Piece) → f.Fits v → fit (token f ∷ ps) (f.text v ∷ ts) ≡ fit ps ts
unfolding fit
fit_token f x v ts ps h = let o = x.own v h in rw o refl

-- this text
pub fit_text : (t : List ℕ) (ts : List (List ℕ)) (ps : List Piece) → bytes_eq t t ≡ true → fit (exactly t ∷ ps) (t ∷ ts) ≡ fit ps ts
unfolding fit
fit_text t ts ps h = rw h refl

-- a word
pub fit_word : (w : Word) (r : Row) (ts : List (List ℕ)) (ps : List Piece) → fit (branch r ∷ ps) (word_text w ∷ ts) ≡ goes_on (row r w) (λ qs. fit (qs ++ ps) ts)
unfolding fit
fit_word w r ts ps = rw (word_again w) refl

-- one token of an exact form
pub one_sure : {V : Type 0} (f : Form V) → IsExact f → IsSure (one_token f)
one_sure f x = record {
  own = λ v ts ps h. fit_token f x v ts ps h;
  alone = λ a b r s h k e. (x.alone a b h k (cc (e)), cc (e));
  solid = λ v h. (x.solid v h, tt);
}
