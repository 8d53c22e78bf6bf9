-- Blank lines spell nothing.
use Rattle.std.proofs.Common.{◌≡◌, ℕ, ◌+◌, ◌==◌, not, Bool, true, false, List, [], ◌∷◌, Option, Some, None, refl, arith}
use Rattle.mpi_base.specs.declared.ops.Op.{Op}
use Rattle.op_table.specs.Table.{word_text}
use Rattle.op_table.proofs.WordFacts.{each_kind}
use Rattle.script_text.specs.Tokens.{Token, goes_on, onto, tokens, texts, is_none_or_mark, is_blank_line}
use Rattle.script_text.specs.Spelling.{kind_of, Spells}
use Rattle.script_text.proofs.Tokens.{tokens_on, tokens_end, tokens_space, tokens_none}

abbrev first_byte : List ℕ → Option ℕ
first_byte [] = None
first_byte (b ∷ bs) = Some b

-- the first byte of the first of some texts
abbrev first_of : List (List ℕ) → Option ℕ
first_of [] = None
first_of (t ∷ ts) = first_byte t

first_onto : (n b : ℕ) (ts : List Token) → first_of (texts (onto n b ts)) ≡ Some b
first_onto n b [] = refl
first_onto n b (t ∷ ts) = refl

-- a byte that is no space begins the first token
first_is : (n b : ℕ) (bs : List ℕ) → (b == 32) ≡ false → first_of (texts (tokens n (b ∷ bs))) ≡ Some b
first_is n b [] e = rw (tokens_end n b [] e refl) refl
first_is n b (c ∷ cs) e = go (c == 32) refl
  where
    go : (t : Bool) → (c == 32) ≡ t → first_of (texts (tokens n (b ∷ c ∷ cs))) ≡ Some b
    go true q = let g : goes_on (c ∷ cs) ≡ false = grind (arith, q) in rw (tokens_end n b (c ∷ cs) e g) refl
    go false q = rw (tokens_on n b c cs e q) (first_onto n b (tokens (n + 1) (c ∷ cs)))

blank_first : (n : ℕ) (bs : List ℕ) → is_blank_line bs ≡ true → is_none_or_mark (first_of (texts (tokens n bs))) ≡ true
blank_first n [] h = rw (tokens_none n) refl
blank_first n (b ∷ bs) h = go (b == 32) refl (blank_first (n + 1) bs)
  where
    go : (t : Bool) → (b == 32) ≡ t → (is_blank_line bs ≡ true → is_none_or_mark (first_of (texts (tokens (n + 1) bs))) ≡ true)
        → is_none_or_mark (first_of (texts (tokens n (b ∷ bs)))) ≡ true
    go true e ih = rw (tokens_space n b bs e) (ih (rw e at h))
    go false e ih = rw (first_is n b bs e) (rw e at h)

-- a blank line spells no operation, since no word begins with `#`
pub blank_alone : (line : List ℕ) (op : Op) → is_blank_line line ≡ true → Spells line op → ⊥
blank_alone line op h e =
    let mark : is_none_or_mark (first_byte (word_text (kind_of op))) ≡ true = rw e at (blank_first 1 line h) in
    let none : not (is_none_or_mark (first_byte (word_text (kind_of op)))) ≡ true = each_kind (λ k. not (is_none_or_mark (first_byte (word_text k)))) refl (kind_of op) in
    cc (mark, none)
