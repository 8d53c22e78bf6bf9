-- Fields against tokens, one after the other.
use Rattle.std.proofs.Common.{◌≡◌, ℕ, List, [], ◌∷◌, ◌++◌, map, Some, None, Ok, true, false, codes, bytes_eq, refl, sym}
use Rattle.std.proofs.lemmas.Slice.Eq.{bytes_eq-Decides}
use Rattle.std.specs.List.{AllByRecursion}
use Rattle.op_table.specs.declared.kinds.Field.{Field}
use Rattle.op_table.specs.declared.kinds.Field.TheVariants.{Arrow}
use Rattle.script_text.specs.Tokens.{Token, texts}
use Rattle.script_text.specs.Spelling.{Value, text_of, Fits}
use Rattle.script_text.specs.Reads.{field_of, Ahead, Took, Stops}
use Rattle.script_text.specs.Faults.{token_fault, walk}
use Rattle.script_text.specs.declared.faults.FaultKind.{FaultKind}
use Rattle.script_text.specs.declared.faults.FaultKind.TheVariants.{Missing, UnknownWord}
use Rattle.script_text.proofs.Laws.{AreExact, good_text}

-- values in their own fields' places have no fault, whatever tokens follow
pub no_fault : AreExact → (vs : List Value) (ts : List Token) (rest : List (List ℕ)) (end : ℕ) → AllByRecursion Fits vs → texts ts ≡ map text_of vs ++ rest
    → (r : List Token) × (walk (map field_of vs) ts end ≡ Ok r) × (texts r ≡ rest)
unfolding walk
no_fault x [] ts rest end h e = (ts, refl, e)
no_fault x (v ∷ vs) [] rest end h e = absurd (cc)
no_fault x (v ∷ vs) (t ∷ ts) rest end h e =
    let p : t.text ≡ text_of v = cc in
    let q : texts ts ≡ map text_of vs ++ rest = cc in
    let ih = no_fault x vs ts rest end h.1 q in
    (ih.0, (rw (p, good_text x v h.0) ih.1), ih.2)

-- one field is taken
pub took : (f : Field) (v : Value) (old new : Ahead) (column : ℕ) (text : List ℕ)
    → old.tokens ≡ record { column = column; text = text } ∷ new.tokens → new.end ≡ old.end
    → token_fault f text ≡ None → text ≡ text_of v → Fits v → Took (f ∷ []) (v ∷ []) old new
unfolding walk
took f v old new column text e g h i fits = record {
  text = cc (e, i);
  fits = (fits, tt);
  on = λ gs. rw (e, g, h) refl;
}

-- a fault at the token of one field
pub stops : (f : Field) (old : Ahead) (column : ℕ) (text : List ℕ) (ts : List Token) (k : FaultKind)
    → old.tokens ≡ record { column = column; text = text } ∷ ts → token_fault f text ≡ Some k → Stops (f ∷ []) old (record { column = column; kind = k })
unfolding walk
stops f old column text ts k e h gs = rw (e, h) refl

-- no token for a field
pub stops_short : (f : Field) (old : Ahead) → old.tokens ≡ [] → Stops (f ∷ []) old (record { column = old.end; kind = Missing })
unfolding walk
stops_short f old e gs = rw e refl

pub walked : (ts : List Token) (end : ℕ) → walk [] ts end ≡ Ok ts
unfolding walk
walked ts end = refl

pub ruleset reading = (took, stops, stops_short)

-- a token that is the arrow, and one that is not
pub arrow_is : (t a : List ℕ) → true ≡ bytes_eq t a → a ≡ codes "->" → (token_fault Arrow t ≡ None) × (t ≡ codes "->")
unfolding token_fault
arrow_is t a b e = let h = rw e at b in (rw (← h) refl, (bytes_eq-Decides t (codes "->")).0 (sym h))

pub arrow_not : (t a : List ℕ) → false ≡ bytes_eq t a → a ≡ codes "->" → token_fault Arrow t ≡ Some UnknownWord
unfolding token_fault
arrow_not t a b e = let h = rw e at b in rw (← h) refl
