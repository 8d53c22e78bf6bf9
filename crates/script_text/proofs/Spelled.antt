-- Lines and operations.
use Rattle.std.proofs.Common.{◌≡◌, ℕ, ◌+◌, ◌++◌, List, [], ◌∷◌, length, map, Some, None, Result, Ok, Err, IfOk, IfErr, refl, sym, ap, ◌∙◌, subst}
use Rattle.std.specs.List.{AllByRecursion}
use Rattle.mpi_base.specs.declared.ops.Op.{Op}
use Rattle.op_table.specs.declared.kinds.OpKind.{OpKind}
use Rattle.op_table.specs.declared.kinds.Field.{Field}
use Rattle.op_table.specs.Table.{word_text, fields_of, kind_in}
use Rattle.op_table.proofs.WordFacts.{kind_again, each_kind}
use Rattle.token_text.specs.Reading.{is_solid}
use Rattle.script_text.specs.Tokens.{Token, tokens, texts}
use Rattle.script_text.specs.Spelling.{Value, text_of, Fits, kind_of, values_of, tokens_of, IsOp, Spells}
use Rattle.script_text.specs.Writes.{line_of}
use Rattle.script_text.specs.Faults.{walk, end_fault, fault_among, fault_of}
use Rattle.script_text.specs.Reads.{Ahead, Stops, ReadsOp}
use Rattle.script_text.specs.declared.faults.LineFault.{LineFault}
use Rattle.script_text.proofs.Tokens.{IsSolid, texts_in_line}
use Rattle.script_text.proofs.Laws.{AreExact, solid_text}
use Rattle.script_text.proofs.Ops.{same_fields, same_values, same_op}
use Rattle.script_text.proofs.Walks.{no_fault, walked}

append_nil : {A : Type 0} (xs : List A) → xs ++ [] ≡ xs
append_nil [] = refl
append_nil (x ∷ xs) = ap (λ r. x ∷ r) (append_nil xs)

same_rest : {A : Type 0} (ts xs ys : List A) → ts ++ xs ≡ ts ++ ys → xs ≡ ys
same_rest [] xs ys e = e
same_rest (t ∷ ts) xs ys e = same_rest ts xs ys (cc)

-- the tokens of a well-formed operation, and others behind them, tell the operation and the others
pub op_tells : AreExact → (a b : Op) (xs ys : List (List ℕ)) → IsOp a → IsOp b → tokens_of a ++ xs ≡ tokens_of b ++ ys → (a ≡ b) × (xs ≡ ys)
op_tells x a b xs ys h k e =
    let w : word_text (kind_of a) ≡ word_text (kind_of b) = cc in
    let t : map text_of (values_of a) ++ xs ≡ map text_of (values_of b) ++ ys = cc in
    let i = some_same (kind_of a) (kind_of b) (sym (kind_again (kind_of a)) ∙ (ap kind_in w ∙ kind_again (kind_of b))) in
    let f = same_fields a ∙ (ap fields_of i ∙ sym (same_fields b)) in
    let v = same_values x (values_of a) (values_of b) xs ys h k f t in
    (same_op a b i v, same_rest (map text_of (values_of a)) xs ys (t ∙ ap (λ vs. map text_of vs ++ ys) (sym v)))
  where
    some_same : (j i : OpKind) → Some j ≡ Some i → j ≡ i
    some_same j i q = cc

one_op : AreExact → (a b : Op) → IsOp a → IsOp b → tokens_of a ≡ tokens_of b → a ≡ b
one_op x a b h k e = (op_tells x a b [] [] h k (ap (λ (ts : List (List ℕ)). ts ++ []) e)).0

no_more : (r : List Token) → texts r ≡ [] → end_fault (Ok r) ≡ None
no_more [] q = refl
no_more (t ∷ ts) q = absurd (cc)

-- a spelling has no fault
pub spelling_good : AreExact → (line : List ℕ) (op : Op) → IsOp op → Spells line op → fault_of line ≡ None
spelling_good x line op h e = go (tokens 1 line) e
  where
    go : (ts : List Token) → texts ts ≡ tokens_of op → fault_among ts (length line + 1) ≡ None
    go [] q = absurd (cc)
    go (t ∷ ts) q =
        let w : t.text ≡ word_text (kind_of op) = cc in
        let r : texts ts ≡ map text_of (values_of op) = cc in
        let k : kind_in t.text ≡ Some (kind_of op) = ap kind_in w ∙ kind_again (kind_of op) in
        let n = no_fault x (values_of op) ts [] (length line + 1) h (r ∙ sym (append_nil (map text_of (values_of op)))) in
        rw k (ap end_fault (subst (λ (fs : List Field). walk fs ts (length line + 1) ≡ Ok n.0) (same_fields op) n.1) ∙ no_more n.0 n.2)

-- a word, the fields of its kind, and nothing behind them are a spelling of the operation
pub line_found : (line : List ℕ) (column : ℕ) (text : List ℕ) (old new : Ahead) (k : OpKind) (op : Op)
    → tokens 1 line ≡ record { column = column; text = text } ∷ old.tokens → word_text k ≡ text → ReadsOp k old new (Ok op) → new.tokens ≡ []
    → IsOp op × Spells line op
line_found line column text old new k op e w h n =
    let g = h.0 in
    let t = h.1.text in
    let u : texts old.tokens ≡ map text_of (values_of op) = t ∙ (rw n (append_nil (map text_of (values_of op)))) in
    (h.1.fits, ap texts e ∙ cc (w, g, u))

-- the first fault is among the fields behind a word
pub line_stops : (line : List ℕ) (column : ℕ) (text : List ℕ) (old : Ahead) (k : OpKind) (fault : LineFault)
    → tokens 1 line ≡ record { column = column; text = text } ∷ old.tokens → Some k ≡ kind_in text → old.end ≡ length line + 1 → Stops (fields_of k) old fault
    → fault_of line ≡ Some fault
line_stops line column text old k fault p f q h =
    let w : walk (fields_of k) old.tokens old.end ≡ Err fault = subst (λ (fs : List Field). walk fs old.tokens old.end ≡ Err fault) (append_nil (fields_of k)) (h []) in
    rw (p, ← f, ← q, w) refl

-- it is behind the fields
pub line_extra : (line : List ℕ) (column : ℕ) (text : List ℕ) (old new : Ahead) (k : OpKind) (op : Op) (fault : LineFault)
    → tokens 1 line ≡ record { column = column; text = text } ∷ old.tokens → Some k ≡ kind_in text → old.end ≡ length line + 1 → ReadsOp k old new (Ok op)
    → end_fault (Ok new.tokens) ≡ Some fault → fault_of line ≡ Some fault
line_extra line column text old new k op fault p f q h g =
    let w : walk (fields_of k) old.tokens old.end ≡ walk [] new.tokens new.end = subst (λ (fs : List Field). walk fs old.tokens old.end ≡ walk [] new.tokens new.end) (append_nil (fields_of k)) (h.1.on []) in
    rw (p, ← f, ← q, w, walked new.tokens new.end) g

-- a spelling is read as its operation
pub line_only : AreExact → (line : List ℕ) (r : Result Op LineFault) → IfOk r (λ op. IsOp op × Spells line op) → IfErr r (λ e. fault_of line ≡ Some e)
    → (op : Op) → IsOp op → Spells line op → r ≡ Ok op
line_only x line (Ok a) f g op h e = ap Ok (one_op x a op f.0 h (sym f.1 ∙ e))
line_only x line (Err fault) f g op h e = let n = spelling_good x line op h e in absurd (cc (n, g))

-- the tokens of a well-formed operation are texts without spaces
pub solid_tokens : AreExact → (op : Op) → IsOp op → AllByRecursion IsSolid (tokens_of op)
solid_tokens x op h = (each_kind (λ k. is_solid (word_text k)) refl (kind_of op), solid_texts (values_of op) h)
  where
    solid_texts : (vs : List Value) → AllByRecursion Fits vs → AllByRecursion IsSolid (map text_of vs)
    solid_texts [] k = tt
    solid_texts (v ∷ vs) k = (solid_text x v k.0, solid_texts vs k.1)

-- the written line is a spelling
pub own_line : AreExact → (op : Op) → IsOp op → Spells (line_of op) op
own_line x op h = texts_in_line 1 (tokens_of op) (solid_tokens x op h)

-- a line is a spelling of one operation alone
pub alone : AreExact → (line : List ℕ) (a b : Op) → IsOp a → IsOp b → Spells line a → Spells line b → a ≡ b
alone x line a b h k p q = one_op x a b h k (sym p ∙ q)
