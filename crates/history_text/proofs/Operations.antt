-- Operations inside an entry, and the ends of a line.
use Rattle.std.proofs.Common.{◌≡◌, ℕ, true, false, List, [], ◌∷◌, ◌++◌, map, Option, Some, None, Result, Ok, Err, refl, sym, ap, ◌∙◌, subst, lit<}
use Rattle.std.specs.Result.{result_ok}
use Rattle.std.specs.List.{AllByRecursion}
use Rattle.mpi_base.specs.declared.ops.Op.{Op}
use Rattle.op_table.specs.declared.kinds.OpKind.{OpKind}
use Rattle.op_table.specs.declared.kinds.Field.{Field}
use Rattle.op_table.specs.Table.{word_text, fields_of, kind_in}
use Rattle.op_table.proofs.WordFacts.{kind_again, kind_alone}
use Rattle.token_text.proofs.Exact.{number_exact, int_exact, name_exact, pset_name_exact, tag_exact, hex_exact}
use Rattle.token_text.proofs.ExactLists.{dest_exact, any_tag_exact, colour_exact, source_exact, ints_exact, rank_args_exact, triplets_exact}
use Rattle.script_text.specs.Tokens.{Token, texts}
use Rattle.script_text.specs.Spelling.{Value, text_of, Fits, kind_of, values_of, tokens_of, IsOp}
use Rattle.script_text.specs.Reads.{field_of, Ahead, ReadsOp}
use Rattle.script_text.specs.Faults.{token_fault, placed, walk}
use Rattle.script_text.specs.declared.faults.FaultKind.{FaultKind}
use Rattle.script_text.specs.declared.faults.LineFault.{LineFault}
use Rattle.script_text.proofs.Laws.{AreExact, exact, good_text}
use Rattle.script_text.proofs.Ops.{same_fields, same_values, same_op}
use Rattle.entry_text.specs.Grammar.{Row, Piece, branch, field, op, may_end, reply_end, match_end, call_end, fit}
use Rattle.entry_text.specs.Parts.{Took, Stops, Reads, ReadsEnd}
use Rattle.entry_text.specs.declared.words.Word.{Word}
use Rattle.history_text.specs.Steps.{op_part, reply_end_part, match_end_part, call_end_part}

-- the forms of all values of operations are exact
pub all_exact : AreExact
all_exact = exact name_exact pset_name_exact tag_exact (number_exact 2147483647 (lit< tt)) int_exact hex_exact ints_exact rank_args_exact triplets_exact dest_exact source_exact any_tag_exact colour_exact

-- the tokens of values fit the fields of the values
values_own : (vs : List Value) (ts : List (List ℕ)) (ps : List Piece) → AllByRecursion Fits vs → fit (map field (map field_of vs) ++ ps) (map text_of vs ++ ts) ≡ fit ps ts
unfolding fit
values_own [] ts ps h = refl
values_own (v ∷ vs) ts ps h = let g = good_text all_exact v h.0 in let ih = values_own vs ts ps h.1 in rw g ih

-- the fields of the kind that a word has
opened : (w : List ℕ) (k : OpKind) (ts : List (List ℕ)) (ps : List Piece) → kind_in w ≡ Some k → fit (op ∷ ps) (w ∷ ts) ≡ fit (map field (fields_of k) ++ ps) ts
unfolding fit
opened w k ts ps e = rw e refl

-- the tokens of an operation fit
pub op_own : (x : Op) (ts : List (List ℕ)) (ps : List Piece) → IsOp x → fit (op ∷ ps) (tokens_of x ++ ts) ≡ fit ps ts
op_own x ts ps h =
    opened (word_text (kind_of x)) (kind_of x) (map text_of (values_of x) ++ ts) ps (kind_again (kind_of x))
    ∙ subst (λ (fs : List Field). fit (map field fs ++ ps) (map text_of (values_of x) ++ ts) ≡ fit ps ts) (same_fields x) (values_own (values_of x) ts ps h)

same_behind : (xs r s : List (List ℕ)) → xs ++ r ≡ xs ++ s → r ≡ s
same_behind [] r s e = e
same_behind (x ∷ xs) r s e = same_behind xs r s (cc (e))

first_same : (x y : List ℕ) (xs ys : List (List ℕ)) → x ∷ xs ≡ y ∷ ys → (x ≡ y) × (xs ≡ ys)
first_same x y xs ys e = (cc (e), cc (e))

-- they tell the operation, whatever tokens follow
pub op_alone : (a b : Op) (r s : List (List ℕ)) → IsOp a → IsOp b → tokens_of a ++ r ≡ tokens_of b ++ s → (a ≡ b) × (r ≡ s)
op_alone a b r s h k e =
    let f = first_same _ _ _ _ e in
    let q = kind_alone (kind_of a) (kind_of b) f.0 in
    let g = same_fields a ∙ (ap fields_of q ∙ sym (same_fields b)) in
    let v = same_values all_exact (values_of a) (values_of b) r s h k g f.1 in
    (same_op a b q v, same_behind (map text_of (values_of b)) r s (subst (λ (vs : List Value). map text_of vs ++ r ≡ map text_of (values_of b) ++ s) v f.1))

append_nil : (xs : List Field) → xs ++ [] ≡ xs
append_nil [] = refl
append_nil (x ∷ xs) = ap (λ (r : List Field). x ∷ r) (append_nil xs)

-- where a field has a fault, the tokens do not fit
walk_stops : (fs : List Field) (ts : List Token) (end : ℕ) (fault : LineFault) (ps : List Piece) → walk fs ts end ≡ Err fault → fit (map field fs ++ ps) (texts ts) ≡ false
unfolding walk fit
walk_stops [] ts end fault ps e = absurd (cc)
walk_stops (f ∷ fs) [] end fault ps e = refl
walk_stops (f ∷ fs) (t ∷ ts) end fault ps e = go (token_fault f t.text) refl e (walk_stops fs ts end fault ps)
  where
    go : (o : Option FaultKind) → token_fault f t.text ≡ o → placed o t.column (walk fs ts end) ≡ Err fault → (walk fs ts end ≡ Err fault → fit (map field fs ++ ps) (texts ts) ≡ false)
        → fit (field f ∷ (map field fs ++ ps)) (t.text ∷ texts ts) ≡ false
    go None q w ih = let i = ih w in rw q i
    go (Some k) q w ih = rw q refl

-- an operation is read
pub op_read : (t : List ℕ) (k : OpKind) (r : Result Op LineFault) (o : Option Op) (old mid new : Ahead) → texts old.tokens ≡ t ∷ texts mid.tokens → Some k ≡ kind_in t → word_text k ≡ t → ReadsOp k mid new r → o ≡ result_ok r → Reads op_part old new o
op_read t k (Ok x) o old mid new e q w h p =
    let took = h.1 in
    let kind = h.0 in
    let text : texts old.tokens ≡ tokens_of x ++ texts new.tokens = e ∙ (ap (λ (u : List ℕ). u ∷ texts mid.tokens) (sym w ∙ ap word_text (sym kind)) ∙ ap (λ (us : List (List ℕ)). word_text (kind_of x) ∷ us) took.text) in
    rw p (record { text = text; fits = took.fits; on = λ ps. ap (fit (op ∷ ps)) text ∙ op_own x (texts new.tokens) ps took.fits })
op_read t k (Err fault) o old mid new e q w h p =
    let stop = subst (λ (fs : List Field). walk fs mid.tokens mid.end ≡ Err fault) (append_nil (fields_of k)) (h []) in
    rw p (λ ps. ap (fit (op ∷ ps)) e ∙ (opened t k (texts mid.tokens) ps (sym q) ∙ walk_stops (fields_of k) mid.tokens mid.end fault ps stop))

pub op_none : (old : Ahead) → texts old.tokens ≡ [] → Stops (op ∷ []) old
unfolding fit
op_none old e ps = rw e refl

pub op_other : (t : List ℕ) (ts : List (List ℕ)) (old : Ahead) → texts old.tokens ≡ t ∷ ts → None ≡ kind_in t → Stops (op ∷ []) old
unfolding fit
op_other t ts old e q ps = rw (e, ← q) refl

-- a line may end before these rows
pub fit_end : (r : Row) (ps : List Piece) → may_end r ≡ true → fit (branch r ∷ ps) [] ≡ fit ps []
unfolding fit
fit_end r [] h = rw h refl
fit_end r (p ∷ ps) h = rw h refl

end_read : (o : Option Word) (old new : Ahead) → ReadsEnd old new (Some o) → o ≡ None → (texts old.tokens ≡ []) × (texts new.tokens ≡ [])
end_read (Some w) old new h e = absurd (cc (e))
end_read None old new h e = h

end_on : (r : Row) (old new : Ahead) → may_end r ≡ true → (texts old.tokens ≡ []) × (texts new.tokens ≡ []) → (ps : List Piece) → fit (branch r ∷ ps) (texts old.tokens) ≡ fit ps (texts new.tokens)
end_on r old new m h ps = ap (fit (branch r ∷ ps)) h.0 ∙ (fit_end r ps m ∙ sym (ap (fit ps) h.1))

pub no_reply_end : (o : Option Word) (old new : Ahead) → ReadsEnd old new (Some o) → o ≡ None → Took reply_end_part None old new
no_reply_end o old new h e = let n = end_read o old new h e in record { text = n.0 ∙ sym n.1; fits = tt; on = end_on reply_end old new refl n }

pub no_match_end : (o : Option Word) (old new : Ahead) → ReadsEnd old new (Some o) → o ≡ None → Took match_end_part None old new
no_match_end o old new h e = let n = end_read o old new h e in record { text = n.0 ∙ sym n.1; fits = tt; on = end_on match_end old new refl n }

pub no_call_end : (o : Option Word) (old new : Ahead) → ReadsEnd old new (Some o) → o ≡ None → Took call_end_part (None, None) old new
no_call_end o old new h e = let n = end_read o old new h e in record { text = n.0 ∙ sym n.1; fits = (tt, tt); on = end_on call_end old new refl n }
