-- A line that is the text of an entry is read.
use Rattle.std.proofs.Common.{◌≡◌, ℕ, true, false, List, [], ◌∷◌, ◌++◌, bytes_eq, refl, sym, ap, ◌∙◌}
use Rattle.mpi_base.proofs.KeyFacts.{bytes_eq-refl}
use Rattle.mpi_base.specs.declared.entries.Entry.{Entry}
use Rattle.script_text.specs.Tokens.{tokens, texts, words}
use Rattle.script_text.specs.Reads.{Ahead}
use Rattle.entry_text.specs.Labels.{most_16}
use Rattle.entry_text.specs.Grammar.{number, branch, choice, fit}
use Rattle.entry_text.specs.Parts.{Took, Stops}
use Rattle.history_text.specs.Text.{entry_tokens, entry_text, IsEntry}
use Rattle.history_text.specs.Steps.{entry_part}
use Rattle.history_text.proofs.Whole.{entry_own}
use Rattle.history_text.proofs.Unique.{entry_alone, line_again}

-- the tokens of a text of an entry
line_tokens : (line : List ℕ) (old : Ahead) (e : Entry) → old.tokens ≡ tokens 1 line → IsEntry e → line ≡ entry_text e → texts old.tokens ≡ entry_tokens e
line_tokens line old e o h q = ap texts o ∙ (ap words q ∙ line_again e h)

-- such a line does not stop a reader
pub not_stopped : (line : List ℕ) (old : Ahead) (e : Entry) → old.tokens ≡ tokens 1 line → IsEntry e → line ≡ entry_text e → Stops (number most_16 ∷ branch choice ∷ []) old → ⊥
not_stopped line old e o h q s = true_not_false (sym (entry_own e h) ∙ (sym (ap (fit (number most_16 ∷ branch choice ∷ [])) (line_tokens line old e o h q)) ∙ s []))
  where
    true_not_false : true ≡ false → ⊥
    true_not_false p = cc (p)

no_more : (ts : List (List ℕ)) → true ≡ fit [] ts → ts ≡ []
unfolding fit
no_more [] e = refl
no_more (t ∷ ts) e = absurd (cc (e))

append_nil : (xs : List (List ℕ)) → xs ++ [] ≡ xs
append_nil [] = refl
append_nil (x ∷ xs) = ap (λ (r : List (List ℕ)). x ∷ r) (append_nil xs)

-- what is read from it is the entry
pub read_again : (line : List ℕ) (old new : Ahead) (x e : Entry) → old.tokens ≡ tokens 1 line → Took entry_part x old new → IsEntry e → line ≡ entry_text e → x ≡ e
read_again line old new x e o t h q =
    let w = line_tokens line old e o h q in
    let n = no_more (texts new.tokens) (sym (entry_own e h) ∙ (sym (ap (fit (number most_16 ∷ branch choice ∷ [])) w) ∙ t.on [])) in
    entry_alone x e t.fits h (sym (append_nil (entry_tokens x)) ∙ (sym (ap (λ (r : List (List ℕ)). entry_tokens x ++ r) n) ∙ (sym t.text ∙ w)))

-- such a line is not another text than that of what is read
pub same_line : (line text items : List ℕ) (x e : Entry) → x ≡ e → line ≡ entry_text e → text ≡ items → items ≡ entry_text x → false ≡ bytes_eq text line → ⊥
same_line line text items x e p q s t b =
    let w : text ≡ line = s ∙ (t ∙ (ap entry_text p ∙ sym q)) in
    let r = bytes_eq-refl line in
    let c = rw w at b in
    false_not_true (c ∙ r)
  where
    false_not_true : false ≡ true → ⊥
    false_not_true p = cc (p)
