-- Parts written one behind the other.
use Rattle.std.proofs.Common.{◌≡◌, ℕ, ◌+◌, ◌≤◌, List, [], ◌∷◌, ◌++◌, length, codes, decimal, refl, ap, ◌∙◌, arith, append_assoc, length-append}
use Rattle.mpi_base.specs.declared.replies.Reply.{Reply}
use Rattle.mpi_base.specs.declared.replies.Reply.TheVariants.{Size0}
use Rattle.entry_text.specs.Labels.{labelled_text}
use Rattle.entry_text.specs.Parts.{Adds}
use Rattle.entry_text.specs.Replies.{reply_tokens}

append_nil : (xs : List ℕ) → xs ++ [] ≡ xs
append_nil [] = refl
append_nil (x ∷ xs) = ap (λ (r : List ℕ). x ∷ r) (append_nil xs)

-- a word, and a number behind a label
word_labelled : (word label : List ℕ) (n : ℕ) (old mid new : List ℕ) → mid ≡ old ++ word → new ≡ mid ++ 32 ∷ (label ++ decimal n) → new ≡ old ++ (word ++ 32 ∷ ((label ++ decimal n) ++ []))
word_labelled word label n old mid new p q = q ∙ (rw (p, append_nil (label ++ decimal n)) (append_assoc old word (32 ∷ (label ++ decimal n))))

-- the size of a process set
pub size_added : (r : Reply) (n m : ℕ) (old mid new : List ℕ) → r ≡ Size0 n → m ≡ n → mid ≡ old ++ codes " info" → new ≡ mid ++ labelled_text (codes " mpi_size=") m → length new ≤ length mid + 30 → Adds 608 (reply_tokens r) old new
size_added r n m old mid new e f p q l = rw e (record {
  added = word_labelled (codes " info") (codes "mpi_size=") n old mid new p (q ∙ ap (λ (k : ℕ). mid ++ labelled_text (codes " mpi_size=") k) f);
  short = (let k = ap length p in omega (arith, l, k, length-append old (codes " info")));
})
