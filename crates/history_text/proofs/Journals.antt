-- The text of a journal tells its entries.
use Rattle.std.proofs.Common.{◌≡◌, ℕ, false, List, [], ◌∷◌, ◌++◌, refl, sym, ◌∙◌, append_assoc, arith}
use Rattle.std.specs.List.{All, AllByRecursion}
use Rattle.std.proofs.lemmas.Bool.Decides.{nat_tests}
use Rattle.std.proofs.lemmas.List.Elements.{recursion_from_All}
use Rattle.mpi_base.specs.declared.entries.Entry.{Entry}
use Rattle.history_text.specs.Text.{entry_text, journal_text, IsEntry}
use Rattle.history_text.specs.Feeds.{has_line_feed}
use Rattle.history_text.proofs.PlainEntries.{one_line}
use Rattle.history_text.proofs.Unique.{one_text}

-- a line feed in front
no_line : (b : ℕ) (bs : List ℕ) → has_line_feed (b ∷ bs) ≡ false → 10 ≡ b → ⊥
no_line b bs h e = absurd (grind (arith, nat_tests, h, e))

-- where no line has a line feed inside, the first one ends at the first line feed
same_line : (s t xs ys : List ℕ) → has_line_feed s ≡ false → has_line_feed t ≡ false → s ++ 10 ∷ xs ≡ t ++ 10 ∷ ys → (s ≡ t) × (xs ≡ ys)
same_line [] [] xs ys h k e = (refl, cc (e))
same_line [] (c ∷ t) xs ys h k e = absurd (no_line c t k (cc (e)))
same_line (b ∷ s) [] xs ys h k e = absurd (no_line b s h (cc (e)))
same_line (b ∷ s) (c ∷ t) xs ys h k e =
    let p : has_line_feed s ≡ false = grind (arith, h) in
    let q : has_line_feed t ≡ false = grind (arith, k) in
    let r = same_line s t xs ys p q (cc (e)) in
    let a = r.0 in
    let c : b ≡ c = cc (e) in
    (cc (a, c), r.1)

-- the line of an entry, and those behind it
first_line : (e : Entry) (es : List Entry) → journal_text (e ∷ es) ≡ entry_text e ++ 10 ∷ journal_text es
first_line e es = append_assoc (entry_text e) (10 ∷ []) (journal_text es)

some_text : (t xs : List ℕ) → [] ≡ t ++ 10 ∷ xs → ⊥
some_text [] xs e = absurd (cc (e))
some_text (b ∷ t) xs e = absurd (cc (e))

entries_alone : (a b : List Entry) → AllByRecursion IsEntry a → AllByRecursion IsEntry b → journal_text a ≡ journal_text b → a ≡ b
entries_alone [] [] h k e = refl
entries_alone [] (y ∷ ys) h k e = absurd (some_text (entry_text y) (journal_text ys) (e ∙ first_line y ys))
entries_alone (x ∷ xs) [] h k e = absurd (some_text (entry_text x) (journal_text xs) (sym e ∙ first_line x xs))
entries_alone (x ∷ xs) (y ∷ ys) h k e =
    let both = same_line (entry_text x) (entry_text y) (journal_text xs) (journal_text ys) (one_line x h.0) (one_line y k.0) (sym (first_line x xs) ∙ (e ∙ first_line y ys)) in
    let first = one_text x y h.0 k.0 both.0 in
    let rest = entries_alone xs ys h.1 k.1 both.1 in
    cc (first, rest)

-- two journals of well-formed entries with one text are one
pub one_journal : (a b : List Entry) → All IsEntry a → All IsEntry b → journal_text a ≡ journal_text b → a ≡ b
one_journal a b h k e = entries_alone a b (recursion_from_All IsEntry a h) (recursion_from_All IsEntry b k) e
