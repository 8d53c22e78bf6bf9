-- Spaces and words in front of bytes.
use Rattle.std.proofs.Common.{◌≡◌, ℕ, suc, ◌+◌, ◌<◌, ◌≤◌, ◌==◌, not, Bool, true, false, cond, List, [], ◌∷◌, length, take, drop, refl, ap, ◌∙◌, subst, arith, Some, None, add-zero, position}
use Rattle.std.proofs.lemmas.Grind.{common_steps}
use Rattle.std.proofs.lemmas.Bool.Decides.{nat_tests}
use Rattle.std.proofs.lemmas.List.Recursion.{is_position_or_len}
use Rattle.std.specs.List.{position_or_len}
use Rattle.script_text.specs.Tokens.{tokens, goes_on, onto}
use Rattle.script_text.specs.Reads.{Blank, Word}
use Rattle.script_text.proofs.Tokens.{tokens_on, tokens_end, tokens_space, tokens_none}

abbrev pub is_space : ℕ → Bool
is_space b = b == 32

abbrev pub is_not_space : ℕ → Bool
is_not_space b = not (b == 32)

-- how many bytes stand before the first that passes
abbrev pub run : (ℕ → Bool) → List ℕ → ℕ
run p [] = 0
run p (b ∷ bs) = cond (p b) 0 (suc (run p bs))

one_more : (n : ℕ) → suc n ≡ 1 + n
one_more n = omega arith

pub run_is : (p : ℕ → Bool) (bs : List ℕ) → run p bs ≡ position_or_len p bs
run_is p bs = is_position_or_len (run p) p refl (λ x xs. rw (one_more (run p xs)) refl) bs

blank_skip : (n : ℕ) (bs : List ℕ) → tokens n bs ≡ tokens (n + run is_not_space bs) (drop (run is_not_space bs) bs)
blank_skip n [] = rw add-zero refl
blank_skip n (b ∷ bs) = go (b == 32) refl (blank_skip (n + 1) bs)
  where
    go : (t : Bool) → (b == 32) ≡ t → tokens (n + 1) bs ≡ tokens (n + 1 + run is_not_space bs) (drop (run is_not_space bs) bs) → tokens n (b ∷ bs) ≡ tokens (n + run is_not_space (b ∷ bs)) (drop (run is_not_space (b ∷ bs)) (b ∷ bs))
    go true e ih = let q : n + 1 + run is_not_space bs ≡ n + suc (run is_not_space bs) = omega arith in tokens_space n b bs e ∙ (ih ∙ (rw (e, q) refl))
    go false e ih = let q : n + 0 ≡ n = omega arith in rw (e, q) refl

blank_next : (bs : List ℕ) → goes_on (drop (run is_not_space bs) bs) ≡ false → drop (run is_not_space bs) bs ≡ []
blank_next [] h = refl
blank_next (b ∷ bs) h = go (b == 32) refl h (blank_next bs)
  where
    go : (t : Bool) → (b == 32) ≡ t → goes_on (drop (cond (not t) 0 (suc (run is_not_space bs))) (b ∷ bs)) ≡ false → (goes_on (drop (run is_not_space bs) bs) ≡ false → drop (run is_not_space bs) bs ≡ []) → drop (cond (not (b == 32)) 0 (suc (run is_not_space bs))) (b ∷ bs) ≡ []
    go true e k ih = rw e (ih k)
    go false e k ih = absurd (grind (arith, e, k))

pub blank_part : (bs : List ℕ) → Blank bs (position_or_len is_not_space bs)
blank_part bs = subst (Blank bs) (run_is is_not_space bs) (record { skip = λ n. blank_skip n bs; next = blank_next bs })

word_some : (bs : List ℕ) → goes_on bs ≡ true → 0 < run is_space bs
word_some [] h = absurd (cc)
word_some (b ∷ bs) h = grind (arith, nat_tests, h)

word_first : (n b : ℕ) (bs : List ℕ) → (b == 32) ≡ false
    → tokens n (b ∷ bs) ≡ record { column = n; text = b ∷ take (run is_space bs) bs } ∷ tokens (n + suc (run is_space bs)) (drop (run is_space bs) bs)
word_first n b [] h = tokens_end n b [] h refl
word_first n b (c ∷ cs) h = go (c == 32) refl (word_first (n + 1) c cs)
  where
    go : (t : Bool) → (c == 32) ≡ t → ((c == 32) ≡ false → tokens (n + 1) (c ∷ cs) ≡ record { column = n + 1; text = c ∷ take (run is_space cs) cs } ∷ tokens (n + 1 + suc (run is_space cs)) (drop (run is_space cs) cs))
        → tokens n (b ∷ c ∷ cs) ≡ record { column = n; text = b ∷ take (run is_space (c ∷ cs)) (c ∷ cs) } ∷ tokens (n + suc (run is_space (c ∷ cs))) (drop (run is_space (c ∷ cs)) (c ∷ cs))
    go true e ih = let g : goes_on (c ∷ cs) ≡ false = grind (arith, e) in tokens_end n b (c ∷ cs) h g ∙ (rw e refl)
    go false e ih =
        let q : n + 1 + suc (run is_space cs) ≡ n + suc (suc (run is_space cs)) = omega arith in
        tokens_on n b c cs h e ∙ (ap (onto n b) (ih e) ∙ (rw (e, q) refl))

pub word_part : (bs : List ℕ) → Word bs (position_or_len is_space bs)
word_part bs = subst (Word bs) (run_is is_space bs) (record { some = word_some bs; first = λ n h. go bs n h })
  where
    go : (cs : List ℕ) (n : ℕ) → 0 < run is_space cs → tokens n cs ≡ record { column = n; text = take (run is_space cs) cs } ∷ tokens (n + run is_space cs) (drop (run is_space cs) cs)
    go [] n h = absurd (omega arith)
    go (b ∷ cs) n h =
        let e : (b == 32) ≡ false = grind (arith, nat_tests, h) in
        rw e (word_first n b cs e)

run_le : (p : ℕ → Bool) (bs : List ℕ) → run p bs ≤ length bs
run_le p [] = omega arith
run_le p (b ∷ bs) = let ih = run_le p bs in grind (arith, ih)

-- the place that `position` gives
pub at_place : (p : ℕ → Bool) (bs : List ℕ) (i : ℕ) → position p bs ≡ Some i → position_or_len p bs ≡ i
at_place p bs i h = grind (arith, nat_tests, common_steps, h)

pub no_place : (p : ℕ → Bool) (bs : List ℕ) → position p bs ≡ None → position_or_len p bs ≡ length bs
no_place p bs h = let l = subst (λ (n : ℕ). n ≤ length bs) (run_is p bs) (run_le p bs) in grind (arith, nat_tests, common_steps, h, l)

pub blank_at : (bs : List ℕ) (i : ℕ) → position is_not_space bs ≡ Some i → Blank bs i
blank_at bs i h = subst (Blank bs) (at_place is_not_space bs i h) (blank_part bs)

pub blank_whole : (bs : List ℕ) → position is_not_space bs ≡ None → Blank bs (length bs)
blank_whole bs h = subst (Blank bs) (no_place is_not_space bs h) (blank_part bs)

pub word_at : (bs : List ℕ) (i : ℕ) → position is_space bs ≡ Some i → Word bs i
word_at bs i h = subst (Word bs) (at_place is_space bs i h) (word_part bs)

pub word_whole : (bs : List ℕ) → position is_space bs ≡ None → Word bs (length bs)
word_whole bs h = subst (Word bs) (no_place is_space bs h) (word_part bs)

pub nothing_ahead : (column blank len : ℕ) (bs : List ℕ) → Blank bs blank → Word (drop blank bs) len → len ≡ 0 → tokens column bs ≡ []
nothing_ahead column blank len bs b w z =
    let e : goes_on (drop blank bs) ≡ false = go (goes_on (drop blank bs)) refl in
    b.skip column ∙ (rw (b.next e) (tokens_none (column + blank)))
  where
    go : (t : Bool) → goes_on (drop blank bs) ≡ t → t ≡ false
    go false q = refl
    go true q = absurd (let s = w.some q in omega (arith, s, z))
