-- Tokens of texts with single spaces between.
use Rattle.std.proofs.Common.{◌≡◌, ℕ, suc, ◌+◌, ◌==◌, true, false, List, [], ◌∷◌, ◌++◌, length, refl, ap, ◌∙◌, arith}
use Rattle.std.proofs.lemmas.Bool.Decides.{nat_tests}
use Rattle.std.specs.List.{AllByRecursion}
use Rattle.token_text.specs.Reading.{is_solid}
use Rattle.script_text.specs.Tokens.{goes_on, onto, tokens, texts, spaced, in_line}

-- a text that is one token between spaces
abbrev pub IsSolid : List ℕ → Type 0
IsSolid w = is_solid w ≡ true

pub tokens_on : (n b c : ℕ) (bs : List ℕ) → (b == 32) ≡ false → (c == 32) ≡ false → tokens n (b ∷ c ∷ bs) ≡ onto n b (tokens (n + 1) (c ∷ bs))
unfolding tokens
tokens_on n b c bs p q = rw (p, q) refl

pub tokens_end : (n b : ℕ) (bs : List ℕ) → (b == 32) ≡ false → goes_on bs ≡ false → tokens n (b ∷ bs) ≡ record { column = n; text = b ∷ [] } ∷ tokens (n + 1) bs
unfolding tokens
tokens_end n b bs p q = rw (p, q) refl

pub tokens_space : (n b : ℕ) (bs : List ℕ) → (b == 32) ≡ true → tokens n (b ∷ bs) ≡ tokens (n + 1) bs
unfolding tokens
tokens_space n b bs p = rw p refl

pub tokens_none : (n : ℕ) → tokens n [] ≡ []
unfolding tokens
tokens_none n = refl

solid_step : (b c : ℕ) (w : List ℕ) → is_solid (b ∷ c ∷ w) ≡ true → ((b == 32) ≡ false) × ((c == 32) ≡ false) × (is_solid (c ∷ w) ≡ true)
solid_step b c w s = (grind (arith, nat_tests, s), grind (arith, nat_tests, s), grind (arith, nat_tests, s))

-- a text without spaces, and then a space or the end
tokens_word : (n b : ℕ) (w rest : List ℕ) → is_solid (b ∷ w) ≡ true → goes_on rest ≡ false
    → tokens n (b ∷ (w ++ rest)) ≡ record { column = n; text = b ∷ w } ∷ tokens (n + (1 + length w)) rest
tokens_word n b [] rest s g = let p : (b == 32) ≡ false = grind (arith, nat_tests, s) in tokens_end n b rest p g
tokens_word n b (c ∷ w) rest s g =
    let t = solid_step b c w s in
    let ih = tokens_word (n + 1) c w rest t.2 g in
    let e : n + 1 + (1 + length w) ≡ n + (1 + suc (length w)) = omega arith in
    tokens_on n b c (w ++ rest) t.0 t.1 ∙ (rw (ih, e) refl)

spaces_end : (vs : List (List ℕ)) → goes_on (spaced vs) ≡ false
spaces_end [] = refl
spaces_end (v ∷ vs) = refl

texts_spaced : (n : ℕ) (ws : List (List ℕ)) → AllByRecursion IsSolid ws → texts (tokens n (spaced ws)) ≡ ws
texts_spaced n [] h = ap texts (tokens_none n)
texts_spaced n ([] ∷ ws) h = absurd (cc (h.0))
texts_spaced n ((b ∷ w) ∷ ws) h =
    let ih = texts_spaced (n + 1 + (1 + length w)) ws h.1 in
    let e = tokens_word (n + 1) b w (spaced ws) h.0 (spaces_end ws) in
    ap texts (tokens_space n 32 (b ∷ (w ++ spaced ws)) refl ∙ e) ∙ ap (λ (r : List (List ℕ)). (b ∷ w) ∷ r) ih

-- texts with single spaces between are the tokens of that line
pub texts_in_line : (n : ℕ) (ws : List (List ℕ)) → AllByRecursion IsSolid ws → texts (tokens n (in_line ws)) ≡ ws
texts_in_line n [] h = ap texts (tokens_none n)
texts_in_line n ([] ∷ ws) h = absurd (cc (h.0))
texts_in_line n ((b ∷ w) ∷ ws) h =
    let ih = texts_spaced (n + (1 + length w)) ws h.1 in
    ap texts (tokens_word n b w (spaced ws) h.0 (spaces_end ws)) ∙ ap (λ (r : List (List ℕ)). (b ∷ w) ∷ r) ih
