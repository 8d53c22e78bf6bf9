-- A text cut at its marks.
use Rattle.std.proofs.Common.{◌≡◌, ℕ, zero, suc, ◌+◌, ◌<◌, ◌≤◌, ◌==◌, Bool, true, false, cond, List, [], ◌∷◌, length, take, drop, Option, Some, None, position, Bor, refl, sym, ap, ◌∙◌, subst, arith, add-one}
use Rattle.std.proofs.lemmas.Grind.{common_steps}
use Rattle.std.proofs.lemmas.Bool.Decides.{nat_tests}
use Rattle.std.proofs.lemmas.List.Recursion.{is_position_or_len}
use Rattle.std.proofs.lemmas.List.Splits.{slice_split_first}
use Rattle.std.specs.List.{position_or_len, slice_split}
use Rattle.std.specs.Option.{option_copied}
use Rattle.token_text.specs.Steps.{Ahead, parts_ahead, others_of}

-- how many bytes stand before the first that passes
abbrev run : (ℕ → Bool) → List ℕ → ℕ
run p [] = 0
run p (b ∷ bs) = cond (p b) 0 (suc (run p bs))

-- one before, or one behind
one_more : (n : ℕ) → suc n ≡ 1 + n
one_more n = omega arith

-- the same in std's word
run_is : (p : ℕ → Bool) (bs : List ℕ) → run p bs ≡ position_or_len p bs
run_is p bs = is_position_or_len (run p) p refl (λ x xs. rw (one_more (run p xs)) refl) bs

-- no more than there are
run_le : (p : ℕ → Bool) (bs : List ℕ) → run p bs ≤ length bs
run_le p [] = omega arith
run_le p (b ∷ bs) = let ih = run_le p bs in grind (arith, ih)

-- the place that `position` gives
at_place : (p : ℕ → Bool) (bs : List ℕ) (i : ℕ) → position p bs ≡ Some i → position_or_len p bs ≡ i
at_place p bs i h = grind (arith, nat_tests, common_steps, h)

-- all of them where `position` gives none
no_place : (p : ℕ → Bool) (bs : List ℕ) → position p bs ≡ None → position_or_len p bs ≡ length bs
no_place p bs h = let l = subst (λ (n : ℕ). n ≤ length bs) (run_is p bs) (run_le p bs) in grind (arith, nat_tests, common_steps, h, l)

-- where no byte is a mark, there is one part
uncut : (p : ℕ → Bool) (t : List ℕ) → run p t ≡ length t → slice_split p t ≡ t ∷ []
uncut p [] h = refl
uncut p (b ∷ bs) h = go (p b) refl h (uncut p bs)
  where
    go : (c : Bool) → p b ≡ c → cond c 0 (suc (run p bs)) ≡ suc (length bs) → (run p bs ≡ length bs → slice_split p bs ≡ bs ∷ []) → slice_split p (b ∷ bs) ≡ (b ∷ bs) ∷ []
    go true e k ih = absurd (omega (arith, k))
    go false e k ih = let l : run p bs ≡ length bs = omega (arith, k) in rw (e, ih l) refl

-- a text with no mark is one part
cut_none : (p : ℕ → Bool) (t : List ℕ) → position p t ≡ None → slice_split p t ≡ t ∷ []
cut_none p t h = uncut p t (run_is p t ∙ no_place p t h)

-- one byte more left out
drop_suc : (i : ℕ) (t : List ℕ) → drop (suc i) t ≡ drop 1 (drop i t)
drop_suc zero t = refl
drop_suc (suc i) [] = refl
drop_suc (suc i) (b ∷ bs) = drop_suc i bs

-- the same with `+`
drop_drop_one : (i : ℕ) (t : List ℕ) → drop (i + 1) t ≡ drop 1 (drop i t)
drop_drop_one i t = rw add-one (drop_suc i t)

-- at the first mark a part ends, and more parts follow
cut_some : (p : ℕ → Bool) (t : List ℕ) (i : ℕ) → position p t ≡ Some i → i < length t → slice_split p t ≡ take i t ∷ slice_split p (drop 1 (drop i t))
cut_some p t i h l =
    let e = at_place p t i h in
    let s = slice_split_first p t 0 (rw e l) in
    rw (← drop_drop_one i t) (rw e at s)

-- parts that are still to come, with their mark
abbrev pub coming : ℕ → List (List ℕ) → Ahead
coming m ts = record { mark = m; parts = ts }

-- where a rest is left, its parts are ahead
ahead : (m : ℕ) (o : Option (Bor (List ℕ))) (rest : Bor (List ℕ)) (now : Ahead) → coming m (parts_ahead m (option_copied o)) ≡ now → o ≡ Some rest → now ≡ coming m (slice_split (λ b. b == m) rest.now)
ahead m o rest now h e = sym h ∙ ap (λ (p : Option (Bor (List ℕ))). coming m (parts_ahead m (option_copied p))) e

-- the last part
pub last_part : (m : ℕ) (o : Option (Bor (List ℕ))) (rest : Bor (List ℕ)) (now : Ahead) → coming m (parts_ahead m (option_copied o)) ≡ now → o ≡ Some rest → position (λ b. b == m) rest.now ≡ None → now ≡ coming m (rest.now ∷ [])
last_part m o rest now h e n = ahead m o rest now h e ∙ ap (coming m) (cut_none (λ b. b == m) rest.now n)

-- a part that a mark ends
pub marked_part : (m i : ℕ) (o : Option (Bor (List ℕ))) (rest : Bor (List ℕ)) (now : Ahead) → coming m (parts_ahead m (option_copied o)) ≡ now → o ≡ Some rest → position (λ b. b == m) rest.now ≡ Some i → i < length rest.now
    → now ≡ coming m (take i rest.now ∷ slice_split (λ b. b == m) (drop 1 (drop i rest.now)))
marked_part m i o rest now h e n l = ahead m o rest now h e ∙ ap (coming m) (cut_some (λ b. b == m) rest.now i n l)

-- what is left behind the next part
abbrev pub behind : Ahead → Ahead
behind a = record { mark = a.mark; parts = others_of a.parts }
