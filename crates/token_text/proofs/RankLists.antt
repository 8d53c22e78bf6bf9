-- Lists of distinct ranks, read one by one.
use Rattle.std.proofs.Common.{◌≡◌, ℕ, ◌<◌, ◌==◌, ◌&&◌, not, nat_lt, Bool, true, false, cond, List, [], ◌∷◌, ◌++◌, map, Some, None, Result, Err, decimal, refl, sym, ap, ◌∙◌, arith, append_assoc, lit<}
use Rattle.std.proofs.lemmas.Bool.Decides.{nat_tests}
use Rattle.std.proofs.lemmas.Fmt.{digits_value-decimal}
use Rattle.std.specs.List.{list_all, join_with_byte}
use Rattle.std.specs.Str.Parse.{digits_value}
use Rattle.mpi_base.specs.MemberLists.{has_rank, are_distinct, AreRanks}
use Rattle.mpi_base.proofs.MemberFacts.{ranks-append}
use Rattle.token_text.specs.Forms.{fault_of}
use Rattle.token_text.specs.Reading.{Shows, Reads}
use Rattle.token_text.specs.Numbers.{is_number, number_form}
use Rattle.token_text.specs.Texts.{is_wrapped, inside}
use Rattle.token_text.specs.Lists.{items_of, members_form}
use Rattle.token_text.specs.Steps.{first_of, others_of}
use Rattle.token_text.specs.declared.faults.TokenFault.{TokenFault}
use Rattle.token_text.specs.declared.faults.TokenFault.TheVariants.{NotOfForm}
use Rattle.token_text.proofs.Decimals.{own, decimal_number}
use Rattle.token_text.proofs.Ranges.{parts_joined}
use Rattle.token_text.proofs.Seen.{parts_are, none_left, no_more, listed, map_more, with_bad}

-- of all parts, these are still to come, and the others are texts of distinct ranks
pub record RanksSeen (all coming : List (List ℕ)) (ranks : List ℕ) : Type 0 where
  pub parts : all ≡ map decimal ranks ++ coming
  pub form : AreRanks ranks

-- before the first rank
pub no_ranks : (all : List (List ℕ)) → RanksSeen all all []
no_ranks all = record { parts = refl; form = record { distinct = refl; each = refl } }

-- one rank more
pub one_rank : (all coming left : List (List ℕ)) (t : List ℕ) (n : ℕ) (old new : List ℕ) (added : Bool) → RanksSeen all coming old → first_of coming ≡ Some t → left ≡ others_of coming → Shows (number_form 15) t n
    → added ≡ (nat_lt n 16 && not (has_rank old n)) → new ≡ cond added (old ++ n ∷ []) old → added ≡ true → RanksSeen all left new
one_rank all coming left t n old new added s e l h a p q =
    let i = parts_are coming t e in
    let x = s.parts in
    let y = h.text in
    let z = h.fits in
    let o : has_rank old n ≡ false = grind (arith, nat_tests, a, q) in
    let w : new ≡ old ++ n ∷ [] = rw q at p in
    record {
      parts = x ∙ ap (λ (ps : List (List ℕ)). map decimal old ++ ps) (i ∙ ap (λ (u : List ℕ). u ∷ others_of coming) y) ∙ sym (append_assoc (map decimal old) (decimal n ∷ []) (others_of coming)) ∙ (rw (l, w, map_more decimal old n) refl);
      form = rw w (ranks-append old n s.form (omega (arith, z)) o);
    }

-- a part that is no rank
pub bad_rank : (token : List ℕ) (coming : List (List ℕ)) (t ranks : List ℕ) (fault : TokenFault) → RanksSeen (items_of token) coming ranks → first_of coming ≡ Some t → Reads (number_form 15) t (Err fault)
    → (r : Result (List ℕ) TokenFault) → r ≡ Err fault → Reads members_form token r
bad_rank token coming t ranks fault s e h r p =
    let q = parts_are coming t e in
    let x = s.parts in
    let n : is_number 15 t ≡ false = grind (arith, h) in
    let b = with_bad (is_number 15) t (map decimal ranks) (others_of coming) n in
    let i : list_all (is_number 15) (items_of token) ≡ false = rw (x, q) b in
    let w : fault ≡ NotOfForm = grind (arith, h, n) in
    let f : fault_of members_form token ≡ Some fault = rw w (grind (arith, i)) in
    rw p f

-- ranks are read again one by one
values_again : (ranks : List ℕ) (ps : List (List ℕ)) → list_all (λ m. nat_lt m 16) ranks ≡ true → map (digits_value 10) (map decimal ranks ++ ps) ≡ ranks ++ map (digits_value 10) ps
values_again [] ps h = refl
values_again (m ∷ ms) ps h =
    let l : m < 16 = grind (arith, nat_tests, h) in
    let ih = values_again ms ps (grind (arith, h)) in
    rw (digits_value-decimal own m (omega arith), ih) refl

-- a list with a rank twice is not distinct
twice : (ranks : List ℕ) (n : ℕ) (ms : List ℕ) → has_rank ranks n ≡ true → are_distinct (ranks ++ n ∷ ms) ≡ false
twice [] n ms h = absurd (cc)
twice (m ∷ ranks) n ms h = go (m == n) refl h (twice ranks n ms)
  where
    has_it : (xs : List ℕ) → has_rank (xs ++ n ∷ ms) n ≡ true
    has_it [] = grind (arith, nat_tests)
    has_it (x ∷ xs) = let ih = has_it xs in grind (arith, nat_tests, ih)

    go : (b : Bool) → (m == n) ≡ b → has_rank (m ∷ ranks) n ≡ true → (has_rank ranks n ≡ true → are_distinct (ranks ++ n ∷ ms) ≡ false) → are_distinct (m ∷ ranks ++ n ∷ ms) ≡ false
    go true e k ih = let same : m ≡ n = grind (arith, nat_tests, e) in let x = has_it ranks in rw same (grind (arith, x))
    go false e k ih = let y : has_rank ranks n ≡ true = grind (arith, e, k) in let z = ih y in grind (arith, z)

-- a rank that is there already
pub rank_again : (token : List ℕ) (coming : List (List ℕ)) (t : List ℕ) (n : ℕ) (ranks : List ℕ) (added : Bool) → RanksSeen (items_of token) coming ranks → first_of coming ≡ Some t → Shows (number_form 15) t n
    → added ≡ (nat_lt n 16 && not (has_rank ranks n)) → added ≡ false → fault_of members_form token ≡ Some NotOfForm
rank_again token coming t n ranks added s e h a q =
    let i = parts_are coming t e in
    let x = s.parts in
    let z = h.fits in
    let y = h.text in
    let o : has_rank ranks n ≡ true = grind (arith, nat_tests, a, q, z) in
    let v = values_again ranks (decimal n ∷ others_of coming) s.form.each in
    let d = digits_value-decimal own n (omega (arith, z)) in
    let w = twice ranks n (map (digits_value 10) (others_of coming)) o in
    let u : are_distinct (map (digits_value 10) (items_of token)) ≡ false = rw (x, i, y, v, d) w in
    grind (arith, u)

-- the texts of ranks are of the form of their numbers
pub rank_texts : (ranks : List ℕ) → list_all (λ m. nat_lt m 16) ranks ≡ true → list_all (is_number 15) (map decimal ranks) ≡ true
rank_texts [] h = refl
rank_texts (m ∷ ms) h =
    let l : m < 16 = grind (arith, nat_tests, h) in
    let d = decimal_number 15 m (omega (arith, l)) (lit< tt) in
    let ih = rank_texts ms (grind (arith, h)) in
    rw (d, ih) refl

-- nothing behind
no_numbers : (xs : List ℕ) → xs ++ [] ≡ xs
no_numbers [] = refl
no_numbers (x ∷ xs) = ap (λ (r : List ℕ). x ∷ r) (no_numbers xs)

-- ranks are read again from their texts
pub values_alone : (ranks : List ℕ) → list_all (λ m. nat_lt m 16) ranks ≡ true → map (digits_value 10) (map decimal ranks) ≡ ranks
values_alone ranks h = ap (map (digits_value 10)) (sym (no_more (map decimal ranks))) ∙ values_again ranks [] h ∙ no_numbers ranks

-- all ranks were read
pub all_ranks : (token : List ℕ) (coming : List (List ℕ)) (ranks : List ℕ) → RanksSeen (items_of token) coming ranks → first_of coming ≡ None → is_wrapped 91 93 token ≡ true → Shows members_form token ranks
all_ranks token coming ranks s e w =
    let x : items_of token ≡ map decimal ranks ++ [] = s.parts ∙ ap (λ (ps : List (List ℕ)). map decimal ranks ++ ps) (none_left coming e) in
    let y = x ∙ no_more (map decimal ranks) in
    let v = values_alone ranks s.form.each in
    let a = rank_texts ranks s.form.each in
    let d = s.form.distinct in
    record {
      good = rw (w, y, v, a, d) refl;
      text = listed token w ∙ ap (λ (t : List ℕ). 91 ∷ (t ++ 93 ∷ [])) (sym (parts_joined 44 (inside token)) ∙ ap (join_with_byte 44) y);
      fits = s.form;
    }
