-- The places of the last entries, entry by entry.
use Rattle.std.proofs.Common.{◌≡◌, ℕ, suc, ◌+◌, ◌<◌, ◌==◌, ◌&&◌, Bool, true, false, not, if◌then◌else◌, List, [], ◌∷◌, ◌++◌, length, get_or, set, take, drop, reverse, replicate, slice_get, Option, Some, None, inl, inr, refl, sym, ap, subst, ◌∙◌, arith}
use Rattle.std.specs.List.{after_first, prefix_len}
use Rattle.std.proofs.lemmas.List.{take_more, length-set, reverse-append, get_or-replicate, get_or-set_same, get_or-set_other}
use Rattle.std.proofs.lemmas.Option.{slice_get_read}
use Rattle.std.proofs.lemmas.Bool.{cases_eq}
use Rattle.std.proofs.lemmas.Bool.Decides.{nat_tests}
use Rattle.mpi_base.specs.declared.entries.Entry.{Entry}
use Rattle.stuck_report.specs.Waits.{thread_in, is_thread, is_entry_of, last_of}
use Rattle.stuck_report.specs.Missing.{before_last}
use Rattle.stuck_report.specs.Places.{slot_of, is_in_table, noted_at, noted, entry_at, before_place, TellsLast}

-- the last entry, with one entry more
pub last_of-push : (es : List Entry) (e : Entry) (r t : ℕ) → last_of (es ++ e ∷ []) r t ≡ (if is_entry_of r t e then Some e else last_of es r t)
last_of-push es e r t = rw (reverse-append es (e ∷ [])) refl

-- what stands behind the first item that passes, with one item before
after_first-cons : {X : Type 0} (p : X → Bool) (x : X) (xs : List X) → after_first p (x ∷ xs) ≡ (if p x then xs else after_first p xs)
after_first-cons p x xs = step (p x) refl
  where
    n : ℕ
    n = prefix_len (λ y. not (p y)) xs

    step : (b : Bool) → p x ≡ b → after_first p (x ∷ xs) ≡ (if b then xs else after_first p xs)
    step true e = rw e refl
    step false e = rw e (ap (λ k. drop k (x ∷ xs)) (let h : 1 + n + 1 ≡ suc (n + 1) = omega arith in h))

-- the entries before the last one, with one entry more
pub before_last-push : (es : List Entry) (e : Entry) (r t : ℕ) → before_last (es ++ e ∷ []) r t ≡ (if is_entry_of r t e then reverse es else before_last es r t)
before_last-push es e r t = rw (reverse-append es (e ∷ [])) (after_first-cons (is_entry_of r t) e (reverse es))

-- an empty table tells of no entries
pub tells_none : (es : List Entry) → TellsLast (replicate 128 None) es []
tells_none es = record {
  each = λ r t r_below t_below. ap (entry_at es) (get_or-replicate 128 (slot_of r t) None None (omega arith));
  before = λ r t r_below t_below. ap (before_place es) (get_or-replicate 128 (slot_of r t) None None (omega arith));
}

-- the table keeps its size
pub noted_size : (places : List (Option ℕ)) (place : ℕ) (e : Entry) → length (noted places place e) ≡ length places
noted_size places place e = step (thread_in e.choice.act)
  where
    set_size : (q u : ℕ) (b : Bool) → length (if b then set places (slot_of q u) (Some place) else places) ≡ length places
    set_size q u true = length-set places (slot_of q u) (Some place)
    set_size q u false = refl

    step : (s : Option ℕ) → length (noted_at places place e.choice.rank s) ≡ length places
    step None = refl
    step (Some u) = set_size e.choice.rank u (is_in_table e.choice.rank u)

-- a table with one place more
module _ (places : List (Option ℕ)) (es : List Entry) (place : ℕ) (e : Entry) (size : length places ≡ 128) (there : slice_get es place ≡ Some e) where
  -- in the table a thread is told by its slot
  thread_below : (q u : ℕ) → is_in_table q u ≡ true → u < 8
  thread_below q u inside = grind (arith, nat_tests, inside)

  other_slot : (q u r t : ℕ) → t < 8 → (q ≡ r → u ≡ t → ⊥) → (b : Bool) → is_in_table q u ≡ b
      → get_or (if b then set places (slot_of q u) (Some place) else places) (slot_of r t) None ≡ get_or places (slot_of r t) None
  other_slot q u r t t_below apart false inside = refl
  other_slot q u r t t_below apart true inside =
      let u_below = thread_below q u inside in
      get_or-set_other places (slot_of q u) (slot_of r t) (Some place) None (λ same. apart (omega (arith, same, u_below, t_below)) (omega (arith, same, u_below, t_below)))

  same_slot : (q u : ℕ) → q < 16 → u < 8 → get_or (noted_at places place q (Some u)) (slot_of q u) None ≡ Some place
  same_slot q u q_below u_below =
      let inside : is_in_table q u ≡ true = grind (arith, nat_tests) in
      rw inside (get_or-set_same places (slot_of q u) (Some place) None (omega (arith, size)))

  told : (q r t : ℕ) (s : Option ℕ) → r < 16 → t < 8
      → get_or (noted_at places place q s) (slot_of r t) None ≡ (if (q == r) && is_thread t s then Some place else get_or places (slot_of r t) None)
  told q r t None r_below t_below = grind (arith, nat_tests)
  told q r t (Some u) r_below t_below =
      elim (cases_eq q r) [
        | inl same_rank ↦
            elim (cases_eq u t) [
              | inl same_thread ↦
                  let now : get_or (noted_at places place q (Some u)) (slot_of r t) None ≡ Some place = subst (λ k. get_or (noted_at places place q (Some u)) k None ≡ Some place) (let e : slot_of q u ≡ slot_of r t = omega (arith, same_rank, same_thread) in e) (same_slot q u (omega (arith, same_rank, r_below)) (omega (arith, same_thread, t_below))) in
                  let here : ((q == r) && (u == t)) ≡ true = grind (arith, nat_tests, same_rank, same_thread) in
                  rw here now
              | inr apart ↦
                  let there' : ((q == r) && (u == t)) ≡ false = grind (arith, nat_tests, apart) in
                  rw there' (other_slot q u r t t_below (λ a b. apart b) (is_in_table q u) refl)
            ]
        | inr apart ↦
            let there' : ((q == r) && (u == t)) ≡ false = grind (arith, nat_tests, apart) in
            rw there' (other_slot q u r t t_below (λ a b. apart a) (is_in_table q u) refl)
      ]

  entry_now : (b : Bool) (old : Option ℕ) (last : Option Entry) → entry_at es old ≡ last → entry_at es (if b then Some place else old) ≡ (if b then Some e else last)
  entry_now true old last was = there
  entry_now false old last was = was

  before_now : (b : Bool) (old : Option ℕ) (before : List Entry) → before_place es old ≡ before → before_place es (if b then Some place else old) ≡ (if b then reverse (take place es) else before)
  before_now true old before was = refl
  before_now false old before was = was

  pub tells_more : TellsLast places es (take place es) → TellsLast (noted places place e) es (take place es ++ e ∷ [])
  tells_more tells =
      let seen = take place es in
      record {
        each = λ r t r_below t_below.
            rw (last_of-push seen e r t, told e.choice.rank r t (thread_in e.choice.act) r_below t_below)
            (entry_now (is_entry_of r t e) (get_or places (slot_of r t) None) (last_of seen r t) (tells.each r t r_below t_below));
        before = λ r t r_below t_below.
            rw (before_last-push seen e r t, told e.choice.rank r t (thread_in e.choice.act) r_below t_below)
            (before_now (is_entry_of r t e) (get_or places (slot_of r t) None) (before_last seen r t) (tells.before r t r_below t_below));
      }

-- One entry more of a list, and all of them

module _ (es : List Entry) (place : ℕ) (e : Entry) (below : place < length es) (at : e ≡ get_or es place e) where
  one_more : take (place + 1) es ≡ take place es ++ e ∷ []
  one_more = take_more es place e below ∙ ap (λ x. take place es ++ x ∷ []) (sym at)

  found : slice_get es place ≡ Some e
  found = slice_get_read es (length es) place e refl below at

  pub tells_next : (places : List (Option ℕ)) → length places ≡ 128 → TellsLast places es (take place es) → TellsLast (noted places place e) es (take (place + 1) es)
  tells_next places size tells = rw one_more (tells_more places es place e size found tells)

  pub last_here : (r t : ℕ) → is_entry_of r t e ≡ true → entry_at es (Some place) ≡ last_of (take (place + 1) es) r t
  last_here r t here = rw (one_more, last_of-push (take place es) e r t, here) found

  pub before_here : (r t : ℕ) → is_entry_of r t e ≡ true → before_place es (Some place) ≡ before_last (take (place + 1) es) r t
  before_here r t here = rw (one_more, before_last-push (take place es) e r t, here) refl

  pub last_stays : (r t : ℕ) (last : Option ℕ) → is_entry_of r t e ≡ false → entry_at es last ≡ last_of (take place es) r t → entry_at es last ≡ last_of (take (place + 1) es) r t
  last_stays r t last other was = rw (one_more, last_of-push (take place es) e r t, other) was

  pub before_stays : (r t : ℕ) (last : Option ℕ) → is_entry_of r t e ≡ false → before_place es last ≡ before_last (take place es) r t → before_place es last ≡ before_last (take (place + 1) es) r t
  before_stays r t last other was = rw (one_more, before_last-push (take place es) e r t, other) was
