-- Lists of ids, each made of a serial of a range.
use Rattle.std.proofs.Common.{◌≡◌, ℕ, zero, suc, ◌+◌, ◌<◌, ◌≤◌, ◌==◌, ◌||◌, if◌then◌else◌, Bool, true, false, not, List, [], ◌∷◌, ◌++◌, map, filter, Option, Some, None, is_some, refl, ap, ◌∙◌, add-one, arith}
use Rattle.std.specs.List.{list_any, list_all, filter_map, cons_option, range_with_len}
use Rattle.std.specs.List.Sorted.{IsStrictlyIncreasing}
use Rattle.std.proofs.lemmas.Bool.Decides.{nat_tests}
use Rattle.std.proofs.lemmas.List.FromFn.{length-range_with_len, get_or-range_with_len}
use Rattle.std.proofs.lemmas.List.Elements.{filter_map-append}
use Rattle.session_tab.specs.declared.ids.SessionId.{SessionId}
use Rattle.session_tab.specs.Ids.{same_id, has_id}

-- whether there is an id that passes
abbrev pub passes : (SessionId → Bool) → Option SessionId → Bool
passes test None = false
passes test (Some id) = test id

-- the id, where it passes
abbrev pub kept : (SessionId → Bool) → Option SessionId → Option SessionId
kept test None = None
kept test (Some id) = if test id then Some id else None

pub list_any-cons_option : (test : SessionId → Bool) (id : Option SessionId) (ids : List SessionId)
    → list_any test (cons_option id ids) ≡ (passes test id || list_any test ids)
list_any-cons_option test None ids = refl
list_any-cons_option test (Some id) ids = refl

pub list_all-cons_option : (test : SessionId → Bool) (id : Option SessionId) (ids : List SessionId)
    → passes (λ other. not (test other)) id ≡ false → list_all test (cons_option id ids) ≡ list_all test ids
list_all-cons_option test None ids pass = refl
list_all-cons_option test (Some id) ids pass = grind (arith, pass)

pub filter-cons_option : (test : SessionId → Bool) (id : Option SessionId) (ids : List SessionId)
    → filter test (cons_option id ids) ≡ cons_option (kept test id) (filter test ids)
filter-cons_option test None ids = refl
filter-cons_option test (Some id) ids = grind (arith)

-- where none passes
pub any_none : (test : SessionId → Bool) (ids : ℕ → Option SessionId) (serials : List ℕ) → ((serial : ℕ) → passes test (ids serial) ≡ false)
    → list_any test (filter_map ids serials) ≡ false
any_none test ids [] fails = refl
any_none test ids (serial ∷ serials) fails =
    let later = any_none test ids serials fails in
    let here = fails serial in
    grind (arith, list_any-cons_option test (ids serial) (filter_map ids serials), here, later)

-- where the id of a serial in the range passes
pub any_some : (test : SessionId → Bool) (ids : ℕ → Option SessionId) (count first serial : ℕ) → first ≤ serial → serial < first + count
    → passes test (ids serial) ≡ true → list_any test (filter_map ids (range_with_len first count)) ≡ true
any_some test ids zero first serial from below found = absurd (omega (arith, from, below))
any_some test ids (suc count) first serial from below found =
    go (first == serial) refl (λ above. any_some test ids count (first + 1) serial above (omega (arith, below)) found)
  where
    both : list_any test (filter_map ids (range_with_len first (suc count))) ≡ (passes test (ids first) || list_any test (filter_map ids (range_with_len (first + 1) count)))
    both = list_any-cons_option test (ids first) (filter_map ids (range_with_len (first + 1) count))

    go : (b : Bool) → (first == serial) ≡ b → (first + 1 ≤ serial → list_any test (filter_map ids (range_with_len (first + 1) count)) ≡ true)
        → list_any test (filter_map ids (range_with_len first (suc count))) ≡ true
    go true same later =
        let equal : first ≡ serial = grind (arith, nat_tests, same) in
        let here : passes test (ids first) ≡ true = ap (λ k. passes test (ids k)) equal ∙ found in
        grind (arith, both, here)
    go false differs later =
        let above : first + 1 ≤ serial = grind (arith, nat_tests, differs, from) in
        let there = later above in
        grind (arith, both, there)

-- where each id of the range passes
pub all_some : (test : SessionId → Bool) (ids : ℕ → Option SessionId) (count first : ℕ)
    → ((serial : ℕ) → first ≤ serial → serial < first + count → passes (λ id. not (test id)) (ids serial) ≡ false)
    → list_all test (filter_map ids (range_with_len first count)) ≡ true
all_some test ids zero first each = refl
all_some test ids (suc count) first each =
    let later = all_some test ids count (first + 1) (λ serial from below. each serial (omega (arith, from)) (omega (arith, below))) in
    let here = each first (omega arith) (omega arith) in
    list_all-cons_option test (ids first) (filter_map ids (range_with_len (first + 1) count)) here ∙ later

-- ids that are the same in the range
pub same_ids : (ids others : ℕ → Option SessionId) (count first : ℕ) → ((serial : ℕ) → first ≤ serial → serial < first + count → ids serial ≡ others serial)
    → filter_map ids (range_with_len first count) ≡ filter_map others (range_with_len first count)
same_ids ids others zero first each = refl
same_ids ids others (suc count) first each =
    let later = same_ids ids others count (first + 1) (λ serial from below. each serial (omega (arith, from)) (omega (arith, below))) in
    let here = each first (omega arith) (omega arith) in
    grind (arith, here, later)

-- the ids that pass
pub kept_ids : (test : SessionId → Bool) (ids others : ℕ → Option SessionId) (serials : List ℕ) → ((serial : ℕ) → others serial ≡ kept test (ids serial))
    → filter_map others serials ≡ filter test (filter_map ids serials)
kept_ids test ids others [] each = refl
kept_ids test ids others (serial ∷ serials) each =
    let later = kept_ids test ids others serials each in
    let here = each serial in
    grind (arith, filter-cons_option test (ids serial) (filter_map ids serials), here, later)

-- a range of one number more
pub range_with_len-more : (first count : ℕ) → range_with_len first (suc count) ≡ range_with_len first count ++ (first + count) ∷ []
range_with_len-more first zero = grind (arith)
range_with_len-more first (suc count) =
    let later = range_with_len-more (first + 1) count in
    grind (arith, later)

-- the ids of one serial more
pub ids-more : (ids : ℕ → Option SessionId) (count : ℕ)
    → filter_map ids (range_with_len 1 (count + 1)) ≡ filter_map ids (range_with_len 1 count) ++ cons_option (ids (count + 1)) []
ids-more ids count =
    let last : 1 + count ≡ count + 1 = omega arith in
    ap (λ n. filter_map ids (range_with_len 1 n)) (add-one count) ∙ ap (filter_map ids) (range_with_len-more 1 count)
    ∙ filter_map-append ids (range_with_len 1 count) ((1 + count) ∷ [])
    ∙ ap (λ n. filter_map ids (range_with_len 1 count) ++ cons_option (ids n) []) last

-- the serials, where an id has the serial that it was asked for
pub serials-cons_option : (found : Option SessionId) (serial : ℕ) (ids : List SessionId) (serials : List ℕ)
    → ((id : SessionId) → found ≡ Some id → id.serial ≡ serial) → map (λ id. id.serial) ids ≡ serials
    → map (λ id. id.serial) (cons_option found ids) ≡ (if is_some found then serial ∷ serials else serials)
serials-cons_option None serial ids serials named later = later
serials-cons_option (Some id) serial ids serials named later =
    let here = named id refl in
    grind (arith, here, later)

-- the numbers of a range rise
pub rising_range : (first count : ℕ) → IsStrictlyIncreasing (range_with_len first count)
rising_range first count k within =
    let long = length-range_with_len first count in
    let here = get_or-range_with_len first count k 0 (omega (arith, within, long)) in
    let next = get_or-range_with_len first count (k + 1) 0 (omega (arith, within, long)) in
    omega (arith, here, next)

-- an id that is not there may be taken out
pub filter_absent : (ids : List SessionId) (id : SessionId) → has_id ids id ≡ false → ids ≡ filter (λ other. not (same_id other id)) ids
filter_absent [] id absent = refl
filter_absent (other ∷ ids) id absent = go (same_id id other) refl (filter_absent ids id)
  where
    go : (b : Bool) → same_id id other ≡ b → (has_id ids id ≡ false → ids ≡ filter (λ other. not (same_id other id)) ids)
        → other ∷ ids ≡ filter (λ other. not (same_id other id)) (other ∷ ids)
    go true same later = absurd (cc (absent, same))
    go false differs later =
        let turned : same_id other id ≡ false = grind (arith, nat_tests, differs) in
        let rest : has_id ids id ≡ false = grind (arith, absent, differs) in
        let same = later rest in
        grind (arith, turned, same)

-- ids that no id passes may be taken out
pub filter_none : (ids : List SessionId) (test : SessionId → Bool) → list_any test ids ≡ false → ids ≡ filter (λ id. not (test id)) ids
filter_none [] test none = refl
filter_none (id ∷ ids) test none =
    let here : test id ≡ false = grind (arith, none) in
    let rest : list_any test ids ≡ false = grind (arith, none, here) in
    let same = filter_none ids test rest in
    grind (arith, here, same)
