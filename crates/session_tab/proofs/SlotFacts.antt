-- What the slots of the table say of the sessions that are live.
use Rattle.std.proofs.Common.{◌≡◌, ◌≢◌, ◌⊎◌, ℕ, ◌+◌, ◌<◌, ◌≤◌, ◌==◌, ◌&&◌, Bool, true, false, not, nat_lt, nat_le, List, [], ◌∷◌, ◌++◌, length, map, filter, get_or, Option, Some, None, is_some, find, position, option_map, refl, sym, ap, subst, ◌∙◌, inl, inr, arith}
use Rattle.std.specs.List.{list_all, list_any, filter_map, cons_option, range_with_len}
use Rattle.std.specs.List.Sorted.{IsStrictlyIncreasing}
use Rattle.std.proofs.lemmas.Bool.Decides.{nat_tests}
use Rattle.std.proofs.lemmas.Bool.{cases_eq}
use Rattle.std.proofs.lemmas.List.{get_or_past}
use Rattle.std.proofs.lemmas.List.Sums.{position_or_len_is}
use Rattle.std.proofs.lemmas.List.Quantifiers.{position-Some}
use Rattle.std.proofs.lemmas.List.Kept.{IsStrictlyIncreasing-filter}
use Rattle.slab.specs.Slab.{Slab, Updates, entries_from}
use Rattle.session_tab.specs.declared.ids.SessionId.{SessionId}
use Rattle.session_tab.specs.Ids.{same_id, has_id, AreGiven}
use Rattle.session_tab.proofs.IdLists.{passes, kept, any_none, any_some, all_some, same_ids, kept_ids, ids-more, serials-cons_option, rising_range}
use Rattle.session_tab.specs.Slots.{holds, id_in, live_in, AreSlots}

-- what a slot with a serial is
holds_is : (serial : ℕ) (slot : Option ℕ) → holds serial slot ≡ true → slot ≡ Some serial
holds_is serial None found = absurd (cc (found))
holds_is serial (Some other) found = ap Some (grind (arith, nat_tests, found))

-- a slot that has a serial is there
holds_within : (slots : List (Option ℕ)) (serial k : ℕ) → holds serial (get_or slots k None) ≡ true → k < length slots
holds_within slots serial k found = grind (arith, nat_tests, get_or_past, found)

-- the first slot that has a serial is where it is found
position_is : (slots : List (Option ℕ)) (serial k : ℕ) → holds serial (get_or slots k None) ≡ true
    → ((j : ℕ) → j < k → holds serial (get_or slots j None) ≡ false) → position (holds serial) slots ≡ Some k
position_is slots serial k here before =
    let within = holds_within slots serial k here in
    let first = position_or_len_is (holds serial) slots k None (omega (arith, within)) before (λ q. here) in
    grind (arith, nat_tests, first, within)

-- a serial that no slot has is not found
position_none : (slots : List (Option ℕ)) (serial : ℕ) → ((j : ℕ) → holds serial (get_or slots j None) ≡ false)
    → position (holds serial) slots ≡ None
position_none slots serial absent = go (position (holds serial) slots) refl
  where
    go : (found : Option ℕ) → position (holds serial) slots ≡ found → found ≡ None
    go None is = refl
    go (Some k) is = absurd (cc (absent k, (position-Some (holds serial) slots k None is).1))

-- the id of a serial that a slot has
id_in-at : (slots : List (Option ℕ)) (count slot serial : ℕ) → AreSlots slots count → get_or slots slot None ≡ Some serial
    → id_in slots serial ≡ Some (record { slot = slot; serial = serial })
id_in-at slots count slot serial are here =
    let at = position_is slots serial slot (grind (arith, nat_tests, here)) (λ j below. other j below (get_or slots j None) refl) in
    rw at refl
  where
    other : (j : ℕ) → j < slot → (found : Option ℕ) → get_or slots j None ≡ found → holds serial (get_or slots j None) ≡ false
    other j below None is = rw is refl
    other j below (Some n) is = rw is (go n (n == serial) is refl)
      where
        go : (n : ℕ) (b : Bool) → get_or slots j None ≡ Some n → (n == serial) ≡ b → b ≡ false
        go n false is same = refl
        go n true is same =
            let equal : n ≡ serial = grind (arith, nat_tests, same) in
            absurd (omega (arith, below, are.alone j slot serial (is ∙ ap Some equal) here))

-- where the id of a serial is found
id_in-found : (slots : List (Option ℕ)) (serial : ℕ) (id : SessionId) → id_in slots serial ≡ Some id
    → (get_or slots id.slot None ≡ Some serial) × (id.serial ≡ serial)
id_in-found slots serial id is = go (position (holds serial) slots) refl
  where
    go : (found : Option ℕ) → position (holds serial) slots ≡ found → (get_or slots id.slot None ≡ Some serial) × (id.serial ≡ serial)
    go None at = absurd (cc (is, at))
    go (Some k) at =
        let found = position-Some (holds serial) slots k None at in
        let here = holds_is serial (get_or slots k None) found.1 in
        grind (arith, at, is, here)

-- whether an id is live is told by its slot
pub has_id-live : (slots : List (Option ℕ)) (count : ℕ) (id : SessionId) → AreSlots slots count
    → has_id (live_in slots count) id ≡ holds id.serial (get_or slots id.slot None)
has_id-live slots count id are = go (holds id.serial (get_or slots id.slot None)) refl
  where
    absent : holds id.serial (get_or slots id.slot None) ≡ false → (serial : ℕ) (found : Option SessionId) → id_in slots serial ≡ found
        → passes (same_id id) (id_in slots serial) ≡ false
    absent fails serial None is = rw is refl
    absent fails serial (Some other) is = rw is (differs (same_id id other) refl)
      where
        differs : (b : Bool) → same_id id other ≡ b → b ≡ false
        differs false same = refl
        differs true same =
            let at = id_in-found slots serial other is in
            grind (arith, nat_tests, fails, same, at.0, at.1)

    go : (b : Bool) → holds id.serial (get_or slots id.slot None) ≡ b → has_id (live_in slots count) id ≡ b
    go false fails = any_none (same_id id) (id_in slots) (range_with_len 1 count) (λ serial. absent fails serial (id_in slots serial) refl)
    go true found =
        let here = holds_is id.serial (get_or slots id.slot None) found in
        let within = are.each id.slot id.serial here in
        any_some (same_id id) (id_in slots) count 1 id.serial (omega (arith, within.0)) (omega (arith, within.1))
        (grind (arith, nat_tests, id_in-at slots count id.slot id.serial are here))

-- where a serial is found is told by which slots have it
same_position : (old new : List (Option ℕ)) (serial : ℕ) → ((j : ℕ) → holds serial (get_or new j None) ≡ holds serial (get_or old j None))
    → position (holds serial) new ≡ position (holds serial) old
same_position old new serial same = go (position (holds serial) old) refl
  where
    go : (found : Option ℕ) → position (holds serial) old ≡ found → position (holds serial) new ≡ position (holds serial) old
    go (Some k) at =
        let first = position-Some (holds serial) old k None at in
        position_is new serial k (same k ∙ first.1) (λ j below. same j ∙ first.2 j below) ∙ sym at
    go None at = here (position (holds serial) new) refl
      where
        here : (found : Option ℕ) → position (holds serial) new ≡ found → position (holds serial) new ≡ position (holds serial) old
        here None is = is ∙ sym at
        here (Some k) is =
            let first = position-Some (holds serial) new k None is in
            absurd (cc (at, position_is old serial k (sym (same k) ∙ first.1) (λ j below. sym (same j) ∙ first.2 j below)))

-- a place is the one that changed, or keeps what it had
put_cases : (old new : Slab ℕ) (slot : ℕ) (serial : Option ℕ) → Updates old new slot serial → (other : ℕ)
    → ((other ≡ slot) × (get_or new.slots other None ≡ serial)) ⊎ ((other ≢ slot) × (get_or new.slots other None ≡ get_or old.slots other None))
put_cases old new slot serial puts other = elim (cases_eq other slot) [
  | inl same ↦ inl (same, ap (λ k. get_or new.slots k None) same ∙ puts.changed)
  | inr differs ↦ inr (differs, puts.others other differs)
]

-- a serial that neither the old value nor the new one of the slot is keeps its place
kept_position : (old new : Slab ℕ) (slot : ℕ) (put : Option ℕ) → Updates old new slot put → (serial : ℕ)
    → holds serial put ≡ false → holds serial (get_or old.slots slot None) ≡ false → id_in new.slots serial ≡ id_in old.slots serial
kept_position old new slot put puts serial not_new not_old =
    ap (option_map (λ at. record { slot = at; serial = serial })) (same_position old.slots new.slots serial each)
  where
    each : (j : ℕ) → holds serial (get_or new.slots j None) ≡ holds serial (get_or old.slots j None)
    each j = elim (put_cases old new slot put puts j) [
      | inl here ↦ ap (holds serial) here.1 ∙ not_new ∙ sym not_old ∙ ap (λ k. holds serial (get_or old.slots k None)) (sym here.0)
      | inr there ↦ ap (holds serial) there.1
    ]

-- a serial above the count is in no slot
not_given : (slots : List (Option ℕ)) (count : ℕ) → AreSlots slots count → (serial j : ℕ) → count < serial → holds serial (get_or slots j None) ≡ false
not_given slots count are serial j above = go (holds serial (get_or slots j None)) refl
  where
    go : (b : Bool) → holds serial (get_or slots j None) ≡ b → b ≡ false
    go false is = refl
    go true is = absurd (omega (arith, above, (are.each j serial (holds_is serial (get_or slots j None) is)).1))

-- a session more, with the serial after all others
pub live_in-added : (old new : Slab ℕ) (count slot : ℕ) → AreSlots old.slots count → get_or old.slots slot None ≡ None
    → Updates old new slot (Some (count + 1))
    → live_in new.slots (count + 1) ≡ live_in old.slots count ++ record { slot = slot; serial = count + 1 } ∷ []
live_in-added old new count slot are vacant puts =
    let same = same_ids (id_in new.slots) (id_in old.slots) count 1 (λ serial from below.
    kept_position old new slot (Some (count + 1)) puts serial (grind (arith, nat_tests, below)) (ap (holds serial) vacant)) in
    let last : id_in new.slots (count + 1) ≡ Some (record { slot = slot; serial = count + 1 }) =
    ap (option_map (λ at. record { slot = at; serial = count + 1 })) (position_is new.slots (count + 1) slot (ap (holds (count + 1)) puts.changed ∙ grind (arith, nat_tests)) before) in
    ids-more (id_in new.slots) count ∙ ap (λ ids. ids ++ cons_option (id_in new.slots (count + 1)) []) same
    ∙ ap (λ id. live_in old.slots count ++ cons_option id []) last
  where
    before : (j : ℕ) → j < slot → holds (count + 1) (get_or new.slots j None) ≡ false
    before j below = ap (holds (count + 1)) (puts.others j (λ same. omega (arith, below, same))) ∙ not_given old.slots count are (count + 1) j (omega arith)

-- a session less, where the test keeps all with another serial
live_in-without : (old new : Slab ℕ) (count : ℕ) (id : SessionId) (test : SessionId → Bool) → AreSlots old.slots count
    → get_or old.slots id.slot None ≡ Some id.serial → Updates old new id.slot None
    → test id ≡ false → ((other : SessionId) → other.serial ≢ id.serial → test other ≡ true)
    → live_in new.slots count ≡ filter test (live_in old.slots count)
live_in-without old new count id test are here puts fails passes = kept_ids test (id_in old.slots) (id_in new.slots) (range_with_len 1 count) each
  where
    keeps : Option SessionId → Option SessionId
    keeps = kept test

    was : id_in old.slots id.serial ≡ Some id
    was = id_in-at old.slots count id.slot id.serial are here

    nowhere : (j : ℕ) → holds id.serial (get_or new.slots j None) ≡ false
    nowhere j = elim (put_cases old new id.slot None puts j) [
      | inl at ↦ ap (holds id.serial) at.1
      | inr away ↦ ap (holds id.serial) away.1 ∙ alone j away.0 (holds id.serial (get_or old.slots j None)) refl
    ]
      where
        alone : (j : ℕ) → j ≢ id.slot → (b : Bool) → holds id.serial (get_or old.slots j None) ≡ b → holds id.serial (get_or old.slots j None) ≡ false
        alone j away false is = is
        alone j away true is = absurd (away (are.alone j id.slot id.serial (holds_is id.serial (get_or old.slots j None) is) here))

    gone : id_in new.slots id.serial ≡ keeps (Some id)
    gone = ap (option_map (λ at. record { slot = at; serial = id.serial })) (position_none new.slots id.serial nowhere) ∙ grind (arith, fails)

    other : (serial : ℕ) → serial ≢ id.serial → holds serial (get_or old.slots id.slot None) ≡ false
    other serial differs = ap (holds serial) here ∙ grind (arith, nat_tests, differs)

    stays : (serial : ℕ) → serial ≢ id.serial → (found : Option SessionId) → id_in old.slots serial ≡ found → id_in old.slots serial ≡ keeps (id_in old.slots serial)
    stays serial differs None is = is ∙ sym (ap keeps is)
    stays serial differs (Some found) is =
        let serial_is = (id_in-found old.slots serial found is).1 in
        let pass = passes found (λ same. differs (sym serial_is ∙ same)) in
        let kept_is : Some found ≡ keeps (Some found) = grind (arith, pass) in
        is ∙ kept_is ∙ sym (ap keeps is)

    each : (serial : ℕ) → id_in new.slots serial ≡ kept test (id_in old.slots serial)
    each serial = elim (cases_eq serial id.serial) [
      | inl same ↦ ap (id_in new.slots) same ∙ gone ∙ sym (ap keeps was) ∙ ap (λ n. keeps (id_in old.slots n)) (sym same)
      | inr differs ↦ kept_position old new id.slot None puts serial refl (other serial differs) ∙ stays serial differs (id_in old.slots serial) refl
    ]

-- an id less
pub live_in-removed : (old new : Slab ℕ) (count : ℕ) (id : SessionId) → AreSlots old.slots count → get_or old.slots id.slot None ≡ Some id.serial
    → Updates old new id.slot None → live_in new.slots count ≡ filter (λ other. not (same_id other id)) (live_in old.slots count)
live_in-removed old new count id are here puts =
    live_in-without old new count id (λ other. not (same_id other id)) are here puts (grind (arith, nat_tests)) (λ other differs. grind (arith, nat_tests, differs))

-- the first slot that has a serial has it
pub slot_found : (slots : List (Option ℕ)) (serial slot : ℕ) → position (holds serial) slots ≡ Some slot → get_or slots slot None ≡ Some serial
slot_found slots serial slot at = holds_is serial (get_or slots slot None) (position-Some (holds serial) slots slot None at).1

-- the session with a serial less
pub live_in-closed : (old new : Slab ℕ) (count slot serial : ℕ) → AreSlots old.slots count → position (holds serial) old.slots ≡ Some slot
    → Updates old new slot None → live_in new.slots count ≡ filter (λ id. not (id.serial == serial)) (live_in old.slots count)
live_in-closed old new count slot serial are at puts =
    live_in-without old new count (record { slot = slot; serial = serial }) (λ id. not (id.serial == serial)) are (slot_found old.slots serial slot at) puts
    (grind (arith, nat_tests)) (λ other differs. grind (arith, nat_tests, differs))

-- whether a session with a serial is live is told by the slots
pub any_serial-live : (slots : List (Option ℕ)) (count serial : ℕ) → AreSlots slots count
    → list_any (λ id. id.serial == serial) (live_in slots count) ≡ is_some (position (holds serial) slots)
any_serial-live slots count serial are = go (position (holds serial) slots) refl
  where
    absent : position (holds serial) slots ≡ None → (n : ℕ) (found : Option SessionId) → id_in slots n ≡ found → passes (λ id. id.serial == serial) (id_in slots n) ≡ false
    absent nowhere n None is = rw is refl
    absent nowhere n (Some other) is = rw is (differs (other.serial == serial) refl)
      where
        differs : (b : Bool) → (other.serial == serial) ≡ b → b ≡ false
        differs false same = refl
        differs true same =
            let equal : n ≡ serial = sym (id_in-found slots n other is).1 ∙ grind (arith, nat_tests, same) in
            absurd (cc (equal, is, nowhere))

    go : (found : Option ℕ) → position (holds serial) slots ≡ found → list_any (λ id. id.serial == serial) (live_in slots count) ≡ is_some found
    go None nowhere = any_none (λ id. id.serial == serial) (id_in slots) (range_with_len 1 count) (λ n. absent nowhere n (id_in slots n) refl)
    go (Some slot) at =
        let within = are.each slot serial (slot_found slots serial slot at) in
        any_some (λ id. id.serial == serial) (id_in slots) count 1 serial (omega (arith, within.0)) (omega (arith, within.1)) (grind (arith, nat_tests, at))

-- where a search of the entries finds a serial
pub entry_found : (slots : List (Option ℕ)) (serial first : ℕ)
    → option_map (λ entry. entry.0) (find (λ entry. entry.1 == serial) (entries_from first slots)) ≡ option_map (λ slot. first + slot) (position (holds serial) slots)
entry_found [] serial first = refl
entry_found (None ∷ slots) serial first =
    let later = entry_found slots serial (first + 1) in
    grind (arith, later)
entry_found (Some other ∷ slots) serial first =
    let later = entry_found slots serial (first + 1) in
    grind (arith, later)

-- the serials of those that are live
serials_live : (slots : List (Option ℕ)) (serials : List ℕ)
    → map (λ id. id.serial) (filter_map (id_in slots) serials) ≡ filter (λ serial. is_some (id_in slots serial)) serials
serials_live slots [] = refl
serials_live slots (serial ∷ serials) =
    serials-cons_option (id_in slots serial) serial (filter_map (id_in slots) serials) (filter (λ n. is_some (id_in slots n)) serials)
    (λ id is. (id_in-found slots serial id is).1) (serials_live slots serials)

-- what holds of the serial holds of the id
passes_named : (test : ℕ → Bool) (found : Option SessionId) (serial : ℕ) → ((id : SessionId) → found ≡ Some id → id.serial ≡ serial)
    → test serial ≡ true → passes (λ id. not (test id.serial)) found ≡ false
passes_named test None serial named pass = refl
passes_named test (Some id) serial named pass = ap (λ n. not (test n)) (named id refl) ∙ ap not pass

all_live : (test : ℕ → Bool) (slots : List (Option ℕ)) (count : ℕ) → ((serial : ℕ) → 1 ≤ serial → serial < 1 + count → test serial ≡ true)
    → list_all (λ id. test id.serial) (live_in slots count) ≡ true
all_live test slots count each = all_some (λ id. test id.serial) (id_in slots) count 1 (λ serial from below.
    passes_named test (id_in slots serial) serial (λ id is. (id_in-found slots serial id is).1) (each serial from below))

-- the serials rise, and are from 1 to the count
pub live_given : (slots : List (Option ℕ)) (count : ℕ) → AreGiven (live_in slots count) count
live_given slots count = record {
  rising = subst (λ serials. IsStrictlyIncreasing serials) (sym (serials_live slots (range_with_len 1 count)))
      (IsStrictlyIncreasing-filter (λ serial. is_some (id_in slots serial)) (range_with_len 1 count) (rising_range 1 count));
  each = all_live (λ serial. nat_lt 0 serial && nat_le serial count) slots count (λ serial from below. grind (arith, nat_tests, from, below));
}

-- the serials are below the next
pub live_below : (slots : List (Option ℕ)) (count : ℕ) → list_all (λ other. nat_lt other.serial (count + 1)) (live_in slots count) ≡ true
live_below slots count = all_live (λ serial. nat_lt serial (count + 1)) slots count (λ serial from below. grind (arith, nat_tests, below))

-- a live session stands in its slot
pub has_id-found : (slots : List (Option ℕ)) (count : ℕ) (id : SessionId) → AreSlots slots count → has_id (live_in slots count) id ≡ true
    → get_or slots id.slot None ≡ Some id.serial
has_id-found slots count id are live =
    holds_is id.serial (get_or slots id.slot None) (sym (has_id-live slots count id are) ∙ live)
