-- The communicators of a rank: their members are distinct ranks with the rank among them, and a key that counts on one has a
-- lower number than its count while it is not left.
use Rattle.std.proofs.Common.{◌≡◌, ◌<◌, ◌≤◌, ◌&&◌, ◌||◌, ◌==◌, ◌+◌, not, ℕ, Bool, true, false, if◌then◌else◌, List, [], ◌∷◌, ◌++◌, map, filter, find, Option, Some, None, refl, arith}
use Rattle.std.specs.Prelude.{nat_lt}
use Rattle.std.specs.Option.{option_map}
use Rattle.std.specs.List.{list_all}
use Rattle.std.proofs.lemmas.Bool.Decides.{nat_tests}
use Rattle.mpi_base.specs.MemberLists.{has_rank}
use Rattle.mpi_base.specs.declared.keys.Key.{Key}
use Rattle.agree_law.proofs.Lists.{AllOf}
use Rattle.comm_law.specs.declared.rows.CommRow.{CommRow}
use Rattle.comm_law.specs.declared.rows.CommStage.{CommStage}
use Rattle.comm_law.specs.declared.rows.CommStage.TheVariants.{Live, Freed, Left}
use Rattle.comm_law.specs.Comms.{Comms, row_at, comm_at, blank_comm, is_left, add, changed, at, one_call_more, with_stage, freed, freed_stage, count_call, mark_free, free_session, leave, remove, all_marked, all_marked_row}
use Rattle.projection_law.specs.Facts.{is_counted}
use Rattle.projection_law.specs.Premises.{are_distinct_ranks}

-- a communicator has a context of the setting and distinct ranks as members, the rank among them
pub record RowFits (n top r : ℕ) (m : CommRow) : Type 0 where
  pub above : 0 < m.ctx
  pub below : m.ctx ≤ top
  pub ranks : are_distinct_ranks n m.members ≡ true
  pub here : has_rank m.members r ≡ true

-- what is found among fitting rows
pub found_fits : (P : CommRow → Type 0) (rows : List CommRow) (c : ℕ) (m : CommRow) → AllOf P rows → find (λ m. m.ctx == c) rows ≡ Some m → P m × (m.ctx ≡ c)
found_fits P [] c m h e = absurd (cc (e))
found_fits P (x ∷ xs) c m h e = go (x.ctx == c) refl e (found_fits P xs c m h.1)
  where
    go : (b : Bool) → (x.ctx == c) ≡ b → (if b then Some x else find (λ m. m.ctx == c) xs) ≡ Some m → (find (λ m. m.ctx == c) xs ≡ Some m → P m × (m.ctx ≡ c)) → P m × (m.ctx ≡ c)
    go true t f ih = let is : x ≡ m = cc (f) in rw (← is) (h.0, grind (arith, nat_tests, t))
    go false t f ih = ih f

-- the members of any context are distinct ranks
pub members_are_ranks : (n top r : ℕ) (t : Comms) (c : ℕ) → AllOf (RowFits n top r) t.rows → are_distinct_ranks n (comm_at t c).members ≡ true
members_are_ranks n top r t c h = go (row_at t c) refl
  where
    blank : (o : Option CommRow) → CommRow
    blank None = blank_comm
    blank (Some m) = m

    go : (o : Option CommRow) → row_at t c ≡ o → are_distinct_ranks n (comm_at t c).members ≡ true
    go None e = rw e refl
    go (Some m) e = rw e (found_fits (RowFits n top r) t.rows c m h e).0.ranks

pub members_below : (n : ℕ) (ms : List ℕ) → are_distinct_ranks n ms ≡ true → AllOf (λ m. m < n) ms
members_below n [] e = tt
members_below n (m ∷ ms) e = let l : list_all (λ m. nat_lt m n) (m ∷ ms) ≡ true = grind (arith, e) in (grind (arith, nat_tests, l), go ms (grind (arith, l)))
  where
    go : (ms : List ℕ) → list_all (λ m. nat_lt m n) ms ≡ true → AllOf (λ m. m < n) ms
    go [] e = tt
    go (m ∷ ms) e = (grind (arith, nat_tests, e), go ms (grind (arith, e)))

-- Changes keep what fits

pub rows_changed : (n top r : ℕ) (test : CommRow → Bool) (f : CommRow → CommRow) (rows : List CommRow) → ((m : CommRow) → ((f m).ctx ≡ m.ctx) × ((f m).members ≡ m.members)) → AllOf (RowFits n top r) rows → AllOf (RowFits n top r) (map (λ m. if test m then f m else m) rows)
rows_changed n top r test f [] same h = tt
rows_changed n top r test f (x ∷ xs) same h = (go (test x), rows_changed n top r test f xs same h.1)
  where
    go : (b : Bool) → RowFits n top r (if b then f x else x)
    go true = let s = same x in let a = h.0 in record { above = rw s.0 a.above; below = rw s.0 a.below; ranks = rw s.1 a.ranks; here = rw s.1 a.here }
    go false = h.0

-- A key on a row

-- whether a row has counted a call and is not left
abbrev pub row_has : ℕ → Option CommRow → Bool
row_has number None = false
row_has number (Some m) = nat_lt number m.calls && not (is_left m.stage)

-- the communicator under which it counts is here, has counted it, and is not left
abbrev pub stands : Comms → Key → Bool
stands t key = not (is_counted key.kind) || row_has key.number (row_at t key.parent)

-- rows that go on to have what they have
abbrev pub GoesOn : Comms → Comms → Type 0
GoesOn t u = (c number : ℕ) → row_has number (row_at t c) ≡ true → row_has number (row_at u c) ≡ true

pub stands_on : (t u : Comms) (key : Key) → GoesOn t u → stands t key ≡ true → stands u key ≡ true
stands_on t u key g e = go (is_counted key.kind) e
  where
    go : (b : Bool) → (not b || row_has key.number (row_at t key.parent)) ≡ true → (not b || row_has key.number (row_at u key.parent)) ≡ true
    go true e = g key.parent key.number e
    go false e = refl

find_changed : (test : CommRow → Bool) (f : CommRow → CommRow) (rows : List CommRow) (c : ℕ) → ((m : CommRow) → (f m).ctx ≡ m.ctx) → find (λ m. m.ctx == c) (map (λ m. if test m then f m else m) rows) ≡ option_map (λ m. if test m then f m else m) (find (λ m. m.ctx == c) rows)
find_changed test f [] c same = refl
find_changed test f (x ∷ xs) c same = go (test x) refl (x.ctx == c) refl (find_changed test f xs c same)
  where
    go : (b : Bool) → test x ≡ b → (d : Bool) → (x.ctx == c) ≡ d → find (λ m. m.ctx == c) (map (λ m. if test m then f m else m) xs) ≡ option_map (λ m. if test m then f m else m) (find (λ m. m.ctx == c) xs)
        → find (λ m. m.ctx == c) ((if b then f x else x) ∷ map (λ m. if test m then f m else m) xs) ≡ option_map (λ m. if test m then f m else m) (if d then Some x else find (λ m. m.ctx == c) xs)
    go true t true u ih = let s = same x in rw (s, u, t) refl
    go true t false u ih = let s = same x in rw (s, u) ih
    go false t true u ih = rw (u, t) refl
    go false t false u ih = rw u ih

pub row_changed : (t : Comms) (test : CommRow → Bool) (f : CommRow → CommRow) (c : ℕ) → ((m : CommRow) → (f m).ctx ≡ m.ctx) → row_at (changed test f t) c ≡ option_map (λ m. if test m then f m else m) (row_at t c)
row_changed t test f c same = find_changed test f t.rows c same

goes_changed : (t : Comms) (test : CommRow → Bool) (f : CommRow → CommRow) → ((m : CommRow) → (f m).ctx ≡ m.ctx) → ((m : CommRow) → (m.calls ≤ (f m).calls) × (is_left m.stage ≡ false → is_left (f m).stage ≡ false)) → GoesOn t (changed test f t)
goes_changed t test f same up c number e = rw (row_changed t test f c same) (go (row_at t c) e)
  where
    go : (o : Option CommRow) → row_has number o ≡ true → row_has number (option_map (λ m. if test m then f m else m) o) ≡ true
    go None e = e
    go (Some m) e = by (test m)
      where
        by : (b : Bool) → row_has number (Some (if b then f m else m)) ≡ true
        by true =
            let u = up m in
            let le = u.0 in
            let was : is_left m.stage ≡ false = grind (arith, e) in
            let now = u.1 was in
            let less : number < m.calls = grind (arith, nat_tests, e) in
            let more : number < (f m).calls = omega (arith, less, le) in
            grind (arith, nat_tests, now, more)
        by false = e

freed_not_left : (s : CommStage) → is_left s ≡ false → is_left (freed_stage s) ≡ false
freed_not_left Live e = refl
freed_not_left Freed e = refl
freed_not_left Left e = e

pub goes-count : (t : Comms) (c : ℕ) → GoesOn t (count_call t c)
goes-count t c = goes_changed t (at c) one_call_more (λ m. refl) (λ m. (omega arith, λ e. e))

pub goes-free : (t : Comms) (c : ℕ) → GoesOn t (mark_free t c)
goes-free t c = goes_changed t (at c) freed (λ m. refl) (λ m. (omega arith, freed_not_left m.stage))

pub goes-end : (t : Comms) (s : ℕ) → GoesOn t (free_session t s)
goes-end t s = goes_changed t (λ m. m.session == s) freed (λ m. refl) (λ m. (omega arith, freed_not_left m.stage))

pub goes-add : (t : Comms) (c : ℕ) (members : List ℕ) (session : ℕ) → GoesOn t (add t c members session)
goes-add t c members session b number e = go t.rows e
  where
    go : (rows : List CommRow) → row_has number (find (λ m. m.ctx == b) rows) ≡ true → row_has number (find (λ m. m.ctx == b) (rows ++ record { ctx = c; members = members; session = session; serial = t.added + 1; calls = 0; stage = Live } ∷ [])) ≡ true
    go [] e = absurd (cc (e))
    go (x ∷ xs) e = by (x.ctx == b) e (go xs)
      where
        by : (d : Bool) → row_has number (if d then Some x else find (λ m. m.ctx == b) xs) ≡ true
            → (row_has number (find (λ m. m.ctx == b) xs) ≡ true → row_has number (find (λ m. m.ctx == b) (xs ++ record { ctx = c; members = members; session = session; serial = t.added + 1; calls = 0; stage = Live } ∷ [])) ≡ true)
            → row_has number (if d then Some x else find (λ m. m.ctx == b) (xs ++ record { ctx = c; members = members; session = session; serial = t.added + 1; calls = 0; stage = Live } ∷ [])) ≡ true
        by true e ih = e
        by false e ih = ih e

find_without : (rows : List CommRow) (c b : ℕ) → (b == c) ≡ false → find (λ m. m.ctx == b) (filter (λ m. not (at c m)) rows) ≡ find (λ m. m.ctx == b) rows
find_without [] c b ne = refl
find_without (x ∷ xs) c b ne = let ih = find_without xs c b ne in grind (arith, nat_tests, ih, ne)

-- a communicator that all have left is removed
pub goes-remove : (t : Comms) (r c : ℕ) → all_marked t r c ≡ true → GoesOn t (remove t c)
unfolding all_marked
goes-remove t r c marked b number e = go (b == c) refl
  where
    gone : (o : Option CommRow) → all_marked_row t r o ≡ true → row_has number o ≡ true → ⊥
    gone None m e = absurd (cc (m))
    gone (Some x) m e = absurd (grind (arith, m, e))

    go : (d : Bool) → (b == c) ≡ d → row_has number (row_at (remove t c) b) ≡ true
    go true s = let is : b ≡ c = grind (arith, nat_tests, s) in absurd (gone (row_at t c) marked (rw (← is) e))
    go false s = rw (find_without t.rows c b s) e

-- a leave changes the one communicator alone
pub leave_other : (t : Comms) (c : ℕ) (key : Key) → (key.parent == c) ≡ false → stands t key ≡ true → stands (leave t c) key ≡ true
leave_other t c key ne e = go (is_counted key.kind) e
  where
    other : (o : Option CommRow) → ((m : CommRow) → o ≡ Some m → m.ctx ≡ key.parent) → row_has key.number o ≡ true → row_has key.number (option_map (λ m. if at c m then with_stage Left m else m) o) ≡ true
    other None f e = e
    other (Some m) f e = let s = f m refl in let no : (m.ctx == c) ≡ false = rw s ne in rw no e

    found : (rows : List CommRow) (m : CommRow) → find (λ m. m.ctx == key.parent) rows ≡ Some m → m.ctx ≡ key.parent
    found [] m e = absurd (cc (e))
    found (x ∷ xs) m e = by (x.ctx == key.parent) refl e (found xs m)
      where
        by : (d : Bool) → (x.ctx == key.parent) ≡ d → (if d then Some x else find (λ m. m.ctx == key.parent) xs) ≡ Some m → (find (λ m. m.ctx == key.parent) xs ≡ Some m → m.ctx ≡ key.parent) → m.ctx ≡ key.parent
        by true u e ih = let is : x ≡ m = cc (e) in rw (← is) (grind (arith, nat_tests, u))
        by false u e ih = ih e

    go : (b : Bool) → (not b || row_has key.number (row_at t key.parent)) ≡ true → (not b || row_has key.number (row_at (leave t c) key.parent)) ≡ true
    go false e = refl
    go true e = rw (row_changed t (at c) (with_stage Left) key.parent (λ m. refl)) (other (row_at t key.parent) (found t.rows) e)
