-- A thread that waits for a receive has its row: for each number above 0 the threads that wait for it, and the names bound to its
-- request, are no more than its rows, of which there is at most one. Each step of a rank keeps it.
use Rattle.std.proofs.Common.{◌≡◌, ◌<◌, ◌≤◌, ◌==◌, ◌+◌, not, ℕ, zero, suc, Bool, true, false, if◌then◌else◌, List, [], ◌∷◌, ◌++◌, filter, find, set, Option, Some, None, option_map, bytes_eq, refl, ap, ◌∙◌, subst, arith}
use Rattle.std.specs.Option.{is_some}
use Rattle.std.proofs.lemmas.Bool.Decides.{nat_tests}
use Rattle.mpi_base.specs.declared.keys.Key.{Key}
use Rattle.mpi_base.specs.declared.messages.Msg.{Msg}
use Rattle.local_law.specs.Names.{bound_of, rebind, unbind}
use Rattle.local_law.specs.Objects as bound
use Rattle.mpi_law.specs.Local.Objects.{Bound, NameRow}
use Rattle.mpi_protocol.specs.declared.rows.Waits.{Waits}
use Rattle.mpi_protocol.specs.declared.rows.Waits.TheVariants.{Nothing, Creation, Uncoloured, Freeing, Ending, Receiving, Awaiting}
use Rattle.mpi_protocol.specs.declared.rows.ThreadRow.{ThreadRow}
use Rattle.mpi_protocol.specs.declared.rows.ReceiveRow.{ReceiveRow}
use Rattle.mpi_protocol.specs.Rank.{goes_on, going_on, with_key, receive_of, with_receive, with_taken, without_receive}
use Rattle.mpi_base.specs.Keys.{same_key}
use Rattle.run_law.proofs.Lists.{tally, one}
use Rattle.run_law.proofs.Bindings.{tally-snoc, tally-filter}
use Rattle.run_law.proofs.Threads.{row_of}

abbrev pub waits_for : ℕ → Waits → Bool
waits_for n Nothing = false
waits_for n (Creation key target session) = false
waits_for n (Uncoloured key target session) = false
waits_for n (Freeing serial) = false
waits_for n (Ending session) = false
waits_for n (Receiving m) = m == n
waits_for n (Awaiting name) = false

abbrev pub is_request : ℕ → Bound → Bool
is_request n bound.Reserved = false
is_request n (bound.Session s) = false
is_request n (bound.Group ms s) = false
is_request n (bound.Comm c s) = false
is_request n (bound.Request m) = m == n

abbrev pub waiting : ℕ → List ThreadRow → ℕ
waiting n threads = tally (λ t. waits_for n t.waits) threads

abbrev pub asking : ℕ → List NameRow → ℕ
asking n names = tally (λ row. is_request n row.1) names

pub record Counted (names : List NameRow) (threads : List ThreadRow) (rows : List ReceiveRow) (posts : ℕ) : Type 0 where
  pub each : (n : ℕ) → (n == 0) ≡ false → waiting n threads + asking n names ≤ one (is_some (receive_of rows n))
  pub above : (n : ℕ) → posts < n → receive_of rows n ≡ None

-- so a thread that waits for one has its row
pub counted_has : (names : List NameRow) (threads : List ThreadRow) (rows : List ReceiveRow) (posts : ℕ) → Counted names threads rows posts → (t n : ℕ) → (row_of threads t).waits ≡ Receiving n → (n == 0) ≡ false → is_some (receive_of rows n) ≡ true
counted_has names threads rows posts h t n e ne = go (is_some (receive_of rows n)) (h.each n ne)
  where
    inside : (ts : List ThreadRow) (i : ℕ) → (row_of ts i).waits ≡ Receiving n → 1 ≤ waiting n ts
    inside [] i e = absurd (cc (e))
    inside (x ∷ xs) zero e = let w : waits_for n x.waits ≡ true = rw e (grind (arith, nat_tests)) in let o : one (waits_for n x.waits) ≡ 1 = ap one w in omega (arith, o)
    inside (x ∷ xs) (suc i) e = let ih = inside xs i e in omega (arith, ih)

    go : (b : Bool) → waiting n threads + asking n names ≤ one b → b ≡ true
    go true k = refl
    go false k = absurd (let w = inside threads t e in omega (arith, k, w))

-- Fewer that wait or ask, and the same rows

pub counted_less : (names more : List NameRow) (threads new : List ThreadRow) (rows : List ReceiveRow) (posts : ℕ) → ((n : ℕ) → (n == 0) ≡ false → waiting n new + asking n more ≤ waiting n threads + asking n names) → Counted names threads rows posts → Counted more new rows posts
counted_less names more threads new rows posts less h = record { each = λ n ne. (let a = less n ne in let b = h.each n ne in omega (arith, a, b)); above = h.above }

-- one thread waits for something else
pub waiting_set : (n : ℕ) (threads : List ThreadRow) (t : ℕ) (row : ThreadRow) → waiting n (set threads t row) ≤ waiting n threads + one (waits_for n row.waits)
waiting_set n [] t row = omega arith
waiting_set n (x ∷ xs) zero row = omega arith
waiting_set n (x ∷ xs) (suc t) row = let ih = waiting_set n xs t row in omega (arith, ih)

pub waiting_left : (n : ℕ) (threads : List ThreadRow) (t : ℕ) (row : ThreadRow) → (row_of threads t).waits ≡ Receiving n → waiting n (set threads t row) + 1 ≤ waiting n threads + one (waits_for n row.waits)
waiting_left n [] t row e = absurd (cc (e))
waiting_left n (x ∷ xs) zero row e = let w : waits_for n x.waits ≡ true = rw e (grind (arith, nat_tests)) in let o : one (waits_for n x.waits) ≡ 1 = ap one w in omega (arith, o)
waiting_left n (x ∷ xs) (suc t) row e = let ih = waiting_left n xs t row e in omega (arith, ih)

-- a creation goes on
pub waiting_on : (n : ℕ) (threads : List ThreadRow) (key : Key) (next : Option Key) → waiting n (with_key threads key next) ≡ waiting n threads
waiting_on n [] key next = refl
waiting_on n (x ∷ xs) key next = let ih = waiting_on n xs key next in let o = ap one (same x.waits) in omega (arith, ih, o)
  where
    same : (w : Waits) → waits_for n (going_on key next w) ≡ waits_for n w
    same Nothing = refl
    same (Creation k target session) = by (same_key k key) next
      where
        by : (b : Bool) (o : Option Key) → waits_for n (if b then goes_on key o target session else Creation k target session) ≡ false
        by false o = refl
        by true None = refl
        by true (Some k') = refl
    same (Uncoloured k target session) = refl
    same (Freeing serial) = refl
    same (Ending session) = refl
    same (Receiving m) = refl
    same (Awaiting name) = refl

-- names

pub asking_bind : (n : ℕ) (names : List NameRow) (name : List ℕ) (b : Bound) → asking n (names ++ (name, b) ∷ []) ≡ asking n names + one (is_request n b)
asking_bind n names name b = tally-snoc (λ row. is_request n row.1) names (name, b)

pub asking_filter : (n : ℕ) (names : List NameRow) (q : NameRow → Bool) → asking n (filter q names) ≤ asking n names
asking_filter n names q = tally-filter (λ row. is_request n row.1) q names

pub asking_rebind : (n : ℕ) (names : List NameRow) (name : List ℕ) (b : Bound) → is_request n b ≡ false → asking n (rebind names name b) ≤ asking n names
asking_rebind n [] name b e = omega arith
asking_rebind n (x ∷ xs) name b e = let ih = asking_rebind n xs name b e in go (bytes_eq x.0 name) ih
  where
    go : (t : Bool) → asking n (rebind xs name b) ≤ asking n xs → one (is_request n (if t then (x.0, b) else x).1) + asking n (rebind xs name b) ≤ one (is_request n x.1) + asking n xs
    go false ih = omega (arith, ih)
    go true ih = let o : one (is_request n b) ≡ 0 = ap one e in omega (arith, ih, o)

-- without a name that is bound to a request, one asks less
pub asking_left : (n : ℕ) (names : List NameRow) (name : List ℕ) → bound_of names name ≡ Some (bound.Request n) → asking n (unbind names name) + 1 ≤ asking n names
asking_left n [] name e = absurd (cc (e))
asking_left n (x ∷ xs) name e = go (bytes_eq x.0 name) refl e (asking_left n xs name) (asking_filter n xs (λ row. not (bytes_eq row.0 name)))
  where
    go : (t : Bool) → bytes_eq x.0 name ≡ t → option_map (λ (row : NameRow). row.1) (if t then Some x else find (λ (row : NameRow). bytes_eq row.0 name) xs) ≡ Some (bound.Request n) → (bound_of xs name ≡ Some (bound.Request n) → asking n (unbind xs name) + 1 ≤ asking n xs) → asking n (unbind xs name) ≤ asking n xs
        → asking n (if not t then x ∷ unbind xs name else unbind xs name) + 1 ≤ one (is_request n x.1) + asking n xs
    go true f e ih less =
        let is : x.1 ≡ bound.Request n = cc (e) in
        let w : is_request n x.1 ≡ true = rw is (grind (arith, nat_tests)) in
        let o : one (is_request n x.1) ≡ 1 = ap one w in
        omega (arith, less, o)
    go false f e ih less = let k = ih e in omega (arith, k)

-- Rows

pub some_taken : (rows : List ReceiveRow) (k : ℕ) (m : Msg) (n : ℕ) → is_some (receive_of (with_taken rows k m) n) ≡ is_some (receive_of rows n)
some_taken [] k m n = refl
some_taken (x ∷ xs) k m n = go (x.number == k) (some_taken xs k m n)
  where
    go : (b : Bool) → is_some (receive_of (with_taken xs k m) n) ≡ is_some (receive_of xs n) → is_some (receive_of ((if b then record { number = x.number; room = x.room; taken = Some m } else x) ∷ with_taken xs k m) n) ≡ is_some (receive_of (x ∷ xs) n)
    go true ih = grind (arith, ih)
    go false ih = grind (arith, ih)

none_of : (o : Option ReceiveRow) → is_some o ≡ false → o ≡ None
none_of None e = refl
none_of (Some x) e = absurd (cc (e))

pub counted_taken : (names : List NameRow) (threads : List ThreadRow) (rows : List ReceiveRow) (posts k : ℕ) (m : Msg) → Counted names threads rows posts → Counted names threads (with_taken rows k m) posts
counted_taken names threads rows posts k m h = record {
  each = λ n ne. (let s = ap one (some_taken rows k m n) in let e = h.each n ne in omega (arith, s, e));
  above = λ n lt. none_of (receive_of (with_taken rows k m) n) (some_taken rows k m n ∙ ap is_some (h.above n lt));
}

some_with : (rows : List ReceiveRow) (k room n : ℕ) → (k == n) ≡ false → receive_of (with_receive rows k room) n ≡ receive_of rows n
some_with [] k room n e = rw e refl
some_with (x ∷ xs) k room n e = let ih = some_with xs k room n e in grind (arith, ih)

some_new : (rows : List ReceiveRow) (k room : ℕ) → is_some (receive_of (with_receive rows k room) k) ≡ true
some_new [] k room = let z : (k == k) ≡ true = grind (arith, nat_tests) in rw z refl
some_new (x ∷ xs) k room = go (x.number == k) (some_new xs k room)
  where
    go : (b : Bool) → is_some (receive_of (with_receive xs k room) k) ≡ true → is_some (if b then Some x else receive_of (with_receive xs k room) k) ≡ true
    go true ih = refl
    go false ih = ih

-- a receive more, for which a thread waits, or to whose request a name is bound
pub counted_posted : (names more : List NameRow) (threads new : List ThreadRow) (rows : List ReceiveRow) (posts room : ℕ) → ((n : ℕ) → (n == 0) ≡ false → waiting n new + asking n more ≤ waiting n threads + asking n names + one (posts + 1 == n)) → Counted names threads rows posts
    → Counted more new (with_receive rows (posts + 1) room) (posts + 1)
counted_posted names more threads new rows posts room less h = record {
  each = λ n ne. go n ne (posts + 1 == n) refl (less n ne);
  above = λ n lt. (let off : (posts + 1 == n) ≡ false = grind (arith, nat_tests, lt) in some_with rows (posts + 1) room n off ∙ h.above n (omega (arith, lt)));
}
  where
    go : (n : ℕ) → (n == 0) ≡ false → (b : Bool) → (posts + 1 == n) ≡ b → waiting n new + asking n more ≤ waiting n threads + asking n names + one b → waiting n new + asking n more ≤ one (is_some (receive_of (with_receive rows (posts + 1) room) n))
    go n ne false e l = rw (some_with rows (posts + 1) room n e) (let k = h.each n ne in omega (arith, k, l))
    go n ne true e l =
        let is : posts + 1 ≡ n = grind (arith, nat_tests, e) in
        let none = ap (λ o. one (is_some o)) (h.above n (omega (arith, is))) in
        let k = h.each n ne in
        let o : one (is_some (receive_of (with_receive rows (posts + 1) room) n)) ≡ 1 = ap one (subst (λ (i : ℕ). is_some (receive_of (with_receive rows (posts + 1) room) i) ≡ true) is (some_new rows (posts + 1) room)) in
        omega (arith, none, k, l, o)

some_without : (rows : List ReceiveRow) (k n : ℕ) → (k == n) ≡ false → receive_of (without_receive rows k) n ≡ receive_of rows n
some_without [] k n e = refl
some_without (x ∷ xs) k n e = go (x.number == k) refl (some_without xs k n e)
  where
    go : (b : Bool) → (x.number == k) ≡ b → receive_of (without_receive xs k) n ≡ receive_of xs n → receive_of (if not b then x ∷ without_receive xs k else without_receive xs k) n ≡ receive_of (x ∷ xs) n
    go true f ih = let is : (x.number == n) ≡ false = grind (arith, nat_tests, e, f) in rw is ih
    go false f ih = grind (arith, ih)

-- the receive that a thread waits for is answered
pub counted_answered : (names : List NameRow) (threads : List ThreadRow) (rows : List ReceiveRow) (posts t k calls : ℕ) → (row_of threads t).waits ≡ Receiving k → (k == 0) ≡ false → Counted names threads rows posts → Counted names (set threads t (record { calls = calls; waits = Nothing })) (without_receive rows k) posts
counted_answered names threads rows posts t k calls e ne h = record {
  each = λ n nn. go n nn (k == n) refl;
  above = λ n lt. gone n lt (k == n) refl;
}
  where
    less : (n : ℕ) → one (is_some (receive_of rows n)) ≤ 1
    less n = by (is_some (receive_of rows n))
      where
        by : (b : Bool) → one b ≤ 1
        by true = omega arith
        by false = omega arith

    go : (n : ℕ) → (n == 0) ≡ false → (b : Bool) → (k == n) ≡ b → waiting n (set threads t (record { calls = calls; waits = Nothing })) + asking n names ≤ one (is_some (receive_of (without_receive rows k) n))
    go n nn false f = rw (some_without rows k n f) (let a = waiting_set n threads t (record { calls = calls; waits = Nothing }) in let b = h.each n nn in omega (arith, a, b))
    go n nn true f =
        let is : k ≡ n = grind (arith, nat_tests, f) in
        let a = waiting_left n threads t (record { calls = calls; waits = Nothing }) (e ∙ ap (λ (i : ℕ). Receiving i) is) in
        let b = h.each n nn in
        let c = less n in
        omega (arith, a, b, c)

    gone : (n : ℕ) → posts < n → (b : Bool) → (k == n) ≡ b → receive_of (without_receive rows k) n ≡ None
    gone n lt false f = some_without rows k n f ∙ h.above n lt
    gone n lt true f =
        let is : k ≡ n = grind (arith, nat_tests, f) in
        let some = counted_has names threads rows posts h t k e ne in
        let none = h.above n lt in
        absurd (let z : is_some (receive_of rows n) ≡ true = subst (λ (i : ℕ). is_some (receive_of rows i) ≡ true) is some in let y = rw none at z in cc (y))
