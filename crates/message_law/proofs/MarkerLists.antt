-- Rows that change, notes, and the order of a link.
use Rattle.std.proofs.Common.{◌≡◌, ◌≢◌, ◌≤◌, ◌+◌, ◌==◌, ◌&&◌, ◌||◌, not, ℕ, Bool, true, false, List, [], ◌∷◌, ◌++◌, map, filter, Some, refl, arith, if◌then◌else◌}
use Rattle.std.specs.Prelude.{find}
use Rattle.std.specs.List.{list_any, list_all}
use Rattle.std.proofs.lemmas.Bool.Decides.{nat_tests}
use Rattle.mpi_base.specs.MemberLists.{has_rank}
use Rattle.comm_law.specs.declared.rows.CommRow.{CommRow}
use Rattle.comm_law.specs.declared.rows.CommStage.{CommStage}
use Rattle.comm_law.specs.declared.rows.CommStage.TheVariants.{Live, Freed, Left}
use Rattle.comm_law.specs.declared.rows.MarkerRow.{MarkerRow}
use Rattle.comm_law.specs.Comms.{Comms, row_at, is_noted, is_left, at, changed, with_stage, freed_stage, freed, one_call_more, count_call, mark_free, free_session, leave, add, remove, note_marker, is_marked_by, all_marked, all_marked_row}
use Rattle.mpi_protocol.specs.Packets.{Packet}
use Rattle.agree_law.proofs.Lists.{AllOf, tally}
use Rattle.message_law.proofs.Topics.{is_marker, is_message_on, orderly, is_note, is_left_row}

-- Rows

left_changed : (t : Comms) (test : CommRow → Bool) (f : CommRow → CommRow) (d : ℕ) → ((m : CommRow) → (f m).ctx ≡ m.ctx) → ((m : CommRow) → is_left (f m).stage ≡ is_left m.stage) → is_left_row (row_at (changed test f t) d) ≡ is_left_row (row_at t d)
left_changed t test f d c l = go t.rows
  where
    go : (rows : List CommRow) → is_left_row (find (λ m. m.ctx == d) (map (λ m. if test m then f m else m) rows)) ≡ is_left_row (find (λ m. m.ctx == d) rows)
    go [] = refl
    go (m ∷ ms) = let ih = go ms in let a = c m in let b = l m in grind (arith, nat_tests, ih, a, b)

pub left_counted : (t : Comms) (c d : ℕ) → is_left_row (row_at (count_call t c) d) ≡ is_left_row (row_at t d)
left_counted t c d = left_changed t (at c) one_call_more d (λ m. refl) (λ m. refl)

freed_is_left : (s : CommStage) → is_left (freed_stage s) ≡ is_left s
freed_is_left Live = refl
freed_is_left Freed = refl
freed_is_left Left = refl

pub left_freed : (t : Comms) (c d : ℕ) → is_left_row (row_at (mark_free t c) d) ≡ is_left_row (row_at t d)
left_freed t c d = left_changed t (at c) freed d (λ m. refl) (λ m. freed_is_left m.stage)

pub left_session : (t : Comms) (s d : ℕ) → is_left_row (row_at (free_session t s) d) ≡ is_left_row (row_at t d)
left_session t s d = left_changed t (λ m. m.session == s) freed d (λ m. refl) (λ m. freed_is_left m.stage)

pub left_added : (t : Comms) (c : ℕ) (members : List ℕ) (session d : ℕ) → is_left_row (row_at (add t c members session) d) ≡ is_left_row (row_at t d)
left_added t c members session d = go t.rows
  where
    go : (rows : List CommRow) → is_left_row (find (λ m. m.ctx == d) (rows ++ record { ctx = c; members = members; session = session; serial = t.added + 1; calls = 0; stage = Live } ∷ [])) ≡ is_left_row (find (λ m. m.ctx == d) rows)
    go [] = grind (arith, nat_tests)
    go (m ∷ ms) = let ih = go ms in grind (arith, nat_tests, ih)

-- at a leave
pub left_here : (t : Comms) (c : ℕ) (m : CommRow) → row_at t c ≡ Some m → is_left_row (row_at (leave t c) c) ≡ true
left_here t c m e = go t.rows e
  where
    go : (rows : List CommRow) → find (λ m. m.ctx == c) rows ≡ Some m → is_left_row (find (λ m. m.ctx == c) (map (λ m. if at c m then with_stage Left m else m) rows)) ≡ true
    go [] e = absurd (cc (e))
    go (k ∷ ks) e = let ih = go ks in grind (arith, nat_tests, ih, e)

pub left_elsewhere : (t : Comms) (c d : ℕ) → (d == c) ≡ false → is_left_row (row_at (leave t c) d) ≡ is_left_row (row_at t d)
left_elsewhere t c d e = go t.rows
  where
    go : (rows : List CommRow) → is_left_row (find (λ m. m.ctx == d) (map (λ m. if at c m then with_stage Left m else m) rows)) ≡ is_left_row (find (λ m. m.ctx == d) rows)
    go [] = refl
    go (m ∷ ms) = let ih = go ms in grind (arith, nat_tests, ih, e)

pub left_more : (t : Comms) (c d : ℕ) → is_left_row (row_at t d) ≡ true → is_left_row (row_at (leave t c) d) ≡ true
left_more t c d e = go t.rows e
  where
    go : (rows : List CommRow) → is_left_row (find (λ m. m.ctx == d) rows) ≡ true → is_left_row (find (λ m. m.ctx == d) (map (λ m. if at c m then with_stage Left m else m) rows)) ≡ true
    go [] e = e
    go (m ∷ ms) e = let ih = go ms in grind (arith, nat_tests, ih, e)

-- at a give-back
pub row_kept : (t : Comms) (c d : ℕ) → (d == c) ≡ false → row_at (remove t c) d ≡ row_at t d
row_kept t c d e = go t.rows
  where
    go : (rows : List CommRow) → find (λ m. m.ctx == d) (filter (λ m. not (at c m)) rows) ≡ find (λ m. m.ctx == d) rows
    go [] = refl
    go (m ∷ ms) = let ih = go ms in grind (arith, nat_tests, ih, e)

-- Notes

pub noted_more : (t : Comms) (c q d a : ℕ) → is_noted (note_marker t c q) d a ≡ (is_noted t d a || ((c == d) && (q == a)))
noted_more t c q d a = go t.noted
  where
    go : (ks : List MarkerRow) → list_any (λ k. (k.ctx == d) && (k.from == a)) (ks ++ record { ctx = c; from = q } ∷ []) ≡ (list_any (λ k. (k.ctx == d) && (k.from == a)) ks || ((c == d) && (q == a)))
    go [] = grind (arith)
    go (k ∷ ks) = let ih = go ks in grind (arith, ih)

pub noted_kept : (t : Comms) (c d a : ℕ) → (d == c) ≡ false → is_noted (remove t c) d a ≡ is_noted t d a
noted_kept t c d a e = go t.noted
  where
    go : (ks : List MarkerRow) → list_any (λ k. (k.ctx == d) && (k.from == a)) (filter (λ k. not (k.ctx == c)) ks) ≡ list_any (λ k. (k.ctx == d) && (k.from == a)) ks
    go [] = refl
    go (k ∷ ks) = let ih = go ks in grind (arith, nat_tests, ih, e)

pub noted_gone : (t : Comms) (c a : ℕ) → is_noted (remove t c) c a ≡ false
noted_gone t c a = go t.noted
  where
    go : (ks : List MarkerRow) → list_any (λ k. (k.ctx == c) && (k.from == a)) (filter (λ k. not (k.ctx == c)) ks) ≡ false
    go [] = refl
    go (k ∷ ks) = let ih = go ks in grind (arith, nat_tests, ih)

pub tally_kept : (ks : List MarkerRow) (c d a : ℕ) → (d == c) ≡ false → tally (is_note d a) (filter (λ k. not (k.ctx == c)) ks) ≡ tally (is_note d a) ks
tally_kept [] c d a e = refl
tally_kept (k ∷ ks) c d a e = let ih = tally_kept ks c d a e in grind (arith, nat_tests, ih, e)

pub noted_counts : (ks : List MarkerRow) (c a : ℕ) → list_any (λ k. (k.ctx == c) && (k.from == a)) ks ≡ true → 1 ≤ tally (is_note c a) ks
noted_counts [] c a e = absurd (cc (e))
noted_counts (k ∷ ks) c a e = let ih = noted_counts ks c a in grind (arith, nat_tests, ih, e)

pub not_noted : (ks : List MarkerRow) (c a : ℕ) → tally (is_note c a) ks ≡ 0 → list_any (λ k. (k.ctx == c) && (k.from == a)) ks ≡ false
not_noted [] c a e = refl
not_noted (k ∷ ks) c a e = let ih = not_noted ks c a in grind (arith, nat_tests, ih, e)

-- The order of a link

pub orderly-append : (c : ℕ) (seen : Bool) (ps : List Packet) (p : Packet) → is_message_on c p ≡ false → orderly c seen ps ≡ true → orderly c seen (ps ++ p ∷ []) ≡ true
orderly-append c seen [] p e h = grind (arith, e)
orderly-append c seen (x ∷ ps) p e h = let ih = orderly-append c (seen || is_marker c x) ps p e in grind (arith, ih, h)

-- with no marker before it a message may come
pub orderly-append_first : (c : ℕ) (ps : List Packet) (p : Packet) → tally (is_marker c) ps ≡ 0 → orderly c false (ps ++ p ∷ []) ≡ true
orderly-append_first c [] p e = grind (arith)
orderly-append_first c (x ∷ ps) p e = let ih = orderly-append_first c ps p in grind (arith, nat_tests, ih, e)

pub orderly_less : (c : ℕ) (seen : Bool) (ps : List Packet) → orderly c seen ps ≡ true → orderly c false ps ≡ true
orderly_less c false ps h = h
orderly_less c true [] h = refl
orderly_less c true (p ∷ ps) h = let ih = orderly_less c true ps in let z = is_marker c p in go (is_marker c p) refl (grind (arith, h)) ih
  where
    go : (b : Bool) → is_marker c p ≡ b → orderly c true ps ≡ true → (orderly c true ps ≡ true → orderly c false ps ≡ true) → orderly c false (p ∷ ps) ≡ true
    go true e k ih = grind (arith, e, k)
    go false e k ih = let l = ih k in grind (arith, e, l)

-- after a marker that was seen no message is there
pub orderly_none : (c : ℕ) (ps : List Packet) → orderly c true ps ≡ true → AllOf (λ p. is_message_on c p ≡ false) ps
orderly_none c [] h = tt
orderly_none c (p ∷ ps) h = (grind (arith, h), orderly_none c ps (grind (arith, h)))

-- the rank has left, and each other member is noted
pub marked_row : (t : Comms) (r c : ℕ) (m : CommRow) → row_at t c ≡ Some m → all_marked t r c ≡ true → (is_left m.stage ≡ true) × ((q : ℕ) → has_rank m.members q ≡ true → (q ≢ r) → is_noted t m.ctx q ≡ true)
unfolding all_marked
marked_row t r c m e h =
    let k : all_marked_row t r (Some m) ≡ true = rw e at h in
    (grind (arith, k), λ q i ne. each m.members q i ne (grind (arith, k)))
  where
    each : (ms : List ℕ) (q : ℕ) → has_rank ms q ≡ true → q ≢ r → list_all (is_marked_by t r m.ctx) ms ≡ true → is_noted t m.ctx q ≡ true
    each [] q i ne k = absurd (cc (i))
    each (x ∷ xs) q i ne k = go (x == q) refl (each xs q)
      where
        go : (b : Bool) → (x == q) ≡ b → (has_rank xs q ≡ true → q ≢ r → list_all (is_marked_by t r m.ctx) xs ≡ true → is_noted t m.ctx q ≡ true) → is_noted t m.ctx q ≡ true
        go true s ih =
            let is : x ≡ q = grind (arith, nat_tests, s) in
            let mine : is_marked_by t r m.ctx x ≡ true = grind (arith, k) in
            let other : (q == r) ≡ false = grind (arith, nat_tests, ne) in
            let at : is_marked_by t r m.ctx q ≡ true = rw is at mine in
            grind (arith, at, other)
        go false s ih = ih (grind (arith, i, s)) ne (grind (arith, k))
