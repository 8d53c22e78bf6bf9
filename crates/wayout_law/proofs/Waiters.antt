-- At a rank no more creations are open than threads wait.
use Rattle.std.proofs.Common.{◌≡◌, ◌<◌, ◌≤◌, not, ℕ, suc, Bool, true, false, List, [], ◌∷◌, length, get_or, refl, subst, arith}
use Rattle.std.specs.Prelude.{if◌then◌else◌}
use Rattle.std.specs.Option.{is_some}
use Rattle.mpi_base.specs.declared.keys.Key.{Key}
use Rattle.mpi_base.specs.Keys.{same_key}
use Rattle.mpi_base.proofs.KeyFacts.{same_key_is, same_key-refl}
use Rattle.agree_law.specs.declared.rows.CreationRow.{CreationRow}
use Rattle.agree_law.specs.Part.{stage_of, close_creation}
use Rattle.mpi_protocol.specs.declared.rows.Waits.{Waits}
use Rattle.mpi_protocol.specs.declared.rows.Waits.TheVariants.{Nothing, Creation, Uncoloured, Freeing, Ending, Receiving, Awaiting}
use Rattle.mpi_protocol.specs.declared.rows.ThreadRow.{ThreadRow}
use Rattle.mpi_protocol.specs.Rank.{Rank}
use Rattle.mpi_protocol.specs.World.{blank}
use Rattle.projection_law.proofs.Parts.{some_close}
use Rattle.projection_law.proofs.Threads.{is_for, is_waited}
use Rattle.wayout_law.specs.Potential.{waits_now}
use Rattle.wayout_law.proofs.Bound.{waiting, AreWaited}
use Rattle.wayout_law.proofs.Rows.{has_no_row, OneEach}
use Rattle.wayout_law.proofs.OneRow.{one-close}

-- without the row of a key there is one less at most
close_none : (os : List CreationRow) (key : Key) → has_no_row key os ≡ true → length (close_creation os key) ≡ length os
close_none [] key e = refl
close_none (o ∷ os) key e = let ih = close_none os key (grind (arith, e)) in let far : same_key o.key key ≡ false = grind (arith, e) in rw far (omega (arith, ih))

close_one : (os : List CreationRow) (key : Key) → OneEach os → length os ≤ suc (length (close_creation os key))
close_one [] key h = omega arith
close_one (o ∷ os) key h = go (same_key o.key key) refl (close_one os key h.1)
  where
    go : (b : Bool) → same_key o.key key ≡ b → length os ≤ suc (length (close_creation os key)) → length (o ∷ os) ≤ suc (length (if not b then o ∷ close_creation os key else close_creation os key))
    go false s ih = omega (arith, ih)
    go true s ih = let none = close_none os key (subst (λ k. has_no_row k os ≡ true) (same_key_is o.key key s) h.0) in omega (arith, none)

-- a thread waits for each open creation
abbrev Waited : List CreationRow → List ThreadRow → Type 0
Waited os threads = (k : Key) → is_some (stage_of os k) ≡ true → is_waited threads k ≡ true

-- a thread waits for one creation at most
pub enough_wait : (os : List CreationRow) (threads : List ThreadRow) → OneEach os → Waited os threads → length os ≤ waiting threads
enough_wait [] threads one h = omega arith
enough_wait (o ∷ os) [] one h = let w : is_waited [] o.key ≡ true = h o.key (let s = same_key-refl o.key in rw s refl) in absurd (cc)
enough_wait (o ∷ os) (t ∷ ts) one h = go t.waits refl (enough_wait (o ∷ os) ts one) (λ key. enough_wait (close_creation (o ∷ os) key) ts (one-close (o ∷ os) key one))
  where
    plain : ((k : Key) → is_for k t.waits ≡ false) → Waited (o ∷ os) ts
    plain none k e = let w = h k e in let n = none k in grind (arith, w, n)

    closed : (key : Key) → ((k : Key) → is_for k t.waits ≡ same_key key k) → Waited (close_creation (o ∷ os) key) ts
    closed key is k e =
        let s = some_close (o ∷ os) key k in
        let open_there : is_some (stage_of (o ∷ os) k) ≡ true = grind (arith, s, e) in
        let far : same_key key k ≡ false = grind (arith, s, e) in
        let w = h k open_there in
        let n = is k in
        grind (arith, w, n, far)

    later : Waited (o ∷ os) ts → (Waited (o ∷ os) ts → length (o ∷ os) ≤ waiting ts) → length (o ∷ os) ≤ waiting (t ∷ ts)
    later w ih = let i = ih w in omega (arith, i)

    go : (w : Waits) → t.waits ≡ w → (Waited (o ∷ os) ts → length (o ∷ os) ≤ waiting ts) → ((key : Key) → Waited (close_creation (o ∷ os) key) ts → length (close_creation (o ∷ os) key) ≤ waiting ts) → length (o ∷ os) ≤ waiting (t ∷ ts)
    go (Creation key target session) e ih closing =
        let i = closing key (closed key (λ k. rw e refl)) in
        let c = close_one (o ∷ os) key one in
        let now : waits_now t ≡ 1 = rw e refl in
        omega (arith, i, c, now)
    go Nothing e ih closing = later (plain (λ k. rw e refl)) ih
    go (Uncoloured key target session) e ih closing = later (plain (λ k. rw e refl)) ih
    go (Freeing serial) e ih closing = later (plain (λ k. rw e refl)) ih
    go (Ending session) e ih closing = later (plain (λ k. rw e refl)) ih
    go (Receiving n) e ih closing = later (plain (λ k. rw e refl)) ih
    go (Awaiting name) e ih closing = later (plain (λ k. rw e refl)) ih

-- so at each rank
pub all_wait : (xs : List Rank) → ((r : ℕ) → r < length xs → length (get_or xs r blank).agree.opened ≤ waiting (get_or xs r blank).threads) → AreWaited xs
all_wait [] h = tt
all_wait (x ∷ xs) h = (h 0 (omega arith), all_wait xs (λ r lt. h (suc r) (omega (arith, lt))))
