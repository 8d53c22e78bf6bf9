-- What the threads of a rank wait for, where one of them changes or a creation goes on under another key.
use Rattle.std.proofs.Common.{◌≡◌, ◌<◌, ◌||◌, ◌==◌, ℕ, zero, suc, Bool, true, false, if◌then◌else◌, List, [], ◌∷◌, length, map, set, get_or, Option, Some, None, refl, arith}
use Rattle.std.specs.List.{list_any}
use Rattle.mpi_base.specs.declared.keys.Key.{Key}
use Rattle.mpi_base.specs.Keys.{same_key}
use Rattle.mpi_base.proofs.KeyFacts.{same_key_is, same_key-refl}
use Rattle.agree_law.proofs.Lists.{AllOf}
use Rattle.comm_law.specs.Comms.{Comms}
use Rattle.mpi_protocol.specs.declared.rows.Waits.{Waits}
use Rattle.mpi_protocol.specs.declared.rows.Waits.TheVariants.{Nothing, Creation, Uncoloured, Freeing, Ending, Receiving, Awaiting}
use Rattle.mpi_protocol.specs.declared.rows.ThreadRow.{ThreadRow}
use Rattle.mpi_protocol.specs.Rank.{idle_thread, is_idle, creates, has_open, goes_on, going_on, with_key}
use Rattle.projection_law.proofs.Rows.{stands}

-- a thread waits for a creation that the agreement still has
abbrev pub is_for : Key → Waits → Bool
is_for k Nothing = false
is_for k (Creation key target session) = same_key key k
is_for k (Uncoloured key target session) = false
is_for k (Freeing serial) = false
is_for k (Ending session) = false
is_for k (Receiving number) = false
is_for k (Awaiting name) = false

-- whether some thread does
abbrev pub is_waited : List ThreadRow → Key → Bool
is_waited threads k = list_any (λ t. is_for k t.waits) threads

-- a creation of which a thread waits stands on a communicator that has counted it
abbrev pub WaitStands : Comms → Waits → Type 0
WaitStands comms Nothing = Unit {0}
WaitStands comms (Creation key target session) = stands comms key ≡ true
WaitStands comms (Uncoloured key target session) = stands comms key ≡ true
WaitStands comms (Freeing serial) = Unit {0}
WaitStands comms (Ending session) = Unit {0}
WaitStands comms (Receiving number) = Unit {0}
WaitStands comms (Awaiting name) = Unit {0}

-- each creation of which a thread waits does
abbrev pub Standing : Comms → List ThreadRow → Type 0
Standing comms threads = AllOf (λ (t : ThreadRow). WaitStands comms t.waits) threads

-- One thread changes

pub waited_set : (threads : List ThreadRow) (t : ℕ) (y : ThreadRow) (k : Key) → is_waited threads k ≡ true → is_for k (get_or threads t idle_thread).waits ≡ false → is_waited (set threads t y) k ≡ true
waited_set [] t y k e f = absurd (cc (e))
waited_set (x ∷ xs) zero y k e f = let r : list_any (λ z. is_for k z.waits) xs ≡ true = grind (arith, e, f) in grind (arith, r)
waited_set (x ∷ xs) (suc t) y k e f = go (is_for k x.waits) refl (λ r. waited_set xs t y k r f)
  where
    go : (b : Bool) → is_for k x.waits ≡ b → (is_waited xs k ≡ true → is_waited (set xs t y) k ≡ true) → (is_for k x.waits || is_waited (set xs t y) k) ≡ true
    go true u ih = rw u refl
    go false u ih = let r : is_waited xs k ≡ true = grind (arith, e, u) in let i = ih r in rw (u, i) refl

pub waited_new : (threads : List ThreadRow) (t : ℕ) (y : ThreadRow) (k : Key) → t < length threads → is_for k y.waits ≡ true → is_waited (set threads t y) k ≡ true
waited_new [] t y k lt e = absurd (omega (arith, lt))
waited_new (x ∷ xs) zero y k lt e = rw e refl
waited_new (x ∷ xs) (suc t) y k lt e = let ih = waited_new xs t y k (omega (arith, lt)) e in grind (arith, ih)

pub all_set : {A : Type 0} (P : A → Type 0) (xs : List A) (i : ℕ) (y : A) → P y → AllOf P xs → AllOf P (set xs i y)
all_set P [] i y p h = h
all_set P (x ∷ xs) zero y p h = (p, h.1)
all_set P (x ∷ xs) (suc i) y p h = (h.0, all_set P xs i y p h.1)

pub idle_for : (w : Waits) (k : Key) → is_idle w ≡ true → is_for k w ≡ false
idle_for Nothing k e = refl
idle_for (Creation key target session) k e = absurd (cc (e))
idle_for (Uncoloured key target session) k e = refl
idle_for (Freeing serial) k e = refl
idle_for (Ending session) k e = refl
idle_for (Receiving number) k e = refl
idle_for (Awaiting name) k e = refl

-- Threads tell whether a key is open, and those that are stand

for_creates : (w : Waits) (k : Key) → is_for k w ≡ true → creates (λ q s. same_key q k) w ≡ true
for_creates Nothing k e = e
for_creates (Creation key target session) k e = e
for_creates (Uncoloured key target session) k e = absurd (cc (e))
for_creates (Freeing serial) k e = e
for_creates (Ending session) k e = e
for_creates (Receiving number) k e = e
for_creates (Awaiting name) k e = e

pub waited_is_open : (threads : List ThreadRow) (k : Key) → is_waited threads k ≡ true → has_open threads (λ q s. same_key q k) ≡ true
waited_is_open [] k e = e
waited_is_open (x ∷ xs) k e = go (is_for k x.waits) refl (waited_is_open xs k)
  where
    go : (b : Bool) → is_for k x.waits ≡ b → (is_waited xs k ≡ true → has_open xs (λ q s. same_key q k) ≡ true) → (creates (λ q s. same_key q k) x.waits || has_open xs (λ q s. same_key q k)) ≡ true
    go true u ih = let c = for_creates x.waits k u in rw c refl
    go false u ih = let r : is_waited xs k ≡ true = grind (arith, e, u) in let i = ih r in grind (arith, i)

wait_stands : (comms : Comms) (w : Waits) (k : Key) → is_for k w ≡ true → WaitStands comms w → stands comms k ≡ true
wait_stands comms Nothing k e h = absurd (cc (e))
wait_stands comms (Creation key target session) k e h = rw (← same_key_is key k e) h
wait_stands comms (Uncoloured key target session) k e h = absurd (cc (e))
wait_stands comms (Freeing serial) k e h = absurd (cc (e))
wait_stands comms (Ending session) k e h = absurd (cc (e))
wait_stands comms (Receiving number) k e h = absurd (cc (e))
wait_stands comms (Awaiting name) k e h = absurd (cc (e))

pub waited_stands : (comms : Comms) (threads : List ThreadRow) (k : Key) → is_waited threads k ≡ true → Standing comms threads → stands comms k ≡ true
waited_stands comms [] k e h = absurd (cc (e))
waited_stands comms (x ∷ xs) k e h = go (is_for k x.waits) refl (λ r. waited_stands comms xs k r h.1)
  where
    go : (b : Bool) → is_for k x.waits ≡ b → (is_waited xs k ≡ true → stands comms k ≡ true) → stands comms k ≡ true
    go true u ih = wait_stands comms x.waits k u h.0
    go false u ih = ih (grind (arith, e, u))

-- communicators change: each creation that is waited for goes on to stand

pub standing_each : (comms more : Comms) (threads : List ThreadRow) → ((key : Key) → stands comms key ≡ true → stands more key ≡ true) → Standing comms threads → Standing more threads
standing_each comms more [] f h = tt
standing_each comms more (x ∷ xs) f h = (go x.waits h.0, standing_each comms more xs f h.1)
  where
    go : (w : Waits) → WaitStands comms w → WaitStands more w
    go Nothing h = tt
    go (Creation key target session) h = f key h
    go (Uncoloured key target session) h = f key h
    go (Freeing serial) h = tt
    go (Ending session) h = tt
    go (Receiving number) h = tt
    go (Awaiting name) h = tt

-- the same where no creation under a communicator is open
pub standing_apart : (comms more : Comms) (threads : List ThreadRow) (c : ℕ) → ((key : Key) → (key.parent == c) ≡ false → stands comms key ≡ true → stands more key ≡ true) → has_open threads (λ k s. k.parent == c) ≡ false → Standing comms threads → Standing more threads
standing_apart comms more [] c f none h = tt
standing_apart comms more (x ∷ xs) c f none h = (go x.waits (grind (arith, none)) h.0, standing_apart comms more xs c f (grind (arith, none)) h.1)
  where
    go : (w : Waits) → creates (λ k s. k.parent == c) w ≡ false → WaitStands comms w → WaitStands more w
    go Nothing n h = tt
    go (Creation key target session) n h = f key n h
    go (Uncoloured key target session) n h = f key n h
    go (Freeing serial) n h = tt
    go (Ending session) n h = tt
    go (Receiving number) n h = tt
    go (Awaiting name) n h = tt

-- A creation goes on under another key

pub standing_next : (comms : Comms) (threads : List ThreadRow) (key : Key) (next : Option Key) → ((k : Key) → next ≡ Some k → stands comms key ≡ true → stands comms k ≡ true) → Standing comms threads → Standing comms (with_key threads key next)
standing_next comms [] key next f h = tt
standing_next comms (x ∷ xs) key next f h = (go x.waits h.0, standing_next comms xs key next f h.1)
  where
    on : (o : Option Key) → next ≡ o → (k : Key) (target : List ℕ) (session : ℕ) → stands comms key ≡ true → WaitStands comms (goes_on key o target session)
    on None e k target session h = h
    on (Some q) e k target session h = f q e h

    go : (w : Waits) → WaitStands comms w → WaitStands comms (going_on key next w)
    go Nothing h = tt
    go (Creation k target session) h = by (same_key k key) refl
      where
        by : (b : Bool) → same_key k key ≡ b → WaitStands comms (if b then goes_on key next target session else Creation k target session)
        by true e = on next refl k target session (rw (← same_key_is k key e) h)
        by false e = h
    go (Uncoloured k target session) h = h
    go (Freeing serial) h = tt
    go (Ending session) h = tt
    go (Receiving number) h = tt
    go (Awaiting name) h = tt

for_other : (w : Waits) (key k : Key) (next : Option Key) → same_key key k ≡ false → is_for k w ≡ true → is_for k (going_on key next w) ≡ true
for_other Nothing key k next ne e = e
for_other (Creation q target session) key k next ne e = by (same_key q key) refl
  where
    by : (b : Bool) → same_key q key ≡ b → is_for k (if b then goes_on key next target session else Creation q target session) ≡ true
    by true u = let is = same_key_is q key u in absurd (let z : same_key key k ≡ true = rw (← is) e in grind (arith, z, ne))
    by false u = e
for_other (Uncoloured q target session) key k next ne e = e
for_other (Freeing serial) key k next ne e = e
for_other (Ending session) key k next ne e = e
for_other (Receiving number) key k next ne e = e
for_other (Awaiting name) key k next ne e = e

for_next : (w : Waits) (key next : Key) → is_for key w ≡ true → is_for next (going_on key (Some next) w) ≡ true
for_next Nothing key next e = absurd (cc (e))
for_next (Creation q target session) key next e = rw e (same_key-refl next)
for_next (Uncoloured q target session) key next e = absurd (cc (e))
for_next (Freeing serial) key next e = absurd (cc (e))
for_next (Ending session) key next e = absurd (cc (e))
for_next (Receiving number) key next e = absurd (cc (e))
for_next (Awaiting name) key next e = absurd (cc (e))

waited_by : (threads : List ThreadRow) (f : Waits → Waits) (k q : Key) → ((w : Waits) → is_for k w ≡ true → is_for q (f w) ≡ true) → is_waited threads k ≡ true → is_waited (map (λ t. record { calls = t.calls; waits = f t.waits }) threads) q ≡ true
waited_by [] f k q g e = absurd (cc (e))
waited_by (x ∷ xs) f k q g e = go (is_for k x.waits) refl (waited_by xs f k q g)
  where
    go : (b : Bool) → is_for k x.waits ≡ b → (is_waited xs k ≡ true → is_waited (map (λ t. record { calls = t.calls; waits = f t.waits }) xs) q ≡ true)
        → (is_for q (f x.waits) || is_waited (map (λ t. record { calls = t.calls; waits = f t.waits }) xs) q) ≡ true
    go true u ih = let y = g x.waits u in rw y refl
    go false u ih = let r : is_waited xs k ≡ true = grind (arith, e, u) in let i = ih r in grind (arith, i)

pub waited_other : (threads : List ThreadRow) (key k : Key) (next : Option Key) → same_key key k ≡ false → is_waited threads k ≡ true → is_waited (with_key threads key next) k ≡ true
waited_other threads key k next ne e = waited_by threads (going_on key next) k k (λ w. for_other w key k next ne) e

pub waited_next : (threads : List ThreadRow) (key next : Key) → is_waited threads key ≡ true → is_waited (with_key threads key (Some next)) next ≡ true
waited_next threads key next e = waited_by threads (going_on key (Some next)) key next (λ w. for_next w key next) e
