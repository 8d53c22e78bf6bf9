-- The threads of a rank where a creation goes on under another key, or without a colour.
use Rattle.std.proofs.Common.{◌≡◌, ℕ, ◌+◌, if◌then◌else◌, Bool, true, false, List, [], ◌∷◌, Option, Some, None, refl, ap, ◌∙◌, arith}
use Rattle.mpi_base.specs.declared.keys.Key.{Key}
use Rattle.mpi_base.specs.Keys.{same_key}
use Rattle.mpi_base.proofs.KeyFacts.{same_key_is}
use Rattle.mpi_law.specs.Registry.State as reg
use Rattle.mpi_law.specs.Registry.State.{Wait, Creating}
use Rattle.mpi_protocol.specs.declared.rows.Waits.{Waits}
use Rattle.mpi_protocol.specs.declared.rows.Waits.TheVariants.{Nothing, Creation as Creates, Uncoloured, Freeing, Ending, Receiving, Awaiting}
use Rattle.mpi_protocol.specs.declared.rows.ThreadRow.{ThreadRow}
use Rattle.mpi_protocol.specs.Rank.{idle_thread, goes_on, going_on, with_key}
use Rattle.run_law.proofs.Lists.{tally, one, get_or-map}
use Rattle.run_law.proofs.Threads.{WaitFits, is_for, row_of}

abbrev pub row_on : Key → Option Key → ThreadRow → ThreadRow
row_on key next t = record { calls = t.calls; waits = going_on key next t.waits }

pub row_going : (threads : List ThreadRow) (key : Key) (next : Option Key) (u : ℕ) → row_of (with_key threads key next) u ≡ row_on key next (row_of threads u)
row_going threads key next u = get_or-map (row_on key next) threads idle_thread u

pub waits_going : (key : Key) (next : Option Key) (a : Waits) (b : Wait) → WaitFits a b → WaitFits (going_on key next a) b
waits_going key next Nothing reg.Idle h = tt
waits_going key next (Creates k target session) (Creating n) h = go (same_key k key) next
  where
    go : (b : Bool) (o : Option Key) → WaitFits (if b then goes_on key o target session else Creates k target session) (Creating n)
    go true None = tt
    go true (Some nk) = tt
    go false o = tt
waits_going key next (Uncoloured k target session) (Creating n) h = tt
waits_going key next (Freeing serial) (reg.Freeing p) h = tt
waits_going key next (Ending s) (reg.Ending q) h = h
waits_going key next (Receiving n) (reg.Receiving m) h = h
waits_going key next (Awaiting name) (reg.Awaiting other) h = h
waits_going key next a b h = absurd h

-- whether this is the key that a creation goes on under
abbrev pub is_next : Option Key → Key → Bool
is_next None k = false
is_next (Some nk) k = same_key nk k

-- how many threads wait for a key then: those of it, but none where it is the key that ends, and with those of that key where
-- it goes on under this one

abbrev pub waiting : List ThreadRow → Key → ℕ
waiting threads k = tally (λ (t : ThreadRow). is_for k t.waits) threads

-- one thread among others
abbrev pub Counts : List ThreadRow → Key → Option Key → Key → ℕ → ℕ → ℕ → Type 0
Counts xs key next k new old mine = new + waiting (with_key xs key next) k ≡ (if same_key key k then 0 else old + waiting xs k) + (if is_next next k then mine + waiting xs key else 0)

abbrev pub Counted : List ThreadRow → Key → Option Key → Key → Type 0
Counted xs key next k = waiting (with_key xs key next) k ≡ (if same_key key k then 0 else waiting xs k) + (if is_next next k then waiting xs key else 0)

-- a thread that waits for no key
of_none : (xs : List ThreadRow) (key : Key) (next : Option Key) (k : Key) → Counted xs key next k → Counts xs key next k 0 0 0
of_none xs key next k h = go (same_key key k) (is_next next k) h
  where
    go : (a c : Bool) → waiting (with_key xs key next) k ≡ (if a then 0 else waiting xs k) + (if c then waiting xs key else 0) → 0 + waiting (with_key xs key next) k ≡ (if a then 0 else 0 + waiting xs k) + (if c then 0 + waiting xs key else 0)
    go true true h = omega (arith, h)
    go true false h = omega (arith, h)
    go false true h = omega (arith, h)
    go false false h = omega (arith, h)

-- a thread that waits for the key that ends
of_ending : (xs : List ThreadRow) (key : Key) (next : Option Key) (k : Key) → Counted xs key next k → Counts xs key next k (one (is_next next k)) (one (same_key key k)) 1
of_ending xs key next k h = go (same_key key k) (is_next next k) h
  where
    go : (a c : Bool) → waiting (with_key xs key next) k ≡ (if a then 0 else waiting xs k) + (if c then waiting xs key else 0) → one c + waiting (with_key xs key next) k ≡ (if a then 0 else one a + waiting xs k) + (if c then 1 + waiting xs key else 0)
    go true true h = omega (arith, h)
    go true false h = omega (arith, h)
    go false true h = omega (arith, h)
    go false false h = omega (arith, h)

-- one that waits for another key
of_other : (xs : List ThreadRow) (key : Key) (next : Option Key) (j k : Key) → same_key j key ≡ false → Counted xs key next k → Counts xs key next k (one (same_key j k)) (one (same_key j k)) 0
of_other xs key next j k e h = go (same_key key k) refl (same_key j k) refl (is_next next k) h
  where
    go : (a : Bool) → same_key key k ≡ a → (d : Bool) → same_key j k ≡ d → (c : Bool) → waiting (with_key xs key next) k ≡ (if a then 0 else waiting xs k) + (if c then waiting xs key else 0)
        → one d + waiting (with_key xs key next) k ≡ (if a then 0 else one d + waiting xs k) + (if c then 0 + waiting xs key else 0)
    go true ea true ed c h =
        let one_way = same_key_is key k ea in
        let z : same_key j key ≡ true = ap (same_key j) one_way ∙ ed in
        absurd (cc (z, e))
    go true ea false ed true h = omega (arith, h)
    go true ea false ed false h = omega (arith, h)
    go false ea true ed true h = omega (arith, h)
    go false ea true ed false h = omega (arith, h)
    go false ea false ed true h = omega (arith, h)
    go false ea false ed false h = omega (arith, h)

pub tally_going : (threads : List ThreadRow) (key : Key) (next : Option Key) (k : Key) → Counted threads key next k
tally_going [] key next k = go (same_key key k) (is_next next k)
  where
    go : (a b : Bool) → 0 ≡ (if a then 0 else 0) + (if b then 0 else 0)
    go true true = refl
    go true false = refl
    go false true = refl
    go false false = refl
tally_going (x ∷ xs) key next k = at x.waits (tally_going xs key next k)
  where
    next_is : (o : Option Key) (target : List ℕ) (session : ℕ) → is_for k (goes_on key o target session) ≡ is_next o k
    next_is None target session = refl
    next_is (Some nk) target session = refl

    creates : (j : Key) (target : List ℕ) (session : ℕ) → Counted xs key next k → (b : Bool) → same_key j key ≡ b → Counts xs key next k (one (is_for k (if b then goes_on key next target session else Creates j target session))) (one (same_key j k)) (one b)
    creates j target session ih false e = of_other xs key next j k e ih
    creates j target session ih true e =
        let same : same_key j k ≡ same_key key k = ap (λ (z : Key). same_key z k) (same_key_is j key e) in
        rw (next_is next target session, same) (of_ending xs key next k ih)

    at : (w : Waits) → Counted xs key next k → Counts xs key next k (one (is_for k (going_on key next w))) (one (is_for k w)) (one (is_for key w))
    at Nothing ih = of_none xs key next k ih
    at (Creates j target session) ih = creates j target session ih (same_key j key) refl
    at (Uncoloured j target session) ih = of_none xs key next k ih
    at (Freeing serial) ih = of_none xs key next k ih
    at (Ending s) ih = of_none xs key next k ih
    at (Receiving n) ih = of_none xs key next k ih
    at (Awaiting name) ih = of_none xs key next k ih
