-- Each name is bound once, and each communicator by one name, whatever a call or an answer binds; and what is bound fits.
use Rattle.std.proofs.Common.{◌≡◌, ℕ, ◌+◌, ◌≤◌, ◌==◌, not, if◌then◌else◌, Bool, true, false, List, [], ◌∷◌, ◌++◌, filter, find, option_map, Option, Some, None, bytes_eq, refl, ap, subst, arith}
use Rattle.std.specs.Option.{is_some}
use Rattle.std.proofs.lemmas.Bool.Decides.{nat_tests}
use Rattle.mpi_base.proofs.KeyFacts.{same_bytes}
use Rattle.local_law.specs.Names.{bound_of, bind, rebind, unbind}
use Rattle.local_law.specs.Objects as bound
use Rattle.mpi_law.specs.Local.Objects.{Bound, NameRow}
use Rattle.mpi_law.specs.Registry.State.{Communicator}
use Rattle.comm_law.specs.declared.rows.CommRow.{CommRow}
use Rattle.run_law.proofs.Lists.{tally, one}
use Rattle.run_law.proofs.Locals.{BoundFits, NamesFit, is_comm, binds, is_name}

-- How many names pass a test

pub tally-snoc : {A : Type 0} (p : A → Bool) (xs : List A) (y : A) → tally p (xs ++ y ∷ []) ≡ tally p xs + one (p y)
tally-snoc p [] y = omega arith
tally-snoc p (x ∷ xs) y = let ih = tally-snoc p xs y in omega (arith, ih)

pub tally-filter : {A : Type 0} (p q : A → Bool) (xs : List A) → tally p (filter q xs) ≤ tally p xs
tally-filter p q [] = omega arith
tally-filter p q (x ∷ xs) = let ih = tally-filter p q xs in go (q x) ih
  where
    go : (b : Bool) → tally p (filter q xs) ≤ tally p xs → tally p (if b then x ∷ filter q xs else filter q xs) ≤ one (p x) + tally p xs
    go true ih = omega (arith, ih)
    go false ih = omega (arith, ih)

-- a name that is bound to nothing
pub unbound_none : (names : List NameRow) (n : List ℕ) → is_some (bound_of names n) ≡ false → tally (is_name n) names ≡ 0
unbound_none [] n e = refl
unbound_none (x ∷ xs) n e = go (bytes_eq x.0 n) refl e (unbound_none xs n)
  where
    go : (b : Bool) → bytes_eq x.0 n ≡ b → is_some (option_map (λ (q : NameRow). q.1) (if b then Some x else find (λ (q : NameRow). bytes_eq q.0 n) xs)) ≡ false → (is_some (bound_of xs n) ≡ false → tally (is_name n) xs ≡ 0) → one (bytes_eq x.0 n) + tally (is_name n) xs ≡ 0
    go true t h ih = absurd (cc (h))
    go false t h ih = let z = ih h in grind (arith, t, z)

-- a name that is bound to a communicator
pub bound_some : (names : List NameRow) (n : List ℕ) (c s : ℕ) → bound_of names n ≡ Some (bound.Comm c s) → 1 ≤ tally (binds c) names
bound_some [] n c s e = absurd (cc (e))
bound_some (x ∷ xs) n c s e = go (bytes_eq x.0 n) e (bound_some xs n c s)
  where
    go : (b : Bool) → option_map (λ (q : NameRow). q.1) (if b then Some x else find (λ (q : NameRow). bytes_eq q.0 n) xs) ≡ Some (bound.Comm c s) → (bound_of xs n ≡ Some (bound.Comm c s) → 1 ≤ tally (binds c) xs) → 1 ≤ one (binds c x) + tally (binds c) xs
    go true h ih =
        let is : x.1 ≡ bound.Comm c s = cc (h) in
        let on : is_comm c x.1 ≡ true = rw is (grind (arith, nat_tests)) in
        let o : one (is_comm c x.1) ≡ 1 = ap one on in
        omega (arith, o)
    go false h ih = let z = ih h in omega (arith, z)

-- a communicator whose one name is unbound has no name
pub unbinds : (names : List NameRow) (n : List ℕ) (c s : ℕ) → bound_of names n ≡ Some (bound.Comm c s) → tally (binds c) names ≤ 1 → tally (binds c) (unbind names n) ≡ 0
unbinds [] n c s e few = refl
unbinds (x ∷ xs) n c s e few = go (bytes_eq x.0 n) e (tally-filter (binds c) (λ (q : NameRow). not (bytes_eq q.0 n)) xs) (bound_some xs n c s) (unbinds xs n c s)
  where
    go : (b : Bool) → option_map (λ (q : NameRow). q.1) (if b then Some x else find (λ (q : NameRow). bytes_eq q.0 n) xs) ≡ Some (bound.Comm c s) → tally (binds c) (unbind xs n) ≤ tally (binds c) xs → (bound_of xs n ≡ Some (bound.Comm c s) → 1 ≤ tally (binds c) xs) → (bound_of xs n ≡ Some (bound.Comm c s) → tally (binds c) xs ≤ 1 → tally (binds c) (unbind xs n) ≡ 0)
        → tally (binds c) (if not b then x ∷ unbind xs n else unbind xs n) ≡ 0
    go true h less some ih =
        let is : x.1 ≡ bound.Comm c s = cc (h) in
        let on : is_comm c x.1 ≡ true = rw is (grind (arith, nat_tests)) in
        let o : one (is_comm c x.1) ≡ 1 = ap one on in
        omega (arith, o, less, few)
    go false h less some ih =
        let z = some h in
        let y = ih h (omega (arith, few)) in
        omega (arith, few, z, y)

-- What is bound

pub each_bind : (names : List NameRow) (n : List ℕ) (b : Bound) → ((m : List ℕ) → tally (is_name m) names ≤ 1) → is_some (bound_of names n) ≡ false → (m : List ℕ) → tally (is_name m) (bind names n b) ≤ 1
each_bind names n b each free m = rw (tally-snoc (is_name m) names ((n, b))) (go (bytes_eq n m) refl (each m))
  where
    go : (t : Bool) → bytes_eq n m ≡ t → tally (is_name m) names ≤ 1 → tally (is_name m) names + one (bytes_eq n m) ≤ 1
    go true e k =
        let is = same_bytes n m e in
        let none : tally (is_name m) names ≡ 0 = subst (λ (z : List ℕ). tally (is_name z) names ≡ 0) is (unbound_none names n free) in
        let o : one (bytes_eq n m) ≡ 1 = ap one e in
        omega (arith, none, o)
    go false e k = let o : one (bytes_eq n m) ≡ 0 = ap one e in omega (arith, o, k)

pub unbound_bind : (names : List NameRow) (n : List ℕ) (b : Bound) (c k : ℕ) → is_comm c b ≡ false → tally (binds c) names ≤ k → tally (binds c) (bind names n b) ≤ k
unbound_bind names n b c k plain z = let t = tally-snoc (binds c) names ((n, b)) in let o : one (is_comm c b) ≡ 0 = ap one plain in omega (arith, t, o, z)

pub rebind_names : (names : List NameRow) (n m : List ℕ) (b : Bound) → tally (is_name m) (rebind names n b) ≡ tally (is_name m) names
rebind_names [] n m b = refl
rebind_names (x ∷ xs) n m b = let ih = rebind_names xs n m b in go (bytes_eq x.0 n) ih
  where
    go : (t : Bool) → tally (is_name m) (rebind xs n b) ≡ tally (is_name m) xs → one (is_name m (if t then (x.0, b) else x)) + tally (is_name m) (rebind xs n b) ≡ one (bytes_eq x.0 m) + tally (is_name m) xs
    go true ih = omega (arith, ih)
    go false ih = omega (arith, ih)

-- a communicator gets as many names more as there are of this name
pub rebind_comms : (names : List NameRow) (n : List ℕ) (c s d : ℕ) → tally (binds d) (rebind names n (bound.Comm c s)) ≤ tally (binds d) names + (if c == d then tally (is_name n) names else 0)
rebind_comms [] n c s d = omega arith
rebind_comms (x ∷ xs) n c s d = go (bytes_eq x.0 n) refl (c == d) refl (rebind_comms xs n c s d)
  where
    go : (t : Bool) → bytes_eq x.0 n ≡ t → (u : Bool) → (c == d) ≡ u → tally (binds d) (rebind xs n (bound.Comm c s)) ≤ tally (binds d) xs + (if u then tally (is_name n) xs else 0)
        → one (binds d (if t then (x.0, bound.Comm c s) else x)) + tally (binds d) (rebind xs n (bound.Comm c s)) ≤ one (binds d x) + tally (binds d) xs + (if u then one (bytes_eq x.0 n) + tally (is_name n) xs else 0)
    go true e true v ih = let o : one (bytes_eq x.0 n) ≡ 1 = ap one e in let q : one (c == d) ≡ 1 = ap one v in omega (arith, o, q, ih)
    go true e false v ih = let q : one (c == d) ≡ 0 = ap one v in omega (arith, q, ih)
    go false e true v ih = let o : one (bytes_eq x.0 n) ≡ 0 = ap one e in omega (arith, o, ih)
    go false e false v ih = omega (arith, ih)

pub once_rebind : (names : List NameRow) (n : List ℕ) (c s : ℕ) → ((m : List ℕ) → tally (is_name m) names ≤ 1) → ((d : ℕ) → tally (binds d) names ≤ 1) → tally (binds c) names ≡ 0 → (d : ℕ) → tally (binds d) (rebind names n (bound.Comm c s)) ≤ 1
once_rebind names n c s each once none d = go (c == d) refl (rebind_comms names n c s d) (once d)
  where
    go : (u : Bool) → (c == d) ≡ u → tally (binds d) (rebind names n (bound.Comm c s)) ≤ tally (binds d) names + (if u then tally (is_name n) names else 0) → tally (binds d) names ≤ 1 → tally (binds d) (rebind names n (bound.Comm c s)) ≤ 1
    go true e le k =
        let is : c ≡ d = grind (arith, nat_tests, e) in
        let z : tally (binds d) names ≡ 0 = subst (λ (i : ℕ). tally (binds i) names ≡ 0) is none in
        let m = each n in
        omega (arith, le, z, m)
    go false e le k = omega (arith, le, k)

-- a communicator that has no name gets none where another name is bound to another one, or a name is unbound
pub other_rebind : (names : List NameRow) (n : List ℕ) (c s d : ℕ) → (c ≡ d → ⊥) → tally (binds d) names ≡ 0 → tally (binds d) (rebind names n (bound.Comm c s)) ≡ 0
other_rebind names n c s d ne z = go (c == d) refl (rebind_comms names n c s d)
  where
    go : (b : Bool) → (c == d) ≡ b → tally (binds d) (rebind names n (bound.Comm c s)) ≤ tally (binds d) names + (if b then tally (is_name n) names else 0) → tally (binds d) (rebind names n (bound.Comm c s)) ≡ 0
    go true e le = absurd (ne (grind (arith, nat_tests, e)))
    go false e le = omega (arith, le, z)

pub other_unbind : (names : List NameRow) (n : List ℕ) (d : ℕ) → tally (binds d) names ≡ 0 → tally (binds d) (unbind names n) ≡ 0
other_unbind names n d z = let t = tally-filter (binds d) (λ (q : NameRow). not (bytes_eq q.0 n)) names in omega (arith, t, z)

pub fewer_unbind : (names : List NameRow) (p : NameRow → Bool) (n : List ℕ) (k : ℕ) → tally p names ≤ k → tally p (unbind names n) ≤ k
fewer_unbind names p n k z = let t = tally-filter p (λ (q : NameRow). not (bytes_eq q.0 n)) names in omega (arith, t, z)

-- What is bound fits

module _ (comms : List Communicator) (rows : List CommRow) (r : ℕ) where
  pub names-bind : (xs ys : List NameRow) (n : List ℕ) (a b : Bound) → NamesFit comms rows r xs ys → BoundFits comms rows r a b → NamesFit comms rows r (bind xs n a) (bind ys n b)
  names-bind [] [] n a b h f = (refl, f, tt)
  names-bind [] (y ∷ ys) n a b h f = absurd h
  names-bind (x ∷ xs) [] n a b h f = absurd h
  names-bind (x ∷ xs) (y ∷ ys) n a b h f = (h.0, h.1, names-bind xs ys n a b h.2 f)

  pub names-rebind : (xs ys : List NameRow) (n : List ℕ) (a b : Bound) → NamesFit comms rows r xs ys → BoundFits comms rows r a b → NamesFit comms rows r (rebind xs n a) (rebind ys n b)
  names-rebind [] [] n a b h f = tt
  names-rebind [] (y ∷ ys) n a b h f = absurd h
  names-rebind (x ∷ xs) [] n a b h f = absurd h
  names-rebind (x ∷ xs) (y ∷ ys) n a b h f =
      let q = go (bytes_eq x.0 n) (bytes_eq y.0 n) (ap (λ (z : List ℕ). bytes_eq z n) h.0) in
      (q.0, q.1, names-rebind xs ys n a b h.2 f)
    where
      go : (t u : Bool) → u ≡ t → ((if u then (y.0, b) else y).0 ≡ (if t then (x.0, a) else x).0) × BoundFits comms rows r (if t then (x.0, a) else x).1 (if u then (y.0, b) else y).1
      go true true e = (h.0, f)
      go false false e = (h.0, h.1)
      go true false e = absurd (cc (e))
      go false true e = absurd (cc (e))

  pub names-unbind : (xs ys : List NameRow) (n : List ℕ) → NamesFit comms rows r xs ys → NamesFit comms rows r (unbind xs n) (unbind ys n)
  names-unbind [] [] n h = tt
  names-unbind [] (y ∷ ys) n h = absurd h
  names-unbind (x ∷ xs) [] n h = absurd h
  names-unbind (x ∷ xs) (y ∷ ys) n h = go (bytes_eq x.0 n) (bytes_eq y.0 n) (ap (λ (z : List ℕ). bytes_eq z n) h.0) (names-unbind xs ys n h.2)
    where
      go : (t u : Bool) → u ≡ t → NamesFit comms rows r (unbind xs n) (unbind ys n) → NamesFit comms rows r (if not t then x ∷ unbind xs n else unbind xs n) (if not u then y ∷ unbind ys n else unbind ys n)
      go true true e ih = ih
      go false false e ih = (h.0, h.1, ih)
      go true false e ih = absurd (cc (e))
      go false true e ih = absurd (cc (e))

  -- what a name is bound to, on both sides
  pub data BothBound : Option Bound → Option Bound → Type 0 where
    neither : BothBound None None
    both : (a b : Bound) → BoundFits comms rows r a b → BothBound (Some a) (Some b)

  pub bound-fits : (xs ys : List NameRow) (n : List ℕ) → NamesFit comms rows r xs ys → BothBound (bound_of xs n) (bound_of ys n)
  bound-fits [] [] n h = neither
  bound-fits [] (y ∷ ys) n h = absurd h
  bound-fits (x ∷ xs) [] n h = absurd h
  bound-fits (x ∷ xs) (y ∷ ys) n h = go (bytes_eq x.0 n) (bytes_eq y.0 n) (ap (λ (z : List ℕ). bytes_eq z n) h.0) (bound-fits xs ys n h.2)
    where
      go : (t u : Bool) → u ≡ t → BothBound (bound_of xs n) (bound_of ys n) → BothBound (option_map (λ (q : NameRow). q.1) (if t then Some x else find (λ (q : NameRow). bytes_eq q.0 n) xs)) (option_map (λ (q : NameRow). q.1) (if u then Some y else find (λ (q : NameRow). bytes_eq q.0 n) ys))
      go true true e ih = both x.1 y.1 h.1
      go false false e ih = ih
      go true false e ih = absurd (cc (e))
      go false true e ih = absurd (cc (e))
