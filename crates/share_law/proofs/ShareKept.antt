-- What is kept of one exchange, looked at alone: its members by place, what the first has gathered, and its packets on their way.
use Rattle.std.proofs.Common.{◌≡◌, ◌≢◌, ◌≤◌, ◌<◌, ◌+◌, ◌==◌, ◌&&◌, ℕ, zero, suc, Bool, true, false, if◌then◌else◌, List, [], ◌∷◌, ◌++◌, map, length, slice_get, Option, Some, None, refl, sym, subst, ap, ◌∙◌, arith}
use Rattle.std.specs.Prelude.{is_none}
use Rattle.std.specs.Option.{is_some}
use Rattle.std.specs.List.{range_with_len}
use Rattle.std.proofs.lemmas.Bool.Decides.{nat_tests}
use Rattle.mpi_base.specs.declared.keys.Key.{Key}
use Rattle.mpi_base.specs.Keys.{same_key}
use Rattle.mpi_base.specs.declared.shares.Shared1.{Shared1}
use Rattle.agree_law.specs.declared.rows.ShareRow.{ShareRow}
use Rattle.agree_law.specs.Packets.{Packet, Up, Down, Share, Shares}
use Rattle.agree_law.specs.Shares.{share_here, with_some, shares_at}
use Rattle.agree_law.specs.World.{Flight}
use Rattle.agree_law.proofs.Lists.{AllOf, AllOf-append, AllOf-without, AllOf_both, AllOf_each, AllOf_from_none, tally, one, tally-append, tally-without, without}
use Rattle.agree_law.proofs.OnePlace.{Distinct}

-- the shares of a key
abbrev pub rows_of : List ShareRow → Key → List ShareRow
rows_of [] key = []
rows_of (o ∷ os) key = if same_key o.key key then o ∷ rows_of os key else rows_of os key

abbrev pub row_of : ℕ → ShareRow → Bool
row_of p o = o.place == p

-- a share from the rank, the shares to it
abbrev pub is_share_from : ℕ → Packet → ℕ → Bool
is_share_from r (Up k i own mask) from = false
is_share_from r (Down k i v) from = false
is_share_from r (Share k s) from = from == r
is_share_from r (Shares k ss) from = false

abbrev pub is_shares_to : ℕ → Packet → ℕ → Bool
is_shares_to r (Up k i own mask) to = false
is_shares_to r (Down k i v) to = false
is_shares_to r (Share k s) to = false
is_shares_to r (Shares k ss) to = to == r

abbrev pub share_from : ℕ → Flight → Bool
share_from r f = is_share_from r f.packet f.from

abbrev pub shares_to : ℕ → Flight → Bool
shares_to r f = is_shares_to r f.packet f.to

abbrev pub share_tokens : (ℕ → ℕ) → (ℕ → Option Shared1) → List ShareRow → List Flight → ℕ → ℕ
share_tokens m S rows fs p = one (is_none (S p)) + tally (share_from (m p)) fs + tally (row_of p) rows + tally (shares_to (m p)) fs

-- a packet between a member and the first
pub record Ray (n : ℕ) (m : ℕ → ℕ) (p member first : ℕ) : Type 0 where
  pub above : 0 < p
  pub inside : p < n
  pub low : member ≡ m p
  pub high : first ≡ m 0

abbrev pub ShareFlies : ℕ → (ℕ → ℕ) → (ℕ → Option Shared1) → ℕ → ℕ → Packet → Type 0
ShareFlies n m S from to (Up k i own mask) = ⊥
ShareFlies n m S from to (Down k i v) = ⊥
ShareFlies n m S from to (Share k s) = (p : ℕ) × Ray n m p from to × (S p ≡ Some s)
ShareFlies n m S from to (Shares k ss) = (p : ℕ) × Ray n m p to from × (length ss ≡ n) × (slice_get ss p ≡ S p)

abbrev pub ShareFliesAt : ℕ → (ℕ → ℕ) → (ℕ → Option Shared1) → Flight → Type 0
ShareFliesAt n m S f = ShareFlies n m S f.from f.to f.packet

abbrev pub ShareHeld : ℕ → (ℕ → Option Shared1) → ShareRow → Type 0
ShareHeld n S o = (o.place < n) × (S o.place ≡ Some o.share)

pub record ShareKept (n : ℕ) (m : ℕ → ℕ) (S : ℕ → Option Shared1) (rows : List ShareRow) (fs : List Flight) : Type 0 where
  pub token : (p : ℕ) → p < n → share_tokens m S rows fs p ≡ 1
  pub flown : AllOf (ShareFliesAt n m S) fs
  pub held : AllOf (ShareHeld n S) rows

-- the shares of all other members stay
abbrev pub OtherShares : ℕ → (ℕ → Option Shared1) → (ℕ → Option Shared1) → ℕ → Type 0
OtherShares n S T p = (q : ℕ) → q < n → q ≢ p → T q ≡ S q

flies_on : (n : ℕ) (m : ℕ → ℕ) (S T : ℕ → Option Shared1) (p from to : ℕ) (x : Packet) → OtherShares n S T p → is_share_from (m p) x from ≡ false → is_shares_to (m p) x to ≡ false → ShareFlies n m S from to x → ShareFlies n m T from to x
flies_on n m S T p from to (Up k i own mask) o a b h = absurd h
flies_on n m S T p from to (Down k i v) o a b h = absurd h
flies_on n m S T p from to (Share k s) o a b h =
    let r = h.1 in
    let low = r.low in
    let ne : h.0 ≢ p = λ e. (let x : from ≡ m p = low ∙ ap m e in let y : (from == m p) ≡ true = grind (arith, nat_tests, x) in cc) in
    (h.0, r, o h.0 r.inside ne ∙ h.2)
flies_on n m S T p from to (Shares k ss) o a b h =
    let r = h.1 in
    let low = r.low in
    let ne : h.0 ≢ p = λ e. (let x : to ≡ m p = low ∙ ap m e in let y : (to == m p) ≡ true = grind (arith, nat_tests, x) in cc) in
    (h.0, r, h.2, h.3 ∙ sym (o h.0 r.inside ne))

pub shares_flown : (n : ℕ) (m : ℕ → ℕ) (S T : ℕ → Option Shared1) (p : ℕ) (fs : List Flight) → OtherShares n S T p → tally (share_from (m p)) fs ≡ 0 → tally (shares_to (m p)) fs ≡ 0 → AllOf (ShareFliesAt n m S) fs → AllOf (ShareFliesAt n m T) fs
shares_flown n m S T p fs o a b h =
    AllOf_both (ShareFliesAt n m S) (λ f. (share_from (m p) f ≡ false) × (shares_to (m p) f ≡ false)) (ShareFliesAt n m T) fs (λ f x y. flies_on n m S T p f.from f.to f.packet o y.0 y.1 x) h
    (AllOf_both (λ f. share_from (m p) f ≡ false) (λ f. shares_to (m p) f ≡ false) (λ f. (share_from (m p) f ≡ false) × (shares_to (m p) f ≡ false)) fs (λ f x y. (x, y)) (AllOf_from_none (share_from (m p)) fs a) (AllOf_from_none (shares_to (m p)) fs b))

pub shares_held : (n : ℕ) (S T : ℕ → Option Shared1) (p : ℕ) (rows : List ShareRow) → OtherShares n S T p → tally (row_of p) rows ≡ 0 → AllOf (ShareHeld n S) rows → AllOf (ShareHeld n T) rows
shares_held n S T p rows o a h =
    AllOf_both (ShareHeld n S) (λ x. row_of p x ≡ false) (ShareHeld n T) rows (λ x y z. (y.0, o x.place y.0 (grind (arith, nat_tests, z)) ∙ y.1)) h (AllOf_from_none (row_of p) rows a)

-- nothing of the exchange changes
pub shares_same : (n : ℕ) (m : ℕ → ℕ) (S T : ℕ → Option Shared1) (rows : List ShareRow) (fs : List Flight) → ((q : ℕ) → T q ≡ S q) → ShareKept n m S rows fs → ShareKept n m T rows fs
shares_same n m S T rows fs e h =
    record {
      token = λ p lt. (let x = e p in rw x (h.token p lt));
      flown = AllOf_each (ShareFliesAt n m S) (ShareFliesAt n m T) fs (λ f x. go f.from f.to f.packet x) h.flown;
      held = AllOf_each (ShareHeld n S) (ShareHeld n T) rows (λ o x. (x.0, e o.place ∙ x.1)) h.held;
    }
  where
    go : (from to : ℕ) (p : Packet) → ShareFlies n m S from to p → ShareFlies n m T from to p
    go from to (Up k i own mask) h = absurd h
    go from to (Down k i v) h = absurd h
    go from to (Share k s) h = (h.0, h.1, e h.0 ∙ h.2)
    go from to (Shares k ss) h = (h.0, h.1, h.2, h.3 ∙ sym (e h.0))

-- A call at a place

pub share_call_first : (n : ℕ) (m : ℕ → ℕ) (S T : ℕ → Option Shared1) (rows : List ShareRow) (fs : List Flight) (o : ShareRow) → 0 < n → ShareKept n m S rows fs → OtherShares n S T 0 → S 0 ≡ None → T 0 ≡ Some o.share → o.place ≡ 0
    → ShareKept n m T (rows ++ o ∷ []) fs
share_call_first n m S T rows fs o lt h other was now place =
    let t = h.token 0 lt in
    let home : one (is_none (S 0)) ≡ 1 = rw was refl in
    let none : tally (row_of 0) rows ≡ 0 = omega (arith, t, home) in
    record {
      token = λ q l. go q l (q == 0) refl;
      flown = shares_flown n m S T 0 fs other (omega (arith, t, home)) (omega (arith, t, home)) h.flown;
      held = AllOf-append (ShareHeld n T) rows (o ∷ []) (shares_held n S T 0 rows other none h.held) ((omega (arith, place, lt), ap T place ∙ now), tt);
    }
  where
    go : (q : ℕ) → q < n → (b : Bool) → (q == 0) ≡ b → share_tokens m T (rows ++ o ∷ []) fs q ≡ 1
    go q l true s =
        let is : 0 ≡ q = grind (arith, nat_tests, s) in
        let t = h.token 0 lt in
        let home : one (is_none (S 0)) ≡ 1 = rw was refl in
        let away : one (is_none (T 0)) ≡ 0 = rw now refl in
        let a = tally-append (row_of 0) rows (o ∷ []) in
        let e : (o.place == 0) ≡ true = grind (arith, nat_tests, place) in
        let u : one (o.place == 0) ≡ 1 = rw e refl in
        let all : share_tokens m T (rows ++ o ∷ []) fs 0 ≡ 1 = omega (arith, t, home, away, a, u) in
        subst (λ z. share_tokens m T (rows ++ o ∷ []) fs z ≡ 1) is all
    go q l false s =
        let ne : q ≢ 0 = grind (arith, nat_tests, s) in
        let x = ap (λ z. one (is_none z)) (other q l ne) in
        let t = h.token q l in
        let a = tally-append (row_of q) rows (o ∷ []) in
        let e : (o.place == q) ≡ false = grind (arith, nat_tests, place, ne) in
        let u : one (o.place == q) ≡ 0 = rw e refl in
        omega (arith, x, t, a, u)

pub share_call : (n : ℕ) (m : ℕ → ℕ) (S T : ℕ → Option Shared1) (rows : List ShareRow) (fs : List Flight) (p : ℕ) (key : Key) (s : Shared1) → Distinct n m → 0 < p → p < n → ShareKept n m S rows fs → OtherShares n S T p → S p ≡ None → T p ≡ Some s
    → ShareKept n m T rows (fs ++ record { from = m p; to = m 0; packet = Share key s } ∷ [])
share_call n m S T rows fs p key s distinct pos lt h other was now =
    let t = h.token p lt in
    let home : one (is_none (S p)) ≡ 1 = rw was refl in
    record {
      token = λ q l. go q l (q == p) refl;
      flown = AllOf-append (ShareFliesAt n m T) fs (f ∷ []) (shares_flown n m S T p fs other (omega (arith, t, home)) (omega (arith, t, home)) h.flown) ((p, record { above = pos; inside = lt; low = refl; high = refl }, now), tt);
      held = shares_held n S T p rows other (omega (arith, t, home)) h.held;
    }
  where
    f : Flight
    f = record { from = m p; to = m 0; packet = Share key s }

    go : (q : ℕ) → q < n → (b : Bool) → (q == p) ≡ b → share_tokens m T rows (fs ++ f ∷ []) q ≡ 1
    go q l true e =
        let is : p ≡ q = grind (arith, nat_tests, e) in
        let t = h.token p lt in
        let home : one (is_none (S p)) ≡ 1 = rw was refl in
        let away : one (is_none (T p)) ≡ 0 = rw now refl in
        let a = tally-append (share_from (m p)) fs (f ∷ []) in
        let b = tally-append (shares_to (m p)) fs (f ∷ []) in
        let x : (m p == m p) ≡ true = grind (arith, nat_tests) in
        let u : one (m p == m p) ≡ 1 = rw x refl in
        let all : share_tokens m T rows (fs ++ f ∷ []) p ≡ 1 = omega (arith, t, home, away, a, b, u) in
        subst (λ z. share_tokens m T rows (fs ++ f ∷ []) z ≡ 1) is all
    go q l false e =
        let ne : q ≢ p = grind (arith, nat_tests, e) in
        let x = ap (λ z. one (is_none z)) (other q l ne) in
        let t = h.token q l in
        let a = tally-append (share_from (m q)) fs (f ∷ []) in
        let b = tally-append (shares_to (m q)) fs (f ∷ []) in
        let d = distinct p q lt l in
        let y : (m p == m q) ≡ false = d ∙ (grind (arith, nat_tests, ne)) in
        let u : one (m p == m q) ≡ 0 = rw y refl in
        omega (arith, x, t, a, b, u)

-- A share comes

pub share_comes : (n : ℕ) (m : ℕ → ℕ) (S : ℕ → Option Shared1) (rows : List ShareRow) (fs : List Flight) (k p : ℕ) (key : Key) (s : Shared1) (o : ShareRow) → Distinct n m → ShareKept n m S rows fs → p < n → S p ≡ Some s
    → slice_get fs k ≡ Some (record { from = m p; to = m 0; packet = Share key s }) → o.place ≡ p → o.share ≡ s → ShareKept n m S (rows ++ o ∷ []) (without fs k)
share_comes n m S rows fs k p key s o distinct h lt now there place share =
    record {
      token = λ q l.
          let t = h.token q l in
          let a = tally-without (share_from (m q)) fs k (record { from = m p; to = m 0; packet = Share key s }) there in
          let b = tally-without (shares_to (m q)) fs k (record { from = m p; to = m 0; packet = Share key s }) there in
          let c = tally-append (row_of q) rows (o ∷ []) in
          let d = ap one (distinct p q lt l) in
          let e : one (o.place == q) ≡ one (p == q) = ap (λ z. one (z == q)) place in
          omega (arith, t, a, b, c, d, e);
      flown = AllOf-without (ShareFliesAt n m S) fs k h.flown;
      held = AllOf-append (ShareHeld n S) rows (o ∷ []) h.held ((omega (arith, place, lt), ap S place ∙ now ∙ ap (λ z. Some z) (sym share)), tt);
    }

-- The shares come to a member

pub shares_come : (n : ℕ) (m : ℕ → ℕ) (S T : ℕ → Option Shared1) (rows : List ShareRow) (fs : List Flight) (k p : ℕ) (key : Key) (ss : List Shared1) → Distinct n m → ShareKept n m S rows fs → p < n → OtherShares n S T p → T p ≡ None
    → slice_get fs k ≡ Some (record { from = m 0; to = m p; packet = Shares key ss }) → ShareKept n m T rows (without fs k)
shares_come n m S T rows fs k p key ss distinct h lt other now there =
    let t = h.token p lt in
    let a = tally-without (share_from (m p)) fs k f there in
    let b = tally-without (shares_to (m p)) fs k f there in
    let x : (m p == m p) ≡ true = grind (arith, nat_tests) in
    let u : one (m p == m p) ≡ 1 = rw x refl in
    record {
      token = λ q l. go q l (q == p) refl;
      flown = shares_flown n m S T p (without fs k) other (omega (arith, t, a, b, u)) (omega (arith, t, a, b, u)) (AllOf-without (ShareFliesAt n m S) fs k h.flown);
      held = shares_held n S T p rows other (omega (arith, t, a, b, u)) h.held;
    }
  where
    f : Flight
    f = record { from = m 0; to = m p; packet = Shares key ss }

    go : (q : ℕ) → q < n → (c : Bool) → (q == p) ≡ c → share_tokens m T rows (without fs k) q ≡ 1
    go q l true e =
        let is : p ≡ q = grind (arith, nat_tests, e) in
        let t = h.token p lt in
        let a = tally-without (share_from (m p)) fs k f there in
        let b = tally-without (shares_to (m p)) fs k f there in
        let x : (m p == m p) ≡ true = grind (arith, nat_tests) in
        let u : one (m p == m p) ≡ 1 = rw x refl in
        let home : one (is_none (T p)) ≡ 1 = rw now refl in
        let all : share_tokens m T rows (without fs k) p ≡ 1 = omega (arith, t, a, b, u, home) in
        subst (λ z. share_tokens m T rows (without fs k) z ≡ 1) is all
    go q l false e =
        let ne : q ≢ p = grind (arith, nat_tests, e) in
        let x = ap (λ z. one (is_none z)) (other q l ne) in
        let t = h.token q l in
        let a = tally-without (share_from (m q)) fs k f there in
        let b = tally-without (shares_to (m q)) fs k f there in
        let d = distinct p q lt l in
        let y : (m p == m q) ≡ false = d ∙ (grind (arith, nat_tests, ne)) in
        let u : one (m p == m q) ≡ 0 = rw y refl in
        omega (arith, x, t, a, b, u)

-- The first member has all shares

-- the list in order of place
pub record ListOf (xs : List ShareRow) (key : Key) (a k : ℕ) (ss : List Shared1) : Type 0 where
  pub long : length ss ≡ k
  pub each : (i : ℕ) → i < k → slice_get ss i ≡ share_here xs key (a + i)

pub list_of : (xs : List ShareRow) (key : Key) (a k : ℕ) → ((i : ℕ) → a ≤ i → i < a + k → is_some (share_here xs key i) ≡ true) → ListOf xs key a k (shares_at xs key (range_with_len a k))
list_of xs key a zero h = record { long = refl; each = λ i lt. absurd (omega arith) }
list_of xs key a (suc k) h =
    let ih = list_of xs key (a + 1) k (λ i lo hi. h i (omega (arith, lo)) (omega (arith, hi))) in
    go (share_here xs key a) refl (h a (omega arith) (omega arith)) ih
  where
    go : (o : Option Shared1) → share_here xs key a ≡ o → is_some o ≡ true → ListOf xs key (a + 1) k (shares_at xs key (range_with_len (a + 1) k)) → ListOf xs key a (suc k) (with_some o (shares_at xs key (range_with_len (a + 1) k)))
    go None e s ih = absurd (cc)
    go (Some x) e s ih =
        let long = ih.long in
        record { long = omega (arith, long); each = each }
      where
        each : (i : ℕ) → i < suc k → slice_get (x ∷ shares_at xs key (range_with_len (a + 1) k)) i ≡ share_here xs key (a + i)
        each zero lt = sym e ∙ ap (share_here xs key) (omega arith)
        each (suc i) lt = ih.each i (omega arith) ∙ ap (share_here xs key) (omega arith)

-- a share that is there is the member's, and is one of the key's rows
pub here_held : (n : ℕ) (S : ℕ → Option Shared1) (xs : List ShareRow) (key : Key) (p : ℕ) → is_some (share_here xs key p) ≡ true → AllOf (ShareHeld n S) (rows_of xs key) → (share_here xs key p ≡ S p) × (1 ≤ tally (row_of p) (rows_of xs key))
here_held n S [] key p e h = absurd (cc)
here_held n S (x ∷ xs) key p e h = go (same_key x.key key) (x.place == p) refl e h (here_held n S xs key p)
  where
    go : (a b : Bool) → (x.place == p) ≡ b → is_some (if a && b then Some x.share else share_here xs key p) ≡ true → AllOf (ShareHeld n S) (if a then x ∷ rows_of xs key else rows_of xs key)
        → (is_some (share_here xs key p) ≡ true → AllOf (ShareHeld n S) (rows_of xs key) → (share_here xs key p ≡ S p) × (1 ≤ tally (row_of p) (rows_of xs key)))
        → ((if a && b then Some x.share else share_here xs key p) ≡ S p) × (1 ≤ tally (row_of p) (if a then x ∷ rows_of xs key else rows_of xs key))
    go true true f e h ih = let is : x.place ≡ p = grind (arith, nat_tests, f) in let u : one (x.place == p) ≡ 1 = rw f refl in (sym h.0.1 ∙ ap S is, omega (arith, u))
    go true false f e h ih = let r = ih e h.1 in let y = r.1 in (r.0, omega (arith, y))
    go false b f e h ih = ih e h

-- the packets to the other members
abbrev pub fan : ℕ → Key → List Shared1 → List ℕ → List Flight
fan r key ss ms = map (λ q. record { from = r; to = q; packet = Shares key ss }) ms

pub fan_from : (r : ℕ) (key : Key) (ss : List Shared1) (ms : List ℕ) (q : ℕ) → tally (share_from q) (fan r key ss ms) ≡ 0
fan_from r key ss [] q = refl
fan_from r key ss (m ∷ ms) q = let ih = fan_from r key ss ms q in omega (arith, ih)

pub fan_to : (r : ℕ) (key : Key) (ss : List Shared1) (ms : List ℕ) (q : ℕ) → tally (shares_to q) (fan r key ss ms) ≡ tally (λ z. z == q) ms
fan_to r key ss [] q = refl
fan_to r key ss (m ∷ ms) q = let ih = fan_to r key ss ms q in omega (arith, ih)

pub share_settles : (n : ℕ) (m : ℕ → ℕ) (S T : ℕ → Option Shared1) (rows : List ShareRow) (fs : List Flight) (key : Key) (ss : List Shared1) (rest : List ℕ) → ShareKept n m S rows fs → OtherShares n S T 0 → T 0 ≡ None
    → ((q : ℕ) → q < n → 1 ≤ tally (row_of q) rows) → length ss ≡ n → ((q : ℕ) → q < n → slice_get ss q ≡ S q)
    → ((q : ℕ) → q < n → tally (λ z. z == m q) rest + one (q == 0) ≡ 1) → AllOf (λ z. (q : ℕ) × (0 < q) × (q < n) × (z ≡ m q)) rest → 0 < n
    → ShareKept n m T [] (fs ++ fan (m 0) key ss rest)
share_settles n m S T rows fs key ss rest h other none all long items count places pos =
    record {
      token = λ q l. go q l (q == 0) refl;
      flown = AllOf-append (ShareFliesAt n m T) fs (fan (m 0) key ss rest) (shares_flown n m S T 0 fs other (let t = h.token 0 pos in let a = all 0 pos in omega (arith, t, a)) (let t = h.token 0 pos in let a = all 0 pos in omega (arith, t, a)) h.flown)
          (fans rest places);
      held = tt;
    }
  where
    fans : (ms : List ℕ) → AllOf (λ z. (q : ℕ) × (0 < q) × (q < n) × (z ≡ m q)) ms → AllOf (ShareFliesAt n m T) (fan (m 0) key ss ms)
    fans [] h = tt
    fans (x ∷ ms) h =
        let q = h.0.0 in
        let pos = h.0.1 in
        let ne : q ≢ 0 = λ e. omega (arith, pos, e) in
        ((q, record { above = h.0.1; inside = h.0.2; low = h.0.3; high = refl }, long, items q h.0.2 ∙ sym (other q h.0.2 ne)), fans ms h.1)

    go : (q : ℕ) → q < n → (b : Bool) → (q == 0) ≡ b → share_tokens m T [] (fs ++ fan (m 0) key ss rest) q ≡ 1
    go q l b s =
        let t = h.token q l in
        let a = all q l in
        let x = tally-append (share_from (m q)) fs (fan (m 0) key ss rest) in
        let y = tally-append (shares_to (m q)) fs (fan (m 0) key ss rest) in
        let u = fan_from (m 0) key ss rest (m q) in
        let v = fan_to (m 0) key ss rest (m q) in
        let c = count q l in
        by b s t a x y u v c
      where
        by : (b : Bool) → (q == 0) ≡ b → share_tokens m S rows fs q ≡ 1 → 1 ≤ tally (row_of q) rows → tally (share_from (m q)) (fs ++ fan (m 0) key ss rest) ≡ tally (share_from (m q)) fs + tally (share_from (m q)) (fan (m 0) key ss rest)
            → tally (shares_to (m q)) (fs ++ fan (m 0) key ss rest) ≡ tally (shares_to (m q)) fs + tally (shares_to (m q)) (fan (m 0) key ss rest) → tally (share_from (m q)) (fan (m 0) key ss rest) ≡ 0
            → tally (shares_to (m q)) (fan (m 0) key ss rest) ≡ tally (λ z. z == m q) rest → tally (λ z. z == m q) rest + one (q == 0) ≡ 1 → share_tokens m T [] (fs ++ fan (m 0) key ss rest) q ≡ 1
        by true s t a x y u v c =
            let is : 0 ≡ q = grind (arith, nat_tests, s) in
            let z : one (is_none (T q)) ≡ 1 = subst (λ k. one (is_none (T k)) ≡ 1) is (rw none refl) in
            let w : one (q == 0) ≡ 1 = rw s refl in
            omega (arith, t, a, x, y, u, v, c, z, w)
        by false s t a x y u v c =
            let ne : q ≢ 0 = grind (arith, nat_tests, s) in
            let z = ap (λ k. one (is_none k)) (other q l ne) in
            let w : one (q == 0) ≡ 0 = rw s refl in
            omega (arith, t, a, x, y, u, v, c, z, w)
