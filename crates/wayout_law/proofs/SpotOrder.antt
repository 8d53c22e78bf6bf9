-- The drain's order is total: of two choices one comes no later than the other, and so it goes on.
use Rattle.std.proofs.Common.{◌≡◌, ◌⊎◌, ◌==◌, ◌&&◌, ◌||◌, ℕ, Bool, true, false, refl, sym, subst, inl, inr, arith}
use Rattle.std.specs.Prelude.{nat_lt, nat_le}
use Rattle.std.proofs.lemmas.Bool.Decides.{nat_tests}
use Rattle.mpi_base.specs.declared.keys.Key.{Key}
use Rattle.mpi_base.specs.declared.entries.Choice.{Choice}
use Rattle.mpi_base.specs.Keys.{same_key, key_before}
use Rattle.mpi_base.proofs.KeyFacts.{same_key_is, same_key-refl, key_before_total, key_before_trans}
use Rattle.mpi_protocol.specs.World.{World}
use Rattle.mpi_protocol.specs.Order.{Spot, spot_of, is_spot_le, is_no_later}

-- by a number, and then by something else

lex_total : (a b : ℕ) (p q : Bool) → ((p ≡ true) ⊎ (q ≡ true)) → ((nat_lt a b || ((a == b) && p)) ≡ true) ⊎ ((nat_lt b a || ((b == a) && q)) ≡ true)
lex_total a b p q t = go (nat_lt a b) refl (nat_lt b a) refl t
  where
    go : (l : Bool) → nat_lt a b ≡ l → (m : Bool) → nat_lt b a ≡ m → ((p ≡ true) ⊎ (q ≡ true)) → ((nat_lt a b || ((a == b) && p)) ≡ true) ⊎ ((nat_lt b a || ((b == a) && q)) ≡ true)
    go true e m f t = inl (rw e refl)
    go false e true f t = inr (rw f refl)
    go false e false f (inl p_is) = inl (grind (arith, nat_tests, e, f, p_is))
    go false e false f (inr q_is) = inr (grind (arith, nat_tests, e, f, q_is))

lex_trans : (a b c : ℕ) (p q r : Bool) → (p ≡ true → q ≡ true → r ≡ true) → (nat_lt a b || ((a == b) && p)) ≡ true → (nat_lt b c || ((b == c) && q)) ≡ true → (nat_lt a c || ((a == c) && r)) ≡ true
lex_trans a b c true true r k e f = let z = k refl refl in grind (arith, nat_tests, e, f, z)
lex_trans a b c true false r k e f = grind (arith, nat_tests, e, f)
lex_trans a b c false q r k e f = grind (arith, nat_tests, e, f)

-- by a key, and then by a number

abbrev is_key_le : Key → ℕ → Key → ℕ → Bool
is_key_le a m b n = key_before a b || (same_key a b && nat_le m n)

key_total : (a b : Key) (m n : ℕ) → (is_key_le a m b n ≡ true) ⊎ (is_key_le b n a m ≡ true)
key_total a b m n = go (key_before_total a b) (nat_le m n) refl
  where
    go : (a ≡ b) ⊎ ((key_before a b ≡ true) ⊎ (key_before b a ≡ true)) → (l : Bool) → nat_le m n ≡ l → (is_key_le a m b n ≡ true) ⊎ (is_key_le b n a m ≡ true)
    go (inl e) true l = let s = subst (λ k. same_key a k ≡ true) e (same_key-refl a) in inl (grind (arith, s, l))
    go (inl e) false l = let s = subst (λ k. same_key k a ≡ true) e (same_key-refl a) in inr (grind (arith, nat_tests, s, l))
    go (inr (inl e)) l f = inl (rw e refl)
    go (inr (inr e)) l f = inr (rw e refl)

key_trans : (a b c : Key) (m n o : ℕ) → is_key_le a m b n ≡ true → is_key_le b n c o ≡ true → is_key_le a m c o ≡ true
key_trans a b c m n o e f = go (key_before a b) refl (key_before b c) refl
  where
    go : (x : Bool) → key_before a b ≡ x → (y : Bool) → key_before b c ≡ y → is_key_le a m c o ≡ true
    go true x true y = let z = key_before_trans a b c x y in rw z refl
    go true x false y =
        let is = same_key_is b c (grind (arith, f, y)) in
        let z = subst (λ k. key_before a k ≡ true) is x in
        rw z refl
    go false x true y =
        let is = same_key_is a b (grind (arith, e, x)) in
        let z = subst (λ k. key_before k c ≡ true) (sym is) y in
        rw z refl
    go false x false y =
        let s : same_key a b ≡ true = grind (arith, e, x) in
        let t : same_key b c ≡ true = grind (arith, f, y) in
        let u = subst (λ k. same_key k c ≡ true) (sym (same_key_is a b s)) t in
        let l : nat_le m n ≡ true = grind (arith, e, x) in
        let r : nat_le n o ≡ true = grind (arith, f, y) in
        let z : nat_le m o ≡ true = grind (arith, nat_tests, l, r) in
        grind (arith, u, z)

-- spots

spot_total : (a b : Spot) → (is_spot_le a b ≡ true) ⊎ (is_spot_le b a ≡ true)
spot_total a b = lex_total a.kind b.kind _ _ (lex_total a.first b.first _ _ (key_total a.key b.key a.second b.second))

spot_trans : (a b c : Spot) → is_spot_le a b ≡ true → is_spot_le b c ≡ true → is_spot_le a c ≡ true
spot_trans a b c e f = lex_trans a.kind b.kind c.kind _ _ _ (λ g h. lex_trans a.first b.first c.first _ _ _ (λ i j. key_trans a.key b.key c.key a.second b.second c.second i j) g h) e f

pub later_total : (w : World) (c d : Choice) → (is_no_later w c d ≡ true) ⊎ (is_no_later w d c ≡ true)
later_total w c d = spot_total (spot_of w c.rank c.act) (spot_of w d.rank d.act)

pub later_trans : (w : World) (c d e : Choice) → is_no_later w c d ≡ true → is_no_later w d e ≡ true → is_no_later w c e ≡ true
later_trans w c d e g h = spot_trans (spot_of w c.rank c.act) (spot_of w d.rank d.act) (spot_of w e.rank e.act) g h
