-- Just one token for each member of an exchange, in the words of ranks and links.
use Rattle.std.proofs.Common.{◌≡◌, ◌+◌, ◌==◌, ◌&&◌, ℕ, Bool, true, false, if◌then◌else◌, List, [], ◌∷◌, length, Option, Some, None, refl, arith}
use Rattle.std.specs.Prelude.{is_none, is_some}
use Rattle.std.proofs.lemmas.Bool.Decides.{nat_tests}
use Rattle.mpi_base.specs.declared.keys.Key.{Key}
use Rattle.mpi_base.specs.Keys.{same_key}
use Rattle.agree_law.specs.declared.rows.ShareRow.{ShareRow}
use Rattle.mpi_base.specs.declared.shares.Shared1.{Shared1}
use Rattle.agree_law.specs.Tree.{member_at}
use Rattle.agree_law.specs.Packets.{Packet, Up, Down, Share, Shares}
use Rattle.agree_law.specs.World.{Flight, World, part_at}
use Rattle.share_law.specs.Facts.{is_share_of, is_shares_of, is_row, OneShare}
use Rattle.agree_law.specs.Facts.{count, is_flown}
use Rattle.agree_law.proofs.Lists.{AllOf, tally, one}
use Rattle.agree_law.proofs.Links.{key_of, of_links}
use Rattle.share_law.proofs.ShareKept.{rows_of, row_of, share_from, shares_to, ShareFlies, ShareFliesAt}
use Rattle.share_law.proofs.Foreign.{said_at}
use Rattle.share_law.proofs.Exchanges.{Exchanges}

count_rows : (os : List ShareRow) (key : Key) (p : ℕ) → count (is_row key p) os ≡ tally (row_of p) (rows_of os key)
count_rows [] key p = refl
count_rows (o ∷ os) key p = let ih = count_rows os key p in grind (arith, ih)

ones : (c : Bool) → (if c then 1 else 0) ≡ one c
ones true = refl
ones false = refl

-- a test of packets of a key that agrees with another on those that fly
count_flown : (n : ℕ) (m : ℕ → ℕ) (S : ℕ → Option Shared1) (key : Key) (from to : ℕ) (kind : Packet → Bool) (test : Flight → Bool) (fs : List Flight) → ((q : Packet) → same_key (key_of q) key ≡ false → kind q ≡ false)
    → ((a b : ℕ) (q : Packet) → same_key (key_of q) key ≡ true → ShareFlies n m S a b q → (kind q && ((a == from) && (b == to))) ≡ test (record { from = a; to = b; packet = q }))
    → AllOf (ShareFliesAt n m S) (of_links fs key) → count (is_flown kind from to) fs ≡ tally test (of_links fs key)
count_flown n m S key from to kind test [] apart mine h = refl
count_flown n m S key from to kind test (f ∷ fs) apart mine h = go (same_key (key_of f.packet) key) refl h (count_flown n m S key from to kind test fs apart mine)
  where
    go : (b : Bool) → same_key (key_of f.packet) key ≡ b → AllOf (ShareFliesAt n m S) (if b then f ∷ of_links fs key else of_links fs key) → (AllOf (ShareFliesAt n m S) (of_links fs key) → count (is_flown kind from to) fs ≡ tally test (of_links fs key))
        → (if kind f.packet && ((f.from == from) && (f.to == to)) then 1 else 0) + count (is_flown kind from to) fs ≡ tally test (if b then f ∷ of_links fs key else of_links fs key)
    go true e h ih = let x = mine f.from f.to f.packet e h.0 in let y = ih h.1 in rw x (let z = ones (test f) in omega (arith, y, z))
    go false e h ih = let x = apart f.packet e in let y = ih h in rw x (omega (arith, y))

share_apart : (key : Key) (q : Packet) → same_key (key_of q) key ≡ false → is_share_of key q ≡ false
share_apart key (Up k i own mask) e = refl
share_apart key (Down k i v) e = refl
share_apart key (Share k s) e = e
share_apart key (Shares k ss) e = refl

shares_apart : (key : Key) (q : Packet) → same_key (key_of q) key ≡ false → is_shares_of key q ≡ false
shares_apart key (Up k i own mask) e = refl
shares_apart key (Down k i v) e = refl
shares_apart key (Share k s) e = refl
shares_apart key (Shares k ss) e = e

share_mine : (n : ℕ) (m : ℕ → ℕ) (S : ℕ → Option Shared1) (key : Key) (p a b : ℕ) (q : Packet) → same_key (key_of q) key ≡ true → ShareFlies n m S a b q → (is_share_of key q && ((a == m p) && (b == m 0))) ≡ share_from (m p) (record { from = a; to = b; packet = q })
share_mine n m S key p a b (Up k i own mask) e x = refl
share_mine n m S key p a b (Down k i v) e x = refl
share_mine n m S key p a b (Share k s) e x = let r = x.1 in let high = r.high in grind (arith, nat_tests, e, high)
share_mine n m S key p a b (Shares k ss) e x = refl

shares_mine : (n : ℕ) (m : ℕ → ℕ) (S : ℕ → Option Shared1) (key : Key) (p a b : ℕ) (q : Packet) → same_key (key_of q) key ≡ true → ShareFlies n m S a b q → (is_shares_of key q && ((a == m 0) && (b == m p))) ≡ shares_to (m p) (record { from = a; to = b; packet = q })
shares_mine n m S key p a b (Up k i own mask) e x = refl
shares_mine n m S key p a b (Down k i v) e x = refl
shares_mine n m S key p a b (Share k s) e x = refl
shares_mine n m S key p a b (Shares k ss) e x = let r = x.1 in let high = r.high in grind (arith, nat_tests, e, high)

pub one_share : (w : World) → Exchanges w → OneShare w
unfolding Exchanges
one_share w x key p good lt =
    let k = x key good in
    let n = length key.members in
    let m = member_at key.members in
    let S = said_at w.parts key in
    let t = k.token p lt in
    let a = count_flown n m S key (m p) (m 0) (is_share_of key) (share_from (m p)) w.links (share_apart key) (λ a b q. share_mine n m S key p a b q) k.flown in
    let b = count_flown n m S key (m 0) (m p) (is_shares_of key) (shares_to (m p)) w.links (shares_apart key) (λ a b q. shares_mine n m S key p a b q) k.flown in
    let c = count_rows (part_at w (m 0)).shares key p in
    let z = homes (said_at w.parts key p) in
    omega (arith, t, a, b, c, z)
  where
    homes : (o : Option Shared1) → (if is_some o then 0 else 1) ≡ one (is_none o)
    homes None = refl
    homes (Some s) = refl
