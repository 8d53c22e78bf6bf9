-- Whose the shares are that fly or are gathered, in the words of ranks and links.
use Rattle.std.proofs.Common.{◌≡◌, ℕ, zero, suc, Bool, true, false, if◌then◌else◌, List, [], ◌∷◌, length, slice_get, Some, subst, ap, ◌∙◌}
use Rattle.mpi_base.specs.declared.keys.Key.{Key}
use Rattle.mpi_base.specs.Keys.{same_key}
use Rattle.mpi_base.proofs.KeyFacts.{same_key-refl}
use Rattle.agree_law.specs.declared.rows.ShareRow.{ShareRow}
use Rattle.agree_law.specs.Tree.{member_at}
use Rattle.agree_law.specs.Part.{stage_of}
use Rattle.agree_law.specs.Packets.{Share}
use Rattle.agree_law.specs.World.{World, part_at}
use Rattle.share_law.specs.Facts.{sharing_of, SharesAreOwn, GatheredSharesAreOwn}
use Rattle.agree_law.proofs.Lists.{AllOf}
use Rattle.agree_law.proofs.WorldFacts.{in_links}
use Rattle.share_law.proofs.ShareKept.{rows_of, ShareFliesAt, ShareHeld}
use Rattle.share_law.proofs.Foreign.{said_at}
use Rattle.share_law.proofs.Exchanges.{Exchanges}

pub shares_are_own : (w : World) → Exchanges w → SharesAreOwn w
unfolding Exchanges
shares_are_own w x key s from to place good there =
    let k = x key good in
    let n = length key.members in
    let m = member_at key.members in
    let y = in_links (ShareFliesAt n m (said_at w.parts key)) w.links key place (record { from = from; to = to; packet = Share key s }) there (same_key-refl key) k.flown in
    let r = y.1 in
    record { first = r.high; own = ap (λ z. sharing_of (stage_of (part_at w z).opened key)) r.low ∙ y.2 }

in_rows : (P : ShareRow → Type 0) (os : List ShareRow) (key : Key) (k : ℕ) (o : ShareRow) → slice_get os k ≡ Some o → same_key o.key key ≡ true → AllOf P (rows_of os key) → P o
in_rows P [] key k o e s h = absurd (cc)
in_rows P (g ∷ os) key zero o e s h = let is : g ≡ o = cc in subst P is (first (same_key g.key key) (rw is s) h)
  where
    first : (b : Bool) → b ≡ true → AllOf P (if b then g ∷ rows_of os key else rows_of os key) → P g
    first true t h = h.0
    first false t h = absurd (cc)
in_rows P (g ∷ os) key (suc k) o e s h = in_rows P os key k o e s (go (same_key g.key key) h)
  where
    go : (b : Bool) → AllOf P (if b then g ∷ rows_of os key else rows_of os key) → AllOf P (rows_of os key)
    go true h = h.1
    go false h = h

pub gathered_shares_are_own : (w : World) → Exchanges w → GatheredSharesAreOwn w
unfolding Exchanges
gathered_shares_are_own w x key s p place good there =
    let k = x key good in
    (in_rows (ShareHeld (length key.members) (said_at w.parts key)) (part_at w (member_at key.members 0)).shares key place (record { key = key; place = p; share = s }) there (same_key-refl key) k.held).1
