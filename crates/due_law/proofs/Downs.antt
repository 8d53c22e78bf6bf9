-- The verdicts of one key on their way to one rank.
use Rattle.std.proofs.Common.{◌≡◌, ◌==◌, ◌&&◌, ℕ, Bool, true, false, List, [], ◌∷◌, refl, subst, arith}
use Rattle.mpi_base.specs.declared.keys.Key.{Key}
use Rattle.mpi_base.specs.Keys.{same_key}
use Rattle.mpi_base.proofs.KeyFacts.{same_key_is, same_key-refl}
use Rattle.agree_law.specs.Packets.{Packet, Up, Down, Share, Shares}
use Rattle.agree_law.specs.World.{Flight}
use Rattle.agree_law.specs.Facts.{is_down_of}
use Rattle.agree_law.proofs.Lists.{tally}
use Rattle.agree_law.proofs.KeyKept.{down_to_rank}
use Rattle.agree_law.proofs.Links.{of_links}

-- one of two keys is another than the other
pub other_key : (a b : Key) → same_key a b ≡ false → same_key b a ≡ false
other_key a b e = go (same_key b a) refl
  where
    go : (c : Bool) → same_key b a ≡ c → same_key b a ≡ false
    go false s = s
    go true s = absurd (let z : same_key a b ≡ true = subst (λ x. same_key x b ≡ true) (same_key_is b a s) (same_key-refl b) in cc (z, e))

-- whether a packet is a verdict on the key, to the rank
abbrev pub is_down_to : Key → ℕ → Flight → Bool
is_down_to key r f = is_down_of key f.packet && (f.to == r)

-- the agreement counts them among the packets of the key
pub downs_of_key : (fs : List Flight) (key : Key) (r : ℕ) → tally (is_down_to key r) fs ≡ tally (down_to_rank r) (of_links fs key)
downs_of_key [] key r = refl
downs_of_key (f ∷ fs) key r = go f.from f.to f.packet (downs_of_key fs key r)
  where
    go : (from to : ℕ) (p : Packet) → tally (is_down_to key r) fs ≡ tally (down_to_rank r) (of_links fs key)
        → tally (is_down_to key r) (record { from = from; to = to; packet = p } ∷ fs) ≡ tally (down_to_rank r) (of_links (record { from = from; to = to; packet = p } ∷ fs) key)
    go from to (Up k i own mask) ih = grind (arith, ih)
    go from to (Down k i v) ih = grind (arith, ih)
    go from to (Share k s) ih = grind (arith, ih)
    go from to (Shares k ss) ih = grind (arith, ih)
