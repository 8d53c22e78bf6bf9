-- The ranks of the world after a choice, and the rounds of keys at their first members.
use Rattle.std.proofs.Common.{◌≡◌, ◌≢◌, ◌⊎◌, ◌<◌, ◌≤◌, ℕ, true, List, [], ◌∷◌, length, get_or, set, refl, sym, subst, arith, ⊎_elim}
use Rattle.std.proofs.lemmas.Bool.Decides.{nat_tests}
use Rattle.mpi_base.specs.declared.keys.Key.{Key}
use Rattle.mpi_base.specs.declared.entries.Choice.{Choice}
use Rattle.agree_law.specs.Tree.{member_at, is_first}
use Rattle.agree_law.specs.Part.{round_of}
use Rattle.agree_law.proofs.Lists.{set_place, length-set}
use Rattle.mpi_protocol.specs.Rank.{Rank}
use Rattle.mpi_protocol.specs.Moves.{Move}
use Rattle.mpi_protocol.specs.World.{World, blank, rank_at, after}
use Rattle.projection_law.proofs.Frames.{ranks_moved}
use Rattle.wayout_law.specs.Potential.{first_round}

ranks-after : (w : World) (c : Choice) (m : Move) → (after w c m).ranks ≡ set w.ranks c.rank m.state
ranks-after w c m = ranks_moved w c.rank c.act m

pub many-after : (w : World) (c : Choice) (m : Move) → length (after w c m).ranks ≡ length w.ranks
many-after w c m = rw (ranks-after w c m) (length-set w.ranks c.rank m.state)

-- what holds of the rank that moves and of each other
pub each-after : (P : ℕ → Rank → Type 0) (w : World) (c : Choice) (m : Move) → P c.rank m.state → ((q : ℕ) → P q (rank_at w q)) → (q : ℕ) → P q (rank_at (after w c m) q)
each-after P w c m new old q =
    subst (λ (rs : List Rank). P q (get_or rs q blank)) (sym (ranks-after w c m))
    (⊎_elim
    (λ (e : (q ≡ c.rank) × (c.rank < length w.ranks) × (get_or (set w.ranks c.rank m.state) q blank ≡ m.state)). subst (P q) (sym e.2) (subst (λ z. P z m.state) (sym e.0) new))
    (λ (e : ((q ≢ c.rank) ⊎ (length w.ranks ≤ c.rank)) × (get_or (set w.ranks c.rank m.state) q blank ≡ get_or w.ranks q blank)). subst (P q) (sym e.1) (old q))
    (set_place w.ranks c.rank m.state blank q))

pub here-after : (w : World) (c : Choice) (m : Move) → c.rank < length w.ranks → rank_at (after w c m) c.rank ≡ m.state
here-after w c m lt =
    subst (λ (rs : List Rank). get_or rs c.rank blank ≡ m.state) (sym (ranks-after w c m))
    (⊎_elim
    (λ (e : (c.rank ≡ c.rank) × (c.rank < length w.ranks) × (get_or (set w.ranks c.rank m.state) c.rank blank ≡ m.state)). e.2)
    (λ (e : ((c.rank ≢ c.rank) ⊎ (length w.ranks ≤ c.rank)) × (get_or (set w.ranks c.rank m.state) c.rank blank ≡ get_or w.ranks c.rank blank)). absurd (far e.0))
    (set_place w.ranks c.rank m.state blank c.rank))
  where
    far : (c.rank ≢ c.rank) ⊎ (length w.ranks ≤ c.rank) → ⊥
    far e = ⊎_elim (λ (n : c.rank ≢ c.rank). n refl) (λ (le : length w.ranks ≤ c.rank). omega (arith, le, lt)) e

-- the round of a key that keeps it at its first member
pub first-after : (w : World) (c : Choice) (m : Move) (k : Key) → (member_at k.members 0 ≡ c.rank → round_of m.state.agree.rounds k ≡ round_of (rank_at w c.rank).agree.rounds k) → first_round (after w c m) k ≡ first_round w k
first-after w c m k keeps =
    each-after (λ q (y : Rank). member_at k.members 0 ≡ q → round_of y.agree.rounds k ≡ round_of (rank_at w q).agree.rounds k) w c m keeps (λ q e. refl) (member_at k.members 0) refl

pub first_member : (ms : List ℕ) (r : ℕ) → is_first r ms ≡ true → member_at ms 0 ≡ r
first_member [] r e = absurd (cc)
first_member (m ∷ ms) r e = grind (arith, nat_tests, e)
