-- A context that is picked is one of the setting's.
use Rattle.std.proofs.Common.{◌≡◌, ◌≤◌, ◌<◌, ◌+◌, ◌==◌, ℕ, zero, suc, Bool, true, false, List, get_or, Option, Some, None, find, refl, arith}
use Rattle.std.specs.List.{range_with_len}
use Rattle.agree_law.specs.declared.rows.Verdict.TheVariants.{Context}
use Rattle.mpi_base.specs.declared.keys.Key.{Key}
use Rattle.agree_law.specs.Part.{Offer, round_of}
use Rattle.agree_law.specs.Gather.{all_own, common_mask, picked, least_common, verdict_of}
use Rattle.agree_law.specs.World.{World, part_at}
use Rattle.agree_law.specs.Facts.{PicksAreContexts}

-- what is found among numbers is one of them
found_between : (p : ℕ → Bool) (a n c : ℕ) → find p (range_with_len a n) ≡ Some c → (a ≤ c) × (c < a + n)
found_between p a zero c e = absurd (cc (e))
found_between p a (suc n) c e = go (p a) refl (found_between p (suc a) n c)
  where
    go : (b : Bool) → p a ≡ b → (find p (range_with_len (suc a) n) ≡ Some c → (suc a ≤ c) × (c < suc a + n)) → (a ≤ c) × (c < a + suc n)
    go true t ih = let is : a ≡ c = grind (arith, t, e) in (omega (arith, is), omega (arith, is))
    go false t ih = let h = ih (grind (arith, t, e)) in (omega (arith, h.0), omega (arith, h.1))

is_picked : (o : Option ℕ) (c : ℕ) → picked o ≡ Context c → o ≡ Some c
is_picked None c e = absurd (cc (e))
is_picked (Some d) c e = grind (arith, e)

said : (top : ℕ) (gathered : List Offer) (key : Key) (i c : ℕ) → verdict_of top gathered key i ≡ Context c → least_common top gathered key ≡ Some c
said top gathered key i c e = go (i == 0) refl
  where
    owned : (b : Bool) → (i == 0) ≡ false → all_own gathered key ≡ b → least_common top gathered key ≡ Some c
    owned true z o = is_picked (least_common top gathered key) c (grind (arith, z, o, e))
    owned false z o = absurd (grind (arith, z, o, e))

    go : (b : Bool) → (i == 0) ≡ b → least_common top gathered key ≡ Some c
    go true z = absurd (grind (arith, z, e))
    go false z = owned (all_own gathered key) z refl

pub picks_are_contexts : (top : ℕ) (w : World) → PicksAreContexts top w
unfolding least_common
picks_are_contexts top w r key c e =
    let h = found_between (λ z. get_or (common_mask top (part_at w r).gathered key) z false) 1 top c (said top (part_at w r).gathered key (round_of (part_at w r).rounds key) c e) in
    (h.0, omega (arith, h.1))
