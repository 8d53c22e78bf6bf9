-- The stage of a creation on which a verdict is said, or to which one comes.
use Rattle.std.proofs.Common.{◌≡◌, ◌<◌, ◌==◌, ◌&&◌, not, ℕ, Bool, true, false, if◌then◌else◌, List, Option, Some, None, refl, arith}
use Rattle.std.proofs.lemmas.Bool.Decides.{nat_tests}
use Rattle.mpi_base.specs.declared.keys.Key.{Key}
use Rattle.agree_law.specs.declared.rows.Stage.{Stage}
use Rattle.agree_law.specs.declared.rows.Stage.TheVariants.{Sharing, Called, Waiting, Offered, Done}
use Rattle.agree_law.specs.declared.rows.Verdict.TheVariants.{Ready, Retry}
use Rattle.agree_law.specs.Tree.{is_below}
use Rattle.agree_law.specs.Part.{Offer, Agree, stage_of, round_of}
use Rattle.agree_law.specs.Kinds.{is_share}
use Rattle.agree_law.specs.Rule.{is_key}
use Rattle.agree_law.specs.Gather.{all_own, picked, least_common, verdict_of}
use Rattle.agree_law.specs.Verdicts.{awaits_ready, awaits_round, takes_down, may_settle_offers}
use Rattle.agree_law.specs.World.{World, part_at}
use Rattle.agree_law.proofs.Kept.{Kept}
use Rattle.agree_law.proofs.Decided.{Offers, Calls, Owns}
use Rattle.agree_law.proofs.DownSteps.{settling, offers_here}
use Rattle.agree_law.proofs.WorldFacts.{retry_facts}

-- an offer of some round
pub record OfferMade (a : Agree) (key : Key) : Type 0 where
  pub round : ℕ
  pub own : Bool
  pub stage : stage_of a.opened key ≡ Some (Offered round own)

-- Verdicts that come

called_of : (s : Option Stage) (i : ℕ) → awaits_ready s i ≡ true → s ≡ Some Called
called_of None i e = absurd (cc (e))
called_of (Some (Sharing x)) i e = absurd (cc (e))
called_of (Some Called) i e = refl
called_of (Some (Waiting j)) i e = absurd (cc (e))
called_of (Some (Offered j own)) i e = absurd (cc (e))
called_of (Some (Done c)) i e = absurd (cc (e))

offer_of : (a : Agree) (key : Key) (s : Option Stage) (i : ℕ) → stage_of a.opened key ≡ s → awaits_round s i ≡ true → OfferMade a key
offer_of a key None i f e = absurd (cc (e))
offer_of a key (Some (Sharing x)) i f e = absurd (cc (e))
offer_of a key (Some Called) i f e = absurd (cc (e))
offer_of a key (Some (Waiting j)) i f e = absurd (cc (e))
offer_of a key (Some (Offered j own)) i f e = record { round = j; own = own; stage = f }
offer_of a key (Some (Done c)) i f e = absurd (cc (e))

pub ready_comes : (r : ℕ) (a : Agree) (from : ℕ) (key : Key) (i : ℕ) → takes_down r a from key i Ready ≡ true → stage_of a.opened key ≡ Some Called
unfolding takes_down
ready_comes r a from key i e = called_of (stage_of a.opened key) i (last (is_share key.kind) (is_below from r key.members) (awaits_ready (stage_of a.opened key) i) e)
  where
    last : (p q t : Bool) → (not p && (q && t)) ≡ true → t ≡ true
    last p q t e = grind (arith, e)

pub retry_comes : (r : ℕ) (a : Agree) (from : ℕ) (key : Key) (i : ℕ) → takes_down r a from key i Retry ≡ true → OfferMade a key
unfolding takes_down
retry_comes r a from key i e = offer_of a key (stage_of a.opened key) i refl (last (is_share key.kind) (is_below from r key.members) (awaits_round (stage_of a.opened key) i) e)
  where
    last : (p q t : Bool) → (not p && (q && t)) ≡ true → t ≡ true
    last p q t e = grind (arith, e)

-- Verdicts that are said

ready_round : (top : ℕ) (os : List Offer) (key : Key) (i : ℕ) → verdict_of top os key i ≡ Ready → i ≡ 0
ready_round top os key i e = go (i == 0) refl (all_own os key) (least_common top os key) e
  where
    go : (z : Bool) → (i == 0) ≡ z → (b : Bool) (l : Option ℕ) → (if z then Ready else (if b then picked l else Retry)) ≡ Ready → i ≡ 0
    go true s b l e = grind (arith, nat_tests, s)
    go false s false l e = absurd (cc (e))
    go false s true None e = absurd (cc (e))
    go false s true (Some c) e = absurd (cc (e))

offers_zero : (s : Option Stage) (g : ℕ) (b : Bool) → Offers s g b → g ≡ 0 → s ≡ Some Called
offers_zero s g b Calls e = refl
offers_zero s g b (Owns j own pos) e = absurd (grind (arith, nat_tests, pos, e))

offers_later : (a : Agree) (key : Key) (s : Option Stage) (g : ℕ) (b : Bool) → Offers s g b → stage_of a.opened key ≡ s → 0 < g → OfferMade a key
offers_later a key s g b Calls f pos = absurd (omega (arith, pos))
offers_later a key s g b (Owns j own p) f pos = record { round = j; own = own; stage = f }

module _ (top : ℕ) (w : World) (r : ℕ) (key : Key) (h : Kept top w) (may : may_settle_offers r (part_at w r) key ≡ true) where
  here : Offers (stage_of (part_at w r).opened key) (round_of (part_at w r).rounds key) (is_key (part_at w r).owner key)
  here = let s = settling top w r key may h in offers_here top w r key s.good s.whole h

  pub ready_said : verdict_of top (part_at w r).gathered key (round_of (part_at w r).rounds key) ≡ Ready → stage_of (part_at w r).opened key ≡ Some Called
  ready_said e = offers_zero (stage_of (part_at w r).opened key) (round_of (part_at w r).rounds key) (is_key (part_at w r).owner key) here (ready_round top (part_at w r).gathered key (round_of (part_at w r).rounds key) e)

  pub retry_said : verdict_of top (part_at w r).gathered key (round_of (part_at w r).rounds key) ≡ Retry → OfferMade (part_at w r) key
  retry_said e = offers_later (part_at w r) key (stage_of (part_at w r).opened key) (round_of (part_at w r).rounds key) (is_key (part_at w r).owner key) here refl (retry_facts top (part_at w r).gathered key (round_of (part_at w r).rounds key) e).1
