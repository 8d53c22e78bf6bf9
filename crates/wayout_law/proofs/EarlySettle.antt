-- The first part of the drain: settles, and offers of a key that is offered somewhere.
use Rattle.std.proofs.Common.{◌≡◌, ◌<◌, ◌≤◌, ◌+◌, ℕ, suc, Bool, true, false, List, [], ◌∷◌, length, get_or, Option, Some, refl, sym, ap, subst, ◌∙◌, arith, ⊎_elim}
use Rattle.std.specs.List.{list_any}
use Rattle.std.proofs.lemmas.Bool.Decides.{nat_tests}
use Rattle.mpi_base.specs.declared.keys.Key.{Key}
use Rattle.mpi_base.specs.Keys.{same_key}
use Rattle.mpi_base.specs.declared.entries.Act.TheVariants.{Offer as MakeOffer}
use Rattle.mpi_base.specs.declared.entries.Choice.{Choice}
use Rattle.mpi_base.proofs.KeyFacts.{same_key_is}
use Rattle.mpi_law.specs.ScriptLists.{AllScripts}
use Rattle.agree_law.specs.declared.rows.Stage.{Stage}
use Rattle.agree_law.specs.declared.rows.Stage.TheVariants.{Waiting, Offered}
use Rattle.agree_law.specs.declared.rows.Verdict.{Verdict}
use Rattle.agree_law.specs.declared.rows.Verdict.TheVariants.{Ready, Retry, Context, Exhausted}
use Rattle.agree_law.specs.Part.{Agree, stage_of, set_stage, round_of}
use Rattle.agree_law.specs.Kinds.{is_share}
use Rattle.agree_law.specs.Offers.{may_offer, put_offer}
use Rattle.agree_law.specs.Moves.{may_settle}
use Rattle.agree_law.specs.Rule.{may_own}
use Rattle.agree_law.proofs.KeyKept.{is_said_of}
use Rattle.mpi_protocol.specs.Rank.{Rank}
use Rattle.mpi_protocol.specs.Agreeing.{settles, verdict_at, offers}
use Rattle.mpi_protocol.specs.Step.{step, is_enabled}
use Rattle.mpi_protocol.specs.World.{World, blank, rank_at, may_happen, move_of, moved, after}
use Rattle.mpi_protocol.specs.Order.{is_offered, offered_anywhere}
use Rattle.wayout_law.specs.Potential.{More, cost, first_round}
use Rattle.wayout_law.proofs.AgreeSpends.{Falls}
use Rattle.wayout_law.proofs.Worlds.{after-spends}
use Rattle.wayout_law.proofs.Decisions.{SharesAreTaken, settler_told, spend-settles, spend-offers, due_waits}
use Rattle.wayout_law.proofs.Frames.{Frame}
use Rattle.wayout_law.proofs.Settling.{frame-settle_share, offer-part, offer-stage}
use Rattle.wayout_law.proofs.Agreements.{NoPackets}
use Rattle.wayout_law.proofs.Stands.{Stands, stands-told, stands-level}
use Rattle.wayout_law.proofs.Afters.{each-after, first-after}
use Rattle.wayout_law.proofs.Early.{early-frame, Settled, early-other, early-ended, ended, ended-fewer, cost-fewer}
use Rattle.wayout_law.proofs.EarlySteps.{Ahead, Goes, told_here}
use Rattle.wayout_law.proofs.SettleFacts.{settle_of, settle_may, settle-move, said_here, told_offered, settled}

-- what a settle does, by its verdict
early-verdict : (n : ℕ) (more : More) (scripts : AllScripts) (w new : World) (key : Key) (g : ℕ) (v : Verdict) → Ahead more w → Settled w new key g v → is_said_of g v ≡ true
    → (0 < g → more key (suc g) + 1 ≤ more key g) → (Falls more key g v → cost n more scripts new < cost n more scripts w) → Goes n more scripts w new
early-verdict n more scripts w new key g Ready a s said under spends =
    let z : g ≡ 0 = grind (arith, nat_tests, said) in
    let f : more key 1 + 1 ≤ more key 0 = a.1.first key (s.was ∙ z) in
    (more, (a.0, early-other more w new key g Ready s a.1 (omega arith) (λ i e. (let i0 : i ≡ 0 = omega (arith, e) in rw i0 f)) (λ e. omega (arith, e, z))), spends (rw z f))
early-verdict n more scripts w new key g Retry a s said under spends =
    let pos : 0 < g = grind (arith, nat_tests, said) in
    let f = under pos in
    let next : g + 1 ≡ suc g = omega arith in
    (more, (a.0, early-other more w new key g Retry s a.1 (omega arith) (λ i e. (let ig : i ≡ g = omega (arith, e) in rw ig f)) (λ e. omega (arith, e))), spends (rw next f))
early-verdict n more scripts w new key g (Context c) a s said under spends =
    let less = ended-fewer key more a.1.some in
    let lower = cost-fewer n (ended key more) more scripts new less in
    let fall = spends tt in
    (ended key more, ((λ k i. (let x = less k i in let y = a.0 k i in omega (arith, x, y))), early-ended more w new key g (Context c) s a.1 refl), omega (arith, lower, fall))
early-verdict n more scripts w new key g Exhausted a s said under spends =
    let less = ended-fewer key more a.1.some in
    let lower = cost-fewer n (ended key more) more scripts new less in
    let fall = spends tt in
    (ended key more, ((λ k i. (let x = less k i in let y = a.0 k i in omega (arith, x, y))), early-ended more w new key g Exhausted s a.1 refl), omega (arith, lower, fall))

pub early-settle : (top n : ℕ) (more : More) (scripts : AllScripts) (w : World) (r : ℕ) (key : Key) → Stands top w → Ahead more w → may_happen w (settle_of r key) ≡ true → Goes n more scripts w (moved w (settle_of r key))
early-settle top n more scripts w r key h a may =
    rw (settle-move w r key) (go (is_share key.kind) refl)
  where
    x : Rank
    x = rank_at w r

    m : (r < length w.ranks) × (may_settle (rank_at w r).rank (rank_at w r).agree key ≡ true)
    m = settle_may w r key may

    here : may_settle r (rank_at w r).agree key ≡ true
    here = subst (λ z. may_settle z (rank_at w r).agree key ≡ true) (h.number r m.0) m.1

    shares : SharesAreTaken (rank_at w r).rank (rank_at w r).agree key
    shares = subst (λ z. SharesAreTaken z (rank_at w r).agree key) (sym (h.number r m.0)) (h.shares r key m.0 here)

    spends : (is_share key.kind ≡ false → Falls more key (round_of (rank_at w r).agree.rounds key) (verdict_at (rank_at w r) key)) → cost n more scripts (after w (settle_of r key) (settles (rank_at w r) key)) < cost n more scripts w
    spends f = after-spends n more scripts w (settle_of r key) (settles (rank_at w r) key) m.0 (spend-settles n more scripts r (rank_at w r) key a.0 (h.rows r) (told_here top w r m.0 h) m.1 shares f)

    go : (b : Bool) → is_share key.kind ≡ b → Goes n more scripts w (after w (settle_of r key) (settles (rank_at w r) key))
    go true e =
        let f = subst (λ z. Frame z (rank_at w r).agree (settles (rank_at w r) key).state.agree) (h.number r m.0) (frame-settle_share (rank_at w r) key e shares) in
        (more, (a.0, early-frame more w (settle_of r key) (settles (rank_at w r) key) f a.1), spends (λ z. absurd (cc)))
    go false e =
        let g : ℕ = round_of (rank_at w r).agree.rounds key in
        let s = settled top w r key h m.0 e here in
        let told = settler_told r (rank_at w r).agree key here e (stands-told top w h r) in
        early-verdict n more scripts w (after w (settle_of r key) (settles (rank_at w r) key)) key g (verdict_at (rank_at w r) key) a s (said_here (rank_at w r) key)
        (λ pos. (let o = told_offered (stage_of (rank_at w r).agree.opened key) g told pos in a.1.under r key g o.0 o.1 s.was)) (λ f. spends (λ z. f))

-- Offers of a key that is offered somewhere

abbrev pub offer_choice : ℕ → Key → Choice
offer_choice r key = record { rank = r; act = MakeOffer key }

pub offer_may : (w : World) (r : ℕ) (key : Key) → may_happen w (offer_choice r key) ≡ true → (r < length w.ranks) × (may_offer (rank_at w r).agree key ≡ true)
unfolding is_enabled
offer_may w r key may = (grind (arith, nat_tests, may), grind (arith, may))

pub offer-move : (w : World) (r : ℕ) (key : Key) → move_of w (offer_choice r key) ≡ offers (rank_at w r) key
unfolding step
offer-move w r key = refl

pub offered_is : (s : Option Stage) → is_offered s ≡ true → (i : ℕ) × (own : Bool) × (s ≡ Some (Offered i own))
offered_is (Some (Offered i own)) e = (i, own, refl)
offered_is s e = absurd (cc)

any_in : (f : Rank → Bool) (xs : List Rank) → list_any f xs ≡ true → (q : ℕ) × (f (get_or xs q blank) ≡ true)
any_in f [] e = absurd (cc)
any_in f (x ∷ xs) e = go (f x) refl (any_in f xs)
  where
    go : (b : Bool) → f x ≡ b → (list_any f xs ≡ true → (q : ℕ) × (f (get_or xs q blank) ≡ true)) → (q : ℕ) × (f (get_or (x ∷ xs) q blank) ≡ true)
    go true s ih = (0, s)
    go false s ih = let i = ih (grind (arith, s, e)) in (suc i.0, i.1)

pub offered_at : (w : World) (key : Key) → offered_anywhere w key ≡ true → (q : ℕ) × (is_offered (stage_of (rank_at w q).agree.opened key) ≡ true)
offered_at w key e = any_in (λ x. is_offered (stage_of x.agree.opened key)) w.ranks e

-- the stages and the rounds after an offer
offer-opened : (x : Rank) (key : Key) (i : ℕ) → stage_of x.agree.opened key ≡ Some (Waiting i) → (offers x key).state.agree.opened ≡ set_stage x.agree.opened key (Offered i (may_own x.agree key))
unfolding put_offer
offer-opened x key i e = ap (λ (a : Agree). a.opened) (offer-part x key i e)

offer-rounds : (x : Rank) (key : Key) (i : ℕ) → stage_of x.agree.opened key ≡ Some (Waiting i) → (offers x key).state.agree.rounds ≡ x.agree.rounds
unfolding put_offer
offer-rounds x key i e = ap (λ (a : Agree). a.rounds) (offer-part x key i e)

pub early-offer : (top n : ℕ) (more : More) (scripts : AllScripts) (w : World) (r : ℕ) (key : Key) → Stands top w → Ahead more w → NoPackets w → offered_anywhere w key ≡ true → may_happen w (offer_choice r key) ≡ true → Goes n more scripts w (moved w (offer_choice r key))
early-offer top n more scripts w r key h a none anywhere may =
    rw (offer-move w r key) (
      more,
      (
        a.0,
        record {
          some = a.1.some;
          first = λ k e. a.1.first k (sym (keeps k) ∙ e);
          begun = λ k i e. a.1.begun k i (sym (keeps k) ∙ e);
          under = λ q k i own e at. each-after (λ z (y : Rank). (k : Key) (i : ℕ) (own : Bool) → stage_of y.agree.opened k ≡ Some (Offered i own) → first_round w k ≡ i → more k (suc i) + 1 ≤ more k i) w (offer_choice r key) (offers (rank_at w r) key) here a.1.under q k i own e (sym (keeps k) ∙ at);
        },
      ),
      after-spends n more scripts w (offer_choice r key) (offers (rank_at w r) key) m.0 (spend-offers n more scripts r (rank_at w r) key (h.rows r) m.1),
    )
  where
    m : (r < length w.ranks) × (may_offer (rank_at w r).agree key ≡ true)
    m = offer_may w r key may

    waits : (i : ℕ) × (stage_of (rank_at w r).agree.opened key ≡ Some (Waiting i))
    waits = due_waits (stage_of (rank_at w r).agree.opened key) m.1

    keeps : (k : Key) → first_round (after w (offer_choice r key) (offers (rank_at w r) key)) k ≡ first_round w k
    keeps k = first-after w (offer_choice r key) (offers (rank_at w r) key) k (λ _. rw (offer-rounds (rank_at w r) key waits.0 waits.1) refl)

    there : (q : ℕ) × (is_offered (stage_of (rank_at w q).agree.opened key) ≡ true)
    there = offered_at w key anywhere

    under : more key (suc (first_round w key)) + 1 ≤ more key (first_round w key)
    under =
        let o = offered_is (stage_of (rank_at w there.0).agree.opened key) there.1 in
        let level = stands-level top w there.0 key (Offered o.0 o.1) o.0 h none o.2 (grind (arith, nat_tests)) in
        rw level (a.1.under there.0 key o.0 o.1 o.2 level)

    here : (k : Key) (i : ℕ) (own : Bool) → stage_of (offers (rank_at w r) key).state.agree.opened k ≡ Some (Offered i own) → first_round w k ≡ i → more k (suc i) + 1 ≤ more k i
    here k i own e at =
        ⊎_elim
        (λ (old : stage_of (rank_at w r).agree.opened k ≡ Some (Offered i own)). a.1.under r k i own old at)
        (λ (new : (same_key key k ≡ true) × (i ≡ waits.0) × (own ≡ may_own (rank_at w r).agree key)). subst (λ z. more k (suc z) + 1 ≤ more k z) at (subst (λ z. more z (suc (first_round w z)) + 1 ≤ more z (first_round w z)) (same_key_is key k new.0) under))
        (offer-stage (rank_at w r).agree.opened key waits.0 (may_own (rank_at w r).agree key) k i own (subst (λ z. stage_of z k ≡ Some (Offered i own)) (offer-opened (rank_at w r) key waits.0 waits.1) e))
