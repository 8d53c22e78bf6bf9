-- The second part of the drain: settles.
use Rattle.std.proofs.Common.{◌≡◌, ◌<◌, ℕ, Bool, true, false, length, refl, sym, ap, subst, inl, inr, arith}
use Rattle.std.proofs.lemmas.Bool.Decides.{nat_tests}
use Rattle.mpi_base.specs.declared.keys.Key.{Key}
use Rattle.mpi_base.specs.Keys.{same_key, key_before}
use Rattle.mpi_base.proofs.KeyFacts.{same_key_is}
use Rattle.mpi_law.specs.ScriptLists.{AllScripts}
use Rattle.agree_law.specs.declared.rows.Verdict.{Verdict}
use Rattle.agree_law.specs.declared.rows.Verdict.TheVariants.{Ready, Retry, Context, Exhausted}
use Rattle.agree_law.specs.Part.{Agree, stage_of, round_of}
use Rattle.agree_law.specs.Packets.{Moved}
use Rattle.agree_law.specs.Kinds.{is_share}
use Rattle.agree_law.specs.Rule.{is_waiting}
use Rattle.agree_law.specs.Gather.{all_own}
use Rattle.agree_law.specs.Moves.{may_settle}
use Rattle.agree_law.specs.Verdicts.{settle_offers, decide}
use Rattle.agree_law.proofs.KeyKept.{is_said_of}
use Rattle.agree_law.proofs.WorldFacts.{retry_facts}
use Rattle.mpi_protocol.specs.Packets.{agreeing}
use Rattle.mpi_protocol.specs.Rank.{Rank}
use Rattle.mpi_protocol.specs.Agreeing.{settles, verdict_at}
use Rattle.mpi_protocol.specs.World.{World, rank_at, may_happen, moved, after}
use Rattle.mpi_protocol.specs.Order.{is_offered}
use Rattle.wayout_law.specs.Potential.{more_late, cost}
use Rattle.wayout_law.proofs.AgreeSpends.{Falls}
use Rattle.wayout_law.proofs.Worlds.{after-spends}
use Rattle.wayout_law.proofs.Decisions.{SharesAreTaken, settler_told, spend-settles}
use Rattle.wayout_law.proofs.Frames.{Fewer, decide-fewer}
use Rattle.wayout_law.proofs.Settling.{settle-is, settle-part, frame-settle_share}
use Rattle.wayout_law.proofs.Stands.{Stands, Nobody, stands-told}
use Rattle.wayout_law.proofs.EarlySteps.{told_here}
use Rattle.wayout_law.proofs.SettleFacts.{settle_of, settle_may, settle-move, said_here, told_offered}
use Rattle.wayout_law.proofs.Calm.{is_retry}
use Rattle.wayout_law.proofs.Late.{Alone, Late, Leaves, nobody-after, alone-after}
use Rattle.wayout_law.proofs.LateMoves.{AloneAt, decide-leaves}
use Rattle.wayout_law.proofs.LateSteps.{GoesLate, late_few, late_begins, alone_here}

-- a verdict that is not retry leads to no round that is not charged
late-verdict : (key : Key) (g : ℕ) (v : Verdict) → is_said_of g v ≡ true → is_retry v ≡ false → Falls more_late key g v
late-verdict key g Ready said calm = late_begins key g (grind (arith, nat_tests, said))
late-verdict key g Retry said calm = absurd (cc)
late-verdict key g (Context c) said calm = tt
late-verdict key g Exhausted said calm = tt

-- retry is said past the first round, where some offer does not own
retry_past : (g : ℕ) (v : Verdict) → is_said_of g v ≡ true → is_retry v ≡ true → 0 < g
retry_past g Ready said e = absurd (cc)
retry_past g Retry said e = grind (arith, nat_tests, said)
retry_past g (Context c) said e = absurd (cc)
retry_past g Exhausted said e = absurd (cc)

retry_is : (v : Verdict) → is_retry v ≡ true → v ≡ Retry
retry_is Ready e = absurd (cc)
retry_is Retry e = refl
retry_is (Context c) e = absurd (cc)
retry_is Exhausted e = absurd (cc)

-- a settle of offers sends what the verdict sends
settle-sent : (x : Rank) (key : Key) → is_share key.kind ≡ false → (settles x key).sent ≡ agreeing (decide x.rank x.agree key (round_of x.agree.rounds key) (verdict_at x key)).sent
unfolding settles settle_offers
settle-sent x key kind = rw kind (ap (λ (m : Moved). agreeing m.sent) (settle-is x.rank x.setting.contexts x.agree key kind))

leaves-settle : (x : Rank) (key : Key) → is_share key.kind ≡ false → is_retry (verdict_at x key) ≡ false → AloneAt key x.rank x.agree → Leaves key x.rank (settles x key)
leaves-settle x key kind calm h =
    let p = decide-leaves x.rank x.agree key (round_of x.agree.rounds key) (verdict_at x key) calm h in
    let part = sym (settle-part x key kind) in
    record {
      only = subst (λ (a : Agree). (k : Key) → is_offered (stage_of a.opened k) ≡ true → same_key k key ≡ true) part p.at.only;
      first = subst (λ (a : Agree). (k : Key) → is_waiting (stage_of a.opened k) ≡ true → key_before k key ≡ false) part p.at.first;
      own = subst (λ (a : Agree). all_own a.gathered key ≡ true) part p.at.own;
      rest = subst (λ (a : Agree). (k : Key) → same_key k key ≡ false → may_settle x.rank a k ≡ false) part p.at.rest;
      sent = rw (settle-sent x key kind) p.sent;
    }

pub late-settle : (top n : ℕ) (scripts : AllScripts) (w : World) (r : ℕ) (key : Key) → Stands top w → Late w → may_happen w (settle_of r key) ≡ true → GoesLate n scripts w (moved w (settle_of r key))
late-settle top n scripts w r key h late may = rw (settle-move w r key) (go late (is_share key.kind) refl)
  where
    m : (r < length w.ranks) × (may_settle (rank_at w r).rank (rank_at w r).agree key ≡ true)
    m = settle_may w r key may

    here : may_settle r (rank_at w r).agree key ≡ true
    here = subst (λ z. may_settle z (rank_at w r).agree key ≡ true) (h.number r m.0) m.1

    shares : SharesAreTaken (rank_at w r).rank (rank_at w r).agree key
    shares = subst (λ z. SharesAreTaken z (rank_at w r).agree key) (sym (h.number r m.0)) (h.shares r key m.0 here)

    spends : (is_share key.kind ≡ false → is_retry (verdict_at (rank_at w r) key) ≡ false) → cost n more_late scripts (after w (settle_of r key) (settles (rank_at w r) key)) < cost n more_late scripts w
    spends f =
        after-spends n more_late scripts w (settle_of r key) (settles (rank_at w r) key) m.0
        (spend-settles n more_late scripts r (rank_at w r) key late_few (h.rows r) (told_here top w r m.0 h) m.1 shares
        (λ kind. late-verdict key (round_of (rank_at w r).agree.rounds key) (verdict_at (rank_at w r) key) (said_here (rank_at w r) key) (f kind)))

    -- where nobody is offered, the first member has called, so the round is the first
    first_round_only : is_share key.kind ≡ false → Nobody w → (b : Bool) → is_retry (verdict_at (rank_at w r) key) ≡ b → is_retry (verdict_at (rank_at w r) key) ≡ false
    first_round_only kind nobody false e = e
    first_round_only kind nobody true e =
        let pos = retry_past (round_of (rank_at w r).agree.rounds key) (verdict_at (rank_at w r) key) (said_here (rank_at w r) key) e in
        let told = settler_told r (rank_at w r).agree key here kind (stands-told top w h r) in
        let o = told_offered (stage_of (rank_at w r).agree.opened key) (round_of (rank_at w r).agree.rounds key) told pos in
        let none = nobody r key in
        let s = o.1 in
        absurd (cc (rw s at none))

    -- where each offer owns, retry is not said
    all_own_only : all_own (rank_at w r).agree.gathered key ≡ true → (b : Bool) → is_retry (verdict_at (rank_at w r) key) ≡ b → is_retry (verdict_at (rank_at w r) key) ≡ false
    all_own_only own false e = e
    all_own_only own true e =
        let f = retry_facts (rank_at w r).setting.contexts (rank_at w r).agree.gathered key (round_of (rank_at w r).agree.rounds key) (retry_is (verdict_at (rank_at w r) key) e) in
        let x = f.0 in
        absurd (cc)

    fewer_share : is_share key.kind ≡ true → Fewer (rank_at w r).agree.opened (settles (rank_at w r) key).state.agree.opened
    fewer_share kind = (frame-settle_share (rank_at w r) key kind shares).fewer

    fewer_offers : is_share key.kind ≡ false → Fewer (rank_at w r).agree.opened (settles (rank_at w r) key).state.agree.opened
    fewer_offers kind = subst (λ (a : Agree). Fewer (rank_at w r).agree.opened a.opened) (sym (settle-part (rank_at w r) key kind)) (decide-fewer (rank_at w r).rank (rank_at w r).agree key (round_of (rank_at w r).agree.rounds key) (verdict_at (rank_at w r) key))

    alone : (k : Key) → Alone k w → (b : Bool) → same_key key k ≡ b → k ≡ key
    alone k a true s = sym (same_key_is key k s)
    alone k a false s = let z = a.rest r key m.0 s in let y = here in absurd (cc)

    go : Late w → (b : Bool) → is_share key.kind ≡ b → GoesLate n scripts w (after w (settle_of r key) (settles (rank_at w r) key))
    go (inl nobody) true kind = (inl (nobody-after w (settle_of r key) (settles (rank_at w r) key) (fewer_share kind) nobody), spends (λ z. absurd (cc)))
    go (inl nobody) false kind = (inl (nobody-after w (settle_of r key) (settles (rank_at w r) key) (fewer_offers kind) nobody), spends (λ z. first_round_only z nobody (is_retry (verdict_at (rank_at w r) key)) refl))
    go (inr (k, a)) b kind =
        let is = alone k a (same_key key k) refl in
        let mine : Alone key w = subst (λ z. Alone z w) is a in
        let calm = all_own_only (mine.own r) (is_retry (verdict_at (rank_at w r) key)) refl in
        let l = subst (λ z. Leaves key z (settles (rank_at w r) key)) (h.number r m.0) (leaves-settle (rank_at w r) key mine.plain calm (alone_here top key w r h m.0 mine)) in
        (inr (key, alone-after key w (settle_of r key) (settles (rank_at w r) key) l mine), spends (λ z. calm))
