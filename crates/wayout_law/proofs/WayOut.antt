-- The way out: each first choice lowers the cost, so the drain is no longer than the potential, which is within the bound.
use Rattle.std.proofs.Common.{◌≡◌, ◌⊎◌, ◌<◌, ◌≤◌, ℕ, zero, suc, Bool, true, false, List, [], ◌∷◌, length, Some, refl, sym, subst, ◌∙◌, inl, inr, arith}
use Rattle.std.proofs.lemmas.Bool.Decides.{nat_tests}
use Rattle.mpi_base.specs.declared.keys.Key.{Key}
use Rattle.mpi_base.specs.declared.ops.Op.{Op}
use Rattle.mpi_base.specs.declared.entries.Act.{Act}
use Rattle.mpi_base.specs.declared.entries.Act.TheVariants.{Call, Answer, Deliver, Offer as MakeOffer, Settle, Leave, Back}
use Rattle.mpi_base.specs.declared.entries.Choice.{Choice}
use Rattle.mpi_base.specs.declared.entries.Entry.{Entry}
use Rattle.mpi_law.specs.ScriptLists.{AllScripts, next_op}
use Rattle.mpi_law.specs.declared.setting.TheConstants.{THREADS}
use Rattle.agree_law.specs.Part.{stage_of}
use Rattle.mpi_protocol.specs.Rank.{thread_at}
use Rattle.mpi_protocol.specs.Calls.{calls}
use Rattle.mpi_protocol.specs.Step.{step, is_enabled, may_leave, leaves, may_give_back, gives_back}
use Rattle.mpi_protocol.specs.World.{World, rank_at, may_happen, move_of, moved}
use Rattle.mpi_protocol.specs.Order.{offered_anywhere, kind_of, IsFirstChoice, IsDrained}
use Rattle.wayout_law.specs.Potential.{More, more_late, more_at, cost, potential, bound}
use Rattle.wayout_law.proofs.Bound.{more_from-few, AreWaited, potential-bounded}
use Rattle.wayout_law.proofs.Worlds.{after-spends}
use Rattle.wayout_law.proofs.Leaves.{spend-leaves, spend-gives_back}
use Rattle.wayout_law.proofs.Calls.{spend-calls}
use Rattle.wayout_law.proofs.RankFrames.{frame-leaves, frame-gives_back, frame-calls}
use Rattle.wayout_law.proofs.Stands.{Stands, Nobody, stands-nobody}
use Rattle.wayout_law.proofs.Afters.{many-after}
use Rattle.wayout_law.proofs.Early.{NoMore, cost-fewer, early-start}
use Rattle.wayout_law.proofs.EarlySteps.{Ahead, Goes, early-deliver, early-answer}
use Rattle.wayout_law.proofs.Decisions.{due_waits}
use Rattle.wayout_law.proofs.EarlySettle.{early-settle, early-offer, offer_choice, offer_may, offered_at}
use Rattle.wayout_law.proofs.Late.{Late, nobody-after}
use Rattle.wayout_law.proofs.LateSteps.{GoesLate, late_few, late-deliver, late-answer}
use Rattle.wayout_law.proofs.LateSettle.{late-settle}
use Rattle.wayout_law.proofs.LateOffers.{alone-offer, late-join, begins-alone}
use Rattle.wayout_law.proofs.First.{first-empty, first-rests, first-least}

-- so many steps are left at most, in either part of the drain
abbrev Within : ℕ → AllScripts → World → ℕ → Type 0
Within n scripts w k = ((more : More) × Ahead more w × (cost n more scripts w ≤ k)) ⊎ (Late w × (cost n more_late scripts w ≤ k))

abbrev Falls_to : ℕ → AllScripts → World → ℕ → Type 0
Falls_to n scripts new k = (left : ℕ) × (left < k) × Within n scripts new left

early-goes : (n : ℕ) (more : More) (scripts : AllScripts) (old new : World) (k : ℕ) → cost n more scripts old ≤ k → Goes n more scripts old new → Falls_to n scripts new k
early-goes n more scripts old new k le g = (cost n g.0 scripts new, (let f = g.2 in omega (arith, f, le)), inl (g.0, g.1, omega arith))

late-goes : (n : ℕ) (scripts : AllScripts) (old new : World) (k : ℕ) → cost n more_late scripts old ≤ k → GoesLate n scripts old new → Falls_to n scripts new k
late-goes n scripts old new k le g = (cost n more_late scripts new, (let f = g.1 in omega (arith, f, le)), inr (g.0, omega arith))

-- where nobody is offered, no round that has begun is charged for another
late_less : (more : More) → ((k : Key) → 1 ≤ more k 0) → NoMore more_late more
late_less more some k i = go i
  where
    go : (i : ℕ) → more_late k i ≤ more k i
    go zero = let s = some k in omega (arith, s)
    go (suc i) = let z : more_late k (suc i) ≡ 0 = grind (arith, nat_tests) in rw z (omega arith)

turns : (n : ℕ) (scripts : AllScripts) (w : World) (k : ℕ) → Within n scripts w k → cost n more_late scripts w ≤ k
turns n scripts w k (inl (more, a, le)) = let f = cost-fewer n more_late more scripts w (late_less more a.1.some) in omega (arith, f, le)
turns n scripts w k (inr (late, le)) = le

-- Leaves, give-backs and calls

leave_may : (w : World) (r c : ℕ) → may_happen w (record { rank = r; act = Leave c }) ≡ true → (r < length w.ranks) × (may_leave (rank_at w r) c ≡ true)
unfolding is_enabled
leave_may w r c may = (grind (arith, nat_tests, may), grind (arith, may))

back_may : (w : World) (r c : ℕ) → may_happen w (record { rank = r; act = Back c }) ≡ true → (r < length w.ranks) × (may_give_back (rank_at w r) c ≡ true)
unfolding is_enabled
back_may w r c may = (grind (arith, nat_tests, may), grind (arith, may))

call_may : (w : World) (r t : ℕ) (op : Op) → may_happen w (record { rank = r; act = Call t op }) ≡ true → (r < length w.ranks) × (t < THREADS)
unfolding is_enabled
call_may w r t op may = (grind (arith, nat_tests, may), grind (arith, nat_tests, may))

leave-step : (top : ℕ) (scripts : AllScripts) (w : World) (r c : ℕ) → Stands top w → Nobody w → may_happen w (record { rank = r; act = Leave c }) ≡ true → GoesLate (length w.ranks) scripts w (moved w (record { rank = r; act = Leave c }))
unfolding step
leave-step top scripts w r c h nobody may =
    let m = leave_may w r c may in
    let x = rank_at w r in
    let choice : Choice = record { rank = r; act = Leave c } in
    (inl (nobody-after w choice (leaves x c) (frame-leaves r x c).fewer nobody), after-spends (length w.ranks) more_late scripts w choice (leaves x c) m.0 (spend-leaves (length w.ranks) more_late scripts r x c m.1 (h.others r m.0)))

back-step : (top : ℕ) (scripts : AllScripts) (w : World) (r c : ℕ) → Stands top w → Nobody w → may_happen w (record { rank = r; act = Back c }) ≡ true → GoesLate (length w.ranks) scripts w (moved w (record { rank = r; act = Back c }))
unfolding step
back-step top scripts w r c h nobody may =
    let m = back_may w r c may in
    let x = rank_at w r in
    let choice : Choice = record { rank = r; act = Back c } in
    (inl (nobody-after w choice (gives_back x c) (frame-gives_back r x c).fewer nobody), after-spends (length w.ranks) more_late scripts w choice (gives_back x c) m.0 (spend-gives_back (length w.ranks) more_late scripts r x c m.1))

call-step : (top : ℕ) (scripts : AllScripts) (w : World) (r t : ℕ) (op : Op) → Stands top w → Nobody w → may_happen w (record { rank = r; act = Call t op }) ≡ true → next_op scripts r t (thread_at (rank_at w r) t).calls ≡ Some op
    → GoesLate (length w.ranks) scripts w (moved w (record { rank = r; act = Call t op }))
unfolding step
call-step top scripts w r t op h nobody may next =
    let m = call_may w r t op may in
    let x = rank_at w r in
    let choice : Choice = record { rank = r; act = Call t op } in (
      inl (nobody-after w choice (calls x t op) (frame-calls x t op).fewer nobody),
      after-spends (length w.ranks) more_late scripts w choice (calls x t op) m.0 (spend-calls (length w.ranks) more_late scripts r x t op late_few (rw (h.threads r m.0) m.1) next),
    )

-- The step

offer-step : (top : ℕ) (scripts : AllScripts) (w : World) (r : ℕ) (key : Key) (k : ℕ) → Stands top w → IsFirstChoice w scripts (offer_choice r key) → Within (length w.ranks) scripts w k → (b : Bool) → offered_anywhere w key ≡ b → Falls_to (length w.ranks) scripts (moved w (offer_choice r key)) k
offer-step top scripts w r key k h first (inl (more, a, le)) true e =
    let four : kind_of w (MakeOffer key) ≡ 4 = rw e refl in
    let none = first-empty top w scripts (offer_choice r key) h first (rw four (omega arith)) in
    early-goes (length w.ranks) more scripts w (moved w (offer_choice r key)) k le (early-offer top (length w.ranks) more scripts w r key h a none e first.may.enabled)
offer-step top scripts w r key k h first (inr (late, le)) true e = late-goes (length w.ranks) scripts w (moved w (offer_choice r key)) k le (late-join top (length w.ranks) scripts w r key h late e first.may.enabled)
offer-step top scripts w r key k h first within false e =
    let five : kind_of w (MakeOffer key) ≡ 5 = rw e refl in
    let rests = first-rests top w scripts (offer_choice r key) h first (rw five (omega arith)) in
    let nobody = stands-nobody top w h rests in
    let m = offer_may w r key first.may.enabled in
    let i = due_waits (stage_of (rank_at w r).agree.opened key) m.1 in
    let least = first-least w scripts r key first (λ z. nowhere nobody z (offered_anywhere w z) refl) in
    let alone = begins-alone top w r key i.0 h rests.empty nobody rests.settle least i.1 in
    late-goes (length w.ranks) scripts w (moved w (offer_choice r key)) k (turns (length w.ranks) scripts w k within) (alone-offer top (length w.ranks) scripts w r key h alone first.may.enabled)
  where
    nowhere : Nobody w → (z : Key) → (b : Bool) → offered_anywhere w z ≡ b → offered_anywhere w z ≡ false
    nowhere nobody z false e = e
    nowhere nobody z true e = let o = offered_at w z e in let none = nobody o.0 z in let is = o.1 in absurd (cc)

calm-step : (top : ℕ) (scripts : AllScripts) (w : World) (c : Choice) (k : ℕ) → Stands top w → IsFirstChoice w scripts c → 4 < kind_of w c.act → Within (length w.ranks) scripts w k → (Nobody w → GoesLate (length w.ranks) scripts w (moved w c)) → Falls_to (length w.ranks) scripts (moved w c) k
calm-step top scripts w c k h first kind within goes =
    late-goes (length w.ranks) scripts w (moved w c) k (turns (length w.ranks) scripts w k within) (goes (stands-nobody top w h (first-rests top w scripts c h first kind)))

first-falls : (top : ℕ) (scripts : AllScripts) (w : World) (r : ℕ) (act : Act) (k : ℕ) → Stands top w → IsFirstChoice w scripts (record { rank = r; act = act }) → Within (length w.ranks) scripts w k
    → Falls_to (length w.ranks) scripts (moved w (record { rank = r; act = act })) k
first-falls top scripts w r (Deliver from) k h first (inl (more, a, le)) = early-goes (length w.ranks) more scripts w _ k le (early-deliver top (length w.ranks) more scripts w r from h a first.may.enabled)
first-falls top scripts w r (Deliver from) k h first (inr (late, le)) = late-goes (length w.ranks) scripts w _ k le (late-deliver top (length w.ranks) scripts w r from h late first.may.enabled)
first-falls top scripts w r (Answer t) k h first (inl (more, a, le)) = early-goes (length w.ranks) more scripts w _ k le (early-answer top (length w.ranks) more scripts w r t h a first.may.enabled)
first-falls top scripts w r (Answer t) k h first (inr (late, le)) = late-goes (length w.ranks) scripts w _ k le (late-answer top (length w.ranks) scripts w r t h late first.may.enabled)
first-falls top scripts w r (Settle key) k h first (inl (more, a, le)) = early-goes (length w.ranks) more scripts w _ k le (early-settle top (length w.ranks) more scripts w r key h a first.may.enabled)
first-falls top scripts w r (Settle key) k h first (inr (late, le)) = late-goes (length w.ranks) scripts w _ k le (late-settle top (length w.ranks) scripts w r key h late first.may.enabled)
first-falls top scripts w r (MakeOffer key) k h first within = offer-step top scripts w r key k h first within (offered_anywhere w key) refl
first-falls top scripts w r (Leave c) k h first within = calm-step top scripts w (record { rank = r; act = Leave c }) k h first (omega arith) within (λ nobody. leave-step top scripts w r c h nobody first.may.enabled)
first-falls top scripts w r (Back c) k h first within = calm-step top scripts w (record { rank = r; act = Back c }) k h first (omega arith) within (λ nobody. back-step top scripts w r c h nobody first.may.enabled)
first-falls top scripts w r (Call t op) k h first within =
    calm-step top scripts w (record { rank = r; act = Call t op }) k h first (omega arith) within (λ nobody. call-step top scripts w r t op h nobody first.may.enabled first.may.scripted)

-- The drain

-- the facts stand in each world of the drain
abbrev pub StandAlong : ℕ → World → List Entry → Type 0
StandAlong top w [] = Unit {0}
StandAlong top w (e ∷ es) = Stands top w × StandAlong top (moved w e.choice) es

drain-within : (top n : ℕ) (scripts : AllScripts) (w : World) (es : List Entry) (k : ℕ) → length w.ranks ≡ n → StandAlong top w es → IsDrained scripts w es → Within n scripts w k → length es ≤ k
drain-within top n scripts w [] k size h drained within = omega arith
drain-within top n scripts w (e ∷ es) k size h drained within =
    let f = subst (λ z. Falls_to z scripts (moved w e.choice) k) size (first-falls top scripts w e.choice.rank e.choice.act k h.0 drained.0 (subst (λ z. Within z scripts w k) (sym size) within)) in
    let same : length (moved w e.choice).ranks ≡ n = many-after w e.choice (move_of w e.choice) ∙ size in
    let ih = drain-within top n scripts (moved w e.choice) es f.0 same h.1 drained.1 f.2 in
    let less = f.1 in
    omega (arith, ih, less)

-- no drain is longer than the bound
pub drain-is-short : (top : ℕ) (scripts : AllScripts) (w : World) (es : List Entry) → StandAlong top w es → AreWaited w.ranks → IsDrained scripts w es → length es ≤ bound scripts w
drain-is-short top scripts w es h waited drained =
    let a = drain-within top (length w.ranks) scripts w es (potential scripts w) refl h drained (inl (more_at w, ((λ key i. more_from-few _ i), early-start w), omega arith)) in
    let b = potential-bounded scripts w waited in
    omega (arith, a, b)
