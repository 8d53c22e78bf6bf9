-- The second part of the drain: deliveries, answers and settles.
use Rattle.std.proofs.Common.{◌≡◌, ◌<◌, ◌≤◌, ◌+◌, ◌==◌, ℕ, Bool, true, false, List, [], ◌∷◌, length, slice_get, Some, refl, sym, subst, inl, inr, arith}
use Rattle.mpi_base.specs.declared.keys.Key.{Key}
use Rattle.mpi_base.proofs.KeyFacts.{same_key_is}
use Rattle.mpi_law.specs.ScriptLists.{AllScripts}
use Rattle.agree_law.specs.declared.rows.Verdict.TheVariants.{Ready, Retry, Context, Exhausted}
use Rattle.agree_law.specs.Packets.{Up, Down, Share, Shares}
use Rattle.agree_law.specs.Moves.{may_settle, settle}
use Rattle.agree_law.specs.Moves as agree_moves
use Rattle.agree_law.proofs.Lists.{AllOf}
use Rattle.mpi_protocol.specs.Packets.{Packet, Agreeing, Message, Marker}
use Rattle.mpi_protocol.specs.Rank.{thread_at}
use Rattle.mpi_protocol.specs.Answers.{answered}
use Rattle.mpi_protocol.specs.Moves.{stays}
use Rattle.mpi_protocol.specs.Delivers.{takes_packet, taken}
use Rattle.mpi_protocol.specs.World.{World, rank_at, link, may_happen, moved, after}
use Rattle.wayout_law.specs.Potential.{more_late, cost}
use Rattle.wayout_law.proofs.Bound.{FewMore, more_from-few}
use Rattle.wayout_law.proofs.Worlds.{after-spends}
use Rattle.wayout_law.proofs.Answers.{spend-answers}
use Rattle.wayout_law.proofs.RankFrames.{same, frame-answered, frame-taken}
use Rattle.wayout_law.proofs.Stands.{Stands, not_taken}
use Rattle.wayout_law.proofs.Deliveries.{FallsWith, spend-taken, is_agreeing, spend-ignored, Delivery, delivery, delivery_of, delivery-move, ignored-move, taken_ready, taken_retry, down_taken}
use Rattle.wayout_law.proofs.EarlySteps.{told_here, answer_of, answer_may, answer-move}
use Rattle.wayout_law.proofs.Calm.{is_calm}
use Rattle.wayout_law.proofs.Late.{Alone, Late, Leaves, nobody-after, alone-after}
use Rattle.wayout_law.proofs.LateMoves.{AloneAt, leaves-up, leaves-down, leaves-answered}

-- the cost falls, and the world stays late
abbrev pub GoesLate : ℕ → AllScripts → World → World → Type 0
GoesLate n scripts old new = Late new × (cost n more_late scripts new < cost n more_late scripts old)

pub late_few : FewMore more_late
late_few key i = more_from-few 0 i

pub late_begins : (key : Key) (i : ℕ) → i ≡ 0 → more_late key 1 + 1 ≤ more_late key i
late_begins key i z = rw z (omega arith)

alone_at : (key : Key) (w : World) (r : ℕ) → r < length w.ranks → Alone key w → AloneAt key r (rank_at w r).agree
alone_at key w r lt h = record { only = h.only r; first = h.first r; own = h.own r; rest = λ k far. h.rest r k lt far }

-- at a rank by its own number
pub alone_here : (top : ℕ) (key : Key) (w : World) (r : ℕ) → Stands top w → r < length w.ranks → Alone key w → AloneAt key (rank_at w r).rank (rank_at w r).agree
alone_here top key w r h lt a = subst (λ z. AloneAt key z (rank_at w r).agree) (sym (h.number r lt)) (alone_at key w r lt a)

-- Deliveries

calm_head : (key : Key) (l : List Packet) (p : Packet) → AllOf (λ p. is_calm key p ≡ true) l → slice_get l 0 ≡ Some p → is_calm key p ≡ true
calm_head key [] p h e = absurd (cc)
calm_head key (q ∷ l) p h e = let is : q ≡ p = cc in subst (λ z. is_calm key z ≡ true) is h.0

-- only the key's own packets are on their way
no_other : (key : Key) (p : Packet) → is_calm key p ≡ true → is_agreeing p ≡ false → ⊥
no_other key (Agreeing p) e plain = absurd (cc)
no_other key (Message m) e plain = absurd (cc)
no_other key (Marker c) e plain = absurd (cc)

late-falls : (w : World) (r from : ℕ) (p : Packet) → takes_packet (rank_at w r) from p ≡ true → ((key : Key) (i : ℕ) → p ≡ Agreeing (Down key i Retry) → ⊥) → FallsWith more_late p
late-falls w r from (Agreeing (Up key i own mask)) t no_retry = tt
late-falls w r from (Agreeing (Down key i Ready)) t no_retry = late_begins key i (taken_ready (rank_at w r).rank (rank_at w r).agree from key i (down_taken (rank_at w r) from key i Ready t))
late-falls w r from (Agreeing (Down key i Retry)) t no_retry = absurd (no_retry key i refl)
late-falls w r from (Agreeing (Down key i (Context c))) t no_retry = tt
late-falls w r from (Agreeing (Down key i Exhausted)) t no_retry = tt
late-falls w r from (Agreeing (Share key s)) t no_retry = tt
late-falls w r from (Agreeing (Shares key list)) t no_retry = tt
late-falls w r from (Message m) t no_retry = tt
late-falls w r from (Marker c) t no_retry = tt

leaves-taken : (top : ℕ) (key : Key) (w : World) (r from : ℕ) (p : Packet) → Stands top w → r < length w.ranks → Alone key w → takes_packet (rank_at w r) from p ≡ true → is_calm key p ≡ true → Leaves key (rank_at w r).rank (taken (rank_at w r) from p)
unfolding takes_packet agree_moves.takes_packet
leaves-taken top key w r from (Agreeing (Up k i true mask)) h lt a t calm =
    let is : k ≡ key = same_key_is k key (grind (arith, calm)) in
    subst (λ z. Leaves key (rank_at w r).rank (taken (rank_at w r) from (Agreeing (Up z i true mask)))) (sym is) (leaves-up (rank_at w r) from key i mask (rw is at t) (alone_here top key w r h lt a))
leaves-taken top key w r from (Agreeing (Up k i false mask)) h lt a t calm = absurd (grind (arith, calm))
leaves-taken top key w r from (Agreeing (Down k i v)) h lt a t calm =
    let is : k ≡ key = same_key_is k key (grind (arith, calm)) in
    subst (λ z. Leaves key (rank_at w r).rank (taken (rank_at w r) from (Agreeing (Down z i v)))) (sym is) (leaves-down (rank_at w r) from key i v (rw is at t) (grind (arith, calm)) (alone_here top key w r h lt a))
leaves-taken top key w r from (Agreeing (Share k s)) h lt a t calm = absurd (cc)
leaves-taken top key w r from (Agreeing (Shares k list)) h lt a t calm = absurd (cc)
leaves-taken top key w r from (Message m) h lt a t calm = absurd (cc)
leaves-taken top key w r from (Marker c) h lt a t calm = absurd (cc)

pub late-deliver : (top n : ℕ) (scripts : AllScripts) (w : World) (r from : ℕ) → Stands top w → Late w → may_happen w (delivery_of r from) ≡ true → GoesLate n scripts w (moved w (delivery_of r from))
late-deliver top n scripts w r from h late may =
    let d = delivery w r from may in
    by (takes_packet (rank_at w r) from d.packet) d refl late
  where
    spends : (p : Packet) → r < length w.ranks → slice_get (link w from r) 0 ≡ Some p → takes_packet (rank_at w r) from p ≡ true → ((key : Key) (i : ℕ) → p ≡ Agreeing (Down key i Retry) → ⊥) → cost n more_late scripts (after w (delivery_of r from) (taken (rank_at w r) from p)) < cost n more_late scripts w
    spends p lt there t no_retry = after-spends n more_late scripts w (delivery_of r from) (taken (rank_at w r) from p) lt (rw there (spend-taken n more_late scripts r (rank_at w r) from p late_few (h.rows r) (told_here top w r lt h) t (late-falls w r from p t no_retry)))

    apart : Delivery w r from → (from == r) ≡ false
    apart d = subst (λ z. (from == z) ≡ false) (h.number r d.inside) d.apart

    go : (p : Packet) → r < length w.ranks → from < length w.ranks → (from == r) ≡ false → slice_get (link w from r) 0 ≡ Some p → takes_packet (rank_at w r) from p ≡ true → Late w → GoesLate n scripts w (after w (delivery_of r from) (taken (rank_at w r) from p))
    go p lt lf far there t (inl nobody) = (
      inl (nobody-after w (delivery_of r from) (taken (rank_at w r) from p) (frame-taken (rank_at w r) from p t).fewer nobody),
      spends p lt there t (λ key i e. (let o = taken_retry (rank_at w r).rank (rank_at w r).agree from key i (down_taken (rank_at w r) from key i Retry (rw e at t)) in let none = nobody r key in let s = o.1 in absurd (cc (rw s at none)))),
    )
    go p lt lf far there t (inr (key, a)) =
        let calm = calm_head key (link w from r) p (a.flown from r lf lt far) there in
        let l = subst (λ z. Leaves key z (taken (rank_at w r) from p)) (h.number r lt) (leaves-taken top key w r from p h lt a t calm) in
        (inr (key, alone-after key w (delivery_of r from) (taken (rank_at w r) from p) l a), spends p lt there t (λ k i e. (let c : is_calm key (Agreeing (Down k i Retry)) ≡ true = rw e at calm in absurd (grind (arith, c)))))

    ignored : (d : Delivery w r from) → is_agreeing d.packet ≡ false → Late w → Late (after w (delivery_of r from) (stays (rank_at w r)))
    ignored d plain (inl nobody) = inl (nobody-after w (delivery_of r from) (stays (rank_at w r)) (same r (rank_at w r)).fewer nobody)
    ignored d plain (inr (key, a)) = absurd (no_other key d.packet (calm_head key (link w from r) d.packet (a.flown from r d.sender d.inside (apart d)) d.there) plain)

    by : (b : Bool) (d : Delivery w r from) → takes_packet (rank_at w r) from d.packet ≡ b → Late w → GoesLate n scripts w (moved w (delivery_of r from))
    by true d t late = rw (delivery-move w r from d.packet d.there t) (go d.packet d.inside d.sender (apart d) d.there t late)
    by false d t late =
        let plain = not_taken top w from r d.packet h d.sender d.inside d.there t in
        rw (ignored-move w r from d.packet d.there t)
        (ignored d plain late, after-spends n more_late scripts w (delivery_of r from) (stays (rank_at w r)) d.inside (rw d.there (spend-ignored n more_late scripts r (rank_at w r) d.packet plain)))

-- Answers

pub late-answer : (top n : ℕ) (scripts : AllScripts) (w : World) (r t : ℕ) → Stands top w → Late w → may_happen w (answer_of r t) ≡ true → GoesLate n scripts w (moved w (answer_of r t))
late-answer top n scripts w r t h late may =
    let x = rank_at w r in
    let m = answer_may w r t may in
    let s = after-spends n more_late scripts w (answer_of r t) (answered x t (thread_at x t).waits) m.0 (spend-answers n more_late scripts r x t (thread_at x t).waits refl m.1) in
    rw (answer-move w r t) (go m.0 late, s)
  where
    go : r < length w.ranks → Late w → Late (after w (answer_of r t) (answered (rank_at w r) t (thread_at (rank_at w r) t).waits))
    go lt (inl nobody) = inl (nobody-after w (answer_of r t) (answered (rank_at w r) t (thread_at (rank_at w r) t).waits) (frame-answered r (rank_at w r) t (thread_at (rank_at w r) t).waits).fewer nobody)
    go lt (inr (key, a)) =
        inr (
          key,
          alone-after key w (answer_of r t) (answered (rank_at w r) t (thread_at (rank_at w r) t).waits)
              (subst (λ z. Leaves key z (answered (rank_at w r) t (thread_at (rank_at w r) t).waits)) (h.number r lt) (leaves-answered key (rank_at w r) t (thread_at (rank_at w r) t).waits (alone_here top key w r h lt a))) a,
        )
