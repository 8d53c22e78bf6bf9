-- The first part of the drain, by choice.
use Rattle.std.proofs.Common.{◌≡◌, ◌<◌, ◌+◌, ℕ, suc, Bool, true, false, length, slice_get, Some, refl, sym, subst, ◌∙◌, arith}
use Rattle.std.proofs.lemmas.Bool.Decides.{nat_tests}
use Rattle.mpi_base.specs.declared.entries.Act.TheVariants.{Answer}
use Rattle.mpi_base.specs.declared.entries.Choice.{Choice}
use Rattle.mpi_law.specs.ScriptLists.{AllScripts}
use Rattle.agree_law.specs.declared.rows.Verdict.TheVariants.{Ready, Retry, Context, Exhausted}
use Rattle.agree_law.specs.Packets.{Up, Down, Share, Shares}
use Rattle.mpi_protocol.specs.Packets.{Packet, Agreeing, Message, Marker}
use Rattle.mpi_protocol.specs.Rank.{thread_at}
use Rattle.mpi_protocol.specs.Answers.{is_answerable, answered}
use Rattle.mpi_protocol.specs.Moves.{stays}
use Rattle.mpi_protocol.specs.Delivers.{takes_packet, taken}
use Rattle.mpi_protocol.specs.Step.{step, is_enabled}
use Rattle.mpi_protocol.specs.World.{World, rank_at, link, may_happen, move_of, moved}
use Rattle.wayout_law.specs.Potential.{More, cost}
use Rattle.wayout_law.proofs.Bound.{FewMore}
use Rattle.wayout_law.proofs.Worlds.{after-spends}
use Rattle.wayout_law.proofs.Answers.{spend-answers}
use Rattle.wayout_law.proofs.RankFrames.{same, frame-answered, frame-taken}
use Rattle.wayout_law.proofs.Decisions.{OwnAreTold}
use Rattle.wayout_law.proofs.Frames.{Frame}
use Rattle.wayout_law.proofs.Stands.{Stands, not_taken, stands-told, stands-down}
use Rattle.wayout_law.proofs.Early.{Early, early-frame}
use Rattle.wayout_law.proofs.Deliveries.{FallsWith, spend-taken, spend-ignored, Delivery, delivery, delivery_of, delivery-move, ignored-move, taken_ready, down_taken}

-- the cost falls, and what is ahead of the world stays bounded
abbrev pub Ahead : More → World → Type 0
Ahead more w = FewMore more × Early more w

abbrev pub Goes : ℕ → More → AllScripts → World → World → Type 0
Goes n more scripts old new = (next : More) × Ahead next new × (cost n next scripts new < cost n more scripts old)

-- a rank's facts by its own number
pub told_here : (top : ℕ) (w : World) (r : ℕ) → r < length w.ranks → Stands top w → OwnAreTold (rank_at w r).rank (rank_at w r).agree
told_here top w r lt h = subst (λ z. OwnAreTold z (rank_at w r).agree) (sym (h.number r lt)) (stands-told top w h r)

-- Deliveries

early-falls : (top : ℕ) (more : More) (w : World) (r from : ℕ) (p : Packet) → Stands top w → Early more w → r < length w.ranks → from < length w.ranks → slice_get (link w from r) 0 ≡ Some p → takes_packet (rank_at w r) from p ≡ true → FallsWith more p
early-falls top more w r from (Agreeing (Up key i own mask)) h e lt lf there t = tt
early-falls top more w r from (Agreeing (Down key i Ready)) h e lt lf there t =
    let z = taken_ready (rank_at w r).rank (rank_at w r).agree from key i (down_taken (rank_at w r) from key i Ready t) in
    let g = stands-down top w from r key i Ready h lf lt there in
    rw z (e.begun key 0 g)
early-falls top more w r from (Agreeing (Down key i Retry)) h e lt lf there t =
    let g = stands-down top w from r key i Retry h lf lt there in
    let s : i + 1 ≡ suc i = omega arith in
    rw s (e.begun key i (g ∙ s))
early-falls top more w r from (Agreeing (Down key i (Context c))) h e lt lf there t = tt
early-falls top more w r from (Agreeing (Down key i Exhausted)) h e lt lf there t = tt
early-falls top more w r from (Agreeing (Share key s)) h e lt lf there t = tt
early-falls top more w r from (Agreeing (Shares key list)) h e lt lf there t = tt
early-falls top more w r from (Message m) h e lt lf there t = tt
early-falls top more w r from (Marker c) h e lt lf there t = tt

pub early-deliver : (top n : ℕ) (more : More) (scripts : AllScripts) (w : World) (r from : ℕ) → Stands top w → Ahead more w → may_happen w (delivery_of r from) ≡ true → Goes n more scripts w (moved w (delivery_of r from))
early-deliver top n more scripts w r from h a may =
    let d = delivery w r from may in
    go (takes_packet (rank_at w r) from d.packet) d refl
  where
    go : (b : Bool) (d : Delivery w r from) → takes_packet (rank_at w r) from d.packet ≡ b → Goes n more scripts w (moved w (delivery_of r from))
    go true d t =
        let f = early-falls top more w r from d.packet h a.1 d.inside d.sender d.there t in
        let s = spend-taken n more scripts r (rank_at w r) from d.packet a.0 (h.rows r) (told_here top w r d.inside h) t f in
        let fr = subst (λ z. Frame z (rank_at w r).agree (taken (rank_at w r) from d.packet).state.agree) (h.number r d.inside) (frame-taken (rank_at w r) from d.packet t) in
        rw (delivery-move w r from d.packet d.there t)
        (more, (a.0, early-frame more w (delivery_of r from) (taken (rank_at w r) from d.packet) fr a.1), after-spends n more scripts w (delivery_of r from) (taken (rank_at w r) from d.packet) d.inside (rw d.there s))
    go false d t =
        let s = spend-ignored n more scripts r (rank_at w r) d.packet (not_taken top w from r d.packet h d.sender d.inside d.there t) in
        rw (ignored-move w r from d.packet d.there t)
        (more, (a.0, early-frame more w (delivery_of r from) (stays (rank_at w r)) (same r (rank_at w r)) a.1), after-spends n more scripts w (delivery_of r from) (stays (rank_at w r)) d.inside (rw d.there s))

-- Answers

abbrev pub answer_of : ℕ → ℕ → Choice
answer_of r t = record { rank = r; act = Answer t }

pub answer_may : (w : World) (r t : ℕ) → may_happen w (answer_of r t) ≡ true → (r < length w.ranks) × (is_answerable (rank_at w r) (thread_at (rank_at w r) t).waits ≡ true)
unfolding is_enabled
answer_may w r t may = (grind (arith, nat_tests, may), grind (arith, may))

pub answer-move : (w : World) (r t : ℕ) → move_of w (answer_of r t) ≡ answered (rank_at w r) t (thread_at (rank_at w r) t).waits
unfolding step
answer-move w r t = refl

pub early-answer : (top n : ℕ) (more : More) (scripts : AllScripts) (w : World) (r t : ℕ) → Stands top w → Ahead more w → may_happen w (answer_of r t) ≡ true → Goes n more scripts w (moved w (answer_of r t))
early-answer top n more scripts w r t h a may =
    let x = rank_at w r in
    let m = answer_may w r t may in
    let s = spend-answers n more scripts r x t (thread_at x t).waits refl m.1 in
    rw (answer-move w r t)
    (more, (a.0, early-frame more w (answer_of r t) (answered x t (thread_at x t).waits) (frame-answered r x t (thread_at x t).waits) a.1), after-spends n more scripts w (answer_of r t) (answered x t (thread_at x t).waits) m.0 s)
