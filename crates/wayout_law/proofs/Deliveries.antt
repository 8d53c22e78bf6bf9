-- Deliveries: what a choice of this kind is, and what each packet takes from the cost.
use Rattle.std.proofs.Common.{◌≡◌, ◌<◌, ◌==◌, ℕ, Bool, true, false, length, slice_get, Option, Some, None, refl, arith}
use Rattle.std.specs.Prelude.{is_some}
use Rattle.std.proofs.lemmas.Bool.Decides.{nat_tests}
use Rattle.mpi_base.specs.declared.keys.Key.{Key}
use Rattle.mpi_base.specs.declared.entries.Act.TheVariants.{Deliver}
use Rattle.mpi_base.specs.declared.entries.Choice.{Choice}
use Rattle.mpi_law.specs.ScriptLists.{AllScripts}
use Rattle.agree_law.specs.declared.rows.Stage.{Stage}
use Rattle.agree_law.specs.declared.rows.Stage.TheVariants.{Called, Offered}
use Rattle.agree_law.specs.declared.rows.Verdict.{Verdict}
use Rattle.agree_law.specs.declared.rows.Verdict.TheVariants.{Ready, Retry}
use Rattle.agree_law.specs.Part.{Agree, stage_of}
use Rattle.agree_law.specs.Packets.{Up, Down, Share, Shares}
use Rattle.agree_law.specs.Verdicts.{takes_down, awaits_ready, awaits_round}
use Rattle.agree_law.specs.Moves as agree_moves
use Rattle.mpi_protocol.specs.Packets.{Packet, Agreeing, Message, Marker}
use Rattle.mpi_protocol.specs.Rank.{Rank}
use Rattle.mpi_protocol.specs.Moves.{stays}
use Rattle.mpi_protocol.specs.Delivers.{takes_packet, taken, delivers}
use Rattle.mpi_protocol.specs.Step.{step, is_enabled}
use Rattle.mpi_protocol.specs.World.{World, rank_at, link, may_happen, move_of}
use Rattle.wayout_law.specs.Potential.{More}
use Rattle.wayout_law.proofs.Bound.{FewMore}
use Rattle.wayout_law.proofs.Rows.{OneEach}
use Rattle.wayout_law.proofs.AgreeSpends.{Falls}
use Rattle.wayout_law.proofs.Decisions.{OwnAreTold, spend-down, spend-up, spend-share, spend-shares}
use Rattle.wayout_law.proofs.Leaves.{spend-message, spend-marker}
use Rattle.wayout_law.proofs.Worlds.{Spends}

-- a verdict that comes leads to a round that is charged
abbrev pub FallsWith : More → Packet → Type 0
FallsWith more (Agreeing (Up key i own mask)) = Unit {0}
FallsWith more (Agreeing (Down key i v)) = Falls more key i v
FallsWith more (Agreeing (Share key s)) = Unit {0}
FallsWith more (Agreeing (Shares key list)) = Unit {0}
FallsWith more (Message m) = Unit {0}
FallsWith more (Marker c) = Unit {0}

pub spend-taken : (n : ℕ) (more : More) (scripts : AllScripts) (r : ℕ) (x : Rank) (from : ℕ) (p : Packet) → FewMore more → OneEach x.agree.opened → OwnAreTold x.rank x.agree → takes_packet x from p ≡ true → FallsWith more p → Spends n more scripts r x (Some p) (taken x from p)
unfolding takes_packet agree_moves.takes_packet
spend-taken n more scripts r x from (Agreeing (Up key i own mask)) few one told e f = spend-up n more scripts r x from key i own mask e told
spend-taken n more scripts r x from (Agreeing (Down key i v)) few one told e f = spend-down n more scripts r x from key i v one e f
spend-taken n more scripts r x from (Agreeing (Share key s)) few one told e f = spend-share n more scripts r x from key s
spend-taken n more scripts r x from (Agreeing (Shares key list)) few one told e f = spend-shares n more scripts r x from key list few one e
spend-taken n more scripts r x from (Message m) few one told e f = spend-message n more scripts r x from m
spend-taken n more scripts r x from (Marker c) few one told e f = spend-marker n more scripts r x from c

abbrev pub is_agreeing : Packet → Bool
is_agreeing (Agreeing p) = true
is_agreeing (Message m) = false
is_agreeing (Marker c) = false

-- a message or a marker that is not taken is gone
pub spend-ignored : (n : ℕ) (more : More) (scripts : AllScripts) (r : ℕ) (x : Rank) (p : Packet) → is_agreeing p ≡ false → Spends n more scripts r x (Some p) (stays x)
spend-ignored n more scripts r x (Agreeing p) e = absurd (cc)
spend-ignored n more scripts r x (Message m) e = omega arith
spend-ignored n more scripts r x (Marker c) e = omega arith

-- what a delivery that may happen is
pub record Delivery (w : World) (r from : ℕ) : Type 0 where
  pub inside : r < length w.ranks
  pub sender : from < length w.ranks
  pub packet : Packet
  pub there : slice_get (link w from r) 0 ≡ Some packet
  pub apart : (from == (rank_at w r).rank) ≡ false

abbrev pub delivery_of : ℕ → ℕ → Choice
delivery_of r from = record { rank = r; act = Deliver from }

pub delivery : (w : World) (r from : ℕ) → may_happen w (delivery_of r from) ≡ true → Delivery w r from
unfolding is_enabled
delivery w r from may = go (slice_get (link w from r) 0) refl
  where
    go : (o : Option Packet) → slice_get (link w from r) 0 ≡ o → Delivery w r from
    go None e = let z : is_some (slice_get (link w from r) 0) ≡ true = grind (arith, may) in let y : is_some (slice_get (link w from r) 0) ≡ false = rw e refl in absurd (cc)
    go (Some p) e = record { inside = grind (arith, nat_tests, may); sender = grind (arith, nat_tests, may); packet = p; there = e; apart = grind (arith, may) }

pub delivery-move : (w : World) (r from : ℕ) (p : Packet) → slice_get (link w from r) 0 ≡ Some p → takes_packet (rank_at w r) from p ≡ true → move_of w (delivery_of r from) ≡ taken (rank_at w r) from p
unfolding step delivers
delivery-move w r from p e t = rw (e, t) refl

pub ignored-move : (w : World) (r from : ℕ) (p : Packet) → slice_get (link w from r) 0 ≡ Some p → takes_packet (rank_at w r) from p ≡ false → move_of w (delivery_of r from) ≡ stays (rank_at w r)
unfolding step delivers
ignored-move w r from p e t = rw (e, t) refl

-- the round of a verdict that is taken
ready_zero : (s : Option Stage) (i : ℕ) → awaits_ready s i ≡ true → i ≡ 0
ready_zero (Some Called) i e = grind (arith, nat_tests, e)
ready_zero s i e = absurd (cc)

pub taken_ready : (r : ℕ) (a : Agree) (from : ℕ) (key : Key) (i : ℕ) → takes_down r a from key i Ready ≡ true → i ≡ 0
unfolding takes_down
taken_ready r a from key i e = ready_zero (stage_of a.opened key) i (grind (arith, e))

round_offered : (s : Option Stage) (i : ℕ) → awaits_round s i ≡ true → (own : Bool) × (s ≡ Some (Offered i own))
round_offered (Some (Offered j own)) i e = let is : j ≡ i = grind (arith, nat_tests, e) in rw is (own, refl)
round_offered s i e = absurd (cc)

pub taken_retry : (r : ℕ) (a : Agree) (from : ℕ) (key : Key) (i : ℕ) → takes_down r a from key i Retry ≡ true → (own : Bool) × (stage_of a.opened key ≡ Some (Offered i own))
unfolding takes_down
taken_retry r a from key i e = round_offered (stage_of a.opened key) i (grind (arith, e))

pub down_taken : (x : Rank) (from : ℕ) (key : Key) (i : ℕ) (v : Verdict) → takes_packet x from (Agreeing (Down key i v)) ≡ true → takes_down x.rank x.agree from key i v ≡ true
unfolding takes_packet agree_moves.takes_packet
down_taken x from key i v e = e
