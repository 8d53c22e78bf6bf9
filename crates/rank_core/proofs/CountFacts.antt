-- Counts that are not at their end.
use Rattle.std.proofs.Common.{◌≡◌, ◌<◌, ◌≤◌, ◌-◌, ◌^◌, ℕ, true, refl, arith, Option, Some, None}
use Rattle.std.proofs.lemmas.Bool.Decides.{nat_tests}
use Rattle.agree_law.specs.declared.rows.Stage.{Stage}
use Rattle.agree_law.specs.declared.rows.Stage.TheVariants.{Sharing, Called, Waiting, Offered, Done}
use Rattle.agree_law.specs.declared.rows.Verdict.{Verdict}
use Rattle.agree_law.specs.declared.rows.Verdict.TheVariants.{Ready, Retry, Context, Exhausted}
use Rattle.agree_law.specs.Verdicts.{awaits, awaits_ready, awaits_round, takes_down}
use Rattle.rank_law.specs.Counts.{CountsWithin, StageWithin}
use Rattle.mpi_base.specs.declared.keys.Key.{Key}
use Rattle.agree_law.specs.Part.{round_of, stage_of}
use Rattle.mpi_protocol.specs.Rank.{Rank, thread_at}
use Rattle.rank_law.proofs.Agreement.{round_within, stage_within}
use Rattle.rank_law.proofs.Parts.{thread_within}
use Rattle.rank_core.specs.Held.{Held, CountsAreLow}

pub calls-low : (h old : Held) (t : ℕ) → h ≡ old → CountsAreLow old → (thread_at h.state t).calls < 2 ^ 64 - 1
calls-low h old t is low = let le = thread_within (2 ^ 64 - 2) old.state t low.state.threads in rw is (omega (arith, le))

pub round-low : (h old : Held) (key : Key) → h ≡ old → CountsAreLow old → round_of h.state.agree.rounds key < 2 ^ 64 - 1
round-low h old key is low = let le = round_within (2 ^ 64 - 2) old.state.agree.rounds key low.state.rounds in rw is (omega (arith, le))

pub added-low : (h old : Held) → h ≡ old → CountsAreLow old → h.state.comms.added < 2 ^ 64 - 1
added-low h old is low = let le = low.state.added in rw is (omega (arith, le))

ready-low : (s : Option Stage) (i n : ℕ) → awaits_ready s i ≡ true → i ≤ n
ready-low None i n e = absurd (cc (e))
ready-low (Some (Sharing s)) i n e = absurd (cc (e))
ready-low (Some Called) i n e = grind (arith, nat_tests, e)
ready-low (Some (Waiting j)) i n e = absurd (cc (e))
ready-low (Some (Offered j own)) i n e = absurd (cc (e))
ready-low (Some (Done c)) i n e = absurd (cc (e))

offered-low : (s : Option Stage) (i n : ℕ) → ((o : Stage) → s ≡ Some o → StageWithin n o) → awaits_round s i ≡ true → i ≤ n
offered-low None i n h e = absurd (cc (e))
offered-low (Some (Sharing s)) i n h e = absurd (cc (e))
offered-low (Some Called) i n h e = absurd (cc (e))
offered-low (Some (Waiting j)) i n h e = absurd (cc (e))
offered-low (Some (Offered j own)) i n h e = let le : j ≤ n = h (Offered j own) refl in grind (arith, nat_tests, e, le)
offered-low (Some (Done c)) i n h e = absurd (cc (e))

awaited-low : (n : ℕ) (x : Rank) (key : Key) (i : ℕ) (v : Verdict) → CountsWithin n x → awaits x.agree key i v ≡ true → i ≤ n
awaited-low n x key i Ready low e = ready-low (stage_of x.agree.opened key) i n e
awaited-low n x key i Retry low e = offered-low (stage_of x.agree.opened key) i n (λ o is. stage_within n x.agree.opened key o is low.stages) e
awaited-low n x key i (Context c) low e =
    let at : awaits_round (stage_of x.agree.opened key) i ≡ true = grind (arith, e) in
    offered-low (stage_of x.agree.opened key) i n (λ o is. stage_within n x.agree.opened key o is low.stages) at
awaited-low n x key i Exhausted low e = offered-low (stage_of x.agree.opened key) i n (λ o is. stage_within n x.agree.opened key o is low.stages) e

-- the round of a verdict that is taken
pub verdict-low : (h old : Held) (from : ℕ) (key : Key) (i : ℕ) (v : Verdict) → h ≡ old → CountsAreLow old → takes_down h.state.rank h.state.agree from key i v ≡ true → i < 2 ^ 64 - 1
unfolding takes_down
verdict-low h old from key i v is low taken =
    let here : takes_down old.state.rank old.state.agree from key i v ≡ true = rw is at taken in
    let due : awaits old.state.agree key i v ≡ true = grind (arith, here) in
    let le = awaited-low (2 ^ 64 - 2) old.state key i v low.state due in
    omega (arith, le)
