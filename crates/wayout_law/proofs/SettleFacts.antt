-- A settle of offers: what it is, and what it makes of the key's round.
use Rattle.std.proofs.Common.{◌≡◌, ◌<◌, ◌+◌, ℕ, Bool, true, false, length, Option, Some, refl, sym, ap, subst, arith}
use Rattle.std.proofs.lemmas.Bool.Decides.{nat_tests}
use Rattle.mpi_base.specs.declared.keys.Key.{Key}
use Rattle.mpi_base.specs.declared.entries.Act.TheVariants.{Settle}
use Rattle.mpi_base.specs.declared.entries.Choice.{Choice}
use Rattle.mpi_base.proofs.KeyFacts.{same_key-refl}
use Rattle.agree_law.specs.declared.rows.Stage.{Stage}
use Rattle.agree_law.specs.declared.rows.Stage.TheVariants.{Called, Offered}
use Rattle.agree_law.specs.declared.rows.Verdict.{Verdict}
use Rattle.agree_law.specs.declared.rows.Verdict.TheVariants.{Ready, Retry, Context, Exhausted}
use Rattle.agree_law.specs.Tree.{member_at, is_first}
use Rattle.agree_law.specs.Part.{Agree, stage_of, round_of}
use Rattle.agree_law.specs.Kinds.{is_share}
use Rattle.agree_law.specs.Moves.{may_settle}
use Rattle.agree_law.specs.Verdicts.{may_settle_offers, decide, takes, rounds_after}
use Rattle.agree_law.proofs.KeyKept.{next_round, is_said_of}
use Rattle.agree_law.proofs.RowFacts.{round_of-drop, round_of-set}
use Rattle.agree_law.proofs.DownSteps.{said_facts}
use Rattle.mpi_protocol.specs.Rank.{Rank}
use Rattle.mpi_protocol.specs.Agreeing.{settles, verdict_at}
use Rattle.mpi_protocol.specs.Step.{step, is_enabled}
use Rattle.mpi_protocol.specs.World.{World, rank_at, may_happen, move_of, after}
use Rattle.wayout_law.proofs.Decisions.{told_in}
use Rattle.wayout_law.proofs.Frames.{decide-fewer, decide-rounds}
use Rattle.wayout_law.proofs.Settling.{settle-part}
use Rattle.wayout_law.proofs.Stands.{Stands, stands-settle}
use Rattle.wayout_law.proofs.Afters.{here-after, first-after, first_member}
use Rattle.wayout_law.proofs.Early.{fewer-after, Settled}

abbrev pub settle_of : ℕ → Key → Choice
settle_of r key = record { rank = r; act = Settle key }

pub settle_may : (w : World) (r : ℕ) (key : Key) → may_happen w (settle_of r key) ≡ true → (r < length w.ranks) × (may_settle (rank_at w r).rank (rank_at w r).agree key ≡ true)
unfolding is_enabled
settle_may w r key may = (grind (arith, nat_tests, may), grind (arith, may))

pub settle-move : (w : World) (r : ℕ) (key : Key) → move_of w (settle_of r key) ≡ settles (rank_at w r) key
unfolding step
settle-move w r key = refl

of_offers : (r : ℕ) (a : Agree) (key : Key) → is_share key.kind ≡ false → may_settle r a key ≡ true → may_settle_offers r a key ≡ true
unfolding may_settle
of_offers r a key kind may = grind (arith, kind, may)

-- the verdict against the round
pub said_here : (x : Rank) (key : Key) → is_said_of (round_of x.agree.rounds key) (verdict_at x key) ≡ true
said_here x key = (said_facts x.setting.contexts x.agree key).0

pub told_offered : (s : Option Stage) (g : ℕ) → told_in s g ≡ true → 0 < g → (own : Bool) × (s ≡ Some (Offered g own))
told_offered (Some Called) g e pos = absurd (grind (arith, nat_tests, e, pos))
told_offered (Some (Offered i own)) g e pos = let is : i ≡ g = grind (arith, nat_tests, e) in rw is (own, refl)
told_offered s g e pos = absurd (cc)

-- the round that follows
decided-round : (r : ℕ) (a : Agree) (key : Key) (i : ℕ) (v : Verdict) → round_of (decide r a key i v).part.rounds key ≡ next_round i v
unfolding decide takes rounds_after
decided-round r a key i Ready = let x = round_of-set a.rounds key key 1 in rw (same_key-refl key) at x
decided-round r a key i Retry = let x = round_of-set a.rounds key key (i + 1) in rw (same_key-refl key) at x
decided-round r a key i (Context c) = let x = round_of-drop a.rounds key key in rw (same_key-refl key) at x
decided-round r a key i Exhausted = let x = round_of-drop a.rounds key key in rw (same_key-refl key) at x

pub settled : (top : ℕ) (w : World) (r : ℕ) (key : Key) → Stands top w → r < length w.ranks → is_share key.kind ≡ false → may_settle r (rank_at w r).agree key ≡ true
    → Settled w (after w (settle_of r key) (settles (rank_at w r) key)) key (round_of (rank_at w r).agree.rounds key) (verdict_at (rank_at w r) key)
settled top w r key h lt kind may =
    record {
      fewer = fewer-after w c (settles x key) (λ k i own e. decide-fewer x.rank x.agree key g v k i own (subst (λ (a : Agree). stage_of a.opened k ≡ Some (Offered i own)) part e));
      others = λ k far. first-after w c (settles x key) k (λ _. subst (λ (a : Agree). round_of a.rounds k ≡ round_of x.agree.rounds k) (sym part) (decide-rounds x.rank x.agree key g v k far));
      mine = subst (λ (q : ℕ). round_of (rank_at (after w c (settles x key)) q).agree.rounds key ≡ next_round g v) (sym member) (rw (here-after w c (settles x key) lt) (subst (λ (a : Agree). round_of a.rounds key ≡ next_round g v) (sym part) (decided-round x.rank x.agree key g v)));
      was = ap (λ (q : ℕ). round_of (rank_at w q).agree.rounds key) member;
      level = λ q i own e. stands-settle top w r q key (Offered i own) i h offers e (grind (arith, nat_tests));
    }
  where
    x : Rank
    x = rank_at w r

    c : Choice
    c = settle_of r key

    g : ℕ
    g = round_of (rank_at w r).agree.rounds key

    v : Verdict
    v = verdict_at (rank_at w r) key

    part : (settles (rank_at w r) key).state.agree ≡ (decide (rank_at w r).rank (rank_at w r).agree key g v).part
    part = settle-part (rank_at w r) key kind

    offers : may_settle_offers r (rank_at w r).agree key ≡ true
    offers = of_offers r (rank_at w r).agree key kind may

    first : is_first r key.members ≡ true
    first = grind (arith, offers)

    member : member_at key.members 0 ≡ r
    member = first_member key.members r first
