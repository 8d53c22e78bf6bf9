-- How far the rounds of the agreement's part go: the moves of offers and verdicts.
use Rattle.std.proofs.Common.{◌≡◌, ◌≤◌, ◌+◌, ℕ, Bool, true, false, if◌then◌else◌, List, Option, Some, None, option_map, refl, subst, arith}
use Rattle.std.specs.Prelude.{All, find}
use Rattle.std.specs.Option.{unwrap_or}
use Rattle.std.proofs.lemmas.Bool.Decides.{nat_tests}
use Rattle.std.proofs.lemmas.List.Elements.{All-weaker, All-push, All-filter}
use Rattle.mpi_base.specs.declared.keys.Key.{Key}
use Rattle.mpi_base.specs.Keys.{same_key}
use Rattle.agree_law.specs.declared.rows.Stage.{Stage}
use Rattle.agree_law.specs.declared.rows.Stage.TheVariants.{Sharing, Called, Waiting, Offered, Done}
use Rattle.agree_law.specs.declared.rows.Outcome.TheVariants as outcome
use Rattle.agree_law.specs.declared.rows.Verdict.{Verdict}
use Rattle.agree_law.specs.declared.rows.Verdict.TheVariants.{Ready, Retry, Context, Exhausted}
use Rattle.agree_law.specs.declared.rows.CreationRow.{CreationRow}
use Rattle.agree_law.specs.declared.rows.RoundRow.{RoundRow}
use Rattle.agree_law.specs.Tree.{place_in}
use Rattle.agree_law.specs.Part.{Agree, stage_of, round_of, open_creation, set_stage, close_creation, set_round, drop_round}
use Rattle.agree_law.specs.Packets.{stays}
use Rattle.agree_law.specs.Rule.{may_own}
use Rattle.agree_law.specs.Offers.{put_offer, begin, if_waiting, make_offer, takes_up, take_up}
use Rattle.agree_law.specs.Verdicts.{takes, rounds_after, decide, settle_offers, awaits, awaits_ready, awaits_round, takes_down, take_down}
use Rattle.rank_law.specs.Counts.{StageWithin}
use Rattle.rank_law.proofs.Rows.{All-changed, All-find}

-- the rounds of the gathers and of the open creations are at most this
abbrev pub RoundsWithin : ℕ → List RoundRow → Type 0
RoundsWithin n rounds = All (λ w. w.round ≤ n) rounds

abbrev pub OpensWithin : ℕ → List CreationRow → Type 0
OpensWithin n opened = All (λ o. StageWithin n o.stage) opened

pub record AgreeWithin (n : ℕ) (a : Agree) : Type 0 where
  pub rounds : RoundsWithin n a.rounds
  pub stages : OpensWithin n a.opened

-- Greater bounds

pub stage_rises : (n m : ℕ) (z : Stage) → n ≤ m → StageWithin n z → StageWithin m z
stage_rises n m (Sharing s) le h = tt
stage_rises n m Called le h = tt
stage_rises n m (Waiting i) le h = omega (arith, le, h)
stage_rises n m (Offered i own) le h = omega (arith, le, h)
stage_rises n m (Done c) le h = tt

pub rounds_rise : (n m : ℕ) (rounds : List RoundRow) → n ≤ m → RoundsWithin n rounds → RoundsWithin m rounds
rounds_rise n m rounds le h = All-weaker (λ (w : RoundRow). w.round ≤ n) (λ (w : RoundRow). w.round ≤ m) (λ w u. omega (arith, le, u)) rounds h

pub opens_rise : (n m : ℕ) (opened : List CreationRow) → n ≤ m → OpensWithin n opened → OpensWithin m opened
opens_rise n m opened le h = All-weaker (λ (o : CreationRow). StageWithin n o.stage) (λ (o : CreationRow). StageWithin m o.stage) (λ o u. stage_rises n m o.stage le u) opened h

-- Lookups

pub stage_within : (n : ℕ) (opened : List CreationRow) (key : Key) (z : Stage) → stage_of opened key ≡ Some z → OpensWithin n opened → StageWithin n z
stage_within n opened key z e h = go (find (λ o. same_key o.key key) opened) refl e
  where
    go : (f : Option CreationRow) → find (λ o. same_key o.key key) opened ≡ f → option_map (λ o. o.stage) f ≡ Some z → StageWithin n z
    go None u e = absurd (cc (e))
    go (Some o) u e = subst (StageWithin n) (cc (e)) (All-find (λ (o : CreationRow). StageWithin n o.stage) (λ o. same_key o.key key) opened o u h)

pub round_within : (n : ℕ) (rounds : List RoundRow) (key : Key) → RoundsWithin n rounds → round_of rounds key ≤ n
round_within n rounds key h = go (find (λ w. same_key w.key key) rounds) refl
  where
    go : (f : Option RoundRow) → find (λ w. same_key w.key key) rounds ≡ f → unwrap_or (option_map (λ w. w.round) f) 0 ≤ n
    go None u = omega arith
    go (Some w) u = All-find (λ (w : RoundRow). w.round ≤ n) (λ w. same_key w.key key) rounds w u h

-- Changes of rows

pub opens-open : (n : ℕ) (opened : List CreationRow) (key : Key) (z : Stage) → StageWithin n z → OpensWithin n opened → OpensWithin n (open_creation opened key z)
opens-open n opened key z w h = All-push (λ (o : CreationRow). StageWithin n o.stage) opened (record { key = key; stage = z }) h w

pub opens-set : (n : ℕ) (opened : List CreationRow) (key : Key) (z : Stage) → StageWithin n z → OpensWithin n opened → OpensWithin n (set_stage opened key z)
opens-set n opened key z w h =
    All-changed (λ (o : CreationRow). StageWithin n o.stage) (λ (o : CreationRow). StageWithin n o.stage) (λ o. same_key o.key key) (λ o. record { key = o.key; stage = z }) opened
    (λ o u. w) (λ o u. u) h

pub opens-close : (n : ℕ) (opened : List CreationRow) (key : Key) → OpensWithin n opened → OpensWithin n (close_creation opened key)
opens-close n opened key h = All-filter _ (λ (o : CreationRow). StageWithin n o.stage) opened h

rounds-drop : (n : ℕ) (rounds : List RoundRow) (key : Key) → RoundsWithin n rounds → RoundsWithin n (drop_round rounds key)
rounds-drop n rounds key h = All-filter _ (λ (w : RoundRow). w.round ≤ n) rounds h

rounds-set : (n : ℕ) (rounds : List RoundRow) (key : Key) (i : ℕ) → i ≤ n → RoundsWithin n rounds → RoundsWithin n (set_round rounds key i)
rounds-set n rounds key i le h = All-push (λ (w : RoundRow). w.round ≤ n) (drop_round rounds key) (record { key = key; round = i }) (rounds-drop n rounds key h) le

-- Offers

pub within-put : (n r top : ℕ) (a : Agree) (key : Key) (place : ℕ) (own : Bool) (mask : List Bool) → AgreeWithin n a → AgreeWithin n (put_offer r top a key place own mask).part
unfolding put_offer
within-put n r top a key place own mask h = record { rounds = h.rounds; stages = h.stages }

pub within-begin : (n r top : ℕ) (a : Agree) (key : Key) → AgreeWithin n a → AgreeWithin n (begin r top a key).part
unfolding begin
within-begin n r top a key h = within-put n r top _ key _ _ _ (record { rounds = h.rounds; stages = opens-open n a.opened key Called tt h.stages })

pub within-offer : (n r top : ℕ) (a : Agree) (key : Key) → AgreeWithin n a → AgreeWithin n (make_offer r top a key).part
unfolding make_offer
within-offer n r top a key h = go (stage_of a.opened key) refl
  where
    go : (o : Option Stage) → stage_of a.opened key ≡ o → AgreeWithin n (if_waiting r top a key o).part
    go None e = h
    go (Some (Sharing s)) e = h
    go (Some Called) e = h
    go (Some (Waiting i)) e =
        within-put n r top _ key _ _ _
        (record { rounds = h.rounds; stages = opens-set n a.opened key (Offered i (may_own a key)) (stage_within n a.opened key (Waiting i) e h.stages) h.stages })
    go (Some (Offered i own)) e = h
    go (Some (Done c)) e = h

pub within-up : (n r top : ℕ) (a : Agree) (from : ℕ) (key : Key) (i : ℕ) (own : Bool) (mask : List Bool) → AgreeWithin n a → AgreeWithin n (take_up r top a from key i own mask).part
unfolding take_up
within-up n r top a from key i own mask h = go (takes_up r a from key i)
  where
    go : (b : Bool) → AgreeWithin n (if b then put_offer r top a key (place_in key.members from) own mask else stays a).part
    go true = within-put n r top a key _ own mask h
    go false = h

-- Verdicts

pub within-decide : (n r : ℕ) (a : Agree) (key : Key) (i : ℕ) (v : Verdict) → i ≤ n → AgreeWithin n a → AgreeWithin (n + 1) (decide r a key i v).part
unfolding decide takes rounds_after
within-decide n r a key i v le h = go v
  where
    rounds : RoundsWithin (n + 1) a.rounds
    rounds = rounds_rise n (n + 1) a.rounds (omega arith) h.rounds

    stages : OpensWithin (n + 1) a.opened
    stages = opens_rise n (n + 1) a.opened (omega arith) h.stages

    go : (v : Verdict) → AgreeWithin (n + 1) (takes (rounds_after a key i v) key i v)
    go Ready = record { rounds = rounds-set (n + 1) a.rounds key 1 (omega arith) rounds; stages = opens-set (n + 1) a.opened key (Waiting 1) (omega arith) stages }
    go Retry =
        record {
          rounds = rounds-set (n + 1) a.rounds key (i + 1) (omega (arith, le)) rounds;
          stages = opens-set (n + 1) a.opened key (Waiting (i + 1)) (omega (arith, le)) stages;
        }
    go (Context c) = record { rounds = rounds-drop (n + 1) a.rounds key rounds; stages = opens-set (n + 1) a.opened key (Done (outcome.Context c)) tt stages }
    go Exhausted = record { rounds = rounds-drop (n + 1) a.rounds key rounds; stages = opens-set (n + 1) a.opened key (Done outcome.Exhausted) tt stages }

pub within-settle_offers : (n r top : ℕ) (a : Agree) (key : Key) → AgreeWithin n a → AgreeWithin (n + 1) (settle_offers r top a key).part
unfolding settle_offers
within-settle_offers n r top a key h = within-decide n r a key (round_of a.rounds key) _ (round_within n a.rounds key h.rounds) h

-- the round of a verdict that is awaited is that of the creation here
ready_within : (n : ℕ) (o : Option Stage) (i : ℕ) → awaits_ready o i ≡ true → i ≤ n
ready_within n None i e = absurd (cc (e))
ready_within n (Some (Sharing s)) i e = absurd (cc (e))
ready_within n (Some Called) i e = grind (arith, nat_tests, e)
ready_within n (Some (Waiting j)) i e = absurd (cc (e))
ready_within n (Some (Offered j own)) i e = absurd (cc (e))
ready_within n (Some (Done c)) i e = absurd (cc (e))

awaited_round : (n : ℕ) (opened : List CreationRow) (key : Key) (o : Option Stage) (i : ℕ) → stage_of opened key ≡ o → OpensWithin n opened → awaits_round o i ≡ true → i ≤ n
awaited_round n opened key None i u h e = absurd (cc (e))
awaited_round n opened key (Some (Sharing s)) i u h e = absurd (cc (e))
awaited_round n opened key (Some Called) i u h e = absurd (cc (e))
awaited_round n opened key (Some (Waiting j)) i u h e = absurd (cc (e))
awaited_round n opened key (Some (Offered j own)) i u h e = let w = stage_within n opened key (Offered j own) u h in grind (arith, nat_tests, w, e)
awaited_round n opened key (Some (Done c)) i u h e = absurd (cc (e))

awaited : (n : ℕ) (a : Agree) (key : Key) (i : ℕ) (v : Verdict) → AgreeWithin n a → awaits a key i v ≡ true → i ≤ n
awaited n a key i Ready h e = ready_within n (stage_of a.opened key) i e
awaited n a key i Retry h e = awaited_round n a.opened key (stage_of a.opened key) i refl h.stages e
awaited n a key i (Context c) h e = awaited_round n a.opened key (stage_of a.opened key) i refl h.stages (grind (arith, e))
awaited n a key i Exhausted h e = awaited_round n a.opened key (stage_of a.opened key) i refl h.stages e

pub agree_rises : (n m : ℕ) (a : Agree) → n ≤ m → AgreeWithin n a → AgreeWithin m a
agree_rises n m a le h = record { rounds = rounds_rise n m a.rounds le h.rounds; stages = opens_rise n m a.opened le h.stages }

pub within-down : (n r : ℕ) (a : Agree) (from : ℕ) (key : Key) (i : ℕ) (v : Verdict) → AgreeWithin n a → AgreeWithin (n + 1) (take_down r a from key i v).part
unfolding take_down takes_down
within-down n r a from key i v h = go (takes_down r a from key i v) refl
  where
    go : (b : Bool) → takes_down r a from key i v ≡ b → AgreeWithin (n + 1) (if b then decide r a key i v else stays a).part
    go true e = within-decide n r a key i v (awaited n a key i v h (grind (arith, e))) h
    go false e = agree_rises n (n + 1) a (omega arith) h
