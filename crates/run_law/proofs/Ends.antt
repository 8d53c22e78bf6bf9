-- A creation that is decided at a rank: what was picked for it, and other names beside it.
use Rattle.std.proofs.Common.{◌≡◌, ℕ, true, false, List, [], ◌∷◌, Option, Some, None, refl, subst}
use Rattle.std.specs.Option.{is_some}
use Rattle.mpi_base.specs.declared.keys.Key.{Key}
use Rattle.mpi_law.specs.Local.Objects.{NameRow}
use Rattle.mpi_law.specs.Registry.State.{Communicator, Creation, Pick, Outcome, Made, NoneFree}
use Rattle.mpi_law.specs.Registry.Creations.{is_nil, outcome_for}
use Rattle.agree_law.specs.declared.rows.Outcome.{Outcome as Ended}
use Rattle.agree_law.specs.declared.rows.Outcome.TheVariants as ended
use Rattle.agree_law.specs.declared.rows.Stage.{Stage}
use Rattle.agree_law.specs.declared.rows.Stage.TheVariants.{Sharing, Called, Waiting, Offered, Done}
use Rattle.agree_law.specs.declared.rows.Verdict.{Verdict}
use Rattle.comm_law.specs.declared.rows.CommRow.{CommRow}
use Rattle.run_law.proofs.Lists.{tally}
use Rattle.run_law.proofs.Locals.{binds}
use Rattle.run_law.proofs.Creations.{MadeFits, DoneFits, StageFits}

-- a stage under other names
pub stage_named : (comms : List Communicator) (rows : List CommRow) (names new : List NameRow) (r : ℕ) (key : Key) (session : ℕ) (due : Option Verdict) (st : Option Stage) (o : Option Outcome)
    → ((c : ℕ) → st ≡ Some (Done (ended.Context c)) → tally (binds c) names ≡ 0 → tally (binds c) new ≡ 0) → StageFits comms rows names r key session due st o → StageFits comms rows new r key session due st o
stage_named comms rows names new r key session due None o f h = h
stage_named comms rows names new r key session due (Some (Sharing s)) o f h = h
stage_named comms rows names new r key session due (Some Called) o f h = h
stage_named comms rows names new r key session due (Some (Waiting i)) o f h = h
stage_named comms rows names new r key session due (Some (Offered i own)) o f h = h
stage_named comms rows names new r key session due (Some (Done (ended.Context c))) None f h = h
stage_named comms rows names new r key session due (Some (Done (ended.Context c))) (Some (Made p)) f h = (h.0, (h.1.0, f c refl h.1.1, h.1.2))
stage_named comms rows names new r key session due (Some (Done (ended.Context c))) (Some NoneFree) f h = h
stage_named comms rows names new r key session due (Some (Done ended.Exhausted)) o f h = h

-- the communicator of a creation that ended with a context
pub record EndsWith (comms : List Communicator) (r : ℕ) (key : Key) (session c : ℕ) (o : Option Outcome) : Type 0 where
  pub place : ℕ
  pub outcome : o ≡ Some (Made place)
  pub made : MadeFits comms r key session c place

pub ends_with : (comms : List Communicator) (rows : List CommRow) (names : List NameRow) (r : ℕ) (key : Key) (session c : ℕ) (due : Option Verdict) (st : Option Stage) (o : Option Outcome) → st ≡ Some (Done (ended.Context c)) → StageFits comms rows names r key session due st o → EndsWith comms r key session c o
ends_with comms rows names r key session c due st o e h = go o (subst (λ (z : Option Stage). StageFits comms rows names r key session due z o) e h)
  where
    go : (o : Option Outcome) → StageFits comms rows names r key session due (Some (Done (ended.Context c))) o → EndsWith comms r key session c o
    go None h = absurd h.1
    go (Some (Made p)) h = record { place = p; outcome = refl; made = h.1.0 }
    go (Some NoneFree) h = absurd h.1

-- a creation that is decided at a rank was picked
pub some_outcome : (comms : List Communicator) (rows : List CommRow) (names : List NameRow) (r : ℕ) (key : Key) (session : ℕ) (d : Ended) (due : Option Verdict) (st : Option Stage) (o : Option Outcome) → st ≡ Some (Done d) → StageFits comms rows names r key session due st o → is_some o ≡ true
some_outcome comms rows names r key session d due st o e h = go d o (subst (λ (z : Option Stage). StageFits comms rows names r key session due z o) e h).1
  where
    go : (d : Ended) (o : Option Outcome) → DoneFits comms rows names r key session d o → is_some o ≡ true
    go (ended.Context c) None h = absurd h
    go (ended.Context c) (Some p) h = refl
    go ended.Exhausted None h = absurd h
    go ended.Exhausted (Some p) h = refl

pub no_pick : (ks : List Pick) (r : ℕ) (c : Creation) → c.picks ≡ ks → is_nil ks ≡ true → is_some (outcome_for c r) ≡ false
no_pick [] r c e h = rw e refl
no_pick (k ∷ ks) r c e h = absurd (cc (h))

-- a context is not that of a creation's end
abbrev pub Differs : Ended → ℕ → Type 0
Differs (ended.Context c) d = c ≡ d → ⊥
Differs ended.Exhausted d = Unit {0}
