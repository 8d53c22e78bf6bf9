-- What each topic keeps where the registry's communicators grow: those that are there stay as they are, and each context
-- that stands for one goes on to stand for it.
use Rattle.std.proofs.Common.{◌≡◌, ◌<◌, ◌≤◌, ℕ, List, [], ◌∷◌, length, Option, Some, None, refl, sym, ◌∙◌, arith}
use Rattle.mpi_base.specs.declared.keys.Key.{Key}
use Rattle.local_law.specs.Objects as bound
use Rattle.mpi_law.specs.Local.Objects.{Bound, NameRow, Local}
use Rattle.mpi_law.specs.Registry.State.{Communicator, Creation, CreationName, Group_and_tag, Nth_dup, Nth_split, Group_on, Outcome, Made, NoneFree}
use Rattle.mpi_law.specs.Registry.Creations.{outcome_for, called_on}
use Rattle.mpi_law.specs.Registry.Contexts.{comm_of}
use Rattle.agree_law.specs.declared.rows.Outcome.{Outcome as Ended}
use Rattle.agree_law.specs.declared.rows.Outcome.TheVariants as ended
use Rattle.agree_law.specs.declared.rows.Stage.{Stage}
use Rattle.agree_law.specs.declared.rows.Stage.TheVariants.{Sharing, Called, Waiting, Offered, Done}
use Rattle.agree_law.specs.declared.rows.Verdict.{Verdict}
use Rattle.agree_law.specs.declared.rows.Verdict.TheVariants.{Ready, Retry, Context, Exhausted}
use Rattle.comm_law.specs.declared.rows.CommRow.{CommRow}
use Rattle.run_law.proofs.Contexts.{Stay, comm_of_is}
use Rattle.run_law.proofs.Locals.{BoundFits, NamesFit, LocalFits}
use Rattle.run_law.proofs.Creations.{MadeFits, DueFits, DoneFits, StageFits, CreationFits, UncolouredFits, comm_in, creation_in}
use Rattle.run_law.proofs.Comms.{KnownComm, FreeFits}
use Rattle.run_law.proofs.Names.{stands_on}
use Rattle.run_law.proofs.Wholes.{ParentFits, GroupFits}

pub record Grown (comms more : List Communicator) : Type 0 where
  pub longer : length comms ≤ length more
  pub stays : (r : ℕ) → Stay comms more r
  pub same : (p : ℕ) → p < length comms → comm_in more p ≡ comm_in comms p

pub grown-refl : (comms : List Communicator) → Grown comms comms
grown-refl comms = record { longer = omega arith; stays = λ r c p e. e; same = λ p lt. refl }

module _ (comms more : List Communicator) (g : Grown comms more) where
  same_at : (r c p : ℕ) → comm_of comms r c ≡ Some p → comm_in more p ≡ comm_in comms p
  same_at r c p e = g.same p (comm_of_is comms r c p e).inside

  -- names

  bound-grown : (rows : List CommRow) (r : ℕ) (a b : Bound) → BoundFits comms rows r a b → BoundFits more rows r a b
  bound-grown rows r bound.Reserved bound.Reserved h = tt
  bound-grown rows r (bound.Session s) (bound.Session q) h = h
  bound-grown rows r (bound.Group ms s) (bound.Group ns q) h = h
  bound-grown rows r (bound.Comm c s) (bound.Comm p q) h = record { session = h.session; stands = g.stays r c p h.stands; kept = rw (same_at r c p h.stands) h.kept; known = h.known; of_session = rw (same_at r c p h.stands) h.of_session }
  bound-grown rows r (bound.Request n) (bound.Request m) h = h
  bound-grown rows r a b h = absurd h

  names-grown : (rows : List CommRow) (r : ℕ) (xs ys : List NameRow) → NamesFit comms rows r xs ys → NamesFit more rows r xs ys
  names-grown rows r [] [] h = tt
  names-grown rows r [] (y ∷ ys) h = absurd h
  names-grown rows r (x ∷ xs) [] h = absurd h
  names-grown rows r (x ∷ xs) (y ∷ ys) h = (h.0, bound-grown rows r x.1 y.1 h.1, names-grown rows r xs ys h.2)

  pub locals-grown : (rows : List CommRow) (r : ℕ) (l m : Local) → LocalFits comms rows r l m → LocalFits more rows r l m
  locals-grown rows r l m h = record { live = h.live; opened = h.opened; names = names-grown rows r l.names m.names h.names; each = h.each; comms_once = h.comms_once }

  -- creations

  pub made-grown : (r : ℕ) (key : Key) (session c p : ℕ) → MadeFits comms r key session c p → MadeFits more r key session c p
  made-grown r key session c p h =
      let e = same_at r c p h.stands in
      record { stands = g.stays r c p h.stands; members = rw e h.members; session_is = rw e h.session_is; kept = rw e h.kept }

  pub due-grown : (r : ℕ) (key : Key) (session : ℕ) (v : Option Verdict) (o : Option Outcome) → DueFits comms r key session v o → DueFits more r key session v o
  due-grown r key session None None h = tt
  due-grown r key session None (Some o) h = h
  due-grown r key session (Some Ready) o h = h
  due-grown r key session (Some Retry) o h = h
  due-grown r key session (Some (Context c)) None h = h
  due-grown r key session (Some (Context c)) (Some (Made p)) h = made-grown r key session c p h
  due-grown r key session (Some (Context c)) (Some NoneFree) h = h
  due-grown r key session (Some Exhausted) None h = h
  due-grown r key session (Some Exhausted) (Some (Made p)) h = h
  due-grown r key session (Some Exhausted) (Some NoneFree) h = h

  done-grown : (known : List CommRow) (names : List NameRow) (r : ℕ) (key : Key) (session : ℕ) (d : Ended) (o : Option Outcome) → DoneFits comms known names r key session d o → DoneFits more known names r key session d o
  done-grown known names r key session (ended.Context c) None h = h
  done-grown known names r key session (ended.Context c) (Some (Made p)) h = (made-grown r key session c p h.0, h.1, h.2)
  done-grown known names r key session (ended.Context c) (Some NoneFree) h = h
  done-grown known names r key session ended.Exhausted None h = h
  done-grown known names r key session ended.Exhausted (Some (Made p)) h = h
  done-grown known names r key session ended.Exhausted (Some NoneFree) h = h

  pub stage-grown : (known : List CommRow) (names : List NameRow) (r : ℕ) (key : Key) (session : ℕ) (due : Option Verdict) (st : Option Stage) (o : Option Outcome) → StageFits comms known names r key session due st o → StageFits more known names r key session due st o
  stage-grown known names r key session due None o h = h
  stage-grown known names r key session due (Some (Sharing s)) o h = h
  stage-grown known names r key session due (Some Called) o h = h
  stage-grown known names r key session due (Some (Waiting i)) o h = h
  stage-grown known names r key session due (Some (Offered i own)) o h = due-grown r key session due o h
  stage-grown known names r key session due (Some (Done d)) o h = (h.0, done-grown known names r key session d o h.1)

  -- a creation that stays, among more creations
  pub creation-grown : (creations rows : List Creation) (known : List CommRow) (names : List NameRow) (due : Option Verdict) (st : Option Stage) (r t : ℕ) (key : Key) (target : List ℕ) (session n : ℕ) → length creations ≤ length rows → creation_in rows n ≡ creation_in creations n
      → CreationFits comms creations known names due st r t key target session n → CreationFits more rows known names due st r t key target session n
  creation-grown creations rows known names due st r t key target session n longer same h = record {
    there = (let t = h.there in omega (arith, t, longer));
    stands = rw same (stands_on comms more r key (creation_in creations n).name (g.stays r) h.stands);
    caller = rw same h.caller;
    members = rw same h.members;
    member = h.member;
    kind = h.kind;
    share = rw same h.share;
    far = rw same (stage-grown known names r key session due st (outcome_for (creation_in creations n) r) h.far);
  }

  pub uncoloured-grown : (creations rows : List Creation) (r t : ℕ) (key : Key) (target : List ℕ) (session n : ℕ) → length creations ≤ length rows → creation_in rows n ≡ creation_in creations n → UncolouredFits comms creations r t key target session n → UncolouredFits more rows r t key target session n
  uncoloured-grown creations rows r t key target session n longer same h = record {
    there = (let t = h.there in omega (arith, t, longer));
    stands = rw same (stands_on comms more r key (creation_in creations n).name (g.stays r) h.stands);
    caller = rw same h.caller;
    exchange = h.exchange;
    uncoloured = rw same h.uncoloured;
    all = rw same h.all;
    none = rw same h.none;
  }

  -- communicators

  pub known-grown : (creations rows : List Creation) (r : ℕ) (m : CommRow) (p : ℕ) → p < length comms → called_on rows p r ≡ called_on creations p r → KnownComm comms creations r m p → KnownComm more rows r m p
  known-grown creations rows r m p lt counts h =
      let e = g.same p lt in
      record { members = rw e h.members; session = rw e h.session; calls = h.calls ∙ sym counts; stage = rw e h.stage }

  pub free-grown : (rows : List CommRow) (added r serial p : ℕ) → FreeFits comms rows added r serial p → FreeFits more rows added r serial p
  free-grown rows added r serial p h = record { inside = (let l = g.longer in let i = h.inside in omega (arith, l, i)); member = rw (g.same p h.inside) h.member; below = h.below; own = rw (g.same p h.inside) h.own; gone = rw (g.same p h.inside) h.gone }

  pub group-grown : (name : CreationName) (group : List ℕ) → GroupFits comms name group → GroupFits more name group
  group-grown (Group_and_tag ms tag) group h = h
  group-grown (Nth_dup p k) group h = ((let l = g.longer in let i = h.0 in omega (arith, l, i)), rw (g.same p h.0) h.1)
  group-grown (Nth_split p k) group h = ((let l = g.longer in let i = h.0 in omega (arith, l, i)), rw (g.same p h.0) h.1)
  group-grown (Group_on p tag ms) group h = ((let l = g.longer in let i = h.0 in omega (arith, l, i)), h.1)

  pub parent-grown : (p : ℕ) (group : List ℕ) → ParentFits comms p group → ParentFits more p group
  parent-grown p group h =
      let e = g.same p h.inside in
      record { inside = (let l = g.longer in let i = h.inside in omega (arith, l, i)); within = λ z m. rw e (h.within z m); held = λ z. rw e (h.held z) }
