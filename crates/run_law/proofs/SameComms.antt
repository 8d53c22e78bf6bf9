-- What one rank sees of the registry's communicators stays, but for those that are not safe: what reads them goes on to hold.
use Rattle.std.proofs.Common.{◌≡◌, ℕ, not, true, List, [], ◌∷◌, Option, Some, None, refl, sym, ap, ◌∙◌}
use Rattle.std.specs.Option.{is_some}
use Rattle.mpi_base.specs.MemberLists.{has_rank}
use Rattle.mpi_base.specs.declared.keys.Key.{Key}
use Rattle.local_law.specs.Objects as bound
use Rattle.mpi_law.specs.Local.Objects.{Bound, NameRow, Local}
use Rattle.mpi_law.specs.Registry.State.{Communicator, Creation, Outcome, Made, NoneFree, session_at}
use Rattle.mpi_law.specs.Registry.Creations.{outcome_for}
use Rattle.mpi_law.specs.Registry.Contexts.{comm_of, stands_for}
use Rattle.agree_law.specs.declared.rows.Outcome.{Outcome as Ended}
use Rattle.agree_law.specs.declared.rows.Outcome.TheVariants as ended
use Rattle.agree_law.specs.declared.rows.Stage.{Stage}
use Rattle.agree_law.specs.declared.rows.Stage.TheVariants.{Sharing, Called, Waiting, Offered, Done}
use Rattle.agree_law.specs.declared.rows.Verdict.{Verdict}
use Rattle.agree_law.specs.declared.rows.Verdict.TheVariants.{Ready, Retry, Context, Exhausted}
use Rattle.comm_law.specs.declared.rows.CommRow.{CommRow}
use Rattle.run_law.proofs.Rows.{row_in}
use Rattle.run_law.proofs.Locals.{CommNamed, BoundFits, NamesFit, LocalFits}
use Rattle.run_law.proofs.Creations.{MadeFits, DueFits, DoneFits, StageFits, CreationFits, UncolouredFits, comm_in, creation_in}
use Rattle.run_law.proofs.Comms.{KnownComm}

pub record SameAt (comms cs : List Communicator) (q : ℕ) (safe : ℕ → Type 0) : Type 0 where
  pub members : (p : ℕ) → (comm_in cs p).members ≡ (comm_in comms p).members
  pub session : (p : ℕ) → session_at (comm_in cs p) q ≡ session_at (comm_in comms p) q
  pub stands : (c p : ℕ) → safe p → comm_of comms q c ≡ Some p → comm_of cs q c ≡ Some p
  pub freed : (p : ℕ) → safe p → has_rank (comm_in cs p).freed q ≡ has_rank (comm_in comms p).freed q

module _ (comms cs : List Communicator) (q : ℕ) (safe : ℕ → Type 0) (f : SameAt comms cs q safe) where
  -- a communicator that is named, and one that is known

  pub named_same : (old new : List CommRow) (c s p i : ℕ) → safe p → (is_some (row_in old c) ≡ true → is_some (row_in new c) ≡ true) → CommNamed comms old q c s p i → CommNamed cs new q c s p i
  named_same old new c s p i ok more h = record { session = h.session; stands = f.stands c p ok h.stands; kept = f.freed p ok ∙ h.kept; known = more h.known; of_session = f.session p ∙ h.of_session }

  pub known_same : (creations : List Creation) (m : CommRow) (p : ℕ) → safe p → KnownComm comms creations q m p → KnownComm cs creations q m p
  known_same creations m p ok h = record { members = h.members ∙ sym (f.members p); session = h.session ∙ sym (f.session p); calls = h.calls; stage = h.stage ∙ ap not (sym (f.freed p ok)) }

  -- Creations

  made_same : (key : Key) (session c p : ℕ) → safe p → MadeFits comms q key session c p → MadeFits cs q key session c p
  made_same key session c p ok h = record { stands = f.stands c p ok h.stands; members = f.members p ∙ h.members; session_is = f.session p ∙ h.session_is; kept = f.freed p ok ∙ h.kept }

  -- what was made is safe
  abbrev pub Safe : Option Outcome → Type 0
  Safe o = (p : ℕ) → o ≡ Some (Made p) → safe p

  due_same : (key : Key) (session : ℕ) (v : Option Verdict) (o : Option Outcome) → Safe o → DueFits comms q key session v o → DueFits cs q key session v o
  due_same key session None None ok h = h
  due_same key session None (Some o) ok h = h
  due_same key session (Some Ready) o ok h = h
  due_same key session (Some Retry) o ok h = h
  due_same key session (Some (Context c)) None ok h = h
  due_same key session (Some (Context c)) (Some (Made p)) ok h = made_same key session c p (ok p refl) h
  due_same key session (Some (Context c)) (Some NoneFree) ok h = h
  due_same key session (Some Exhausted) None ok h = h
  due_same key session (Some Exhausted) (Some (Made p)) ok h = h
  due_same key session (Some Exhausted) (Some NoneFree) ok h = h

  done_same : (rows : List CommRow) (names : List NameRow) (key : Key) (session : ℕ) (d : Ended) (o : Option Outcome) → Safe o → DoneFits comms rows names q key session d o → DoneFits cs rows names q key session d o
  done_same rows names key session (ended.Context c) None ok h = h
  done_same rows names key session (ended.Context c) (Some (Made p)) ok h = (made_same key session c p (ok p refl) h.0, h.1, h.2)
  done_same rows names key session (ended.Context c) (Some NoneFree) ok h = h
  done_same rows names key session ended.Exhausted None ok h = h
  done_same rows names key session ended.Exhausted (Some (Made p)) ok h = h
  done_same rows names key session ended.Exhausted (Some NoneFree) ok h = h

  stage_same : (rows : List CommRow) (names : List NameRow) (key : Key) (session : ℕ) (due : Option Verdict) (st : Option Stage) (o : Option Outcome) → Safe o → StageFits comms rows names q key session due st o → StageFits cs rows names q key session due st o
  stage_same rows names key session due None o ok h = h
  stage_same rows names key session due (Some (Sharing s)) o ok h = h
  stage_same rows names key session due (Some Called) o ok h = h
  stage_same rows names key session due (Some (Waiting i)) o ok h = h
  stage_same rows names key session due (Some (Offered i own)) o ok h = due_same key session due o ok h
  stage_same rows names key session due (Some (Done d)) o ok h = (h.0, done_same rows names key session d o ok h.1)

  -- where the key goes on to stand for its creation
  pub creation_same : (creations : List Creation) (rows : List CommRow) (names : List NameRow) (due : Option Verdict) (st : Option Stage) (t : ℕ) (key : Key) (target : List ℕ) (session n : ℕ) → Safe (outcome_for (creation_in creations n) q) → stands_for cs q key ≡ Some (creation_in creations n).name
      → CreationFits comms creations rows names due st q t key target session n → CreationFits cs creations rows names due st q t key target session n
  creation_same creations rows names due st t key target session n ok stands h =
      record { there = h.there; stands = stands; caller = h.caller; members = h.members; member = h.member; kind = h.kind; share = h.share; far = stage_same rows names key session due st (outcome_for (creation_in creations n) q) ok h.far }

  pub uncoloured_same : (creations : List Creation) (t : ℕ) (key : Key) (target : List ℕ) (session n : ℕ) → stands_for cs q key ≡ Some (creation_in creations n).name → UncolouredFits comms creations q t key target session n → UncolouredFits cs creations q t key target session n
  uncoloured_same creations t key target session n stands h = record { there = h.there; stands = stands; caller = h.caller; exchange = h.exchange; uncoloured = h.uncoloured; all = h.all; none = h.none }

-- the names of a rank where every communicator is safe
module _ (comms cs : List Communicator) (q : ℕ) (f : SameAt comms cs q (λ p. Unit {0})) where
  bound_same : (rows : List CommRow) (a b : Bound) → BoundFits comms rows q a b → BoundFits cs rows q a b
  bound_same rows bound.Reserved bound.Reserved h = tt
  bound_same rows (bound.Session a) (bound.Session b) h = h
  bound_same rows (bound.Group ms a) (bound.Group ns b) h = h
  bound_same rows (bound.Comm c a) (bound.Comm p b) h = named_same comms cs q _ f rows rows c a p b tt (λ e. e) h
  bound_same rows (bound.Request n) (bound.Request m) h = h
  bound_same rows a b h = absurd h

  names_same : (rows : List CommRow) (a b : List NameRow) → NamesFit comms rows q a b → NamesFit cs rows q a b
  names_same rows [] [] h = tt
  names_same rows [] (b ∷ bs) h = absurd h
  names_same rows (a ∷ as') [] h = absurd h
  names_same rows (a ∷ as') (b ∷ bs) h = (h.0, bound_same rows a.1 b.1 h.1, names_same rows as' bs h.2)

  pub local_same : (rows : List CommRow) (l m : Local) → LocalFits comms rows q l m → LocalFits cs rows q l m
  local_same rows l m h = record { live = h.live; opened = h.opened; names = names_same rows l.names m.names h.names; each = h.each; comms_once = h.comms_once }
