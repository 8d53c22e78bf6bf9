-- The topic of creations: a thread that waits for a key waits in the registry for the creation that the key stands for. It
-- reads the registry's communicators, creations and threads, and of a rank its threads, its open keys, its names, which
-- contexts it knows, and what is due to it.
use Rattle.std.proofs.Common.{◌≡◌, ◌<◌, ℕ, ◌==◌, Bool, true, false, List, get_or, length, Option, Some, None}
use Rattle.std.specs.Option.{is_some}
use Rattle.std.specs.List.{list_any}
use Rattle.mpi_base.specs.MemberLists.{has_rank}
use Rattle.mpi_base.specs.declared.keys.Key.{Key}
use Rattle.mpi_base.specs.declared.shares.Shared1.{Shared1}
use Rattle.mpi_law.specs.Local.Objects.{NameRow}
use Rattle.mpi_law.specs.Registry.State.{Communicator, Caller, Creation, Creating, Outcome, Made, NoneFree, RankPart, blank_comm, blank_creation, blank_part, session_at}
use Rattle.mpi_law.specs.Registry.Creations.{is_split, caller_of, all_called, share_of, is_uncoloured, class_of, outcome_for}
use Rattle.mpi_law.specs.Registry.Contexts.{comm_of, stands_for, is_exchange}
use Rattle.agree_law.specs.declared.rows.Outcome.{Outcome as Ended}
use Rattle.agree_law.specs.declared.rows.Outcome.TheVariants as ended
use Rattle.agree_law.specs.declared.rows.Stage.{Stage}
use Rattle.agree_law.specs.declared.rows.Stage.TheVariants.{Sharing, Called, Waiting, Offered, Done}
use Rattle.agree_law.specs.declared.rows.Verdict.{Verdict}
use Rattle.agree_law.specs.declared.rows.Verdict.TheVariants.{Ready, Retry, Context, Exhausted}
use Rattle.agree_law.specs.Part.{stage_of}
use Rattle.mpi_protocol.specs.declared.rows.Waits.TheVariants.{Creation as Creates, Uncoloured}
use Rattle.comm_law.specs.declared.rows.CommRow.{CommRow}
use Rattle.mpi_protocol.specs.Rank.{Rank}
use Rattle.run_law.proofs.Lists.{tally}
use Rattle.run_law.proofs.Rows.{row_in}
use Rattle.due_law.specs.Dues.{Dues}
use Rattle.run_law.proofs.Locals.{binds}
use Rattle.run_law.proofs.Threads.{row_of, part_row}

abbrev pub comm_in : List Communicator → ℕ → Communicator
comm_in comms p = get_or comms p blank_comm

abbrev pub creation_in : List Creation → ℕ → Creation
creation_in creations n = get_or creations n blank_creation

-- the communicator that a rank gets, with its members and the session of its creation, and not freed by the rank
pub record MadeFits (comms : List Communicator) (r : ℕ) (key : Key) (session c p : ℕ) : Type 0 where
  pub stands : comm_of comms r c ≡ Some p
  pub members : (comm_in comms p).members ≡ key.members
  pub session_is : session_at (comm_in comms p) r ≡ session
  pub kept : has_rank (comm_in comms p).freed r ≡ false

-- what is due to a rank that has offered is what was picked for it
abbrev pub DueFits : List Communicator → ℕ → Key → ℕ → Option Verdict → Option Outcome → Type 0
DueFits comms r key session None None = Unit {0}
DueFits comms r key session None (Some o) = ⊥
DueFits comms r key session (Some Ready) o = ⊥
DueFits comms r key session (Some Retry) o = ⊥
DueFits comms r key session (Some (Context c)) None = ⊥
DueFits comms r key session (Some (Context c)) (Some (Made p)) = MadeFits comms r key session c p
DueFits comms r key session (Some (Context c)) (Some NoneFree) = ⊥
DueFits comms r key session (Some Exhausted) None = ⊥
DueFits comms r key session (Some Exhausted) (Some (Made p)) = ⊥
DueFits comms r key session (Some Exhausted) (Some NoneFree) = Unit {0}

-- what a rank has taken: it knows it, and no name is bound to it yet
abbrev pub DoneFits : List Communicator → List CommRow → List NameRow → ℕ → Key → ℕ → Ended → Option Outcome → Type 0
DoneFits comms rows names r key session (ended.Context c) None = ⊥
DoneFits comms rows names r key session (ended.Context c) (Some (Made p)) = MadeFits comms r key session c p × (tally (binds c) names ≡ 0) × (is_some (row_in rows c) ≡ true)
DoneFits comms rows names r key session (ended.Context c) (Some NoneFree) = ⊥
DoneFits comms rows names r key session ended.Exhausted None = ⊥
DoneFits comms rows names r key session ended.Exhausted (Some (Made p)) = ⊥
DoneFits comms rows names r key session ended.Exhausted (Some NoneFree) = Unit {0}

-- how far a creation is at a rank, what is due to the rank, and what was picked for it
abbrev pub StageFits : List Communicator → List CommRow → List NameRow → ℕ → Key → ℕ → Option Verdict → Option Stage → Option Outcome → Type 0
StageFits comms rows names r key session due None o = ⊥
StageFits comms rows names r key session due (Some (Sharing s)) o = (due ≡ None) × (o ≡ None)
StageFits comms rows names r key session due (Some Called) o = (due ≡ None) × (o ≡ None)
StageFits comms rows names r key session due (Some (Waiting i)) o = (due ≡ None) × (o ≡ None)
StageFits comms rows names r key session due (Some (Offered i own)) o = DueFits comms r key session due o
StageFits comms rows names r key session due (Some (Done d)) o = (due ≡ None) × DoneFits comms rows names r key session d o

-- the share that a rank tells is that of its call
abbrev pub ShareFits : Shared1 → Option Stage → Type 0
ShareFits share None = Unit {0}
ShareFits share (Some (Sharing s)) = (s.colour ≡ share.colour) × (s.key ≡ share.key)
ShareFits share (Some Called) = Unit {0}
ShareFits share (Some (Waiting i)) = Unit {0}
ShareFits share (Some (Offered i own)) = Unit {0}
ShareFits share (Some (Done d)) = Unit {0}

-- a key is that of an exchange just as long as its stage says so
abbrev pub is_sharing : Option Stage → Bool
is_sharing None = false
is_sharing (Some (Sharing s)) = true
is_sharing (Some Called) = false
is_sharing (Some (Waiting i)) = false
is_sharing (Some (Offered i own)) = false
is_sharing (Some (Done d)) = false

-- the members of a key: of an exchange all that call, of any other key those of the communicator that the rank gets, and a
-- class is told only when all have called
abbrev pub MembersFit : Creation → ℕ → Key → Bool → Type 0
MembersFit c r key true = c.group ≡ key.members
MembersFit c r key false = (class_of c r ≡ key.members) × (is_split c.name ≡ true → all_called c ≡ true)

pub record CallerFits (callers : List Caller) (r t : ℕ) (target : List ℕ) (session : ℕ) : Type 0 where
  pub called : list_any (λ (k : Caller). k.rank == r) callers ≡ true
  pub thread_is : (caller_of callers r).thread ≡ t
  pub target_is : (caller_of callers r).target ≡ target
  pub session_is : (caller_of callers r).session ≡ session

pub record CreationFits (comms : List Communicator) (creations : List Creation) (rows : List CommRow) (names : List NameRow) (due : Option Verdict) (stage : Option Stage) (r t : ℕ) (key : Key) (target : List ℕ) (session n : ℕ) : Type 0 where
  pub there : n < length creations
  pub stands : stands_for comms r key ≡ Some (creation_in creations n).name
  pub caller : CallerFits (creation_in creations n).callers r t target session
  pub members : MembersFit (creation_in creations n) r key (is_exchange key.kind)
  pub member : has_rank key.members r ≡ true
  pub kind : is_exchange key.kind ≡ is_sharing stage
  pub share : ShareFits (share_of (creation_in creations n) r) stage
  pub far : StageFits comms rows names r key session due stage (outcome_for (creation_in creations n) r)

-- a split in which the rank has no colour, after its exchange
pub record UncolouredFits (comms : List Communicator) (creations : List Creation) (r t : ℕ) (key : Key) (target : List ℕ) (session n : ℕ) : Type 0 where
  pub there : n < length creations
  pub stands : stands_for comms r key ≡ Some (creation_in creations n).name
  pub caller : CallerFits (creation_in creations n).callers r t target session
  pub exchange : is_exchange key.kind ≡ true
  pub uncoloured : is_uncoloured (creation_in creations n) r ≡ true
  pub all : all_called (creation_in creations n) ≡ true
  pub none : outcome_for (creation_in creations n) r ≡ None

pub record Creations (comms : List Communicator) (creations : List Creation) (parts : List RankPart) (due : Dues) (at : ℕ → Rank) : Type 0 where
  pub each : (r t : ℕ) (key : Key) (target : List ℕ) (session n : ℕ) → (row_of (at r).threads t).waits ≡ Creates key target session → (part_row (get_or parts r blank_part).threads t).wait ≡ Creating n
      → CreationFits comms creations (at r).comms.rows (at r).local.names (due r key) (stage_of (at r).agree.opened key) r t key target session n
  pub uncoloured : (r t : ℕ) (key : Key) (target : List ℕ) (session n : ℕ) → (row_of (at r).threads t).waits ≡ Uncoloured key target session → (part_row (get_or parts r blank_part).threads t).wait ≡ Creating n
      → UncolouredFits comms creations r t key target session n
