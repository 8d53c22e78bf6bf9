-- What is said of a creation and not taken yet: for a rank and a key the final verdict that the first member has said and
-- that the rank has not taken. It is no part of the world: a run of the agreement has it as its history.
use Rattle.std.specs.Prelude.{ℕ, ◌==◌, ◌&&◌, if◌then◌else◌, List, [], ◌∷◌, Option, Some, None}
use Rattle.mpi_base.specs.declared.keys.Key.{Key}
use Rattle.mpi_base.specs.Keys.{same_key}
use Rattle.mpi_base.specs.MemberLists.{has_rank}
use Rattle.agree_law.specs.declared.rows.Verdict.{Verdict}
use Rattle.agree_law.specs.declared.rows.Verdict.TheVariants.{Ready, Retry, Context, Exhausted}
use Rattle.agree_law.specs.Part.{Agree, round_of}
use Rattle.agree_law.specs.Packets.{Packet, Up, Down, Share, Shares}
use Rattle.agree_law.specs.Kinds.{is_share}
use Rattle.agree_law.specs.Gather.{verdict_of}
use Rattle.agree_law.specs.Verdicts.{takes_down}
use Rattle.agree_law.specs.World.{World, Event, Begin, Begin_share, Offer, Settle, Deliver, Back, Close, part_at, head_of, may_happen, happens, opening}

abbrev pub Dues : Type 0
Dues = ℕ → Key → Option Verdict

abbrev pub none_due : Dues
none_due q k = None

-- a final verdict is said: it is due at each member
abbrev pub due_said : Dues → Key → Verdict → Dues
due_said due key v q k = if same_key key k && has_rank key.members q then Some v else due q k

-- a rank takes the verdict on a key
abbrev pub due_taken : Dues → ℕ → Key → Dues
due_taken due r key q k = if same_key key k && (q == r) then None else due q k

-- Verdicts

-- a verdict that decides a creation: ready and retry do not
abbrev pub final_of : Verdict → Option Verdict
final_of Ready = None
final_of Retry = None
final_of (Context c) = Some (Context c)
final_of Exhausted = Some Exhausted

-- the first member says a verdict, and takes it at once; only a final one is due
abbrev pub due_settled : Dues → ℕ → Key → Option Verdict → Dues
due_settled due r key None = due
due_settled due r key (Some v) = due_taken (due_said due key v) r key

-- another member takes a verdict
abbrev pub due_down : Dues → ℕ → Key → Option Verdict → Dues
due_down due r key None = due
due_down due r key (Some v) = due_taken due r key

-- What a rank does, with the part that it has before

-- a settle of offers says the verdict of the round; one of shares says none
abbrev pub dues_settled : ℕ → Agree → Dues → ℕ → Key → Dues
dues_settled top a due r key = if is_share key.kind then due else due_settled due r key (final_of (verdict_of top a.gathered key (round_of a.rounds key)))

-- a packet comes to the rank: a `Down` that is taken is a verdict taken, and no other packet is
abbrev pub dues_came : Agree → Dues → ℕ → ℕ → Option Packet → Dues
dues_came a due r from None = due
dues_came a due r from (Some (Up key i own mask)) = due
dues_came a due r from (Some (Down key i v)) = if takes_down r a from key i v then due_down due r key (final_of v) else due
dues_came a due r from (Some (Share key s)) = due
dues_came a due r from (Some (Shares key list)) = due

-- Runs of the agreement

-- what is due after an event, in the world before it
abbrev pub dues_happened : ℕ → World → Event → Dues → Dues
dues_happened top w (Begin r key) due = due
dues_happened top w (Begin_share r key s) due = due
dues_happened top w (Offer r key) due = due
dues_happened top w (Settle r key) due = dues_settled top (part_at w r) due r key
dues_happened top w (Deliver r from) due = dues_came (part_at w r) due r from (head_of w.links from r)
dues_happened top w (Back r c) due = due
dues_happened top w (Close r key) due = due

-- an event that may not happen changes nothing
unfoldable pub dues_happen : ℕ → World → Event → Dues → Dues
dues_happen top w e due = if may_happen top w e then dues_happened top w e due else due

-- what is due after a list of events
abbrev pub dues_run : ℕ → List Event → World → Dues → Dues
dues_run top [] w due = due
dues_run top (e ∷ es) w due = dues_run top es (happens top w e) (dues_happen top w e due)

-- what is due after a list of events from the opening, where nothing is
abbrev pub dues_after : ℕ → ℕ → List Event → Dues
dues_after ranks top events = dues_run top events (opening ranks top) none_due
