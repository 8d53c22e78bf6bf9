-- Any choice: its events are allowed, and the topics go on with the registry. Then whole runs, where the other topics grant at
-- each world what is asked of them.
use Rattle.std.proofs.Common.{◌≡◌, ◌<◌, ◌&&◌, nat_lt, ℕ, Bool, true, false, List, [], ◌∷◌, length, refl, ap, arith}
use Rattle.std.specs.Prelude.{slice_get}
use Rattle.std.specs.Option.{is_some}
use Rattle.std.proofs.lemmas.Bool.Decides.{nat_tests}
use Rattle.mpi_base.specs.declared.entries.Act.{Act}
use Rattle.mpi_base.specs.declared.entries.Act.TheVariants.{Call, Answer, Deliver, Offer as MakeOffer, Settle, Leave, Back}
use Rattle.mpi_base.specs.declared.entries.Choice.{Choice}
use Rattle.mpi_base.specs.declared.entries.Entry.{Entry}
use Rattle.mpi_law.specs.declared.setting.Setting.{Setting}
use Rattle.mpi_law.specs.declared.setting.TheConstants.{THREADS}
use Rattle.mpi_law.specs.Registry.State as state
use Rattle.mpi_law.specs.Registry.State.{Registry, registry_opening, thread_of}
use Rattle.mpi_law.specs.Registry.Runs.{IsRegistryRun, registry_after}
use Rattle.mpi_protocol.specs.declared.rows.Waits.{Waits}
use Rattle.mpi_protocol.specs.declared.rows.Waits.TheVariants.{Nothing, Creation, Uncoloured, Freeing, Ending, Receiving, Awaiting}
use Rattle.mpi_protocol.specs.Packets as packet
use Rattle.mpi_protocol.specs.Packets.{Packet}
use Rattle.mpi_protocol.specs.Rank.{Rank, thread_at}
use Rattle.mpi_protocol.specs.Answers.{is_answerable}
use Rattle.mpi_protocol.specs.Step.{is_enabled}
use Rattle.mpi_protocol.specs.World.{World, rank_at, link, opening, has_packet, may_happen, moved, entry_at}
use Rattle.mpi_protocol.specs.Run.{RunsFrom, IsProtocolRun, world_after, entry_events, events_of}
use Rattle.message_law.proofs.Numbers.{Shaped, moved_shaped, opening_shaped}
use Rattle.message_law.proofs.Worlds.{Fits, Ground}
use Rattle.message_law.proofs.Deliveries.{GoesOn}
use Rattle.message_law.proofs.Openings.{opening_fits}
use Rattle.message_law.proofs.RegistryCalls.{registry_after-append}
use Rattle.message_law.proofs.QuietActs.{offer_step, agree_step, settle_step, answer_step}
use Rattle.message_law.proofs.ReceiveAnswers.{receive_answer_step}
use Rattle.message_law.proofs.CallActs.{CallGranted, call_step}
use Rattle.message_law.proofs.Acts.{message_step, marker_step, leave_step, back_step}

abbrev pub entry_of_choice : World → ℕ → Act → Entry
entry_of_choice w r act = entry_at w (record { rank = r; act = act })

-- What is asked of the other topics, for each kind of choice

-- a thread that waits for a receive does so in the registry too; any other is owed what it is told
abbrev pub AnswerGranted : Setting → World → Registry → ℕ → ℕ → Waits → Type 0
AnswerGranted s w g r t Nothing = Unit {0}
AnswerGranted s w g r t (Creation key target session) = IsRegistryRun s g (entry_events (entry_of_choice w r (Answer t)))
AnswerGranted s w g r t (Uncoloured key target session) = IsRegistryRun s g (entry_events (entry_of_choice w r (Answer t)))
AnswerGranted s w g r t (Freeing serial) = IsRegistryRun s g (entry_events (entry_of_choice w r (Answer t)))
AnswerGranted s w g r t (Ending session) = IsRegistryRun s g (entry_events (entry_of_choice w r (Answer t)))
AnswerGranted s w g r t (Receiving k) = (thread_of g r t).wait ≡ state.Receiving k
AnswerGranted s w g r t (Awaiting name) = IsRegistryRun s g (entry_events (entry_of_choice w r (Answer t)))

abbrev pub Granted : Setting → World → Registry → ℕ → Act → Type 0
Granted s w g r (Call t o) = CallGranted s w g r t o
Granted s w g r (Answer t) = AnswerGranted s w g r t (thread_at (rank_at w r) t).waits
Granted s w g r (Deliver from) = Unit {0}
Granted s w g r (MakeOffer key) = Unit {0}
Granted s w g r (Settle key) = IsRegistryRun s g (entry_events (entry_of_choice w r (Settle key)))
Granted s w g r (Leave c) = Unit {0}
Granted s w g r (Back c) = Unit {0}

abbrev Goes : Setting → World → Registry → ℕ → Act → Type 0
Goes s w g r act = GoesOn s g (entry_events (entry_of_choice w r act)) (moved w (record { rank = r; act = act }))

left : (a b : Bool) → (a && b) ≡ true → a ≡ true
left true b e = refl
left false b e = absurd (cc (e))

right : (a b : Bool) → (a && b) ≡ true → b ≡ true
right true b e = e
right false b e = absurd (cc (e))

module _ (s : Setting) (w : World) (g : Registry) (shaped : Shaped w) (ground : Ground w g) (h : Fits w g) (r : ℕ) (lr : r < length w.ranks) where
  abbrev x : Rank
  x = rank_at w r

  -- a packet at the head of a link
  deliver_goes : (from : ℕ) → has_packet w r (Deliver from) ≡ true → is_enabled x (Deliver from) ≡ true → Goes s w g r (Deliver from)
  unfolding is_enabled
  deliver_goes from there may = go (link w from r) refl (right (nat_lt from (length w.ranks)) _ there)
    where
      lf : from < length w.ranks
      lf = let e = left (nat_lt from (length w.ranks)) (is_some (slice_get (link w from r) 0)) there in grind (arith, nat_tests, e)

      other : (from ≡ r) → ⊥
      other is = let n = shaped.named r lr in absurd (grind (arith, nat_tests, may, is, n))

      by : (p : Packet) (rest : List Packet) → link w from r ≡ p ∷ rest → Goes s w g r (Deliver from)
      by (packet.Agreeing a) rest e = agree_step s w g shaped ground h r lr from lf a rest e
      by (packet.Message m) rest e = message_step s w g shaped ground h r lr from lf other rest m e
      by (packet.Marker c) rest e = marker_step s w g shaped ground h r lr from lf other rest c e

      go : (ps : List Packet) → link w from r ≡ ps → is_some (slice_get (link w from r) 0) ≡ true → Goes s w g r (Deliver from)
      go [] e some = absurd (let none : is_some {T = Packet} (slice_get [] 0) ≡ true = rw e at some in cc (none))
      go (p ∷ rest) e some = by p rest e

  answer_goes : (t : ℕ) (waits : Waits) → (thread_at x t).waits ≡ waits → is_answerable x waits ≡ true → AnswerGranted s w g r t waits → Goes s w g r (Answer t)
  answer_goes t Nothing e may granted = absurd (cc (may))
  answer_goes t (Creation key target session) e may granted = answer_step s w g shaped ground h r lr t (rw e refl) granted
  answer_goes t (Uncoloured key target session) e may granted = answer_step s w g shaped ground h r lr t (rw e refl) granted
  answer_goes t (Freeing serial) e may granted = answer_step s w g shaped ground h r lr t (rw e refl) granted
  answer_goes t (Ending session) e may granted = answer_step s w g shaped ground h r lr t (rw e refl) granted
  answer_goes t (Receiving k) e may granted = receive_answer_step s w g shaped ground h r lr t k e granted may
  answer_goes t (Awaiting name) e may granted = answer_step s w g shaped ground h r lr t (rw e refl) granted

  act_goes : (act : Act) → has_packet w r act ≡ true → is_enabled x act ≡ true → Granted s w g r act → Goes s w g r act
  unfolding is_enabled
  act_goes (Call t o) there may granted = call_step s w g shaped ground h r t lr (let e = left (nat_lt t THREADS) _ may in grind (arith, nat_tests, e)) o granted
  act_goes (Answer t) there may granted = answer_goes t (thread_at x t).waits refl (right (nat_lt t THREADS) _ may) granted
  act_goes (Deliver from) there may granted = deliver_goes from there may
  act_goes (MakeOffer key) there may granted = offer_step s w g shaped ground h r lr key
  act_goes (Settle key) there may granted = settle_step s w g shaped ground h r lr key granted
  act_goes (Leave c) there may granted = leave_step s w g shaped ground h r lr c may
  act_goes (Back c) there may granted = back_step s w g shaped ground h r lr c may

-- the events of a choice that may happen are allowed, and the topics go on
pub choice_goes_on : (s : Setting) (w : World) (g : Registry) → Shaped w → Ground w g → Fits w g → (c : Choice) → may_happen w c ≡ true → Granted s w g c.rank c.act → GoesOn s g (entry_events (entry_at w c)) (moved w c)
choice_goes_on s w g shaped ground h c may granted =
    let inside = left (nat_lt c.rank (length w.ranks)) _ may in
    let rest = right (nat_lt c.rank (length w.ranks)) _ may in
    act_goes s w g shaped ground h c.rank (grind (arith, nat_tests, inside)) c.act (left (has_packet w c.rank c.act) _ rest) (right (has_packet w c.rank c.act) _ rest) granted

-- Runs

-- at each world of a journal, with the registry that its events leave, the other topics grant what is asked of them
abbrev pub Grants : Setting → World → Registry → List Entry → Type 0
Grants s w g [] = Unit {0}
Grants s w g (e ∷ es) = Ground w g × Granted s w g e.choice.rank e.choice.act × Grants s (moved w e.choice) (registry_after s g (entry_events e)) es

-- the events of a journal may come one after the other, and what they leave fits the world that the journal leaves
pub record RunFits (s : Setting) (w : World) (g : Registry) (journal : List Entry) : Type 0 where
  pub allowed : IsRegistryRun s g (events_of journal)
  pub fits : Fits (world_after w journal) (registry_after s g (events_of journal))
  pub shaped : Shaped (world_after w journal)

pub run_fits : (s : Setting) (w : World) (g : Registry) (journal : List Entry) → Shaped w → Fits w g → RunsFrom w journal → Grants s w g journal → RunFits s w g journal
run_fits s w g [] shaped h run granted = record { allowed = tt; fits = h; shaped = shaped }
run_fits s w g (e ∷ es) shaped h run granted =
    let events : entry_events e ≡ entry_events (entry_at w e.choice) = ap entry_events run.1 in
    let goes : GoesOn s g (entry_events e) (moved w e.choice) = rw events (choice_goes_on s w g shaped granted.0 h e.choice run.0 granted.1) in
    let inside = left (nat_lt e.choice.rank (length w.ranks)) _ run.0 in
    let rest = run_fits s (moved w e.choice) (registry_after s g (entry_events e)) es (moved_shaped w e.choice (grind (arith, nat_tests, inside)) shaped) goes.fits run.2 granted.2 in
    record {
      allowed = goes.allowed (events_of es) rest.allowed;
      fits = rw (registry_after-append s g (entry_events e) (events_of es)) rest.fits;
      shaped = rest.shaped;
    }

-- from the opening on
pub protocol_run_fits : (s : Setting) (journal : List Entry) → IsProtocolRun s journal → Grants s (opening s) (registry_opening s) journal → RunFits s (opening s) (registry_opening s) journal
protocol_run_fits s journal run granted = run_fits s (opening s) (registry_opening s) journal (opening_shaped s) (opening_fits s) run granted
