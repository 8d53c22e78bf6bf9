-- A call: what it sends or posts is the same at the rank and in the registry, and one that does neither is an act of run_law.
use Rattle.std.proofs.Common.{◌≡◌, ◌<◌, ℕ, Bool, true, false, length, set, refl, arith}
use Rattle.mpi_base.specs.declared.entries.Act.TheVariants.{Call}
use Rattle.mpi_base.specs.declared.ops.Op.{Op}
use Rattle.mpi_law.specs.declared.setting.Setting.{Setting}
use Rattle.mpi_law.specs.declared.setting.TheConstants.{THREADS}
use Rattle.mpi_law.specs.declared.effects.Effect.{Effect}
use Rattle.mpi_law.specs.Local.Effects.{is_said}
use Rattle.mpi_law.specs.Registry.State.{Registry, comm_at}
use Rattle.mpi_law.specs.Registry.Calls.{effect_at}
use Rattle.mpi_law.specs.Registry.Runs.{registry_after}
use Rattle.mpi_protocol.specs.declared.rows.Waits.TheVariants.{Nothing}
use Rattle.mpi_protocol.specs.Rank.{Rank}
use Rattle.mpi_protocol.specs.Calls.{called}
use Rattle.mpi_protocol.specs.Run.{entry_events}
use Rattle.mpi_protocol.specs.World.{World, rank_at, moved, entry_at}
use Rattle.due_law.specs.Dues.{Dues}
use Rattle.run_law.proofs.Locals.{CommNamed}
use Rattle.run_law.proofs.Threads.{row_of}
use Rattle.run_law.proofs.Contexts.{comm_of_is}
use Rattle.run_law.proofs.KnownHere.{known_here}
use Rattle.run_law.proofs.LeftHere.{live_stays}
use Rattle.run_law.proofs.Joined.{Joined}
use Rattle.due_law.specs.Agreed.{Untold, DueIsFree}
use Rattle.run_law.proofs.Alike.{Alike, says, opens, groups, ungroups, grouped, duplicated, divided, grouped_on, frees, ends, sends, receives, posts, null_posts, completes, awaits, effects_alike}
use Rattle.run_law.proofs.CallParts.{may_call}
use Rattle.run_law.proofs.Calling.{is_quiet, call_goes, moved_ranks}
use Rattle.run_law.proofs.SettleSteps.{Goes}
use Rattle.message_law.proofs.Topics.{OnLive}
use Rattle.message_law.proofs.Worlds.{Fits, Ground}
use Rattle.message_law.proofs.Numbers.{Shaped}
use Rattle.message_law.proofs.CallSteps.{Usable}
use Rattle.message_law.proofs.CallEvents.{effect_here, events_of, call_entry, call_move}
use Rattle.message_law.proofs.QuietRegistry.{IsQuietEffect}
use Rattle.message_law.proofs.CallActs.{AsksAlike, CallGranted, quiet, asked, call_step}
use Rattle.message_law.proofs.CallActs as asks
use Rattle.registry_law.proofs.Entries.{choice_of, goes_at, allowed_all}
use Rattle.registry_law.proofs.MessageCalls.{sent_joined, requested_joined, received_joined}

module _ (s : Setting) (w : World) (due : Dues) (g : Registry) (r : ℕ) (j : Joined s w.ranks due g) where
  abbrev x : Rank
  x = rank_at w r

  -- a communicator that a name is bound to is live, and the rank may use it

  named_live : (c session p : ℕ) → CommNamed g.comms x.comms.rows r c session p session → OnLive g p r
  named_live c session p h = let at = comm_of_is g.comms r c p h.stands in (at.inside, at.live)

  named_context : (c session p : ℕ) → CommNamed g.comms x.comms.rows r c session p session → (comm_at g p).ctx ≡ c
  named_context c session p h = (comm_of_is g.comms r c p h.stands).context

  named_usable : (c session p : ℕ) → CommNamed g.comms x.comms.rows r c session p session → Usable g x r p
  named_usable c session p h =
      let k = known_here s w.ranks due g r j c session p session h in
      let stage = k.fits.stage in
      let kept = h.kept in
      record {
        live = named_live c session p h;
        row = k.row;
        found = rw (named_context c session p h) k.is;
        members = k.fits.members;
        stays = live_stays k.row.stage (grind (arith, stage, kept));
      }

  -- what a call sends or posts
  asks_alike : (e f : Effect ℕ) → Alike s w.ranks due g r j e f → is_quiet e ≡ false → AsksAlike g x r e f
  asks_alike e f (says said) q = absurd (cc (q))
  asks_alike e f (opens target free) q = absurd (cc (q))
  asks_alike e f (groups target members session free) q = absurd (cc (q))
  asks_alike e f (ungroups name) q = absurd (cc (q))
  asks_alike e f (grouped z zs tag target session here free apart) q = absurd (cc (q))
  asks_alike e f (duplicated c p session target h free) q = absurd (cc (q))
  asks_alike e f (divided c p session share target h free) q = absurd (cc (q))
  asks_alike e f (grouped_on c p session tag ms target h within free apart) q = absurd (cc (q))
  asks_alike e f (frees name c p session h b) q = absurd (cc (q))
  asks_alike e f (ends name session h) q = absurd (cc (q))
  asks_alike e f (sends c p session to tag payload h inside) q = asks.sends c p to tag payload (named_context c session p h) (named_usable c session p h) inside
  asks_alike e f (receives c p session from tag room h) q = asks.receives c p from tag room (named_context c session p h) (named_live c session p h)
  asks_alike e f (posts c p session from tag room target h free) q = asks.posts c p from tag room target (named_context c session p h) (named_live c session p h)
  asks_alike e f (null_posts target free) q = absurd (cc (q))
  asks_alike e f (completes name number) q = absurd (cc (q))
  asks_alike e f (awaits name) q = absurd (cc (q))

  -- one that does neither does neither in the registry
  quiet_alike : (e f : Effect ℕ) → Alike s w.ranks due g r j e f → is_quiet e ≡ true → IsQuietEffect e × IsQuietEffect f
  quiet_alike e f (says said) q = (tt, tt)
  quiet_alike e f (opens target free) q = (tt, tt)
  quiet_alike e f (groups target members session free) q = (tt, tt)
  quiet_alike e f (ungroups name) q = (tt, tt)
  quiet_alike e f (grouped z zs tag target session here free apart) q = (tt, tt)
  quiet_alike e f (duplicated c p session target h free) q = (tt, tt)
  quiet_alike e f (divided c p session share target h free) q = (tt, tt)
  quiet_alike e f (grouped_on c p session tag ms target h within free apart) q = (tt, tt)
  quiet_alike e f (frees name c p session h b) q = (tt, tt)
  quiet_alike e f (ends name session h) q = (tt, tt)
  quiet_alike e f (sends c p session to tag payload h inside) q = absurd (cc (q))
  quiet_alike e f (receives c p session from tag room h) q = absurd (cc (q))
  quiet_alike e f (posts c p session from tag room target h free) q = absurd (cc (q))
  quiet_alike e f (null_posts target free) q = (tt, tt)
  quiet_alike e f (completes name number) q = (tt, tt)
  quiet_alike e f (awaits name) q = (tt, tt)

  -- both reply at once, or neither
  said_alike : (e f : Effect ℕ) → Alike s w.ranks due g r j e f → is_said e ≡ is_said f
  said_alike e f (says said) = refl
  said_alike e f (opens target free) = refl
  said_alike e f (groups target members session free) = refl
  said_alike e f (ungroups name) = refl
  said_alike e f (grouped z zs tag target session here free apart) = refl
  said_alike e f (duplicated c p session target h free) = refl
  said_alike e f (divided c p session share target h free) = refl
  said_alike e f (grouped_on c p session tag ms target h within free apart) = refl
  said_alike e f (frees name c p session h b) = refl
  said_alike e f (ends name session h) = refl
  said_alike e f (sends c p session to tag payload h inside) = refl
  said_alike e f (receives c p session from tag room h) = refl
  said_alike e f (posts c p session from tag room target h free) = refl
  said_alike e f (null_posts target free) = refl
  said_alike e f (completes name number) = refl
  said_alike e f (awaits name) = refl

  module _ (untold : Untold w.ranks due) (free_due : DueIsFree w.ranks due) (fits : Fits w g) (shaped : Shaped w) (ground : Ground w g) (lt : r < s.ranks) (t : ℕ) (here : t < THREADS) (ew : (row_of x.threads t).waits ≡ Nothing) (o : Op) where
    inside : r < length w.ranks
    inside = let e = j.sizes.ranks_are in omega (arith, e, lt)

    named : x.rank ≡ r
    named = j.sizes.number r lt

    alike : Alike s w.ranks due g r j (effect_here x o) (effect_at s g r o)
    alike = effects_alike s w.ranks due g r j lt o

    -- a call that neither sends nor posts
    quiet_goes : is_quiet (effect_here x o) ≡ true → Goes s g (entry_events (entry_at w (choice_of r (Call t o)))) (moved w (choice_of r (Call t o))).ranks due
    quiet_goes q = goes_at s w g due r (Call t o) named (call_goes s w.ranks due g r t j untold free_due lt here ew o q)

    granted_by : (b : Bool) → is_quiet (effect_here x o) ≡ b → CallGranted s w g r t o
    granted_by true q = let z = quiet_alike (effect_here x o) (effect_at s g r o) alike q in quiet z.0 z.1 (quiet_goes q).0
    granted_by false q = asked (asks_alike (effect_here x o) (effect_at s g r o) alike q) (may_call s w.ranks due g r t j lt here ew o (effect_at s g r o) (is_said (effect_here x o)) refl (said_alike (effect_here x o) (effect_at s g r o) alike))

    pub call_granted : CallGranted s w g r t o
    call_granted = granted_by (is_quiet (effect_here x o)) refl

    abbrev OnCall : Effect ℕ → Type 0
    OnCall e = Joined s (set w.ranks r (called x t e).state) due (registry_after s g (events_of x r t o e))

    -- after a call that sends or posts
    message_joined : (e f : Effect ℕ) → Alike s w.ranks due g r j e f → is_quiet e ≡ false → effect_at s g r o ≡ f → OnCall e
    message_joined e f (sends c p session to tag payload h within) q there = sent_joined s w due g r t j untold fits lt here ew o c p to tag payload there
    message_joined e f (receives c p session from tag room h) q there = received_joined s w due g r t j untold fits lt here ew o c p from tag room there
    message_joined e f (posts c p session from tag room target h free) q there = requested_joined s w due g r t j untold fits lt here ew o c p from tag room target free there
    message_joined e f (says said) q there = absurd (cc (q))
    message_joined e f (opens target free) q there = absurd (cc (q))
    message_joined e f (groups target members session free) q there = absurd (cc (q))
    message_joined e f (ungroups name) q there = absurd (cc (q))
    message_joined e f (grouped z zs tag target session there' free apart) q there = absurd (cc (q))
    message_joined e f (duplicated c p session target h free) q there = absurd (cc (q))
    message_joined e f (divided c p session share target h free) q there = absurd (cc (q))
    message_joined e f (grouped_on c p session tag ms target h within free apart) q there = absurd (cc (q))
    message_joined e f (frees name c p session h b) q there = absurd (cc (q))
    message_joined e f (ends name session h) q there = absurd (cc (q))
    message_joined e f (null_posts target free) q there = absurd (cc (q))
    message_joined e f (completes name number) q there = absurd (cc (q))
    message_joined e f (awaits name) q there = absurd (cc (q))

    message_goes : is_quiet (effect_here x o) ≡ false → Goes s g (entry_events (entry_at w (choice_of r (Call t o)))) (moved w (choice_of r (Call t o))).ranks due
    message_goes q =
        let e = effect_here x o in
        let on = call_step s w g shaped ground fits r t inside here o call_granted in
        let joined = message_joined e (effect_at s g r o) alike q refl in (
          allowed_all s g (entry_events (entry_at w (choice_of r (Call t o)))) (moved w (choice_of r (Call t o))) on,
          rw (call_entry w r t o e refl named, moved_ranks w (choice_of r (Call t o)), call_move w r t o e refl) joined,
        )

    -- any call
    pub called_goes : Goes s g (entry_events (entry_at w (choice_of r (Call t o)))) (moved w (choice_of r (Call t o))).ranks due
    called_goes = go (is_quiet (effect_here x o)) refl
      where
        go : (b : Bool) → is_quiet (effect_here x o) ≡ b → Goes s g (entry_events (entry_at w (choice_of r (Call t o)))) (moved w (choice_of r (Call t o))).ranks due
        go true q = quiet_goes q
        go false q = message_goes q
