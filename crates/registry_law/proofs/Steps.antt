-- Any choice: the events of its entry are allowed, and world and registry go on to belong together.
use Rattle.std.proofs.Common.{◌≡◌, ◌<◌, nat_lt, ℕ, ◌++◌, true, List, [], ◌∷◌, length, refl, sym, subst, arith}
use Rattle.std.specs.Prelude.{slice_get}
use Rattle.std.specs.Option.{is_some}
use Rattle.std.proofs.lemmas.Bool.Decides.{nat_tests}
use Rattle.mpi_base.specs.declared.entries.Act.{Act}
use Rattle.mpi_base.specs.declared.entries.Act.TheVariants.{Call, Answer, Deliver, Offer as MakeOffer, Settle, Leave, Back}
use Rattle.mpi_base.specs.declared.entries.Choice.{Choice}
use Rattle.mpi_law.specs.declared.setting.Setting.{Setting}
use Rattle.mpi_law.specs.declared.setting.TheConstants.{THREADS}
use Rattle.mpi_law.specs.Registry.State.{Registry}
use Rattle.mpi_law.specs.Registry.Runs.{IsRegistryRun, registry_after}
use Rattle.agree_law.specs.World as agreement
use Rattle.agree_law.specs.World.{Event, run}
use Rattle.mpi_protocol.specs.Packets as packet
use Rattle.mpi_protocol.specs.Packets.{Packet}
use Rattle.mpi_protocol.specs.Rank.{Rank, thread_at, is_idle}
use Rattle.mpi_protocol.specs.Answers.{is_answerable}
use Rattle.mpi_protocol.specs.Step.{is_enabled}
use Rattle.mpi_protocol.specs.Run.{entry_events}
use Rattle.mpi_protocol.specs.World.{World, rank_at, link, head_for, has_packet, may_happen, moved, entry_at}
use Rattle.projection_law.specs.Premises.{SetsAreOfRanks}
use Rattle.projection_law.specs.KnownNames.{NamesAreKnownFor}
use Rattle.projection_law.specs.Events.{events_at}
use Rattle.projection_law.proofs.BothTests.{left_of, right_of}
use Rattle.projection_law.proofs.Runs.{mirrored, run-append}
use Rattle.projection_law.proofs.SoundRuns.{act_fits, follows-moved}
use Rattle.due_law.specs.Runs.{dues_chosen}
use Rattle.due_law.proofs.Law.{Holding, holding-run}
use Rattle.due_law.proofs.RunDues.{chosen}
use Rattle.due_law.specs.Dues.{Dues}
use Rattle.run_law.proofs.Owned.{Owned, owned_step}
use Rattle.run_law.proofs.Calling.{idle_waits, moved_ranks}
use Rattle.run_law.proofs.SettleSteps.{Goes}
use Rattle.message_law.proofs.Numbers.{moved_shaped}
use Rattle.message_law.proofs.Worlds.{Ground}
use Rattle.message_law.proofs.Deliveries.{GoesOn}
use Rattle.message_law.proofs.Choices.{Granted, choice_goes_on}
use Rattle.registry_law.proofs.Members.{members_after}
use Rattle.registry_law.proofs.Grounds.{ground}
use Rattle.registry_law.proofs.Together.{Together}
use Rattle.registry_law.proofs.Entries.{choice_of}
use Rattle.registry_law.proofs.CallGrants.{called_goes, call_granted}
use Rattle.registry_law.proofs.AnswerGrants.{answered_goes, answer_granted}
use Rattle.registry_law.proofs.AgreeGrants.{none_told_of, due_free, packet_goes, offered_goes, settled_goes}
use Rattle.registry_law.proofs.MessageGrants.{message_goes, marker_goes, left_goes, gave_back}
use Rattle.registry_law.proofs.EntryKinds.{act_members}
use Rattle.registry_law.proofs.NamesKnown.{names_known_for}
use Rattle.registry_law.proofs.Tellings.{telling_next}

-- what a choice leaves
pub record StepGoes (s : Setting) (w : World) (es : List Event) (due : Dues) (g : Registry) (c : Choice) : Type 0 where
  pub allowed : IsRegistryRun s g (entry_events (entry_at w c))
  pub names : NamesAreKnownFor (rank_at w c.rank) c.act
  pub together : Together s (moved w c) (es ++ events_at w c.rank c.act) (dues_chosen w due c) (registry_after s g (entry_events (entry_at w c)))

module _ (s : Setting) (sets : SetsAreOfRanks s) (w : World) (es : List Event) (due : Dues) (g : Registry) (z : Together s w es due g) where
  on_ground : Ground w g
  on_ground = ground s w due g z.joined z.members z.owned

  module _ (r : ℕ) (lr : r < length w.ranks) where
    abbrev x : Rank
    x = rank_at w r

    lt : r < s.ranks
    lt = let n = z.joined.sizes.ranks_are in omega (arith, n, lr)

    -- what run_law gives, and what it grants to messages
    record Both (act : Act) : Type 0 where
      pub goes : Goes s g (entry_events (entry_at w (choice_of r act))) (moved w (choice_of r act)).ranks (dues_chosen w due (choice_of r act))
      pub granted : Granted s w g r act

    call_both : (t : ℕ) → t < THREADS → is_idle (thread_at x t).waits ≡ true → (o : _) → Both (Call t o)
    call_both t here idle o = record {
      goes = called_goes s w due g r z.joined (none_told_of s w es due g z r lt) (due_free s w es due g z r lt) z.fits z.shaped on_ground lt t here (idle_waits (thread_at x t).waits idle) o;
      granted = call_granted s w due g r z.joined (none_told_of s w es due g z r lt) (due_free s w es due g z r lt) z.fits z.shaped on_ground lt t here (idle_waits (thread_at x t).waits idle) o;
    }

    answer_both : (t : ℕ) → t < THREADS → is_answerable x (thread_at x t).waits ≡ true → Both (Answer t)
    answer_both t here can = record {
      goes = answered_goes s w due g r t z.joined lt here z.fits z.shaped on_ground (none_told_of s w es due g z r lt) (z.owned.endings r) can;
      granted = answer_granted s w due g r t z.joined lt here z.fits z.shaped on_ground (none_told_of s w es due g z r lt) (z.owned.endings r) can;
    }

    deliver_both : (from : ℕ) → may_happen w (choice_of r (Deliver from)) ≡ true → from < length w.ranks → is_some (slice_get (link w from r) 0) ≡ true → Both (Deliver from)
    deliver_both from may lf there = go (link w from r) refl there
      where
        on : GoesOn s g (entry_events (entry_at w (choice_of r (Deliver from)))) (moved w (choice_of r (Deliver from)))
        on = choice_goes_on s w g z.shaped on_ground z.fits (choice_of r (Deliver from)) may tt

        kept : {new : Dues} → new ≡ due → Goes s g (entry_events (entry_at w (choice_of r (Deliver from)))) (moved w (choice_of r (Deliver from))).ranks due → Goes s g (entry_events (entry_at w (choice_of r (Deliver from)))) (moved w (choice_of r (Deliver from))).ranks new
        kept e h = rw e h

        by : (p : Packet) (rest : List Packet) → link w from r ≡ p ∷ rest → Both (Deliver from)
        by (packet.Agreeing p) rest e = record { goes = packet_goes s w es due g z r lt from p rest lf e; granted = tt }
        by (packet.Message m) rest e = record { goes = kept (rw e refl) (message_goes s w es due g z r lt from m rest e on); granted = tt }
        by (packet.Marker c) rest e = record { goes = kept (rw e refl) (marker_goes s w es due g z r lt from c rest e on); granted = tt }

        go : (ps : List Packet) → link w from r ≡ ps → is_some (slice_get (link w from r) 0) ≡ true → Both (Deliver from)
        go [] e some = absurd (let none : is_some {T = Packet} (slice_get [] 0) ≡ true = rw e at some in cc (none))
        go (p ∷ rest) e some = by p rest e

    act_both : (act : Act) → may_happen w (choice_of r act) ≡ true → has_packet w r act ≡ true → is_enabled x act ≡ true → Both act
    unfolding is_enabled
    act_both (Call t o) may there can = call_both t (let e = left_of (nat_lt t THREADS) _ can in grind (arith, nat_tests, e)) (right_of (nat_lt t THREADS) _ can) o
    act_both (Answer t) may there can = answer_both t (let e = left_of (nat_lt t THREADS) _ can in grind (arith, nat_tests, e)) (right_of (nat_lt t THREADS) _ can)
    act_both (Deliver from) may there can = deliver_both from may (let e = left_of (nat_lt from (length w.ranks)) _ there in grind (arith, nat_tests, e)) (right_of (nat_lt from (length w.ranks)) _ there)
    act_both (MakeOffer key) may there can = record { goes = offered_goes s w es due g z r lt key can; granted = tt }
    act_both (Settle key) may there can = let goes = settled_goes s w es due g z r lt key can in record { goes = goes; granted = goes.0 }
    act_both (Leave c) may there can = record { goes = left_goes s w es due g z r lt c can; granted = tt }
    act_both (Back c) may there can = record { goes = gave_back s w es due g z r lt c can; granted = tt }

    owned_after : (act : Act) → is_enabled x act ≡ true → Owned (moved w (choice_of r act)).ranks
    owned_after act can = rw (moved_ranks w (choice_of r act)) (owned_step s w.ranks due g r act (head_for w r act) z.joined lt can z.owned)

    -- what is due after it, in the agreement
    dues_after : (act : Act) → may_happen w (choice_of r act) ≡ true → is_enabled x act ≡ true → NamesAreKnownFor x act → Holding s.contexts (run s.contexts (es ++ events_at w r act) (agreement.opening s.ranks s.contexts)) (dues_chosen w due (choice_of r act))
    dues_after act may can names =
        let a = run s.contexts es (agreement.opening s.ranks s.contexts) in
        let m = mirrored s w es r act z.follows.projected may (act_fits s sets w es z.follows r lr act can names) in
        let one = subst (Holding s.contexts (run s.contexts (events_at w r act) a)) (chosen s w es z.follows.projected due r lr act may m.may) (holding-run s.contexts (events_at w r act) a due z.dues) in
        subst (λ (b : agreement.World). Holding s.contexts b (dues_chosen w due (choice_of r act))) (sym (run-append s.contexts es (events_at w r act) (agreement.opening s.ranks s.contexts))) one

    act_goes : (act : Act) → may_happen w (choice_of r act) ≡ true → has_packet w r act ≡ true → is_enabled x act ≡ true → StepGoes s w es due g (choice_of r act)
    act_goes act may there can =
        let b = act_both act may there can in
        let on = choice_goes_on s w g z.shaped on_ground z.fits (choice_of r act) may b.granted in
        let names = names_known_for s w due g z.joined r act in
        record {
          allowed = b.goes.0;
          names = names;
          together = record {
            joined = b.goes.1;
            fits = on.fits;
            shaped = moved_shaped w (choice_of r act) lr z.shaped;
            follows = follows-moved s w es (choice_of r act) sets z.follows may names;
            owned = owned_after act can;
            members = members_after s s.ranks g (entry_events (entry_at w (choice_of r act))) (act_members s w es due g z r lr act can) z.members;
            dues = dues_after act may can names;
            telling = telling_next s w es due g z r lr act there can;
          };
        }

  -- a choice that may happen
  pub step_goes : (c : Choice) → may_happen w c ≡ true → StepGoes s w es due g c
  step_goes c may =
      let inside = left_of (nat_lt c.rank (length w.ranks)) _ may in
      let rest = right_of (nat_lt c.rank (length w.ranks)) _ may in
      act_goes c.rank (grind (arith, nat_tests, inside)) c.act may (left_of (has_packet w c.rank c.act) _ rest) (right_of (has_packet w c.rank c.act) _ rest)
