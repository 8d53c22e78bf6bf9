-- Messages and markers that come, leaves and give-backs.
use Rattle.std.proofs.Common.{◌≡◌, ◌<◌, ℕ, Bool, true, false, List, ◌∷◌, length, set, Option, Some, None, refl, sym, subst, arith}
use Rattle.mpi_base.specs.declared.messages.Msg.{Msg}
use Rattle.mpi_base.specs.declared.entries.Act.TheVariants.{Deliver, Leave, Back}
use Rattle.mpi_law.specs.declared.setting.Setting.{Setting}
use Rattle.mpi_law.specs.Registry.State.{Registry, comm_at}
use Rattle.mpi_law.specs.Registry.Contexts.{comm_of}
use Rattle.match_law.specs.Box.{has_posted}
use Rattle.comm_law.specs.declared.rows.CommRow.{CommRow}
use Rattle.comm_law.specs.Comms.{all_marked}
use Rattle.agree_law.specs.World.{Event}
use Rattle.mpi_protocol.specs.Packets as packet
use Rattle.mpi_protocol.specs.Packets.{Packet}
use Rattle.mpi_protocol.specs.Rank.{Rank}
use Rattle.mpi_protocol.specs.Delivers.{takes_packet, delivers, taken_if}
use Rattle.mpi_protocol.specs.Step.{step, may_leave, may_give_back}
use Rattle.mpi_protocol.specs.Run.{entry_events}
use Rattle.mpi_protocol.specs.World.{World, rank_at, link, move_of, moved, entry_at}
use Rattle.run_law.proofs.Rows.{row_in}
use Rattle.due_law.specs.Dues.{Dues}
use Rattle.run_law.proofs.Contexts.{comm_of_is}
use Rattle.run_law.proofs.Comms.{CommFits, KnownComm}
use Rattle.run_law.proofs.Backs.{BackAsked}
use Rattle.run_law.proofs.BackSteps.{back_goes}
use Rattle.run_law.proofs.LeaveSteps.{leave_goes}
use Rattle.run_law.proofs.Calling.{moved_ranks}
use Rattle.run_law.proofs.SettleSteps.{Goes}
use Rattle.message_law.proofs.Topics.{OnLive}
use Rattle.message_law.proofs.Worlds.{kept_of, posted_of, rows_of, sends_of, posts_of, comms_of}
use Rattle.message_law.proofs.Deliveries.{GoesOn}
use Rattle.message_law.proofs.GiveBacks.{all_left}
use Rattle.message_law.proofs.BackReceives.{none_waits}
use Rattle.message_law.proofs.Drops.{drops_as_many}
use Rattle.registry_law.proofs.Looks.{LooksSame, looks_else, looks_arrives, looks_joined}
use Rattle.registry_law.proofs.Grounds.{left_alike, standing}
use Rattle.registry_law.proofs.Together.{Together}
use Rattle.registry_law.proofs.Entries.{choice_of, events_by, goes_at, allowed_all}
use Rattle.registry_law.proofs.MessageCalls.{matched_joined}

-- What comes changes nothing that other topics read

message_looks : (x : Rank) (from : ℕ) (m : Msg) → LooksSame x (delivers x from (Some (packet.Message m))).state
unfolding delivers
message_looks x from m = go (takes_packet x from (packet.Message m))
  where
    go : (b : Bool) → LooksSame x (taken_if b x from (packet.Message m)).state
    go true = looks_arrives x m
    go false = looks_else x x.box x.receives x.sends x.posts

marker_looks : (x : Rank) (from c : ℕ) → LooksSame x (delivers x from (Some (packet.Marker c))).state
unfolding delivers
marker_looks x from c = go (takes_packet x from (packet.Marker c))
  where
    go : (b : Bool) → LooksSame x (taken_if b x from (packet.Marker c)).state
    go true = record { number = refl; setting = refl; local = refl; threads = refl; opened = refl; owner = refl; mask = refl; rows = refl; added = refl }
    go false = looks_else x x.box x.receives x.sends x.posts

module _ (s : Setting) (w : World) (es : List Event) (due : Dues) (g : Registry) (z : Together s w es due g) (r : ℕ) (lt : r < s.ranks) where
  abbrev x : Rank
  x = rank_at w r

  named : x.rank ≡ r
  named = z.joined.sizes.number r lt

  -- a message or a marker comes: what it does is a match, if anything
  module _ (from : ℕ) where
    looks_come : (p : Packet) (rest : List Packet) → link w from r ≡ p ∷ rest → LooksSame x (delivers x from (Some p)).state → GoesOn s g (entry_events (entry_at w (choice_of r (Deliver from)))) (moved w (choice_of r (Deliver from)))
        → Goes s g (entry_events (entry_at w (choice_of r (Deliver from)))) (moved w (choice_of r (Deliver from))).ranks due
    unfolding step
    looks_come p rest e looks on =
        let looks_moved : LooksSame x (move_of w (choice_of r (Deliver from))).state = rw e looks in
        let joined = looks_joined s w.ranks due g r (move_of w (choice_of r (Deliver from))).state z.joined lt looks_moved in (
          allowed_all s g (entry_events (entry_at w (choice_of r (Deliver from)))) (moved w (choice_of r (Deliver from))) on,
          rw (events_by w r (Deliver from) named, moved_ranks w (choice_of r (Deliver from))) (matched_joined s (set w.ranks r (move_of w (choice_of r (Deliver from))).state) due g r (move_of w (choice_of r (Deliver from))).matched joined),
        )

    pub message_goes : (m : Msg) (rest : List Packet) → link w from r ≡ packet.Message m ∷ rest → GoesOn s g (entry_events (entry_at w (choice_of r (Deliver from)))) (moved w (choice_of r (Deliver from)))
        → Goes s g (entry_events (entry_at w (choice_of r (Deliver from)))) (moved w (choice_of r (Deliver from))).ranks due
    message_goes m rest e on = looks_come (packet.Message m) rest e (message_looks x from m) on

    pub marker_goes : (c : ℕ) (rest : List Packet) → link w from r ≡ packet.Marker c ∷ rest → GoesOn s g (entry_events (entry_at w (choice_of r (Deliver from)))) (moved w (choice_of r (Deliver from)))
        → Goes s g (entry_events (entry_at w (choice_of r (Deliver from)))) (moved w (choice_of r (Deliver from))).ranks due
    marker_goes c rest e on = looks_come (packet.Marker c) rest e (marker_looks x from c) on

  -- Leaves

  pub left_goes : (c : ℕ) → may_leave x c ≡ true → Goes s g (entry_events (entry_at w (choice_of r (Leave c)))) (moved w (choice_of r (Leave c))).ranks due
  unfolding step
  left_goes c may = goes_at s w g due r (Leave c) named (leave_goes s w.ranks due g r c z.joined lt may)

  -- Give-backs

  -- what the markers and the messages give
  asked_here : (c p : ℕ) (m : CommRow) → comm_of g.comms r c ≡ Some p → row_in x.comms.rows c ≡ Some m → KnownComm g.comms g.creations r m p → all_marked x.comms r c ≡ true → has_posted x.box c ≡ false → BackAsked w.ranks g r c p
  asked_here c p m stands row known marked none =
      let at = comm_of_is g.comms r c p stands in
      let live : OnLive g p r = (at.inside, at.live) in
      let n = z.joined.sizes.ranks_are in
      let lr : r < length w.ranks = omega (arith, n, lt) in
      let here = standing s w due g z.joined z.members z.owned in
      let ctx = at.context in
      let left = all_left (length w.ranks) g (comms_of w) (link w) z.fits.markers here p r lr live m (rw ctx row) known.members (rw ctx marked) in
      let dropped = drops_as_many (length w.ranks) g (kept_of w) (sends_of w) (comms_of w) (link w) z.fits.messages z.fits.own z.fits.markers here p r lr live m (rw ctx row) known.members (rw ctx marked) in
      record {
        left = λ q i. rw (left_alike (row_in (rank_at w q).comms.rows (comm_at g p).ctx)) (left q i);
        complete = none_waits (length w.ranks) g (posted_of w) (rows_of w) (posts_of w) z.fits.receives p r lr live (rw ctx none);
        dropped = sym (rw ctx at dropped);
      }

  pub asked_back : (c p : ℕ) → may_give_back x c ≡ true → comm_of g.comms r c ≡ Some p → BackAsked w.ranks g r c p
  unfolding all_marked
  asked_back c p may stands = go (row_in x.comms.rows c) refl (comm_of g.comms r c) stands ((z.joined.comms r).each c)
    where
      marked : all_marked x.comms r c ≡ true
      marked = subst (λ (q : ℕ). all_marked x.comms q c ≡ true) named (grind (arith, may))

      none : has_posted x.box c ≡ false
      none = grind (arith, may)

      go : (o : Option CommRow) → row_in x.comms.rows c ≡ o → (i : Option ℕ) → i ≡ Some p → CommFits g.comms g.creations r x.agree.owner (due r) c o i → BackAsked w.ranks g r c p
      go None e i q h = absurd (let m = marked in let f : all_marked x.comms r c ≡ false = rw e refl in cc (m, f))
      go (Some m) e None q h = absurd h
      go (Some m) e (Some i) q h = let is : i ≡ p = cc (q) in asked_here c p m stands e (subst (λ (k : ℕ). KnownComm g.comms g.creations r m k) is h) marked none

  pub gave_back : (c : ℕ) → may_give_back x c ≡ true → Goes s g (entry_events (entry_at w (choice_of r (Back c)))) (moved w (choice_of r (Back c))).ranks due
  unfolding step
  gave_back c may = goes_at s w g due r (Back c) named (back_goes s w.ranks due g r c z.joined z.owned.leavings lt may (λ p stands. asked_back c p may stands))
