-- Any call, as one entry: the topics go on.
use Rattle.std.proofs.Common.{◌≡◌, ◌<◌, ℕ, zero, suc, true, List, [], ◌∷◌, length, get_or, Option, refl, sym, ap, ◌∙◌, arith}
use Rattle.std.proofs.lemmas.Bool.Decides.{nat_tests}
use Rattle.mpi_base.specs.MemberLists.{has_rank}
use Rattle.mpi_base.specs.declared.ops.Op.{Op}
use Rattle.mpi_base.specs.declared.entries.Act.TheVariants.{Call}
use Rattle.mpi_base.specs.declared.entries.Choice.{Choice}
use Rattle.mpi_law.specs.declared.setting.Setting.{Setting}
use Rattle.mpi_law.specs.declared.setting.TheConstants.{THREADS}
use Rattle.mpi_law.specs.declared.effects.Effect.{Effect}
use Rattle.mpi_law.specs.declared.effects.Effect.TheVariants as effect
use Rattle.mpi_law.specs.Local.Effects.{is_said}
use Rattle.mpi_law.specs.Registry.State.{Registry, comm_at, part_of}
use Rattle.mpi_law.specs.Registry.Calls.{effect_at}
use Rattle.mpi_law.specs.Registry.Runs.{MayCall, IsRegistryRun}
use Rattle.mpi_protocol.specs.Rank.{Rank}
use Rattle.mpi_protocol.specs.Run.{entry_events}
use Rattle.mpi_protocol.specs.World.{World, rank_at, moved, entry_at}
use Rattle.message_law.proofs.Numbers.{Shaped}
use Rattle.message_law.proofs.Worlds.{Fits, Ground}
use Rattle.message_law.proofs.Deliveries.{GoesOn}
use Rattle.message_law.proofs.CallSteps.{Usable}
use Rattle.message_law.proofs.CallEvents.{effect_here}
use Rattle.message_law.proofs.SendCalls.{send_call_goes_on}
use Rattle.message_law.proofs.PostCalls.{request_call_goes_on, receive_call_goes_on}
use Rattle.message_law.proofs.QuietRegistry.{IsQuietEffect}
use Rattle.message_law.proofs.QuietActs.{quiet_call_step}
use Rattle.message_law.proofs.Topics.{OnLive}

-- a call that sends or posts does the same at the rank and in the registry, on a communicator that is named by its context at
-- the rank and by its place in the registry, and that the rank may use
pub data AsksAlike (g : Registry) (x : Rank) (r : ℕ) : Effect ℕ → Effect ℕ → Type 0 where
  sends : (c p to tag : ℕ) (payload : List ℕ) → (comm_at g p).ctx ≡ c → Usable g x r p → to < length (comm_at g p).members
      → AsksAlike g x r (effect.Sends (record { comm = c; to = to; tag = tag; payload = payload })) (effect.Sends (record { comm = p; to = to; tag = tag; payload = payload }))
  receives : (c p : ℕ) (source tag : Option ℕ) (room : ℕ) → (comm_at g p).ctx ≡ c → OnLive g p r
      → AsksAlike g x r (effect.Receives (record { comm = c; source = source; tag = tag; room = room })) (effect.Receives (record { comm = p; source = source; tag = tag; room = room }))
  posts : (c p : ℕ) (source tag : Option ℕ) (room : ℕ) (target : List ℕ) → (comm_at g p).ctx ≡ c → OnLive g p r
      → AsksAlike g x r (effect.Posts target (record { comm = c; source = source; tag = tag; room = room })) (effect.Posts target (record { comm = p; source = source; tag = tag; room = room }))

-- what the other topics grant a call: that it is allowed; of one that neither sends nor posts, that all events of its entry are
pub data CallGranted (s : Setting) (w : World) (g : Registry) (r t : ℕ) (o : Op) : Type 0 where
  quiet : IsQuietEffect (effect_here (rank_at w r) o) → IsQuietEffect (effect_at s g r o) → IsRegistryRun s g (entry_events (entry_at w (record { rank = r; act = Call t o }))) → CallGranted s w g r t o
  asked : AsksAlike g (rank_at w r) r (effect_here (rank_at w r) o) (effect_at s g r o) → MayCall s g r t o (is_said (effect_here (rank_at w r) o)) → CallGranted s w g r t o

-- who is at a place of a list is in it
has_at : (ms : List ℕ) (i : ℕ) → i < length ms → has_rank ms (get_or ms i 0) ≡ true
has_at [] i l = absurd (omega (arith, l))
has_at (m ∷ ms) zero l = grind (arith, nat_tests)
has_at (m ∷ ms) (suc i) l = let ih = has_at ms i (omega (arith, l)) in grind (arith, ih)

module _ (s : Setting) (w : World) (g : Registry) (shaped : Shaped w) (ground : Ground w g) (h : Fits w g) (r t : ℕ) (lr : r < length w.ranks) (lt : t < THREADS) (o : Op) where
  abbrev x : Rank
  x = rank_at w r

  abbrev calling : Choice
  calling = record { rank = r; act = Call t o }

  parts : r < length g.ranks
  parts = rw ground.parts lr

  threads : t < length (part_of g r).threads
  threads = rw (ground.threads r lr) lt

  asks_go : (e f : Effect ℕ) → AsksAlike g x r e f → effect_here x o ≡ e → effect_at s g r o ≡ f → MayCall s g r t o (is_said e) → GoesOn s g (entry_events (entry_at w calling)) (moved w calling)
  asks_go e f (sends c p to tag payload is u inside) here there may =
      send_call_goes_on s w g r t o shaped.wide lr (shaped.named r lr) ground.standing h p u to tag payload (has_at (comm_at g p).members to inside) parts threads
      (here ∙ ap (λ (d : ℕ). effect.Sends (record { comm = d; to = to; tag = tag; payload = payload })) (sym is)) there may
  asks_go e f (receives c p source tag room is live) here there may =
      receive_call_goes_on s w g r t o shaped.wide lr (shaped.named r lr) ground.standing h p live source tag room parts threads
      (here ∙ ap (λ (d : ℕ). effect.Receives (record { comm = d; source = source; tag = tag; room = room })) (sym is)) there may
  asks_go e f (posts c p source tag room target is live) here there may =
      request_call_goes_on s w g r t o shaped.wide lr (shaped.named r lr) ground.standing h p live source tag room parts threads target
      (here ∙ ap (λ (d : ℕ). effect.Posts target (record { comm = d; source = source; tag = tag; room = room })) (sym is)) there may

  pub call_step : CallGranted s w g r t o → GoesOn s g (entry_events (entry_at w calling)) (moved w calling)
  call_step (quiet here there run) = quiet_call_step s w g shaped ground h r lr t o here there run
  call_step (asked asks may) = asks_go (effect_here x o) (effect_at s g r o) asks refl refl may
