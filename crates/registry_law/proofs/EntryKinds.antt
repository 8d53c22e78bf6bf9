-- What holds of each event of an entry, kind by kind. So the picks in an entry are of distinct ranks, as only a settle has one, and
-- its key is one of the agreement; and only a give-back gives back.
use Rattle.std.proofs.Common.{◌≡◌, ◌<◌, ℕ, Bool, true, false, List, [], ◌∷◌, ◌++◌, length, Option, Some, None, refl, subst, arith}
use Rattle.mpi_base.specs.declared.keys.Key.{Key}
use Rattle.mpi_base.specs.declared.messages.Matched.{Matched}
use Rattle.mpi_base.specs.declared.replies.Reply.{Reply}
use Rattle.mpi_base.specs.declared.ops.Op.{Op}
use Rattle.mpi_base.specs.declared.entries.Said.{Said}
use Rattle.mpi_base.specs.declared.entries.Said.TheVariants as said
use Rattle.mpi_base.specs.declared.entries.Act.{Act}
use Rattle.mpi_base.specs.declared.entries.Act.TheVariants.{Call, Answer, Deliver, Offer as MakeOffer, Settle, Leave, Back}
use Rattle.mpi_law.specs.declared.setting.Setting.{Setting}
use Rattle.mpi_law.specs.declared.effects.Effect.{Effect}
use Rattle.mpi_law.specs.declared.effects.Effect.TheVariants as effect
use Rattle.mpi_law.specs.Local.Effects.{said_at_once}
use Rattle.mpi_law.specs.Registry.State.{Registry}
use Rattle.mpi_law.specs.Registry.Events.{Event, Calls, Sends, Posts, Matches, Backs, Replies}
use Rattle.agree_law.specs.Kinds.{is_share}
use Rattle.agree_law.specs.Moves.{may_settle}
use Rattle.agree_law.specs.World as agreement
use Rattle.agree_law.specs.World.{is_key_of}
use Rattle.agree_law.proofs.Lists.{AllOf, AllOf-append}
use Rattle.mpi_protocol.specs.Agreeing.{settles}
use Rattle.mpi_protocol.specs.Rank.{Rank}
use Rattle.mpi_protocol.specs.Calls.{called}
use Rattle.mpi_protocol.specs.Step.{step, is_enabled}
use Rattle.mpi_protocol.specs.Run.{entry_events, match_events, reply_events, pick_events, back_events}
use Rattle.mpi_protocol.specs.World.{World, rank_at, entry_at}
use Rattle.projection_law.specs.Premises.{are_distinct_ranks}
use Rattle.projection_law.specs.Facts.{MaySettle}
use Rattle.projection_law.proofs.Laws.{settled_key}
use Rattle.due_law.specs.Dues.{Dues}
use Rattle.run_law.proofs.Tolds.{is_back, AllKept}
use Rattle.message_law.proofs.CallEvents.{within, effect_here, events_of, call_entry}
use Rattle.registry_law.proofs.Members.{IsOfRanks}
use Rattle.registry_law.proofs.Together.{Together}
use Rattle.registry_law.proofs.Entries.{choice_of, events_by}
use Rattle.registry_law.proofs.AgreeGrants.{said_shared}

-- what holds of each event but picks and give-backs
record Plainly (P : Event → Type 0) : Type 0 where
  pub calls : (r t : ℕ) (o : Op) (now : Bool) → P (Calls r t o now)
  pub sends : (r t : ℕ) → P (Sends r t)
  pub posts : (r t : ℕ) → P (Posts r t)
  pub matches : (r number from sent : ℕ) → P (Matches r number from sent)
  pub replies : (r t : ℕ) (z : Reply) → P (Replies r t z)

module _ (P : Event → Type 0) (plain : Plainly P) where
  within_all : (r t : ℕ) (e : Effect ℕ) → AllOf P (within r t e)
  within_all r t (effect.Says z) = tt
  within_all r t (effect.Opens target) = tt
  within_all r t (effect.Groups target members session) = tt
  within_all r t (effect.Ungroups name) = tt
  within_all r t (effect.Joins a) = tt
  within_all r t (effect.Frees name c) = tt
  within_all r t (effect.Ends name session) = tt
  within_all r t (effect.Sends m) = (plain.sends r t, tt)
  within_all r t (effect.Receives a) = (plain.posts r t, tt)
  within_all r t (effect.Posts target a) = (plain.posts r t, tt)
  within_all r t (effect.NullPosts target) = tt
  within_all r t (effect.Completes name number) = tt
  within_all r t (effect.Awaits name) = tt

  match_all : (r : ℕ) (o : Option Matched) → AllOf P (match_events r o)
  match_all r None = tt
  match_all r (Some m) = (plain.matches r m.receive m.from m.number, tt)

  reply_all : (r t : ℕ) (o : Option Reply) → AllOf P (reply_events r t o)
  reply_all r t None = tt
  reply_all r t (Some z) = (plain.replies r t z, tt)

  back_all : (r c : ℕ) (o : Option ℕ) → ((dropped : ℕ) → P (Backs r c dropped)) → AllOf P (back_events r c o)
  back_all r c None h = tt
  back_all r c (Some k) h = (h k, tt)

  call_all : (x : Rank) (r t : ℕ) (o : Op) (e : Effect ℕ) → AllOf P (events_of x r t o e)
  call_all x r t o e = (
    plain.calls r t o _,
    AllOf-append P (within r t e ++ match_events r (called x t e).matched) (reply_events r t (said_at_once e)) (AllOf-append P (within r t e) (match_events r (called x t e).matched) (within_all r t e) (match_all r (called x t e).matched)) (reply_all r t (said_at_once e)),
  )

  -- of a settle its pick, of a give-back that it gives back
  abbrev ActGives : Rank → ℕ → Act → Type 0
  ActGives x r (Call t o) = Unit {0}
  ActGives x r (Answer t) = Unit {0}
  ActGives x r (Deliver from) = Unit {0}
  ActGives x r (MakeOffer key) = Unit {0}
  ActGives x r (Settle key) = AllOf P (pick_events r key (settles x key).said)
  ActGives x r (Leave c) = Unit {0}
  ActGives x r (Back c) = (dropped : ℕ) → P (Backs r c dropped)

  entry_all : (w : World) (r : ℕ) → (rank_at w r).rank ≡ r → (act : Act) → ActGives (rank_at w r) r act → AllOf P (entry_events (entry_at w (choice_of r act)))
  unfolding step
  entry_all w r named (Call t o) h = rw (call_entry w r t o (effect_here (rank_at w r) o) refl named) (call_all (rank_at w r) r t o (effect_here (rank_at w r) o))
  entry_all w r named (Answer t) h = rw (events_by w r (Answer t) named) (reply_all r t _)
  entry_all w r named (Deliver from) h = rw (events_by w r (Deliver from) named) (match_all r _)
  entry_all w r named (MakeOffer key) h = rw (events_by w r (MakeOffer key) named) tt
  entry_all w r named (Settle key) h = rw (events_by w r (Settle key) named) h
  entry_all w r named (Leave c) h = rw (events_by w r (Leave c) named) tt
  entry_all w r named (Back c) h = rw (events_by w r (Back c) named) (back_all r c _ h)

-- Members

pick_members : (n r : ℕ) (key : Key) (o : Option Said) → are_distinct_ranks n key.members ≡ true → AllOf (IsOfRanks n) (pick_events r key o)
pick_members n r key None h = tt
pick_members n r key (Some said.Own) h = tt
pick_members n r key (Some said.Zero) h = tt
pick_members n r key (Some said.Ready) h = tt
pick_members n r key (Some said.Retry) h = tt
pick_members n r key (Some (said.Picked c)) h = (h, tt)
pick_members n r key (Some said.Exhausted) h = (h, tt)
pick_members n r key (Some said.Shared) h = tt

-- two words for distinct ranks
key_members : (n : ℕ) (key : Key) → is_key_of n key ≡ true → are_distinct_ranks n key.members ≡ true
unfolding is_key_of
key_members n key e = e

of_ranks : (n : ℕ) → Plainly (IsOfRanks n)
of_ranks n = record { calls = λ r t o now. tt; sends = λ r t. tt; posts = λ r t. tt; matches = λ r number from sent. tt; replies = λ r t z. tt }

module _ (s : Setting) (w : World) (es : List agreement.Event) (due : Dues) (g : Registry) (z : Together s w es due g) (r : ℕ) (lr : r < length w.ranks) where
  abbrev x : Rank
  x = rank_at w r

  settle_members : (key : Key) → may_settle x.rank x.agree key ≡ true → (b : Bool) → is_share key.kind ≡ b → AllOf (IsOfRanks s.ranks) (pick_events r key (settles x key).said)
  unfolding may_settle
  settle_members key may false other =
      let m : MaySettle w r key = record { inside = lr; may = grind (arith, may, other) } in
      let good = key_members (length w.ranks) key (settled_key s w es z.follows.projected r key m) in
      pick_members s.ranks r key (settles x key).said (subst (λ (n : ℕ). are_distinct_ranks n key.members ≡ true) z.joined.sizes.ranks_are good)
  settle_members key may true other = rw (said_shared x key other) tt

  gives_members : (act : Act) → is_enabled x act ≡ true → ActGives (IsOfRanks s.ranks) (of_ranks s.ranks) x r act
  unfolding is_enabled
  gives_members (Call t o) may = tt
  gives_members (Answer t) may = tt
  gives_members (Deliver from) may = tt
  gives_members (MakeOffer key) may = tt
  gives_members (Settle key) may = settle_members key may (is_share key.kind) refl
  gives_members (Leave c) may = tt
  gives_members (Back c) may = λ dropped. tt

  pub act_members : (act : Act) → is_enabled x act ≡ true → AllOf (IsOfRanks s.ranks) (entry_events (entry_at w (choice_of r act)))
  act_members act may = entry_all (IsOfRanks s.ranks) (of_ranks s.ranks) w r (z.shaped.named r lr) act (gives_members act may)

-- Give-backs

-- whether an act gives back
abbrev pub is_back_act : Act → Bool
is_back_act (Call t o) = false
is_back_act (Answer t) = false
is_back_act (Deliver from) = false
is_back_act (MakeOffer key) = false
is_back_act (Settle key) = false
is_back_act (Leave c) = false
is_back_act (Back c) = true

pick_kept : (r : ℕ) (key : Key) (o : Option Said) → AllOf (λ (e : Event). is_back e ≡ false) (pick_events r key o)
pick_kept r key None = tt
pick_kept r key (Some said.Own) = tt
pick_kept r key (Some said.Zero) = tt
pick_kept r key (Some said.Ready) = tt
pick_kept r key (Some said.Retry) = tt
pick_kept r key (Some (said.Picked c)) = (refl, tt)
pick_kept r key (Some said.Exhausted) = (refl, tt)
pick_kept r key (Some said.Shared) = tt

backless : Plainly (λ (e : Event). is_back e ≡ false)
backless = record { calls = λ r t o now. refl; sends = λ r t. refl; posts = λ r t. refl; matches = λ r number from sent. refl; replies = λ r t z. refl }

gives_kept : (x : Rank) (r : ℕ) (act : Act) → is_back_act act ≡ false → ActGives (λ (e : Event). is_back e ≡ false) backless x r act
gives_kept x r (Call t o) h = tt
gives_kept x r (Answer t) h = tt
gives_kept x r (Deliver from) h = tt
gives_kept x r (MakeOffer key) h = tt
gives_kept x r (Settle key) h = pick_kept r key (settles x key).said
gives_kept x r (Leave c) h = tt
gives_kept x r (Back c) h = absurd (cc (h))

kept_all : (es : List Event) → AllOf (λ (e : Event). is_back e ≡ false) es → AllKept es
kept_all [] h = tt
kept_all (e ∷ es) h = (h.0, kept_all es h.1)

-- the events of an act that gives nothing back give nothing back
pub act_kept : (w : World) (r : ℕ) → (rank_at w r).rank ≡ r → (act : Act) → is_back_act act ≡ false → AllKept (entry_events (entry_at w (choice_of r act)))
act_kept w r named act h = kept_all (entry_events (entry_at w (choice_of r act))) (entry_all (λ (e : Event). is_back e ≡ false) backless w r named act (gives_kept (rank_at w r) r act h))
