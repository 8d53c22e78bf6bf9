-- Where an offer of the agreement's events stands in the journal.
use Rattle.std.proofs.Common.{◌≡◌, ◌⊎◌, inl, inr, ℕ, Bool, true, false, List, [], ◌∷◌, ◌++◌, Option, Some, None, refl, sym, subst, ap, ◌∙◌}
use Rattle.mpi_base.specs.declared.keys.Key.{Key}
use Rattle.mpi_base.specs.declared.entries.Act.{Act}
use Rattle.mpi_base.specs.declared.entries.Act.TheVariants.{Call, Answer, Deliver, Offer as MakeOffer, Settle, Leave, Back}
use Rattle.mpi_base.specs.declared.entries.Entry.{Entry}
use Rattle.mpi_law.specs.Local.{effect_of}
use Rattle.mpi_law.specs.declared.effects.Origin.{Origin}
use Rattle.mpi_law.specs.declared.effects.Origin.TheVariants.{Grouped, Duplicated, Divided, GroupedOn}
use Rattle.mpi_law.specs.declared.effects.Effect.{Effect}
use Rattle.mpi_law.specs.declared.effects.Effect.TheVariants.{Says, Opens, Groups, Ungroups, Joins, Frees, Ends, Sends, Receives, Posts, NullPosts, Completes, Awaits}
use Rattle.agree_law.specs.declared.rows.Outcome.{Outcome}
use Rattle.agree_law.specs.Part.{stage_of}
use Rattle.agree_law.specs.World as agreement
use Rattle.agree_law.specs.World.{Event}
use Rattle.agree_law.proofs.Lists.{AllOf}
use Rattle.mpi_protocol.specs.declared.rows.Waits.{Waits}
use Rattle.mpi_protocol.specs.declared.rows.Waits.TheVariants.{Nothing, Creation, Uncoloured, Freeing, Ending, Receiving, Awaiting}
use Rattle.mpi_protocol.specs.Packets.{Packet, Agreeing, Message, Marker}
use Rattle.mpi_protocol.specs.Rank.{Rank, thread_at}
use Rattle.mpi_protocol.specs.Calls.{around_here}
use Rattle.mpi_protocol.specs.Answers.{outcome_of}
use Rattle.mpi_protocol.specs.World.{World, rank_at, head_for, moved}
use Rattle.mpi_protocol.specs.Run.{world_after}
use Rattle.projection_law.specs.Events.{opening_events, call_events, decided_events, answer_events, packet_events, act_events, events_at, agreement_events}

-- whether an event is an offer
abbrev pub is_offer : Event → Bool
is_offer (agreement.Begin r key) = false
is_offer (agreement.Begin_share r key s) = false
is_offer (agreement.Offer r key) = true
is_offer (agreement.Settle r key) = false
is_offer (agreement.Deliver r from) = false
is_offer (agreement.Back r c) = false
is_offer (agreement.Close r key) = false

-- no event is an offer
abbrev pub NoOffer : List Event → Type 0
NoOffer es = AllOf (λ e. is_offer e ≡ false) es

none_call : (r : ℕ) (x : Rank) (e : Effect ℕ) → NoOffer (call_events r x e)
none_call r x (Says said) = tt
none_call r x (Opens target) = tt
none_call r x (Groups target members session) = tt
none_call r x (Ungroups name) = tt
none_call r x (Joins a) = go a.origin
  where
    go : (o : Origin ℕ) → NoOffer (opening_events r x o)
    go (Grouped group tag) = (refl, tt)
    go (Duplicated c) = (refl, tt)
    go (Divided c share) = (refl, tt)
    go (GroupedOn c tag group) = (refl, tt)
none_call r x (Frees name c) = tt
none_call r x (Ends name s) = tt
none_call r x (Sends m) = tt
none_call r x (Receives a) = tt
none_call r x (Posts target a) = tt
none_call r x (NullPosts target) = tt
none_call r x (Completes name n) = tt
none_call r x (Awaits name) = tt

none_answer : (r : ℕ) (x : Rank) (w : Waits) → NoOffer (answer_events r x w)
none_answer r x Nothing = tt
none_answer r x (Creation key target session) = go (outcome_of (stage_of x.agree.opened key))
  where
    go : (o : Option Outcome) → NoOffer (decided_events r key o)
    go None = tt
    go (Some o) = (refl, tt)
none_answer r x (Uncoloured key target session) = tt
none_answer r x (Freeing serial) = tt
none_answer r x (Ending session) = tt
none_answer r x (Receiving n) = tt
none_answer r x (Awaiting name) = tt

none_packet : (r from : ℕ) (o : Option Packet) → NoOffer (packet_events r from o)
none_packet r from None = tt
none_packet r from (Some (Agreeing p)) = (refl, tt)
none_packet r from (Some (Message m)) = tt
none_packet r from (Some (Marker c)) = tt

-- the events of a choice have no offer, or are the one offer of it
pub offers_of : (r : ℕ) (x : Rank) (act : Act) (p : Option Packet) → NoOffer (act_events r x act p) ⊎ ((k : Key) × (act ≡ MakeOffer k))
offers_of r x (Call t op) p = inl (none_call r x (effect_of x.setting x.rank (around_here x) x.local op))
offers_of r x (Answer t) p = inl (none_answer r x (thread_at x t).waits)
offers_of r x (Deliver from) p = inl (none_packet r from p)
offers_of r x (MakeOffer key) p = inr (key, refl)
offers_of r x (Settle key) p = inl (refl, tt)
offers_of r x (Leave c) p = inl tt
offers_of r x (Back c) p = inl (refl, tt)

-- a list that has an offer after a part that has none
pub record Skipped (xs ys before : List Event) (e : Event) (after : List Event) : Type 0 where
  pub more : List Event
  pub lead : before ≡ xs ++ more
  pub rest : ys ≡ more ++ e ∷ after

pub skip : (xs ys before : List Event) (e : Event) (after : List Event) → NoOffer xs → is_offer e ≡ true → xs ++ ys ≡ before ++ e ∷ after → Skipped xs ys before e after
skip [] ys before e after none o is = record { more = before; lead = refl; rest = is }
skip (x ∷ xs) ys [] e after none o is = let same : x ≡ e = cc (is) in absurd (let n : is_offer e ≡ false = rw (← same) none.0 in cc (n, o))
skip (x ∷ xs) ys (b ∷ before) e after none o is =
    let same : x ≡ b = cc (is) in
    let tail : xs ++ ys ≡ before ++ e ∷ after = cc (is) in
    let s = skip xs ys before e after none.1 o tail in
    let lead = s.lead in
    record { more = s.more; lead = cc (same, lead); rest = s.rest }

-- the entry of an offer
pub record Found (w : World) (journal : List Entry) (before : List Event) (q : ℕ) (key : Key) (after : List Event) : Type 0 where
  pub first : List Entry
  pub entry : Entry
  pub rest : List Entry
  pub split : journal ≡ first ++ entry ∷ rest
  pub rank : entry.choice.rank ≡ q
  pub act : entry.choice.act ≡ MakeOffer key
  pub lead : agreement_events w first ≡ before
  pub tail : agreement_events (moved (world_after w first) entry.choice) rest ≡ after

later : (w : World) (e : Entry) (journal : List Entry) (before more : List Event) (q : ℕ) (key : Key) (after : List Event) → before ≡ events_at w e.choice.rank e.choice.act ++ more → Found (moved w e.choice) journal more q key after → Found w (e ∷ journal) before q key after
later w e journal before more q key after is f = record {
  first = e ∷ f.first;
  entry = f.entry;
  rest = f.rest;
  split = ap (λ z. e ∷ z) f.split;
  rank = f.rank;
  act = f.act;
  lead = ap (λ z. events_at w e.choice.rank e.choice.act ++ z) f.lead ∙ sym is;
  tail = f.tail;
}

pub find_offer : (w : World) (journal : List Entry) (before : List Event) (q : ℕ) (key : Key) (after : List Event) → agreement_events w journal ≡ before ++ agreement.Offer q key ∷ after → Found w journal before q key after
find_offer w [] [] q key after is = absurd (cc (is))
find_offer w [] (b ∷ before) q key after is = absurd (cc (is))
find_offer w (e ∷ journal) before q key after is = go (offers_of e.choice.rank (rank_at w e.choice.rank) e.choice.act (head_for w e.choice.rank e.choice.act)) (λ more h. find_offer (moved w e.choice) journal more q key after h)
  where
    ys : List Event
    ys = agreement_events (moved w e.choice) journal

    xs : List Event
    xs = events_at w e.choice.rank e.choice.act

    go : NoOffer (events_at w e.choice.rank e.choice.act) ⊎ ((k : Key) × (e.choice.act ≡ MakeOffer k)) → ((more : List Event) → agreement_events (moved w e.choice) journal ≡ more ++ agreement.Offer q key ∷ after → Found (moved w e.choice) journal more q key after)
        → Found w (e ∷ journal) before q key after
    go (inl none) ih = let s = skip xs ys before (agreement.Offer q key) after none refl is in later w e journal before s.more q key after s.lead (ih s.more s.rest)
    go (inr o) ih = this before refl
      where
        one : xs ≡ agreement.Offer e.choice.rank o.0 ∷ []
        one = ap (λ a. act_events e.choice.rank (rank_at w e.choice.rank) a (head_for w e.choice.rank a)) o.1

        whole : agreement.Offer e.choice.rank o.0 ∷ ys ≡ before ++ agreement.Offer q key ∷ after
        whole = sym (ap (λ z. z ++ ys) one) ∙ is

        this : (b : List Event) → before ≡ b → Found w (e ∷ journal) before q key after
        this [] s =
            let w1 : agreement.Offer e.choice.rank o.0 ∷ ys ≡ agreement.Offer q key ∷ after = subst (λ z. agreement.Offer e.choice.rank o.0 ∷ ys ≡ z ++ agreement.Offer q key ∷ after) s whole in
            let event : agreement.Offer e.choice.rank o.0 ≡ agreement.Offer q key = cc (w1) in
            let r : e.choice.rank ≡ q = cc (event) in
            let k : o.0 ≡ key = cc (event) in
            let tail : ys ≡ after = cc (w1) in
            record { first = []; entry = e; rest = journal; split = refl; rank = r; act = o.1 ∙ ap (λ z. MakeOffer z) k; lead = sym s; tail = tail }
        this (b ∷ more) s =
            let w1 : agreement.Offer e.choice.rank o.0 ∷ ys ≡ b ∷ (more ++ agreement.Offer q key ∷ after) = subst (λ z. agreement.Offer e.choice.rank o.0 ∷ ys ≡ z ++ agreement.Offer q key ∷ after) s whole in
            let event : agreement.Offer e.choice.rank o.0 ≡ b = cc (w1) in
            let tail : ys ≡ more ++ agreement.Offer q key ∷ after = cc (w1) in
            later w e journal before more q key after (s ∙ (ap (λ z. z ∷ more) (sym event) ∙ sym (ap (λ z. z ++ more) one))) (ih more tail)
