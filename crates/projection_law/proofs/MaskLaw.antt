-- A mask with an owner changes only by that owner's verdict.
use Rattle.std.proofs.Common.{◌≡◌, ◌⊎◌, inl, inr, ⊎_elim, ◌<◌, ◌==◌, ℕ, Bool, true, false, if◌then◌else◌, List, [], ◌∷◌, length, slice_get, Option, Some, None, refl, sym, subst, ap, ◌∙◌, arith}
use Rattle.std.proofs.lemmas.Bool.Decides.{nat_tests}
use Rattle.mpi_base.specs.declared.keys.Key.{Key}
use Rattle.mpi_base.specs.declared.entries.Act.{Act}
use Rattle.mpi_base.specs.declared.entries.Choice.{Choice}
use Rattle.mpi_base.specs.declared.entries.Act.TheVariants.{Call, Answer, Deliver, Offer as MakeOffer, Settle, Leave, Back}
use Rattle.mpi_law.specs.declared.setting.Setting.{Setting}
use Rattle.mpi_law.specs.Local.{effect_of}
use Rattle.mpi_law.specs.declared.effects.Origin.{Origin}
use Rattle.mpi_law.specs.declared.effects.Origin.TheVariants.{Grouped, Duplicated, Divided, GroupedOn}
use Rattle.mpi_law.specs.declared.effects.Effect.{Effect}
use Rattle.mpi_law.specs.declared.effects.Effect.TheVariants.{Says, Opens, Groups, Ungroups, Joins, Frees, Ends, Sends, Receives, Posts, NullPosts, Completes, Awaits}
use Rattle.agree_law.specs.declared.rows.Outcome.{Outcome}
use Rattle.agree_law.specs.Part.{Agree, stage_of}
use Rattle.agree_law.specs.Rule.{is_key}
use Rattle.agree_law.specs.World as agreement
use Rattle.agree_law.specs.World.{Event, head_of, part_at, may_happen as may_be, happens, happened, run}
use Rattle.agree_law.specs.Facts.{verdict_at, key_down, MasksStay as MasksStayThere}
use Rattle.agree_law.proofs.MaskSteps.{masks_stay}
use Rattle.mpi_protocol.specs.declared.rows.Waits.{Waits}
use Rattle.mpi_protocol.specs.declared.rows.Waits.TheVariants.{Nothing, Creation, Uncoloured, Freeing, Ending, Receiving, Awaiting}
use Rattle.mpi_protocol.specs.Packets.{Packet, Agreeing, Message, Marker}
use Rattle.mpi_protocol.specs.Rank.{Rank, thread_at}
use Rattle.mpi_protocol.specs.Calls.{around_here}
use Rattle.mpi_protocol.specs.Answers.{outcome_of}
use Rattle.mpi_protocol.specs.World.{World, rank_at, link, head_for, moved, may_happen}
use Rattle.projection_law.proofs.BothTests.{right_of}
use Rattle.projection_law.specs.Facts.{key_of_verdict, MasksStay}
use Rattle.projection_law.specs.Premises.{SetsAreOfRanks}
use Rattle.projection_law.specs.KnownNames.{NamesAreKnownFor}
use Rattle.projection_law.proofs.Projected.{same_part, agreement_taken}
use Rattle.projection_law.specs.Events.{opening_events, call_events, decided_events, answer_events, packet_events, act_events, events_at}
use Rattle.projection_law.proofs.Events.{Mirrors}
use Rattle.projection_law.proofs.Runs.{Projected, ruled, mirrored, projected-moved}
use Rattle.projection_law.proofs.SoundRuns.{Follows, act_fits}

-- the events of a choice: none, or one
pub data Short : List Event → Type 0 where
  Nil : Short []
  One : (e : Event) → Short (e ∷ [])

short_call : (r : ℕ) (x : Rank) (e : Effect ℕ) → Short (call_events r x e)
short_call r x (Says said) = Nil
short_call r x (Opens target) = Nil
short_call r x (Groups target members session) = Nil
short_call r x (Ungroups name) = Nil
short_call r x (Joins a) = go a.origin
  where
    go : (o : Origin ℕ) → Short (opening_events r x o)
    go (Grouped group tag) = One _
    go (Duplicated c) = One _
    go (Divided c share) = One _
    go (GroupedOn c tag group) = One _
short_call r x (Frees name c) = Nil
short_call r x (Ends name s) = Nil
short_call r x (Sends m) = Nil
short_call r x (Receives a) = Nil
short_call r x (Posts target a) = Nil
short_call r x (NullPosts target) = Nil
short_call r x (Completes name n) = Nil
short_call r x (Awaits name) = Nil

short_answer : (r : ℕ) (x : Rank) (w : Waits) → Short (answer_events r x w)
short_answer r x Nothing = Nil
short_answer r x (Creation key target session) = go (outcome_of (stage_of x.agree.opened key))
  where
    go : (o : Option Outcome) → Short (decided_events r key o)
    go None = Nil
    go (Some o) = One _
short_answer r x (Uncoloured key target session) = Nil
short_answer r x (Freeing serial) = Nil
short_answer r x (Ending session) = Nil
short_answer r x (Receiving n) = Nil
short_answer r x (Awaiting name) = Nil

short_packet : (r from : ℕ) (o : Option Packet) → Short (packet_events r from o)
short_packet r from None = Nil
short_packet r from (Some (Agreeing p)) = One _
short_packet r from (Some (Message m)) = Nil
short_packet r from (Some (Marker c)) = Nil

pub short_events : (r : ℕ) (x : Rank) (act : Act) (p : Option Packet) → Short (act_events r x act p)
short_events r x (Call t op) p = short_call r x (effect_of x.setting x.rank (around_here x) x.local op)
short_events r x (Answer t) p = short_answer r x (thread_at x t).waits
short_events r x (Deliver from) p = short_packet r from p
short_events r x (MakeOffer key) p = One _
short_events r x (Settle key) p = One _
short_events r x (Leave c) p = Nil
short_events r x (Back c) p = One _

-- the first event brings a verdict on the key to the rank
abbrev pub SaidFirst : agreement.World → List Event → ℕ → Key → Type 0
SaidFirst a [] q key = ⊥
SaidFirst a (e ∷ es) q key = is_key (verdict_at a e q) key ≡ true

masks_along : (top : ℕ) (a : agreement.World) (es : List Event) (q : ℕ) (key : Key) → Short es → MasksStayThere top a → is_key (part_at a q).owner key ≡ true → ((part_at (run top es a) q).mask ≡ (part_at a q).mask) ⊎ SaidFirst a es q key
masks_along top a es q key Nil stay own = inl refl
masks_along top a es q key (One e) stay own = stay e q key own

-- of a protocol run: where a rank's mask has an owner, a choice leaves the mask, or brings that rank a verdict on the owner
pub masks_stay_there : (s : Setting) (w : World) (es : List Event) (r : ℕ) (act : Act) → Projected s w es → Mirrors s.contexts w (run s.contexts es (agreement.opening s.ranks s.contexts)) r act → length (moved w (record { rank = r; act = act })).ranks ≡ length w.ranks
    → (q : ℕ) (key : Key) → q < length w.ranks → is_key (rank_at w q).agree.owner key ≡ true
    → ((rank_at (moved w (record { rank = r; act = act })) q).agree.mask ≡ (rank_at w q).agree.mask) ⊎ SaidFirst (run s.contexts es (agreement.opening s.ranks s.contexts)) (events_at w r act) q key
masks_stay_there s w es r act p m size q key lt own =
    let a = run s.contexts es (agreement.opening s.ranks s.contexts) in
    let here = same_part w a q p.projects lt in
    let there = same_part (moved w (record { rank = r; act = act })) (run s.contexts (events_at w r act) a) q m.projects (omega (arith, size, lt)) in
    let along = masks_along s.contexts a (events_at w r act) q key (short_events r (rank_at w r) act (head_for w r act)) (masks_stay s.contexts a (ruled s es).holds.kept) (subst (λ (b : Agree). is_key b.owner key ≡ true) (sym here) own) in
    ⊎_elim (λ (e : (part_at (run s.contexts (events_at w r act) a) q).mask ≡ (part_at a q).mask). inl (sym (ap (λ (b : Agree). b.mask) there) ∙ (e ∙ ap (λ (b : Agree). b.mask) here)))
    (λ (v : SaidFirst a (events_at w r act) q key). inr v) along

masks_step : (s : Setting) (w : World) (es : List Event) (c : Choice) → SetsAreOfRanks s → Follows s w es → may_happen w c ≡ true → NamesAreKnownFor (rank_at w c.rank) c.act → (q : ℕ) (key : Key) → q < length w.ranks → is_key (rank_at w q).agree.owner key ≡ true
    → ((rank_at (moved w c) q).agree.mask ≡ (rank_at w q).agree.mask) ⊎ SaidFirst (run s.contexts es (agreement.opening s.ranks s.contexts)) (events_at w c.rank c.act) q key
masks_step s w es c sets h may known q key lt own =
    let inside : c.rank < length w.ranks = grind (arith, nat_tests, may) in
    let fits = act_fits s sets w es h c.rank inside c.act (right_of _ _ (right_of _ _ may)) known in
    let next = projected-moved s w es c h.projected may fits in
    masks_stay_there s w es c.rank c.act h.projected (mirrored s w es c.rank c.act h.projected may fits) (next.count ∙ sym h.projected.count) q key lt own

-- In the words of the protocol: the choice is the rank's settle of the key, or a delivery of a verdict on it to the rank

-- an act brings its rank a verdict on the key
abbrev Brings : Act → Option Packet → Key → Type 0
Brings act p key = is_key (key_of_verdict act p) key ≡ true

here_or_none : (r q : ℕ) (o : Option Key) (key : Key) → is_key (if r == q then o else None) key ≡ true → (r ≡ q) × (is_key o key ≡ true)
here_or_none r q o key e = go (r == q) refl e
  where
    go : (b : Bool) → (r == q) ≡ b → is_key (if b then o else None) key ≡ true → (r ≡ q) × (is_key o key ≡ true)
    go true t f = (grind (arith, nat_tests, t), f)
    go false t f = absurd (cc (f))

brings_packet : (s : Setting) (w : World) (es : List Event) (r from : ℕ) (o : Option Packet) (q : ℕ) (key : Key) → Projected s w es → r < length w.ranks → from < length w.ranks → slice_get (link w from r) 0 ≡ o
    → SaidFirst (run s.contexts es (agreement.opening s.ranks s.contexts)) (packet_events r from o) q key → (r ≡ q) × Brings (Deliver from) o key
brings_packet s w es r from None q key p lt lf e said = absurd said
brings_packet s w es r from (Some (Message m)) q key p lt lf e said = absurd said
brings_packet s w es r from (Some (Marker c)) q key p lt lf e said = absurd said
brings_packet s w es r from (Some (Agreeing a)) q key p lt lf e said =
    let t = agreement_taken w (run s.contexts es (agreement.opening s.ranks s.contexts)) from r a p.projects lf lt e in
    let h = here_or_none r q (key_down (head_of (run s.contexts es (agreement.opening s.ranks s.contexts)).links from r)) key said in
    (h.0, subst (λ o. is_key (key_down o) key ≡ true) t.head h.1)

brings_verdict : (s : Setting) (w : World) (es : List Event) (c : Choice) (q : ℕ) (key : Key) → Projected s w es → may_happen w c ≡ true
    → SaidFirst (run s.contexts es (agreement.opening s.ranks s.contexts)) (events_at w c.rank c.act) q key → (c.rank ≡ q) × Brings c.act (head_for w c.rank c.act) key
brings_verdict s w es c q key p may said = go c.act may said
  where
    a : agreement.World
    a = run s.contexts es (agreement.opening s.ranks s.contexts)

    call : (x : Rank) (e : Effect ℕ) → SaidFirst (run s.contexts es (agreement.opening s.ranks s.contexts)) (call_events c.rank x e) q key → ⊥
    call x (Says said) e = e
    call x (Opens target) e = e
    call x (Groups target members session) e = e
    call x (Ungroups name) e = e
    call x (Joins m) e = by m.origin e
      where
        by : (o : Origin ℕ) → SaidFirst (run s.contexts es (agreement.opening s.ranks s.contexts)) (opening_events c.rank x o) q key → ⊥
        by (Grouped group tag) e = absurd (cc (e))
        by (Duplicated d) e = absurd (cc (e))
        by (Divided d share) e = absurd (cc (e))
        by (GroupedOn d tag group) e = absurd (cc (e))
    call x (Frees name d) e = e
    call x (Ends name z) e = e
    call x (Sends m) e = e
    call x (Receives m) e = e
    call x (Posts target m) e = e
    call x (NullPosts target) e = e
    call x (Completes name n) e = e
    call x (Awaits name) e = e

    answer : (x : Rank) (z : Waits) → SaidFirst (run s.contexts es (agreement.opening s.ranks s.contexts)) (answer_events c.rank x z) q key → ⊥
    answer x Nothing e = e
    answer x (Creation k target session) e = by (outcome_of (stage_of x.agree.opened k)) e
      where
        by : (o : Option Outcome) → SaidFirst (run s.contexts es (agreement.opening s.ranks s.contexts)) (decided_events c.rank k o) q key → ⊥
        by None e = e
        by (Some o) e = absurd (cc (e))
    answer x (Uncoloured k target session) e = e
    answer x (Freeing serial) e = e
    answer x (Ending session) e = e
    answer x (Receiving n) e = e
    answer x (Awaiting name) e = e

    go : (act : Act) → may_happen w (record { rank = c.rank; act = act }) ≡ true → SaidFirst (run s.contexts es (agreement.opening s.ranks s.contexts)) (events_at w c.rank act) q key → (c.rank ≡ q) × Brings act (head_for w c.rank act) key
    go (Call t op) m e = absurd (call (rank_at w c.rank) (effect_of (rank_at w c.rank).setting (rank_at w c.rank).rank (around_here (rank_at w c.rank)) (rank_at w c.rank).local op) e)
    go (Answer t) m e = absurd (answer (rank_at w c.rank) (thread_at (rank_at w c.rank) t).waits e)
    go (Deliver from) m e = brings_packet s w es c.rank from (slice_get (link w from c.rank) 0) q key p (grind (arith, nat_tests, m)) (grind (arith, nat_tests, m)) refl e
    go (MakeOffer k) m e = absurd (cc (e))
    go (Settle k) m e = here_or_none c.rank q (Some k) key e
    go (Leave d) m e = absurd e
    go (Back d) m e = absurd (cc (e))

pub masks_stay_in_runs : (s : Setting) (w : World) (es : List Event) → SetsAreOfRanks s → Follows s w es → MasksStay w
masks_stay_in_runs s w es sets h c q key may known lt own =
    ⊎_elim (λ (m : (rank_at (moved w c) q).agree.mask ≡ (rank_at w q).agree.mask). inl m)
    (λ (v : SaidFirst (run s.contexts es (agreement.opening s.ranks s.contexts)) (events_at w c.rank c.act) q key). inr (let b = brings_verdict s w es c q key h.projected may v in record { rank = b.0; verdict = b.1 }))
    (masks_step s w es c sets h may known q key lt own)
