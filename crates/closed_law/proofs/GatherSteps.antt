-- Every choice keeps the topic of exchanges: a call of a split adds a share that is pending, a settle ends all, and any other choice
-- leaves what is pending and who waits for it.
use Rattle.std.proofs.Common.{◌≡◌, ◌≢◌, ◌⊎◌, ◌<◌, ◌+◌, ◌==◌, ◌++◌, nat_lt, ℕ, Bool, true, false, List, [], ◌∷◌, length, set, Option, Some, None, refl, sym, ap, ◌∙◌, subst, inl, inr, arith, length-set}
use Rattle.std.specs.Prelude.{slice_get}
use Rattle.std.proofs.lemmas.Bool.Decides.{nat_tests}
use Rattle.mpi_base.specs.MemberLists.{has_rank}
use Rattle.mpi_base.specs.declared.keys.Key.{Key}
use Rattle.mpi_base.specs.declared.keys.Kind.TheVariants as kind
use Rattle.mpi_base.specs.declared.ops.Op.{Op}
use Rattle.mpi_base.specs.declared.replies.Reply.{Reply}
use Rattle.mpi_base.specs.declared.messages.Matched.{Matched}
use Rattle.mpi_base.specs.declared.shares.Shared1.{Shared1}
use Rattle.mpi_base.specs.declared.entries.Act.{Act}
use Rattle.mpi_base.specs.declared.entries.Act.TheVariants.{Call, Answer, Deliver, Offer as MakeOffer, Settle, Leave, Back}
use Rattle.mpi_base.specs.declared.entries.Said.{Said}
use Rattle.mpi_base.specs.declared.entries.Said.TheVariants as said
use Rattle.mpi_base.specs.Keys.{same_key}
use Rattle.mpi_base.proofs.KeyFacts.{same_key_is, same_key-refl}
use Rattle.mpi_law.specs.declared.setting.Setting.{Setting}
use Rattle.mpi_law.specs.declared.setting.TheConstants.{THREADS}
use Rattle.mpi_law.specs.declared.effects.Asked.{Asked as Asking}
use Rattle.mpi_law.specs.declared.effects.Origin.{Origin}
use Rattle.mpi_law.specs.declared.effects.Origin.TheVariants.{Grouped, Duplicated, Divided, GroupedOn}
use Rattle.mpi_law.specs.declared.effects.Effect.{Effect}
use Rattle.mpi_law.specs.declared.effects.Effect.TheVariants.{Says, Opens, Groups, Ungroups, Joins, Frees, Ends, Sends as SendsMessage, Receives, Posts as PostsReceive, NullPosts, Completes, Awaits}
use Rattle.mpi_law.specs.Local.Effects.{is_said, local_after}
use Rattle.mpi_law.specs.Registry.State.{Registry, Creation, Creating, ThreadPart, creation_at, part_of, thread_of}
use Rattle.mpi_law.specs.Registry.Creations.{is_split, has_called, all_called}
use Rattle.mpi_law.specs.Registry.Calls.{effect_at}
use Rattle.mpi_law.specs.Registry.Events.{Event as Told, Calls, registry_next}
use Rattle.mpi_law.specs.Registry.Runs.{registry_after}
use Rattle.agree_law.specs.declared.rows.Outcome.{Outcome}
use Rattle.agree_law.specs.Tree.{place_in, member_at}
use Rattle.agree_law.specs.Part.{Agree, stage_of}
use Rattle.agree_law.specs.Shares.{share_list}
use Rattle.agree_law.specs.Kinds.{is_share}
use Rattle.agree_law.specs.Moves.{may_settle}
use Rattle.agree_law.specs.World as agreement
use Rattle.agree_law.specs.World.{Event, Begin_share, run, part_at}
use Rattle.agree_law.proofs.Lists.{AllOf, AllOf-append, one}
use Rattle.agree_law.proofs.TreeFacts.{member_place}
use Rattle.share_law.specs.Facts as share
use Rattle.share_law.proofs.Exchanges.{Exchanges}
use Rattle.mpi_protocol.specs.declared.rows.Waits.{Waits}
use Rattle.mpi_protocol.specs.declared.rows.Waits.TheVariants.{Nothing, Creation as Creates, Uncoloured, Freeing, Ending, Receiving, Awaiting}
use Rattle.mpi_protocol.specs.Packets.{Packet, Agreeing, Message, Marker}
use Rattle.mpi_protocol.specs.Rank.{Rank, thread_at}
use Rattle.mpi_protocol.specs.Answers.{outcome_of}
use Rattle.mpi_protocol.specs.Calls.{calls, called, key_of, key_on}
use Rattle.mpi_protocol.specs.Step.{step, is_enabled}
use Rattle.mpi_protocol.specs.Order.{is_call}
use Rattle.mpi_protocol.specs.Run.{entry_events, match_events, reply_events, pick_events, back_events}
use Rattle.mpi_protocol.specs.World.{World, rank_at, head_for, may_happen, moved, move_of, entry_at}
use Rattle.projection_law.specs.Premises.{SetsAreOfRanks}
use Rattle.projection_law.specs.Facts.{EachMayHappen, MaySettleShare, IsToldList}
use Rattle.projection_law.specs.Events.{opening_events, call_events, answer_events, decided_events, packet_events, events_at}
use Rattle.projection_law.proofs.Projected.{same_part}
use Rattle.projection_law.proofs.Laws.{settled_shares_are_told_there}
use Rattle.projection_law.proofs.Runs.{mirrored, ruled}
use Rattle.projection_law.proofs.SoundRuns.{act_fits}
use Rattle.due_law.specs.Dues.{Dues}
use Rattle.due_law.specs.Runs.{dues_chosen}
use Rattle.run_law.proofs.Alike.{Alike, says, opens, groups, ungroups, grouped, duplicated, divided, grouped_on, frees, ends, sends, receives, posts, null_posts, completes, awaits, effects_alike}
use Rattle.run_law.proofs.Agreed.{TellsShare, AllTold}
use Rattle.run_law.proofs.Calling.{moved_ranks}
use Rattle.run_law.proofs.Joined.{rank_in}
use Rattle.run_law.proofs.OneRank.{rank_set, each_rank}
use Rattle.run_law.proofs.SharingSteps.{told_by_all}
use Rattle.run_law.proofs.SettleSteps.{exchange_is}
use Rattle.run_law.proofs.Threads.{row_of}
use Rattle.mpi_law.specs.Local.Effects.{said_at_once}
use Rattle.message_law.proofs.CallEvents.{within, effect_here, events_of, call_entry}
use Rattle.registry_law.proofs.Entries.{choice_of, events_by}
use Rattle.registry_law.proofs.Exchanging.{sharing_stage, item_there}
use Rattle.registry_law.proofs.Steps.{StepGoes, step_goes}
use Rattle.registry_law.proofs.Together.{Together}
use Rattle.closed_law.proofs.Asked.{Asked}
use Rattle.closed_law.proofs.Pending.{one_of}
use Rattle.closed_law.proofs.PendingEvents.{IsOther, pending-others, calls_anew, pending-called, pending-ended}
use Rattle.closed_law.proofs.ExchangeWaits.{Waited, stays, step_waits, after_call, Caller, the_caller, another, call_waits, caller_waits, Divides, divides, calls_no_class}
use Rattle.closed_law.proofs.CreationEvents.{Later, then, is_calling, all_later, is_join, call_later, Joining, call_joins}
use Rattle.closed_law.proofs.Gathering.{InExchange, pending_of, Gathers, Gathering, agreed, parts_are, fits, shares, good, member_rank, splits, one_exchange, early_caller, exchange_of}

all_same : (c d : Creation) → d.callers ≡ c.callers → d.group ≡ c.group → all_called d ≡ all_called c
all_same c d e f = rw (e, f) refl

called_same : (c d : Creation) (q : ℕ) → d.callers ≡ c.callers → has_called d q ≡ has_called c q
called_same c d q e = rw e refl

-- The events of an act

-- no act but a call has a call in its entry
plain_picks : (r : ℕ) (key : Key) (o : Option Said) → AllOf (λ (e : Told). is_calling e ≡ false) (pick_events r key o)
plain_picks r key None = tt
plain_picks r key (Some said.Own) = tt
plain_picks r key (Some said.Zero) = tt
plain_picks r key (Some said.Ready) = tt
plain_picks r key (Some said.Retry) = tt
plain_picks r key (Some (said.Picked c)) = (refl, tt)
plain_picks r key (Some said.Exhausted) = (refl, tt)
plain_picks r key (Some said.Shared) = tt

plain_matches : (r : ℕ) (o : Option Matched) → AllOf (λ (e : Told). is_calling e ≡ false) (match_events r o)
plain_matches r None = tt
plain_matches r (Some m) = (refl, tt)

plain_replies : (r t : ℕ) (o : Option Reply) → AllOf (λ (e : Told). is_calling e ≡ false) (reply_events r t o)
plain_replies r t None = tt
plain_replies r t (Some z) = (refl, tt)

plain_backs : (r c : ℕ) (o : Option ℕ) → AllOf (λ (e : Told). is_calling e ≡ false) (back_events r c o)
plain_backs r c None = tt
plain_backs r c (Some k) = (refl, tt)

plain_within : (r t : ℕ) (e : Effect ℕ) → AllOf (λ (e : Told). is_calling e ≡ false) (within r t e)
plain_within r t (Says z) = tt
plain_within r t (Opens target) = tt
plain_within r t (Groups target members session) = tt
plain_within r t (Ungroups name) = tt
plain_within r t (Joins a) = tt
plain_within r t (Frees name c) = tt
plain_within r t (Ends name q) = tt
plain_within r t (SendsMessage m) = (refl, tt)
plain_within r t (Receives x) = (refl, tt)
plain_within r t (PostsReceive target x) = (refl, tt)
plain_within r t (NullPosts target) = tt
plain_within r t (Completes name n) = tt
plain_within r t (Awaits name) = tt

plain_act : (w : World) (r : ℕ) → (rank_at w r).rank ≡ r → (act : Act) → is_call act ≡ false → AllOf (λ (e : Told). is_calling e ≡ false) (entry_events (entry_at w (choice_of r act)))
unfolding step
plain_act w r named (Call t op) e = absurd (cc (e))
plain_act w r named (Answer t) e = rw (events_by w r (Answer t) named) (plain_replies r t _)
plain_act w r named (Deliver from) e = rw (events_by w r (Deliver from) named) (plain_matches r _)
plain_act w r named (MakeOffer key) e = rw (events_by w r (MakeOffer key) named) tt
plain_act w r named (Settle key) e = rw (events_by w r (Settle key) named) (plain_picks r key _)
plain_act w r named (Leave c) e = rw (events_by w r (Leave c) named) tt
plain_act w r named (Back c) e = rw (events_by w r (Back c) named) (plain_backs r c _)

abbrev is_settle : Act → Bool
is_settle (Call t op) = false
is_settle (Answer t) = false
is_settle (Deliver from) = false
is_settle (MakeOffer key) = false
is_settle (Settle key) = true
is_settle (Leave c) = false
is_settle (Back c) = false

-- in the agreement neither a call nor a settle of an exchange
other_events : (key : Key) (w : World) (r : ℕ) (act : Act) → is_call act ≡ false → is_settle act ≡ false → AllOf (IsOther key) (events_at w r act)
other_events key w r (Call t op) e f = absurd (cc (e))
other_events key w r (Answer t) e f = go (thread_at (rank_at w r) t).waits
  where
    by : (k : Key) (o : Option Outcome) → AllOf (IsOther key) (decided_events r k o)
    by k None = tt
    by k (Some o) = (tt, tt)

    go : (a : Waits) → AllOf (IsOther key) (answer_events r (rank_at w r) a)
    go Nothing = tt
    go (Creates k target session) = by k (outcome_of (stage_of (rank_at w r).agree.opened k))
    go (Uncoloured k target session) = tt
    go (Freeing serial) = tt
    go (Ending session) = tt
    go (Receiving n) = tt
    go (Awaiting name) = tt
other_events key w r (Deliver from) e f = go (head_for w r (Deliver from))
  where
    go : (o : Option Packet) → AllOf (IsOther key) (packet_events r from o)
    go None = tt
    go (Some (Agreeing p)) = (tt, tt)
    go (Some (Message m)) = tt
    go (Some (Marker c)) = tt
other_events key w r (MakeOffer k) e f = (tt, tt)
other_events key w r (Settle k) e f = absurd (cc (f))
other_events key w r (Leave c) e f = tt
other_events key w r (Back c) e f = (tt, tt)

-- Effects of one call, at a rank and in the registry

joined_effect : (e : Effect ℕ) → is_join e ≡ true → (a : Asking ℕ) × (e ≡ Joins a)
joined_effect (Joins a) j = (a, refl)
joined_effect e j = absurd (cc (j))

no_wait : (x : Rank) (e : Effect ℕ) (key : Key) (target : List ℕ) (session : ℕ) → is_join e ≡ false → after_call x e ≡ Creates key target session → ⊥
no_wait x (Joins a) key target session j h = cc (j)
no_wait x e key target session j h = cc (h)

no_events : (r : ℕ) (x : Rank) (e : Effect ℕ) → is_join e ≡ false → call_events r x e ≡ []
no_events r x (Says said) j = refl
no_events r x (Opens target) j = refl
no_events r x (Groups target members session) j = refl
no_events r x (Ungroups name) j = refl
no_events r x (Joins a) j = absurd (cc (j))
no_events r x (Frees name c) j = refl
no_events r x (Ends name q) j = refl
no_events r x (SendsMessage m) j = refl
no_events r x (Receives a) j = refl
no_events r x (PostsReceive target a) j = refl
no_events r x (NullPosts target) j = refl
no_events r x (Completes name n) j = refl
no_events r x (Awaits name) j = refl

module _ (s : Setting) (sets : SetsAreOfRanks s) (w : World) (es : List Event) (due : Dues) (g : Registry) (z : Together s w es due g) (asked : Asked s g) (old : Gathering w (agreed s es) g) (r : ℕ) (lr : r < length w.ranks) where
  abbrev x : Rank
  x = rank_at w r

  lt : r < s.ranks
  lt = let n = z.joined.sizes.ranks_are in omega (arith, n, lr)

  named : x.rank ≡ r
  named = z.joined.sizes.number r lt

  alike_joins : (e f : Effect ℕ) → Alike s w.ranks due g r z.joined e f → is_join e ≡ is_join f
  alike_joins e f (says said) = refl
  alike_joins e f (opens target free) = refl
  alike_joins e f (groups target members session free) = refl
  alike_joins e f (ungroups name) = refl
  alike_joins e f (grouped h zs tag target session here free apart) = refl
  alike_joins e f (duplicated c p session target h free) = refl
  alike_joins e f (divided c p session share target h free) = refl
  alike_joins e f (grouped_on c p session tag ms target h within free apart) = refl
  alike_joins e f (frees name c p session h b) = refl
  alike_joins e f (ends name session h) = refl
  alike_joins e f (sends c p session to tag payload h inside) = refl
  alike_joins e f (receives c p session from tag room h) = refl
  alike_joins e f (posts c p session from tag room target h free) = refl
  alike_joins e f (null_posts target free) = refl
  alike_joins e f (completes name number) = refl
  alike_joins e f (awaits name) = refl

  module _ (act : Act) (may : may_happen w (choice_of r act) ≡ true) where
    abbrev next : World
    next = moved w (choice_of r act)

    abbrev later_registry : Registry
    later_registry = registry_after s g (entry_events (entry_at w (choice_of r act)))

    abbrev after : agreement.World
    after = run s.contexts (events_at w r act) (agreed s es)

    step_to : StepGoes s w es due g (choice_of r act)
    step_to = step_goes s sets w es due g z (choice_of r act) may

    can : is_enabled x act ≡ true
    can = grind (arith, may)

    each_may : EachMayHappen s.contexts (agreed s es) (events_at w r act)
    each_may = (mirrored s w es r act z.follows.projected may (act_fits s sets w es z.follows r lr act can step_to.names)).may

    ranks_are : length next.ranks ≡ length w.ranks
    ranks_are = ap length (moved_ranks w (choice_of r act)) ∙ length-set w.ranks r (move_of w (choice_of r act)).state

    exchange_there : (key : Key) → share.is_exchange s.ranks key ≡ true → share.is_exchange (length (agreed s es).parts) key ≡ true
    exchange_there key e = let size = parts_are s w es due g z in rw size e

    -- what other events leave pending
    others_stay : (key : Key) → share.is_exchange s.ranks key ≡ true → AllOf (IsOther key) (events_at w r act) → (q : ℕ) → has_rank key.members q ≡ true → pending_of after key q ≡ pending_of (agreed s es) key q
    others_stay key e other q i = pending-others s.contexts (events_at w r act) (agreed s es) (ruled s es).holds (ruled s es).exchanges key (exchange_there key e) (place_in key.members q) (member_place key.members q i).0 each_may other

    -- nothing of an exchange changes
    same_at : (n q : ℕ) (key : Key) → has_rank key.members q ≡ true → (creation_at later_registry n).callers ≡ (creation_at g n).callers → (creation_at later_registry n).group ≡ (creation_at g n).group
        → ((i : ℕ) → has_rank key.members i ≡ true → pending_of after key i ≡ pending_of (agreed s es) key i) → Gathers (agreed s es) g n q key → Gathers after later_registry n q key
    same_at n q key member ec eg stay h = record {
      alike = λ e i there called. stay i there ∙ h.alike (sym (stay q member) ∙ e) i there (sym (called_same (creation_at g n) (creation_at later_registry n) i ec) ∙ called);
      early = λ few. stay q member ∙ h.early (sym (all_same (creation_at g n) (creation_at later_registry n) ec eg) ∙ few);
    }

    -- who waits in an exchange did so before
    module _ (later : Later g later_registry) (waited : Waited x.threads (move_of w (choice_of r act)).state.threads) where
      was_there : (n q u : ℕ) (key : Key) → InExchange next later_registry n q u key → InExchange w g n q u key
      was_there n q u key h = record {
        inside = let size = ranks_are in let i = h.inside in omega (arith, size, i);
        target = h.target;
        session = h.session;
        waits = each u key h.target h.session h.exchange h.waits;
        part_waits = later.waits q u n h.part_waits;
        exchange = h.exchange;
      }
        where
          each : Waited (rank_at w q).threads (rank_at next q).threads
          each = rw (moved_ranks w (choice_of r act)) (each_rank (λ i y. Waited (rank_in w.ranks i).threads y.threads) w.ranks r (move_of w (choice_of r act)).state lr waited (λ i ne. stays (rank_in w.ranks i).threads) q)

      kept_by : ((key : Key) → AllOf (IsOther key) (events_at w r act)) → Gathering next after later_registry
      kept_by other n q u key h =
          let b = was_there n q u key h in
          same_at n q key (fits s w es due g z n q u key b).member (later.callers n) (later.group n) (others_stay key (good s w es due g z n q u key b) (other key)) (old n q u key b)

  -- A choice that is no call and no settle

  plainly : (act : Act) → may_happen w (choice_of r act) ≡ true → is_call act ≡ false → is_settle act ≡ false → Gathering (moved w (choice_of r act)) (run s.contexts (events_at w r act) (agreed s es)) (registry_after s g (entry_events (entry_at w (choice_of r act))))
  plainly act may e f = kept_by act may (all_later s g (entry_events (entry_at w (choice_of r act))) (plain_act w r named act e)) (step_waits x act (head_for w r act) e) (λ key. other_events key w r act e f)

  -- A settle

  module _ (k : Key) (may : may_happen w (choice_of r (Settle k)) ≡ true) where
    settle_later : Later g (later_registry (Settle k) may)
    settle_later = all_later s g (entry_events (entry_at w (choice_of r (Settle k)))) (plain_act w r named (Settle k) refl)

    settle_there : (n q u : ℕ) (key : Key) → InExchange (next (Settle k) may) (later_registry (Settle k) may) n q u key → InExchange w g n q u key
    settle_there = was_there (Settle k) may settle_later (step_waits x (Settle k) None refl)

    may_share : is_share k.kind ≡ true → MaySettleShare w r k
    unfolding is_enabled may_settle
    may_share e = record { inside = lr; may = grind (arith, may, e) }

    all_told : (m : MaySettleShare w r k) → AllTold w.ranks k (share_list x.agree.shares k)
    all_told m = record { long = told.long; each = λ p inside. each p inside }
      where
        told : IsToldList w k (share_list x.agree.shares k)
        told = settled_shares_are_told_there s w es z.follows.projected r k m

        each : (p : ℕ) → p < length k.members → TellsShare (rank_in w.ranks (member_at k.members p)) k (slice_get (share_list x.agree.shares k) p)
        each p inside =
            let long = told.long in
            let i = item_there (share_list x.agree.shares k) p (omega (arith, long, inside)) in
            let here : share.sharing_of (stage_of (rank_at w (member_at k.members p)).agree.opened k) ≡ Some i.item = sym (told.told p inside) ∙ i.is in
            record { share = i.item; stage = sharing_stage (stage_of (rank_at w (member_at k.members p)).agree.opened k) i.item here; item_is = i.is }

    settled : Gathering (next (Settle k) may) (after (Settle k) may) (later_registry (Settle k) may)
    settled n q u key h = go (same_key k key) refl
      where
        b : InExchange w g n q u key
        b = settle_there n q u key h

        member : has_rank key.members q ≡ true
        member = (fits s w es due g z n q u key b).member

        ended : k ≡ key → pending_of (after (Settle k) may) key q ≡ 0
        ended is =
            let there = exchange_there (Settle k) may key (good s w es due g z n q u key b) in
            subst (λ (i : Key). pending_of (run s.contexts (agreement.Settle r i ∷ []) (agreed s es)) key q ≡ 0) (sym is)
            (pending-ended s.contexts (agreed s es) r key (ruled s es).exchanges (subst (λ (i : Key). agreement.may_happen s.contexts (agreed s es) (agreement.Settle r i) ≡ true) is (each_may (Settle k) may).0) there (place_in key.members q) (member_place key.members q member).0)

        all : k ≡ key → all_called (creation_at g n) ≡ true
        all is =
            let share_kind : is_share k.kind ≡ true = ap (λ (i : Key). is_share i.kind) is ∙ (sym (exchange_is key.kind) ∙ b.exchange) in
            let m = may_share share_kind in
            (told_by_all s w.ranks due g k (share_list x.agree.shares k) z.joined (all_told m) q u n b.target b.session (b.waits ∙ ap (λ (i : Key). Creates i b.target b.session) (sym is)) b.part_waits).all

        go : (t : Bool) → same_key k key ≡ t → Gathers (after (Settle k) may) (later_registry (Settle k) may) n q key
        go false e = same_at (Settle k) may n q key member (settle_later.callers n) (settle_later.group n) (others_stay (Settle k) may key (good s w es due g z n q u key b) (e, tt)) (old n q u key b)
        go true e =
            let is = same_key_is k key e in
            record {
              alike = λ one i there called. absurd (let none = ended is in cc (one, none));
              early = λ few. absurd (let everyone = all is in let same = all_same (creation_at g n) (creation_at (later_registry (Settle k) may) n) (settle_later.callers n) (settle_later.group n) in cc (few, everyone, same));
            }

  -- A call

  module _ (t : ℕ) (op : Op) (may : may_happen w (choice_of r (Call t op)) ≡ true) where
    abbrev here : Effect ℕ
    here = effect_here x op

    abbrev there : Effect ℕ
    there = effect_at s g r op

    abbrev calling : Act
    calling = Call t op

    thread_inside : t < THREADS
    unfolding is_enabled
    thread_inside = let e = can calling may in grind (arith, nat_tests, e)

    alike : is_join here ≡ is_join there
    alike = alike_joins here there (effects_alike s w.ranks due g r z.joined lt op)

    state_is : (move_of w (choice_of r calling)).state ≡ (called x t here).state
    unfolding step calls
    state_is = refl

    entry : entry_events (entry_at w (choice_of r calling)) ≡ events_of x r t op here
    entry = call_entry w r t op here refl named

    long : t < length x.threads
    long = let l = (z.joined.threads r).long in let i = thread_inside in omega (arith, l, i)

    -- one that joins no creation

    module _ (none : is_join here ≡ false) where
      call_later_all : Later g (later_registry calling may)
      unfolding registry_next
      call_later_all =
          rw entry (then g (registry_next s g (Calls r t op (is_said here))) (registry_after s (registry_next s g (Calls r t op (is_said here))) after_it) (call_later g r t (local_after (part_of g r).receives (part_of g r).local there) there (sym alike ∙ none))
          (all_later s (registry_next s g (Calls r t op (is_said here))) after_it
          (AllOf-append (λ (e : Told). is_calling e ≡ false) (within r t here ++ match_events r (called x t here).matched) (reply_events r t (said_at_once here)) (AllOf-append (λ (e : Told). is_calling e ≡ false) (within r t here) (match_events r (called x t here).matched) (plain_within r t here) (plain_matches r (called x t here).matched)) (plain_replies r t (said_at_once here)))))
        where
          after_it : List Told
          after_it = within r t here ++ match_events r (called x t here).matched ++ reply_events r t (said_at_once here)

      call_waited : Waited x.threads (called x t here).state.threads
      call_waited u key target session ex e = go (call_waits x t here long u key target session e)
        where
          go : Caller x t u here key target session → (row_of x.threads u).waits ≡ Creates key target session
          go (the_caller is h) = absurd (no_wait x here key target session none h)
          go (another ne h) = h

      joins_none : Gathering (next calling may) (after calling may) (later_registry calling may)
      joins_none = kept_by calling may call_later_all (subst (λ (y : Rank). Waited x.threads y.threads) (sym state_is) call_waited) (λ key. rw (no_events r x here none) tt)

    -- one that joins a creation

    module _ (a b : Asking ℕ) (here_is : here ≡ Joins a) (there_is : there ≡ Joins b) where
      events : events_at w r calling ≡ opening_events r x a.origin
      events = ap (call_events r x) here_is

      joined : Joining g (later_registry calling may) r t
      unfolding registry_next
      joined =
          let n = asked.ranks in
          let l = asked.threads r in
          let q = lt in
          let i = thread_inside in
          rw (entry, here_is) (rw there_is (call_joins g r t (omega (arith, n, q)) (omega (arith, l, i)) (local_after (part_of g r).receives (part_of g r).local (Joins b)) b))

      -- who waits in an exchange is the caller, or did so before
      data Who (n q u : ℕ) (key : Key) (target : List ℕ) (session : ℕ) : Type 0 where
        is_caller : q ≡ r → u ≡ t → after_call x (Joins a) ≡ Creates key target session → Who n q u key target session
        is_other : q ≢ r ⊎ u ≢ t → InExchange w g n q u key → Who n q u key target session

      who : (n q u : ℕ) (key : Key) (h : InExchange (next calling may) (later_registry calling may) n q u key) → Who n q u key h.target h.session
      who n q u key h = go (rank_set w.ranks r (move_of w (choice_of r calling)).state q lr)
        where
          waits : (row_of (rank_in (set w.ranks r (move_of w (choice_of r calling)).state) q).threads u).waits ≡ Creates key h.target h.session
          waits = ap (λ (ys : List Rank). (row_of (rank_in ys q).threads u).waits) (sym (moved_ranks w (choice_of r calling))) ∙ h.waits

          before : q ≢ r ⊎ u ≢ t → (row_of (rank_at w q).threads u).waits ≡ Creates key h.target h.session → InExchange w g n q u key
          before ne e = record {
            inside = let size = ranks_are calling may in let i = h.inside in omega (arith, size, i);
            target = h.target;
            session = h.session;
            waits = e;
            part_waits = ap (λ (y : ThreadPart). y.wait) (sym (joined.others q u (apart ne))) ∙ h.part_waits;
            exchange = h.exchange;
          }
            where
              apart : q ≢ r ⊎ u ≢ t → (q ≡ r) → (u ≡ t) → ⊥
              apart (inl ne) a b = ne a
              apart (inr ne) a b = ne b

          by : q ≡ r → Caller x t u (Joins a) key h.target h.session → Who n q u key h.target h.session
          by at (the_caller is k) = is_caller at is k
          by at (another ne k) = is_other (inr ne) (before (inr ne) (rw at k))

          go : ((q ≡ r) × (rank_in (set w.ranks r (move_of w (choice_of r calling)).state) q ≡ (move_of w (choice_of r calling)).state)) ⊎ ((q ≢ r) × (rank_in (set w.ranks r (move_of w (choice_of r calling)).state) q ≡ rank_in w.ranks q)) → Who n q u key h.target h.session
          go (inr e) = is_other (inl e.0) (before (inl e.0) (sym (ap (λ (y : Rank). (row_of y.threads u).waits) e.1) ∙ waits))
          go (inl e) =
              let state : rank_in (set w.ranks r (move_of w (choice_of r calling)).state) q ≡ (called x t (Joins a)).state = e.1 ∙ (state_is ∙ ap (λ (f : Effect ℕ). (called x t f).state) here_is) in
              by e.0 (call_waits x t (Joins a) long u key h.target h.session (sym (ap (λ (y : Rank). (row_of y.threads u).waits) state) ∙ waits))

      who_called : (n i : ℕ) → n < length g.creations → has_called (creation_at (later_registry calling may) n) i ≡ true → ((i ≡ r) × ((thread_of (later_registry calling may) r t).wait ≡ Creating n)) ⊎ (has_called (creation_at g n) i ≡ true)
      who_called n i ln h = go (n == joined.place) refl
        where
          by : n ≡ joined.place → (i ≡ r) ⊎ (has_called (creation_at g joined.place) i ≡ true) → ((i ≡ r) × ((thread_of (later_registry calling may) r t).wait ≡ Creating n)) ⊎ (has_called (creation_at g n) i ≡ true)
          by is (inl e) = inl (e, joined.waits ∙ ap (λ (k : ℕ). Creating k) (sym is))
          by is (inr e) = inr (rw is e)

          go : (d : Bool) → (n == joined.place) ≡ d → ((i ≡ r) × ((thread_of (later_registry calling may) r t).wait ≡ Creating n)) ⊎ (has_called (creation_at g n) i ≡ true)
          go true e = let is : n ≡ joined.place = grind (arith, nat_tests, e) in by is ((joined.more (subst (λ (k : ℕ). k < length g.creations) is ln)).called i (subst (λ (k : ℕ). has_called (creation_at (later_registry calling may) k) i ≡ true) is h))
          go false e = inr (sym (ap (λ (c : Creation). has_called c i) (joined.same n (grind (arith, nat_tests, e)))) ∙ h)

      few_before : (n : ℕ) → n < length g.creations → all_called (creation_at (later_registry calling may) n) ≡ false → all_called (creation_at g n) ≡ false
      few_before n ln h = go (n == joined.place) refl
        where
          go : (d : Bool) → (n == joined.place) ≡ d → all_called (creation_at g n) ≡ false
          go true e = let is : n ≡ joined.place = grind (arith, nat_tests, e) in rw is ((joined.more (subst (λ (k : ℕ). k < length g.creations) is ln)).fewer (subst (λ (k : ℕ). all_called (creation_at (later_registry calling may) k) ≡ false) is h))
          go false e = sym (ap all_called (joined.same n (grind (arith, nat_tests, e)))) ∙ h

      -- a split is called: the share of the caller is pending then, and was not before
      module _ (key : Key) (sound : share.is_exchange s.ranks key ≡ true) (z1 : Shared1) (is : opening_events r x a.origin ≡ Begin_share r key z1 ∷ []) where
        begins : agreement.may_happen s.contexts (agreed s es) (Begin_share r key z1) ≡ true
        begins = (subst (EachMayHappen s.contexts (agreed s es)) (events ∙ is) (each_may calling may)).0

        more_pending : (i : ℕ) → has_rank key.members i ≡ true → pending_of (after calling may) key i ≡ pending_of (agreed s es) key i + one (r == i)
        more_pending i m =
            let place = member_place key.members i m in
            subst (λ (ev : List Event). pending_of (run s.contexts ev (agreed s es)) key i ≡ pending_of (agreed s es) key i + one (r == i)) (sym (events ∙ is))
            (subst (λ (k : ℕ). pending_of (run s.contexts (Begin_share r key z1 ∷ []) (agreed s es)) key i ≡ pending_of (agreed s es) key i + one (r == k)) place.1
            (pending-called s.contexts (agreed s es) r key z1 begins (exchange_there calling may key sound) (place_in key.members i) place.0))

        none_said : share.sharing_of (stage_of (part_at (agreed s es) r).opened key) ≡ None
        none_said = calls_anew s.contexts (agreed s es) r key z1 begins

        none_pending : has_rank key.members r ≡ true → pending_of (agreed s es) key r ≡ 0
        unfolding Exchanges
        none_pending m =
            let place = member_place key.members r m in
            let all = one_of (agreed s es) key (place_in key.members r) place.0 ((ruled s es).exchanges key (exchange_there calling may key sound)) in
            let none = ap (λ (k : ℕ). share.sharing_of (stage_of (part_at (agreed s es) k).opened key)) place.1 ∙ none_said in
            let known = rw none at all in
            omega (arith, known)

        not_there : (n u : ℕ) → InExchange w g n r u key → ⊥
        not_there n u h =
            let here_too = ap (λ (p : Agree). share.sharing_of (stage_of p.opened key)) (same_part w (agreed s es) r z.follows.projected.projects lr) in
            let shared = ap share.sharing_of (shares s w es due g z n r u key h).is in
            let none = none_said in
            cc (here_too, shared, none)

      world_after : Together s (next calling may) (es ++ events_at w r calling) (dues_chosen w due (choice_of r calling)) (later_registry calling may)
      world_after = (step_to calling may).together

      -- a thread of another rank waits as it did
      still_there : (n i u : ℕ) (key : Key) → i ≢ r → InExchange w g n i u key → InExchange (next calling may) (later_registry calling may) n i u key
      still_there n i u key ne h = record {
        inside = let size = ranks_are calling may in let k = h.inside in omega (arith, size, k);
        target = h.target;
        session = h.session;
        waits = ap (λ (ys : List Rank). (row_of (rank_in ys i).threads u).waits) (moved_ranks w (choice_of r calling)) ∙ (same (rank_set w.ranks r (move_of w (choice_of r calling)).state i lr) ∙ h.waits);
        part_waits = ap (λ (y : ThreadPart). y.wait) (joined.others i u (λ e f. ne e)) ∙ h.part_waits;
        exchange = h.exchange;
      }
        where
          same : ((i ≡ r) × (rank_in (set w.ranks r (move_of w (choice_of r calling)).state) i ≡ (move_of w (choice_of r calling)).state)) ⊎ ((i ≢ r) × (rank_in (set w.ranks r (move_of w (choice_of r calling)).state) i ≡ rank_in w.ranks i))
              → (row_of (rank_in (set w.ranks r (move_of w (choice_of r calling)).state) i).threads u).waits ≡ (row_of (rank_at w i).threads u).waits
          same (inl e) = absurd (ne e.0)
          same (inr e) = ap (λ (y : Rank). (row_of y.threads u).waits) e.1

      -- the caller of a split waits in its exchange
      newcomer : (n : ℕ) → is_split (creation_at (later_registry calling may) n).name ≡ true → (thread_of (later_registry calling may) r t).wait ≡ Creating n → InExchange (next calling may) (later_registry calling may) n r t (key_of x.comms a.origin)
      newcomer n split part = record {
        inside = let size = ranks_are calling may in omega (arith, size, lr);
        target = a.target;
        session = a.session;
        waits = waits;
        part_waits = part;
        exchange = exchange_of (later_registry calling may).comms r (key_of x.comms a.origin) (creation_at (later_registry calling may) n).name (world_after.joined.creations.each r t (key_of x.comms a.origin) a.target a.session n waits part).stands split
            (calls_no_class x (Joins a) (key_of x.comms a.origin) a.target a.session refl);
      }
        where
          state : rank_at (next calling may) r ≡ (called x t (Joins a)).state
          state = ap (λ (ys : List Rank). rank_in ys r) (moved_ranks w (choice_of r calling)) ∙ (at (rank_set w.ranks r (move_of w (choice_of r calling)).state r lr) ∙ (state_is ∙ ap (λ (f : Effect ℕ). (called x t f).state) here_is))
            where
              at : ((r ≡ r) × (rank_in (set w.ranks r (move_of w (choice_of r calling)).state) r ≡ (move_of w (choice_of r calling)).state)) ⊎ ((r ≢ r) × (rank_in (set w.ranks r (move_of w (choice_of r calling)).state) r ≡ rank_in w.ranks r)) → rank_in (set w.ranks r (move_of w (choice_of r calling)).state) r ≡ (move_of w (choice_of r calling)).state
              at (inl e) = e.1
              at (inr e) = absurd (e.0 refl)

          waits : (row_of (rank_at (next calling may) r).threads t).waits ≡ Creates (key_of x.comms a.origin) a.target a.session
          waits = ap (λ (y : Rank). (row_of y.threads t).waits) state ∙ caller_waits x t (Joins a) long

      -- the caller: each that has called before is in the exchange too, as not all had called
      module _ (n : ℕ) (key : Key) (h : InExchange (next calling may) (later_registry calling may) n r t key) (target : List ℕ) (session : ℕ) (k : after_call x (Joins a) ≡ Creates key target session) where
        called_split : Divides x r (Joins a) key
        called_split = divides x r (Joins a) key target session h.exchange k

        sound : share.is_exchange s.ranks key ≡ true
        sound = good s (next calling may) (es ++ events_at w r calling) (dues_chosen w due (choice_of r calling)) (later_registry calling may) world_after n r t key h

        member : has_rank key.members r ≡ true
        member = (fits s (next calling may) (es ++ events_at w r calling) (dues_chosen w due (choice_of r calling)) (later_registry calling may) world_after n r t key h).member

        split : is_split (creation_at (later_registry calling may) n).name ≡ true
        split = splits s (next calling may) (es ++ events_at w r calling) (dues_chosen w due (choice_of r calling)) (later_registry calling may) world_after n r t key h

        place_is : n ≡ joined.place
        place_is = let p = h.part_waits in let q = joined.waits in cc (p, q)

        before_me : (i : ℕ) → has_rank key.members i ≡ true → i ≢ r → has_called (creation_at (later_registry calling may) n) i ≡ true → pending_of (agreed s es) key i ≡ 1
        before_me i m ne called = go (nat_lt joined.place (length g.creations)) refl
          where
            here_called : has_called (creation_at (later_registry calling may) joined.place) i ≡ true
            here_called = subst (λ (c : ℕ). has_called (creation_at (later_registry calling may) c) i ≡ true) place_is called

            under : (u : ℕ) (k1 : Key) → InExchange w g joined.place i u k1 → all_called (creation_at g joined.place) ≡ false → pending_of (agreed s es) key i ≡ 1
            under u k1 there few =
                let mine = subst (λ (p : ℕ). InExchange (next calling may) (later_registry calling may) p r t key) place_is h in
                let is = one_exchange s (next calling may) (es ++ events_at w r calling) (dues_chosen w due (choice_of r calling)) (later_registry calling may) world_after joined.place r t i u key k1 mine (still_there joined.place i u k1 ne there) in
                subst (λ (q : Key). pending_of (agreed s es) q i ≡ 1) is ((old joined.place i u k1 there).early few)

            waits_too : (near : joined.place < length g.creations) → has_called (creation_at g joined.place) i ≡ true → pending_of (agreed s es) key i ≡ 1
            waits_too near old_called =
                let one_more = joined.more near in
                let was_split : is_split (creation_at g joined.place).name ≡ true = sym (ap is_split one_more.name) ∙ subst (λ (c : ℕ). is_split (creation_at (later_registry calling may) c).name ≡ true) place_is split in
                let few = one_more.short was_split in
                let li = member_rank s (next calling may) (es ++ events_at w r calling) (dues_chosen w due (choice_of r calling)) (later_registry calling may) world_after n r t key h i m in
                let size = z.joined.sizes.ranks_are in
                let c = early_caller s w es due g z asked joined.place near was_split few i (omega (arith, size, li)) old_called in
                under c.thread c.key c.shares_here few

            by : (near : joined.place < length g.creations) → (i ≡ r) ⊎ (has_called (creation_at g joined.place) i ≡ true) → pending_of (agreed s es) key i ≡ 1
            by near (inl e) = absurd (ne e)
            by near (inr e) = waits_too near e

            go : (d : Bool) → nat_lt joined.place (length g.creations) ≡ d → pending_of (agreed s es) key i ≡ 1
            go true e = let near : joined.place < length g.creations = grind (arith, nat_tests, e) in by near ((joined.more near).called i here_called)
            go false e = absurd (ne (joined.first (grind (arith, nat_tests, e)) i here_called))

        caller_gathers : Gathers (after calling may) (later_registry calling may) n r key
        caller_gathers = record { alike = λ e i m called. each e i m called (i == r) refl; early = λ few. mine_then }
          where
            mine_then : pending_of (after calling may) key r ≡ 1
            mine_then =
                let a1 = more_pending key sound called_split.share called_split.events r member in
                let a0 = none_pending key sound called_split.share called_split.events member in
                let o : one (r == r) ≡ 1 = (let e : (r == r) ≡ true = grind (arith, nat_tests) in ap one e) in
                omega (arith, a1, a0, o)

            each : pending_of (after calling may) key r ≡ 1 → (i : ℕ) → has_rank key.members i ≡ true → has_called (creation_at (later_registry calling may) n) i ≡ true → (d : Bool) → (i == r) ≡ d → pending_of (after calling may) key i ≡ 1
            each e i m called true q = let is : i ≡ r = grind (arith, nat_tests, q) in rw is e
            each e i m called false q =
                let ne : i ≢ r = grind (arith, nat_tests, q) in
                let a1 = more_pending key sound called_split.share called_split.events i m in
                let a0 = before_me i m ne called in
                let o : one (r == i) ≡ 0 = (let e : (r == i) ≡ false = grind (arith, nat_tests, ne) in ap one e) in
                omega (arith, a1, a0, o)

      -- another thread
      module _ (n q u : ℕ) (key : Key) (h : InExchange w g n q u key) (new : InExchange (next calling may) (later_registry calling may) n q u key) where
        ours : has_rank key.members q ≡ true
        ours = (fits s w es due g z n q u key h).member

        there_before : n < length g.creations
        there_before = (fits s w es due g z n q u key h).there

        sound_before : share.is_exchange s.ranks key ≡ true
        sound_before = good s w es due g z n q u key h

        -- a caller that is new has called the exchange
        new_caller : (thread_of (later_registry calling may) r t).wait ≡ Creating n → Divides x r (Joins a) key
        new_caller part =
            let split = splits s (next calling may) (es ++ events_at w r calling) (dues_chosen w due (choice_of r calling)) (later_registry calling may) world_after n q u key new in
            let c = newcomer n split part in
            let is = one_exchange s (next calling may) (es ++ events_at w r calling) (dues_chosen w due (choice_of r calling)) (later_registry calling may) world_after n q u r t key (key_of x.comms a.origin) new c in
            let d = divides x r (Joins a) (key_of x.comms a.origin) a.target a.session c.exchange refl in
            record { share = d.share; events = d.events ∙ ap (λ (k : Key). Begin_share r k d.share ∷ []) is }

        by_others : AllOf (IsOther key) (opening_events r x a.origin) → Gathers (after calling may) (later_registry calling may) n q key
        by_others other = record {
          alike = λ e i m called. stay i m ∙ each (sym (stay q ours) ∙ e) i m (who_called n i there_before called);
          early = λ few. stay q ours ∙ (old n q u key h).early (few_before n there_before few);
        }
          where
            stay : (i : ℕ) → has_rank key.members i ≡ true → pending_of (after calling may) key i ≡ pending_of (agreed s es) key i
            stay = others_stay calling may key sound_before (rw events other)

            each : pending_of (agreed s es) key q ≡ 1 → (i : ℕ) → has_rank key.members i ≡ true → ((i ≡ r) × ((thread_of (later_registry calling may) r t).wait ≡ Creating n)) ⊎ (has_called (creation_at g n) i ≡ true) → pending_of (agreed s es) key i ≡ 1
            each e i m (inr called) = (old n q u key h).alike e i m called
            each e i m (inl c) =
                let d = new_caller c.1 in
                let clash = (subst (AllOf (IsOther key)) d.events other).0 in
                let same = same_key-refl key in
                absurd (cc (clash, same))

        by_split : (z1 : Shared1) → opening_events r x a.origin ≡ Begin_share r key z1 ∷ [] → Gathers (after calling may) (later_registry calling may) n q key
        by_split z1 is = record {
          alike = λ e i m called. each (let more = grows q ours q_else in omega (arith, e, more)) i m (who_called n i there_before called) (i == r) refl;
          early = λ few. (let more = grows q ours q_else in let before = (old n q u key h).early (few_before n there_before few) in omega (arith, more, before));
        }
          where
            q_else : q ≢ r
            q_else e = not_there key sound_before z1 is n u (subst (λ (i : ℕ). InExchange w g n i u key) e h)

            grows : (i : ℕ) → has_rank key.members i ≡ true → i ≢ r → pending_of (after calling may) key i ≡ pending_of (agreed s es) key i
            grows i m ne =
                let more = more_pending key sound_before z1 is i m in
                let o : one (r == i) ≡ 0 = (let e : (r == i) ≡ false = grind (arith, nat_tests, ne) in ap one e) in
                omega (arith, more, o)

            mine : has_rank key.members r ≡ true → pending_of (after calling may) key r ≡ 1
            mine m =
                let more = more_pending key sound_before z1 is r m in
                let none = none_pending key sound_before z1 is m in
                let o : one (r == r) ≡ 1 = (let e : (r == r) ≡ true = grind (arith, nat_tests) in ap one e) in
                omega (arith, more, none, o)

            each : pending_of (agreed s es) key q ≡ 1 → (i : ℕ) → has_rank key.members i ≡ true → ((i ≡ r) × ((thread_of (later_registry calling may) r t).wait ≡ Creating n)) ⊎ (has_called (creation_at g n) i ≡ true) → (d : Bool) → (i == r) ≡ d → pending_of (after calling may) key i ≡ 1
            each e i m c true f = let at : i ≡ r = grind (arith, nat_tests, f) in rw at (mine (subst (λ (k : ℕ). has_rank key.members k ≡ true) at m))
            each e i m (inl c) false f = absurd (let at = c.0 in grind (arith, nat_tests, f, at))
            each e i m (inr called) false f = grows i m (grind (arith, nat_tests, f)) ∙ (old n q u key h).alike e i m called

        other_gathers : Gathers (after calling may) (later_registry calling may) n q key
        other_gathers = go a.origin refl
          where
            by : (c : ℕ) (z1 : Shared1) → a.origin ≡ Divided c z1 → (d : Bool) → same_key (key_on x.comms c kind.Share) key ≡ d → Gathers (after calling may) (later_registry calling may) n q key
            by c z1 e true f = by_split z1 (ap (opening_events r x) e ∙ ap (λ (k : Key). Begin_share r k z1 ∷ []) (same_key_is (key_on x.comms c kind.Share) key f))
            by c z1 e false f = by_others (rw e (f, tt))

            go : (o : Origin ℕ) → a.origin ≡ o → Gathers (after calling may) (later_registry calling may) n q key
            go (Grouped group tag) e = by_others (rw e (tt, tt))
            go (Duplicated c) e = by_others (rw e (tt, tt))
            go (Divided c z1) e = by c z1 e (same_key (key_on x.comms c kind.Share) key) refl
            go (GroupedOn c tag group) e = by_others (rw e (tt, tt))

      joins_one : Gathering (next calling may) (after calling may) (later_registry calling may)
      joins_one n q u key h = go (who n q u key h)
        where
          go : Who n q u key h.target h.session → Gathers (after calling may) (later_registry calling may) n q key
          go (is_caller e f k) = rw e (caller_gathers n key (subst (λ (i : ℕ). InExchange (next calling may) (later_registry calling may) n r i key) f (subst (λ (i : ℕ). InExchange (next calling may) (later_registry calling may) n i u key) e h)) h.target h.session k)
          go (is_other ne b) = other_gathers n q u key b h

    called_kept : Gathering (next calling may) (after calling may) (later_registry calling may)
    called_kept = go (is_join here) refl
      where
        go : (d : Bool) → is_join here ≡ d → Gathering (next calling may) (after calling may) (later_registry calling may)
        go false e = joins_none e
        go true e = let a = joined_effect here e in let b = joined_effect there (sym alike ∙ e) in joins_one a.0 b.0 a.1 b.1

  -- any choice
  pub gathers_on : (act : Act) → (may : may_happen w (choice_of r act) ≡ true) → Gathering (next act may) (after act may) (later_registry act may)
  gathers_on (Call t op) may = called_kept t op may
  gathers_on (Answer t) may = plainly (Answer t) may refl refl
  gathers_on (Deliver from) may = plainly (Deliver from) may refl refl
  gathers_on (MakeOffer key) may = plainly (MakeOffer key) may refl refl
  gathers_on (Settle key) may = settled key may
  gathers_on (Leave c) may = plainly (Leave c) may refl refl
  gathers_on (Back c) may = plainly (Back c) may refl refl
