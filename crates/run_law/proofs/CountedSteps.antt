-- The calls of `dup` and `split`, where they are not refused: both are counted at their communicator.
use Rattle.std.proofs.Common.{◌≡◌, ◌<◌, ℕ, ◌+◌, ◌==◌, ◌&&◌, not, nat_lt, nat_le, if◌then◌else◌, Bool, true, false, List, [], ◌∷◌, length, get_or, set, Option, Some, None, refl, sym, ap, ◌∙◌, subst, arith}
use Rattle.std.specs.Option.{is_some, is_none}
use Rattle.std.specs.List.{list_any}
use Rattle.std.proofs.lemmas.Bool.Decides.{nat_tests}
use Rattle.mpi_base.specs.declared.keys.Key.{Key}
use Rattle.mpi_base.specs.declared.keys.Kind.{Kind}
use Rattle.mpi_base.specs.declared.shares.Shared1.{Shared1}
use Rattle.mpi_base.specs.MemberLists.{has_rank}
use Rattle.mpi_base.specs.declared.ops.Op.{Op}
use Rattle.local_law.specs.Names.{bound_of, bind}
use Rattle.local_law.specs.Objects as bound
use Rattle.mpi_law.specs.declared.setting.Setting.{Setting}
use Rattle.mpi_law.specs.declared.setting.TheConstants.{THREADS}
use Rattle.mpi_law.specs.Local.Objects.{Local, with_names}
use Rattle.mpi_law.specs.declared.effects.Origin.TheVariants.{Duplicated, Divided}
use Rattle.mpi_law.specs.Local.Comms.{ask}
use Rattle.mpi_law.specs.Registry.State as reg
use Rattle.mpi_law.specs.Registry.State.{Registry, RankPart, ThreadPart, Creation, CreationName, Group_and_tag, Wait, Creating, Communicator, blank_part, part_of, with_call, Nth_dup, Nth_split}
use Rattle.mpi_law.specs.Registry.Creations.{is_split, parent_of, is_counted_on, has_called, called_on, place_where, is_joinable}
use Rattle.mpi_law.specs.Registry.Contexts.{comm_of, stands_for}
use Rattle.mpi_law.specs.Registry.Calls.{effect_at}
use Rattle.mpi_law.specs.Registry.Events.{registry_next}
use Rattle.agree_law.specs.declared.rows.Stage.{Stage}
use Rattle.agree_law.specs.declared.rows.Stage.TheVariants.{Sharing, Called}
use Rattle.agree_law.specs.Tree.{member_at, is_first}
use Rattle.agree_law.specs.Packets.{Share, Moved}
use Rattle.agree_law.specs.Part.{Agree, stage_of, open_creation}
use Rattle.agree_law.specs.Offers.{begin}
use Rattle.agree_law.specs.Shares.{put_share, begin_share}
use Rattle.comm_law.specs.declared.rows.CommRow.{CommRow}
use Rattle.mpi_protocol.specs.declared.rows.Waits.TheVariants.{Nothing, Creation as Creates}
use Rattle.mpi_protocol.specs.Rank.{Rank, with_call as rank_calls}
use Rattle.mpi_protocol.specs.Calls.{called, key_on}
use Rattle.run_law.proofs.Lists.{one, tally, get_or_past}
use Rattle.run_law.proofs.Rows.{row_in}
use Rattle.due_law.specs.Dues.{Dues}
use Rattle.run_law.proofs.Threads.{row_of, part_row}
use Rattle.run_law.proofs.Creations.{creation_in, comm_in}
use Rattle.run_law.proofs.Comms.{CommFits, CommsFit, KnownComm, is_numbered}
use Rattle.run_law.proofs.Wholes.{ParentFits, GroupFits, number_in}
use Rattle.run_law.proofs.Allowing.{same_name_is, where_is}
use Rattle.run_law.proofs.Joined.{rank_in, Joined}
use Rattle.due_law.specs.Agreed.{Untold}
use Rattle.run_law.proofs.Parts.{PartsAfter}
use Rattle.run_law.proofs.JoinWholes.{rows, counts}
use Rattle.run_law.proofs.Joins.{Begins, calls, tells, join_joined}
use Rattle.run_law.proofs.CountedRows.{counted, row_counted, any_counted, serials_counted, count_is, row_ctx}
use Rattle.run_law.proofs.CallSteps.{call_events, begin_part, held, still_unbound}
use Rattle.run_law.proofs.Contexts.{comm_of_is, live_member}
use Rattle.run_law.proofs.Taking.{locals-known}
use Rattle.run_law.proofs.Masks.{MaskFits}
use Rattle.run_law.proofs.Locals.{CommNamed}
use Rattle.run_law.proofs.KnownHere.{Here, known_here as comm_known}
use Rattle.comm_law.specs.Comms.{Comms as Known, comm_at, count_call, one_call_more}
use Rattle.mpi_base.specs.declared.keys.Kind.TheVariants as kind
use Rattle.std.specs.Prelude.{option_map}
use Rattle.run_law.proofs.Waiters.{waiter_of}
use Rattle.run_law.proofs.CallParts.{idle, may_call, parts_call}
use Rattle.run_law.proofs.SettleSteps.{Goes}

-- The call is of a duplicate, or of a split with a share: what it asks for, and the stage that its creation begins at

abbrev kind_of : Option Shared1 → Kind
kind_of None = kind.Dup
kind_of (Some share) = kind.Share

abbrev name_of : Option Shared1 → ℕ → ℕ → CreationName
name_of None p n = Nth_dup p n
name_of (Some share) p n = Nth_split p n

abbrev begun_of : Option Shared1 → Stage
begun_of None = Called
begun_of (Some share) = Sharing share

stands_by_name : (comms : List Communicator) (r c p n : ℕ) (ms : List ℕ) (o : Option Shared1) → comm_of comms r c ≡ Some p → stands_for comms r (record { parent = c; kind = kind_of o; number = n; tag = []; members = ms }) ≡ Some (name_of o p n)
stands_by_name comms r c p n ms None e = rw e refl
stands_by_name comms r c p n ms (Some share) e = rw e refl

counts_on : (o : Option Shared1) (p q n : ℕ) → is_counted_on q (name_of o p n) ≡ (p == q)
counts_on None p q n = refl
counts_on (Some share) p q n = refl

number_of : (o : Option Shared1) (p n : ℕ) → number_in (name_of o p n) ≡ n
number_of None p n = refl
number_of (Some share) p n = refl

on_parent : (o : Option Shared1) (p n : ℕ) → parent_of (name_of o p n) ≡ Some p
on_parent None p n = refl
on_parent (Some share) p n = refl

group_of_members : (comms : List Communicator) (o : Option Shared1) (p n : ℕ) → p < length comms → GroupFits comms (name_of o p n) (comm_in comms p).members
group_of_members comms None p n lt = (lt, refl)
group_of_members comms (Some share) p n lt = (lt, refl)

-- an exchange is told in its first stage
begins_so : (c n : ℕ) (ms : List ℕ) (o : Option Shared1) (p i : ℕ) → Begins (record { parent = c; kind = kind_of o; number = n; tag = []; members = ms }) (name_of o p i) o (begun_of o)
begins_so c n ms None p i = calls refl refl
begins_so c n ms (Some share) p i = tells share refl refl

-- what begins an exchange leaves
share_part : (r : ℕ) (a : Agree) (key : Key) (z : Shared1) → ((begin_share r a key z).part.opened ≡ open_creation a.opened key (Sharing z)) × ((begin_share r a key z).part.owner ≡ a.owner) × ((begin_share r a key z).part.mask ≡ a.mask)
unfolding begin_share
share_part r a key z = go (is_first r key.members)
  where
    go : (b : Bool) → let m : Moved = if b then record { part = put_share (record a { opened = open_creation a.opened key (Sharing z) }) key 0 z; sent = [] } else record { part = record a { opened = open_creation a.opened key (Sharing z) }; sent = record { to = member_at key.members 0; packet = Share key z } ∷ [] } in (m.part.opened ≡ open_creation a.opened key (Sharing z)) × (m.part.owner ≡ a.owner) × (m.part.mask ≡ a.mask)
    go true = (refl, refl, refl)
    go false = (refl, refl, refl)

module _ (s : Setting) (ranks : List Rank) (due : Dues) (g : Registry) (r t : ℕ) (j : Joined s ranks due g) (untold : Untold ranks due) (lt : r < s.ranks) (here : t < THREADS) (ew : (row_of (rank_in ranks r).threads t).waits ≡ Nothing) (op : Op)
    (c p session : ℕ) (target : List ℕ) (share : Option Shared1) (h : CommNamed g.comms (rank_in ranks r).comms.rows r c session p session) (free : is_some (bound_of (rank_in ranks r).local.names target) ≡ false) where
  abbrev x : Rank
  x = rank_in ranks r

  abbrev name : CreationName
  name = name_of share p (called_on g.creations p r)

  abbrev group : List ℕ
  group = (comm_in g.comms p).members

  abbrev key : Key
  key = key_on x.comms c (kind_of share)

  abbrev at : ℕ
  at = place_where (is_joinable name) g.creations

  known_here : Here s ranks due g r c p
  known_here = comm_known s ranks due g r j c session p session h

  row_is : comm_at x.comms c ≡ known_here.row
  row_is = let e = known_here.is in rw e refl

  number_is : key.number ≡ called_on g.creations p r
  number_is = ap (λ (m : CommRow). m.calls) row_is ∙ known_here.fits.calls

  members_is : key.members ≡ group
  members_is = ap (λ (m : CommRow). m.members) row_is ∙ known_here.fits.members

  stands : stands_for g.comms r key ≡ Some name
  stands = stands_by_name g.comms r c p key.number key.members share h.stands ∙ ap (λ (k : ℕ). Some (name_of share p k)) number_is

  self : (p == p) ≡ true
  self = grind (arith, nat_tests)

  -- the rank has not called it
  uncalled : (i : ℕ) → i < length g.creations → (creation_in g.creations i).name ≡ name → has_called (creation_in g.creations i) r ≡ true → ⊥
  uncalled i li named called_it =
      let on : is_counted_on p (creation_in g.creations i).name ≡ true = ap (is_counted_on p) named ∙ (counts_on share p p (called_on g.creations p r) ∙ self) in
      let z = j.whole.numbered i r p li on called_it in
      let e = ap number_in named ∙ number_of share p (called_on g.creations p r) in
      absurd (omega (arith, z, e))

  fresh : has_called (creation_in g.creations at) r ≡ false
  fresh = go (has_called (creation_in g.creations at) r) refl (nat_lt at (length g.creations)) refl
    where
      go : (a : Bool) → has_called (creation_in g.creations at) r ≡ a → (b : Bool) → nat_lt at (length g.creations) ≡ b → has_called (creation_in g.creations at) r ≡ false
      go false e b f = e
      go true e false f =
          let past = get_or_past g.creations at reg.blank_creation (grind (arith, nat_tests, f)) in
          ap (λ (c : Creation). has_called c r) past
      go true e true f =
          let inside : at < length g.creations = grind (arith, nat_tests, f) in
          let joinable = where_is (is_joinable name) g.creations inside in
          absurd (uncalled at inside (same_name_is (creation_in g.creations at).name name (grind (arith, joinable))) e)

  closed : stage_of x.agree.opened key ≡ None
  closed = go (stage_of x.agree.opened key) refl
    where
      go : (st : Option Stage) → stage_of x.agree.opened key ≡ st → stage_of x.agree.opened key ≡ None
      go None e = e
      go (Some st) e =
          let w = waiter_of s ranks due g j r key (rw e refl) in
          let named : Some (creation_in g.creations w.place).name ≡ Some name = sym w.fits.stands ∙ stands in
          absurd (uncalled w.place w.fits.there (cc (named)) w.fits.caller.called)

  live : has_rank group r ≡ true
  live = live_member (comm_in g.comms p) r (comm_of_is g.comms r c p h.stands).live

  fits : GroupFits g.comms name group
  fits = group_of_members g.comms share p (called_on g.creations p r) (comm_of_is g.comms r c p h.stands).inside

  -- the rank has called no creation of this name
  alone : is_split name ≡ true → (i : ℕ) → i < length g.creations → (creation_in g.creations i).name ≡ name → has_called (creation_in g.creations i) r ≡ false
  alone split i li e = go (has_called (creation_in g.creations i) r) refl
    where
      go : (b : Bool) → has_called (creation_in g.creations i) r ≡ b → has_called (creation_in g.creations i) r ≡ false
      go false f = f
      go true f = absurd (uncalled i li e f)

  number : (q : ℕ) → is_counted_on q name ≡ true → number_in name ≡ called_on g.creations q r
  number q e =
      let on = counts_on share p q (called_on g.creations p r) in
      let is : p ≡ q = grind (arith, nat_tests, e, on) in
      number_of share p (called_on g.creations p r) ∙ ap (λ (i : ℕ). called_on g.creations i r) is

  under : (q : ℕ) → parent_of name ≡ Some q → ParentFits g.comms q group
  under q e =
      let on = on_parent share p (called_on g.creations p r) in
      let is : p ≡ q = cc (e, on) in
      subst (λ (i : ℕ). ParentFits g.comms i group) is (record { inside = (comm_of_is g.comms r c p h.stands).inside; within = λ z k. k; held = λ z. back z (has_rank (comm_in g.comms p).returned z) refl })
    where
      back : (z : ℕ) (b : Bool) → has_rank (comm_in g.comms p).returned z ≡ b → has_rank (comm_in g.comms p).returned z ≡ false
      back z false e = e
      back z true e = absurd (let f = j.whole.returned p z e r live in let k = h.kept in cc (f, k))

  abbrev m : Local
  m = with_names (part_of g r).local (bind (part_of g r).local.names target bound.Reserved)

  abbrev new : List RankPart
  new = set g.ranks r (with_call (part_of g r) t m (Creating at))

  parts : PartsAfter g.ranks new r t m (record { calls = (part_row (get_or g.ranks r blank_part).threads t).calls + 1; wait = Creating at })
  parts = parts_call s ranks due g r t j lt here ew m (Creating at)

  abbrev known : Known
  known = count_call x.comms c

  -- serials and contexts stay
  numbers : (P : ℕ → ℕ → Bool) → list_any (λ (y : CommRow). P y.serial y.ctx) known.rows ≡ list_any (λ (y : CommRow). P y.serial y.ctx) x.comms.rows
  numbers P = ap (λ (ms : List CommRow). list_any (λ (y : CommRow). P y.serial y.ctx) ms) (count_is x.comms c) ∙ any_counted x.comms.rows c P

  rows_are : (b : ℕ) → row_in known.rows b ≡ option_map (counted c) (row_in x.comms.rows b)
  rows_are b = ap (λ (ms : List CommRow). row_in ms b) (count_is x.comms c) ∙ row_counted x.comms.rows c b

  some_same : (b : ℕ) → is_some (row_in known.rows b) ≡ is_some (row_in x.comms.rows b)
  some_same b = rw (rows_are b) (go (row_in x.comms.rows b))
    where
      go : (o : Option CommRow) → is_some (option_map (counted c) o) ≡ is_some o
      go None = refl
      go (Some y) = refl

  mask : MaskFits s.contexts x.agree.mask known.rows
  mask = record { wide = (j.masks r lt).wide; bits = λ b. (let z = (j.masks r lt).bits b in z ∙ ap (λ (n : Bool). nat_lt 0 b && (nat_le b s.contexts && n)) (sym (none_same b))) }
    where
      none_same : (b : ℕ) → is_none (row_in known.rows b) ≡ is_none (row_in x.comms.rows b)
      none_same b = rw (rows_are b) (go (row_in x.comms.rows b))
        where
          go : (o : Option CommRow) → is_none (option_map (counted c) o) ≡ is_none o
          go None = refl
          go (Some y) = refl

  abbrev after : List Creation
  after = rows s ranks due g r t target session name group m new j here (idle s ranks due g r t j lt here ew) share alone live fits fresh number under parts

  more_at : (q : ℕ) → called_on after q r ≡ called_on g.creations q r + one (p == q)
  more_at q =
      let e = counts s ranks due g r t target session name group m new j here (idle s ranks due g r t j lt here ew) share alone live fits fresh number under parts q r in
      let z : (r == r) ≡ true = grind (arith, nat_tests) in
      let o : one (is_counted_on q name && (r == r)) ≡ one (p == q) = rw (z, counts_on share p q (called_on g.creations p r)) (go (p == q)) in
      omega (arith, e, o)
    where
      go : (b : Bool) → one (b && true) ≡ one b
      go true = refl
      go false = refl

  -- a context stands for this communicator alone
  apart : (b q : ℕ) → comm_of g.comms r b ≡ Some q → (b ≡ c → ⊥) → (p == q) ≡ false
  apart b q e ne = go (p == q) refl
    where
      go : (v : Bool) → (p == q) ≡ v → (p == q) ≡ false
      go false f = f
      go true f =
          let is : p ≡ q = grind (arith, nat_tests, f) in
          let one_ctx = (comm_of_is g.comms r c p h.stands).context in
          let two_ctx = (comm_of_is g.comms r b q e).context in
          absurd (ne (sym two_ctx ∙ (ap (λ (i : ℕ). (comm_in g.comms i).ctx) (sym is) ∙ one_ctx)))

  comms : CommsFit s.contexts g.comms after (get_or g.ranks r blank_part).threads r known.rows known.added x.agree.owner (due r) x.threads
  unfolding counted
  comms = record {
    each = λ b. rw (rows_are b) (each b (row_in x.comms.rows b) refl (comm_of g.comms r b) refl ((j.comms r).each b));
    range = (j.comms r).range;
    serials = λ n. (let t = serials_counted x.comms.rows c n in let o = (j.comms r).serials n in let e = ap (λ (ms : List CommRow). tally (is_numbered n) ms) (count_is x.comms c) in omega (arith, t, o, e));
    freeing = λ u serial q fw fp. (let f = (j.comms r).freeing u serial q fw fp in record { inside = f.inside; member = f.member; below = f.below; own = numbers (λ n b. (n == serial) && not (b == (comm_in g.comms q).ctx)) ∙ f.own; gone = numbers (λ n b. n == serial) ∙ f.gone });
  }
    where
      known_row : (b q : ℕ) (y : CommRow) (v : Bool) → (y.ctx == c) ≡ v → y.ctx ≡ b → comm_of g.comms r b ≡ Some q → KnownComm g.comms g.creations r y q → KnownComm g.comms after r (if v then one_call_more y else y) q
      known_row b q y false e ctx eq k =
          let ne : (p == q) ≡ false = apart b q eq (λ w. absurd (grind (arith, nat_tests, e, ctx, w))) in
          let o : one (p == q) ≡ 0 = ap one ne in
          let a = more_at q in
          let d = k.calls in
          record { members = k.members; session = k.session; calls = omega (arith, a, o, d); stage = k.stage }
      known_row b q y true e ctx eq k =
          let is : b ≡ c = grind (arith, nat_tests, e, ctx) in
          let there : comm_of g.comms r c ≡ Some q = subst (λ (i : ℕ). comm_of g.comms r i ≡ Some q) is eq in
          let st = h.stands in
          let same : p ≡ q = cc (there, st) in
          let on : (p == q) ≡ true = grind (arith, nat_tests, same) in
          let o : one (p == q) ≡ 1 = ap one on in
          let a = more_at q in
          let d = k.calls in
          record { members = k.members; session = k.session; calls = omega (arith, a, o, d); stage = k.stage }

      each : (b : ℕ) (o : Option CommRow) → row_in x.comms.rows b ≡ o → (q : Option ℕ) → comm_of g.comms r b ≡ q → CommFits g.comms g.creations r x.agree.owner (due r) b o q → CommFits g.comms after r x.agree.owner (due r) b (option_map (counted c) o) q
      each b None eo None eq k = tt
      each b (Some y) eo None eq k = k
      each b None eo (Some q) eq k =
          let known_c = known_here.is in
          let ne : (p == q) ≡ false = apart b q eq (λ w. (let z : row_in x.comms.rows c ≡ None = subst (λ (i : ℕ). row_in x.comms.rows i ≡ None) w eo in cc (z, known_c))) in
          let o : one (p == q) ≡ 0 = ap one ne in
          let a = more_at q in
          let d = k.calls in
          record { key = k.key; owns = k.owns; said = k.said; calls = omega (arith, a, o, d) }
      each b (Some y) eo (Some q) eq k = known_row b q y (y.ctx == c) refl (row_ctx x.comms.rows b y eo) eq k

  -- the creation begins in the agreement
  counted_goes : (a : Agree) → a.opened ≡ open_creation x.agree.opened key (begun_of share) → a.owner ≡ x.agree.owner → a.mask ≡ x.agree.mask
      → Joined s (set ranks r (record x { agree = a; comms = known; local = with_names x.local (bind x.local.names target bound.Reserved); threads = rank_calls x t (Creates key target session) })) due (record g { creations = after; ranks = new })
  counted_goes a opened owner same_mask =
      join_joined s ranks due g r t target session name group m new j here (idle s ranks due g r t j lt here ew) share alone live fits fresh number under parts key (begun_of share)
      a known (with_names x.local (bind x.local.names target bound.Reserved)) lt ew opened owner (rw same_mask mask) stands (begins_so c key.number key.members share p (called_on g.creations p r)) closed (untold r key closed) (rw members_is live) (sym members_is)
      (λ d y. some_same d ∙ y) (locals-known g.comms x.comms.rows known.rows r (with_names x.local (bind x.local.names target bound.Reserved)) m (λ d y. some_same d ∙ y) (held s ranks due g r t j untold lt here ew op target free)) (λ d y. still_unbound s ranks due g r t j untold lt here ew op target d y) comms

module _ (s : Setting) (ranks : List Rank) (due : Dues) (g : Registry) (r t : ℕ) (j : Joined s ranks due g) (untold : Untold ranks due) (lt : r < s.ranks) (here : t < THREADS) (ew : (row_of (rank_in ranks r).threads t).waits ≡ Nothing) (op : Op)
    (c p session : ℕ) (target : List ℕ) (h : CommNamed g.comms (rank_in ranks r).comms.rows r c session p session) (free : is_some (bound_of (rank_in ranks r).local.names target) ≡ false) where
  abbrev z : Rank
  z = rank_in ranks r

  pub duplicated_goes : effect_at s g r op ≡ ask (Duplicated p) target session → Goes s g (call_events r t op (called z t (ask (Duplicated c) target session))) (set ranks r (called z t (ask (Duplicated c) target session)).state) due
  unfolding registry_next
  duplicated_goes is =
      let b = begin_part z.rank z.setting.contexts z.agree (key_on z.comms c kind.Dup) in
      rw is (
        (may_call s ranks due g r t j lt here ew op (ask (Duplicated p) target session) false is refl, tt),
        counted_goes s ranks due g r t j untold lt here ew op c p session target None h free (begin z.rank z.setting.contexts z.agree (key_on z.comms c kind.Dup)).part b.0 b.1 b.2,
      )

  pub divided_goes : (share : Shared1) → effect_at s g r op ≡ ask (Divided p share) target session → Goes s g (call_events r t op (called z t (ask (Divided c share) target session))) (set ranks r (called z t (ask (Divided c share) target session)).state) due
  unfolding registry_next
  divided_goes share is =
      let b = share_part z.rank z.agree (key_on z.comms c kind.Share) share in
      rw is (
        (may_call s ranks due g r t j lt here ew op (ask (Divided p share) target session) false is refl, tt),
        counted_goes s ranks due g r t j untold lt here ew op c p session target (Some share) h free (begin_share z.rank z.agree (key_on z.comms c kind.Share) share).part b.0 b.1 b.2,
      )
