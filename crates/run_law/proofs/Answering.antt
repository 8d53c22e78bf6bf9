-- A thread is answered for its creation: what that leaves of each topic.
use Rattle.std.proofs.Common.{◌≡◌, ◌≢◌, ◌⊎◌, ◌<◌, ℕ, ◌+◌, if◌then◌else◌, Bool, true, false, List, length, get_or, set, Option, Some, None, refl, sym, ap, ◌∙◌, subst, inl, inr, arith}
use Rattle.std.specs.Option.{is_some}
use Rattle.mpi_base.specs.declared.keys.Key.{Key}
use Rattle.mpi_base.specs.Keys.{same_key}
use Rattle.mpi_base.proofs.KeyFacts.{same_key_is, same_key-refl}
use Rattle.mpi_law.specs.declared.setting.Setting.{Setting}
use Rattle.mpi_law.specs.declared.setting.TheConstants.{THREADS}
use Rattle.mpi_law.specs.Local.Objects.{Local}
use Rattle.mpi_law.specs.Registry.State as reg
use Rattle.mpi_law.specs.Registry.State.{Registry, Communicator, Creation, CreationName, Pick, Creating, Wait, ThreadPart, RankPart, Outcome, Made, NoneFree, blank_part}
use Rattle.mpi_law.specs.Registry.Creations.{is_split, is_nil, caller_of, has_called, outcome_for}
use Rattle.mpi_law.specs.Registry.Contexts.{comm_of}
use Rattle.agree_law.specs.declared.rows.Outcome.{Outcome as Ended}
use Rattle.agree_law.specs.declared.rows.Outcome.TheVariants as ended
use Rattle.agree_law.specs.declared.rows.Stage.TheVariants.{Done}
use Rattle.agree_law.specs.Part.{Agree, stage_of, close_creation}
use Rattle.agree_law.proofs.RowFacts.{stage_of-close}
use Rattle.comm_law.specs.declared.rows.CommRow.{CommRow}
use Rattle.mpi_protocol.specs.declared.rows.Waits.TheVariants.{Nothing, Creation as Creates, Uncoloured, Freeing}
use Rattle.mpi_protocol.specs.declared.rows.ThreadRow.{ThreadRow}
use Rattle.mpi_protocol.specs.Rank.{Rank, idle_thread}
use Rattle.run_law.proofs.Lists.{tally, one}
use Rattle.due_law.specs.Dues.{Dues}
use Rattle.run_law.proofs.Locals.{LocalFits, binds}
use Rattle.run_law.proofs.Threads.{row_of, part_row, is_for, ThreadsFit}
use Rattle.run_law.proofs.Masks.{MaskFits}
use Rattle.run_law.proofs.Creations.{CreationFits, UncolouredFits, creation_in}
use Rattle.run_law.proofs.Comms.{CommsFit}
use Rattle.run_law.proofs.Wholes.{Wholes, is_open_row}
use Rattle.run_law.proofs.Joined.{rank_in, Joined}
use Rattle.run_law.proofs.OneRank.{each_rank, sizes_set}
use Rattle.run_law.proofs.Parts.{set_at, thread_in, PartsAfter, Elsewhere, thread_after, threads_set}
use Rattle.run_law.proofs.Waiters.{one_waiter, thread_inside}
use Rattle.run_law.proofs.Ends.{stage_named, ends_with, some_outcome, no_pick, Differs}

-- the thread waits for nothing
abbrev pub idle_row : List ThreadRow → ℕ → ThreadRow
idle_row threads t = record { calls = (row_of threads t).calls; waits = Nothing }

abbrev pub idle_part : List ThreadPart → ℕ → ThreadPart
idle_part parts t = record { calls = (part_row parts t).calls; wait = reg.Idle }

module _ (s : Setting) (ranks : List Rank) (due : Dues) (g : Registry) (r t : ℕ) (key : Key) (target : List ℕ) (session n : ℕ) (d : Ended) (a : Agree) (l m : Local) (new : List RankPart) (j : Joined s ranks due g) (lt : r < s.ranks)
    (ew : (row_of (rank_in ranks r).threads t).waits ≡ Creates key target session) (ep : (thread_in g.ranks r t).wait ≡ Creating n) (stage : stage_of (rank_in ranks r).agree.opened key ≡ Some (Done d))
    (opened : a.opened ≡ close_creation (rank_in ranks r).agree.opened key) (mask : a.mask ≡ (rank_in ranks r).agree.mask) (owner : a.owner ≡ (rank_in ranks r).agree.owner)
    (parts : PartsAfter g.ranks new r t m (idle_part (get_or g.ranks r blank_part).threads t)) (local : LocalFits g.comms (rank_in ranks r).comms.rows r l m)
    (frees : (c : ℕ) → Differs d c → tally (binds c) (rank_in ranks r).local.names ≡ 0 → tally (binds c) l.names ≡ 0) where
  abbrev x : Rank
  x = rank_in ranks r

  abbrev pub y : Rank
  y = record x { agree = a; local = l; threads = set x.threads t (idle_row x.threads t) }

  h : CreationFits g.comms g.creations x.comms.rows x.local.names (due r key) (stage_of x.agree.opened key) r t key target session n
  h = j.creations.each r t key target session n ew ep

  inside : r < length ranks
  inside = let e = j.sizes.ranks_are in omega (arith, e, lt)

  here : t < THREADS
  here = thread_inside s ranks due g j r t n ep

  -- threads

  after_thread : (q u : ℕ) → ((q ≡ r) × (u ≡ t) × (thread_in new q u ≡ idle_part (get_or g.ranks r blank_part).threads t)) ⊎ (Elsewhere r t q u × (thread_in new q u ≡ thread_in g.ranks q u))
  after_thread q u = thread_after g.ranks new r t m _ parts (let e = (j.threads r).long_part in let i = here in omega (arith, e, i)) q u

  -- a thread that waits for a creation afterwards waited for it before
  waited : (q u i : ℕ) → (thread_in new q u).wait ≡ Creating i → Elsewhere r t q u × ((thread_in g.ranks q u).wait ≡ Creating i)
  waited q u i e = go (after_thread q u)
    where
      go : ((q ≡ r) × (u ≡ t) × (thread_in new q u ≡ idle_part (get_or g.ranks r blank_part).threads t)) ⊎ (Elsewhere r t q u × (thread_in new q u ≡ thread_in g.ranks q u)) → Elsewhere r t q u × ((thread_in g.ranks q u).wait ≡ Creating i)
      go (inl z) = absurd (let b = sym (ap (λ (p : ThreadPart). p.wait) z.2) ∙ e in cc (b))
      go (inr z) = (z.0, sym (ap (λ (p : ThreadPart). p.wait) z.1) ∙ e)

  stage_after : (k : Key) → stage_of a.opened k ≡ (if same_key key k then None else stage_of x.agree.opened k)
  stage_after k = rw opened (stage_of-close x.agree.opened key k)

  balance : (k : Key) → one (is_some (stage_of a.opened k)) + one (is_for k (row_of x.threads t).waits) ≡ one (is_some (stage_of x.agree.opened k)) + one (is_for k Nothing)
  balance k = rw (stage_after k, ew) (go (same_key key k) refl)
    where
      go : (b : Bool) → same_key key k ≡ b → one (is_some (if b then None else stage_of x.agree.opened k)) + one b ≡ one (is_some (stage_of x.agree.opened k)) + 0
      go false e = omega arith
      go true e =
          let is = same_key_is key k e in
          let st : stage_of x.agree.opened k ≡ Some (Done d) = subst (λ (i : Key). stage_of x.agree.opened i ≡ Some (Done d)) is stage in
          rw st (omega arith)

  threads_here : ThreadsFit y.threads a.opened (get_or new r blank_part).threads
  threads_here = rw parts.threads (threads_set x.threads x.agree.opened a.opened (get_or g.ranks r blank_part).threads t (idle_row x.threads t) (idle_part (get_or g.ranks r blank_part).threads t) (j.threads r) here ((j.threads r).calls t) tt balance)

  -- the row of another thread of the rank
  row_else : (u : ℕ) → (u ≢ t) → row_of y.threads u ≡ row_of x.threads u
  row_else u ne = go (set_at x.threads t (idle_row x.threads t) idle_thread u (let e = (j.threads r).long in let i = here in omega (arith, e, i)))
    where
      go : ((u ≡ t) × (row_of y.threads u ≡ idle_row x.threads t)) ⊎ ((u ≢ t) × (row_of y.threads u ≡ row_of x.threads u)) → row_of y.threads u ≡ row_of x.threads u
      go (inl z) = absurd (ne z.0)
      go (inr z) = z.1

  -- the contexts of other creations of the rank are others
  differs : (u i : ℕ) (k : Key) (to : List ℕ) (from c : ℕ) → u ≢ t → CreationFits g.comms g.creations x.comms.rows x.local.names (due r k) (stage_of x.agree.opened k) r u k to from i → stage_of x.agree.opened k ≡ Some (Done (ended.Context c)) → Differs d c
  differs u i k to from c ne f st = go d refl
    where
      clash : (b : ℕ) → d ≡ ended.Context b → b ≡ c → ⊥
      clash b e is =
          let one = ends_with g.comms x.comms.rows x.local.names r k from c (due r k) (stage_of x.agree.opened k) (outcome_for (creation_in g.creations i) r) st f.far in
          let two = ends_with g.comms x.comms.rows x.local.names r key session b (due r key) (stage_of x.agree.opened key) (outcome_for (creation_in g.creations n) r) (stage ∙ ap (λ (w : Ended). Some (Done w)) e) h.far in
          let s1 : comm_of g.comms r c ≡ Some two.place = subst (λ (w : ℕ). comm_of g.comms r w ≡ Some two.place) is two.made.stands in
          let s2 = one.made.stands in
          let same : two.place ≡ one.place = cc (s1, s2) in
          let row = j.whole.made_once i n r one.place f.there h.there one.outcome (two.outcome ∙ ap (λ (w : ℕ). Some (Made w)) same) in
          let callers = subst (λ (w : ℕ). (caller_of (creation_in g.creations w).callers r).thread ≡ u) row f.caller.thread_is in
          ne (sym callers ∙ h.caller.thread_is)

      go : (e : Ended) → d ≡ e → Differs e c
      go ended.Exhausted e = tt
      go (ended.Context b) e = λ is. clash b e is

  creations_here : (u : ℕ) (k : Key) (to : List ℕ) (from i : ℕ) → (row_of y.threads u).waits ≡ Creates k to from → (thread_in new r u).wait ≡ Creating i → CreationFits g.comms g.creations x.comms.rows l.names (due r k) (stage_of a.opened k) r u k to from i
  creations_here u k to from i fw fp =
      let w = waited r u i fp in
      let ne : u ≢ t = w.0 refl in
      let old : (row_of x.threads u).waits ≡ Creates k to from = sym (ap (λ (z : ThreadRow). z.waits) (row_else u ne)) ∙ fw in
      let f = j.creations.each r u k to from i old w.1 in
      rw (stage_after k) (go (same_key key k) refl f ne old (record { there = f.there; stands = f.stands; caller = f.caller; members = f.members; member = f.member; kind = f.kind; share = f.share; far = stage_named g.comms x.comms.rows x.local.names l.names r k from (due r k) (stage_of x.agree.opened k) _ (λ c st z. frees c (differs u i k to from c ne f st) z) f.far }))
    where
      go : (b : Bool) → same_key key k ≡ b → CreationFits g.comms g.creations x.comms.rows x.local.names (due r k) (stage_of x.agree.opened k) r u k to from i → u ≢ t → (row_of x.threads u).waits ≡ Creates k to from
          → CreationFits g.comms g.creations x.comms.rows l.names (due r k) (stage_of x.agree.opened k) r u k to from i → CreationFits g.comms g.creations x.comms.rows l.names (due r k) (if b then None else stage_of x.agree.opened k) r u k to from i
      go false e f ne old q = q
      go true e f ne old q =
          let is = same_key_is key k e in
          let on : is_for key (row_of x.threads u).waits ≡ true = rw (old, ← is) (same_key-refl key) in
          let mine : is_for key (row_of x.threads t).waits ≡ true = rw ew (same_key-refl key) in
          absurd (ne (one_waiter s ranks due g j r key u t (thread_inside s ranks due g j r u i (waited r u i fp).1) here on mine))

  -- the registry alone

  whole_after : Wholes g.comms g.creations new
  whole_after = record {
    apart = j.whole.apart;
    one_open = j.whole.one_open;
    for_all = j.whole.for_all;
    unpicked = j.whole.unpicked;
    made_inside = j.whole.made_inside;
    made_once = j.whole.made_once;
    numbered = j.whole.numbered;
    group_is = j.whole.group_is;
    returned = j.whole.returned;
    under = λ q u i p w e. j.whole.under q u i p (waited q u i w).1 e;
    placed = j.whole.placed;
    awaited = λ i q li o sp c. awaited i q li o sp c;
  }
    where
      awaited : (i q : ℕ) → i < length g.creations → is_open_row (creation_in g.creations i) ≡ true → is_split (creation_in g.creations i).name ≡ false → has_called (creation_in g.creations i) q ≡ true → (thread_in new q (caller_of (creation_in g.creations i).callers q).thread).wait ≡ Creating i
      awaited i q li o sp c = go (after_thread q (caller_of (creation_in g.creations i).callers q).thread)
        where
          before : (thread_in g.ranks q (caller_of (creation_in g.creations i).callers q).thread).wait ≡ Creating i
          before = j.whole.awaited i q li o sp c

          go : ((q ≡ r) × ((caller_of (creation_in g.creations i).callers q).thread ≡ t) × (thread_in new q (caller_of (creation_in g.creations i).callers q).thread ≡ idle_part (get_or g.ranks r blank_part).threads t)) ⊎ (Elsewhere r t q (caller_of (creation_in g.creations i).callers q).thread × (thread_in new q (caller_of (creation_in g.creations i).callers q).thread ≡ thread_in g.ranks q (caller_of (creation_in g.creations i).callers q).thread)) → (thread_in new q (caller_of (creation_in g.creations i).callers q).thread).wait ≡ Creating i
          go (inr z) = ap (λ (p : ThreadPart). p.wait) z.1 ∙ before
          go (inl z) =
              let b : (thread_in g.ranks r t).wait ≡ Creating i = subst (λ (w : ℕ). (thread_in g.ranks w t).wait ≡ Creating i) z.0 (subst (λ (w : ℕ). (thread_in g.ranks q w).wait ≡ Creating i) z.1 before) in
              let same : i ≡ n = cc (b, ep) in
              let some = some_outcome g.comms x.comms.rows x.local.names r key session d (due r key) (stage_of x.agree.opened key) (outcome_for (creation_in g.creations n) r) stage h.far in
              let nil : is_nil (creation_in g.creations i).picks ≡ true = grind (arith, o, sp) in
              let none = no_pick (creation_in g.creations i).picks r (creation_in g.creations i) refl nil in
              absurd (let w : is_some (outcome_for (creation_in g.creations i) r) ≡ true = subst (λ (v : ℕ). is_some (outcome_for (creation_in g.creations v) r) ≡ true) (sym same) some in cc (w, none))

  -- communicators

  comms_at : (q : ℕ) (known : List CommRow) (added : ℕ) (owns : Option Key) (old fresh : List ThreadRow) → ((u serial : ℕ) → (row_of fresh u).waits ≡ Freeing serial → (row_of old u).waits ≡ Freeing serial) → CommsFit s.contexts g.comms g.creations (get_or g.ranks q blank_part).threads q known added owns (due q) old
      → CommsFit s.contexts g.comms g.creations (get_or new q blank_part).threads q known added owns (due q) fresh
  comms_at q known added owns old fresh back f = record {
    each = f.each;
    range = f.range;
    serials = f.serials;
    freeing = λ u serial p fw fp. f.freeing u serial p (back u serial fw) (freed u p fp (after_thread q u));
  }
    where
      freed : (u p : ℕ) → (thread_in new q u).wait ≡ reg.Freeing p → ((q ≡ r) × (u ≡ t) × (thread_in new q u ≡ idle_part (get_or g.ranks r blank_part).threads t)) ⊎ (Elsewhere r t q u × (thread_in new q u ≡ thread_in g.ranks q u)) → (thread_in g.ranks q u).wait ≡ reg.Freeing p
      freed u p e (inl z) = absurd (let b = sym (ap (λ (p : ThreadPart). p.wait) z.2) ∙ e in cc (b))
      freed u p e (inr z) = sym (ap (λ (p : ThreadPart). p.wait) z.1) ∙ e

  free_back : (u serial : ℕ) → (row_of y.threads u).waits ≡ Freeing serial → (row_of x.threads u).waits ≡ Freeing serial
  free_back u serial e = go (set_at x.threads t (idle_row x.threads t) idle_thread u (let l = (j.threads r).long in let i = here in omega (arith, l, i)))
    where
      go : ((u ≡ t) × (row_of y.threads u ≡ idle_row x.threads t)) ⊎ ((u ≢ t) × (row_of y.threads u ≡ row_of x.threads u)) → (row_of x.threads u).waits ≡ Freeing serial
      go (inl z) = absurd (let b = sym (ap (λ (w : ThreadRow). w.waits) z.1) ∙ e in cc (b))
      go (inr z) = sym (ap (λ (w : ThreadRow). w.waits) z.1) ∙ e

  pub answer_joined : Joined s (set ranks r y) due (record g { ranks = new })
  answer_joined = record {
    sizes = sizes_set s g (record g { ranks = new }) ranks r y j.sizes lt refl refl parts.long;
    locals = each_rank (λ q z. LocalFits g.comms z.comms.rows q z.local (get_or new q blank_part).local) ranks r y inside (rw parts.local local) (λ q ne. rw (parts.others q ne) (j.locals q));
    threads = each_rank (λ q z. ThreadsFit z.threads z.agree.opened (get_or new q blank_part).threads) ranks r y inside threads_here (λ q ne. rw (parts.others q ne) (j.threads q));
    masks = λ q lq. each_rank (λ i z. i < s.ranks → MaskFits s.contexts z.agree.mask z.comms.rows) ranks r y inside (λ w. rw mask (j.masks r lt)) (λ i ne. j.masks i) q lq;
    creations = record {
      each = each_rank (λ q z. (u : ℕ) (k : Key) (to : List ℕ) (from i : ℕ) → (row_of z.threads u).waits ≡ Creates k to from → (thread_in new q u).wait ≡ Creating i → CreationFits g.comms g.creations z.comms.rows z.local.names (due q k) (stage_of z.agree.opened k) q u k to from i)
          ranks r y inside creations_here (λ q ne u k to from i fw fp. j.creations.each q u k to from i fw (waited q u i fp).1);
      uncoloured = each_rank (λ q z. (u : ℕ) (k : Key) (to : List ℕ) (from i : ℕ) → (row_of z.threads u).waits ≡ Uncoloured k to from → (thread_in new q u).wait ≡ Creating i → UncolouredFits g.comms g.creations q u k to from i)
          ranks r y inside (λ u k to from i fw fp. (let w = waited r u i fp in j.creations.uncoloured r u k to from i (sym (ap (λ (z : ThreadRow). z.waits) (row_else u (w.0 refl))) ∙ fw) w.1)) (λ q ne u k to from i fw fp. j.creations.uncoloured q u k to from i fw (waited q u i fp).1);
    };
    comms = each_rank (λ q z. CommsFit s.contexts g.comms g.creations (get_or new q blank_part).threads q z.comms.rows z.comms.added z.agree.owner (due q) z.threads) ranks r y inside (rw owner (comms_at r x.comms.rows x.comms.added x.agree.owner x.threads y.threads free_back (j.comms r))) (λ q ne. comms_at q _ _ _ _ _ (λ u serial e. e) (j.comms q));
    whole = whole_after;
  }
