-- A call joins a creation that is no split: ranks and registry go on to belong together.
use Rattle.std.proofs.Common.{◌≡◌, ◌≢◌, ◌⊎◌, ◌<◌, ℕ, ◌+◌, ◌==◌, ◌&&◌, if◌then◌else◌, Bool, true, false, List, length, get_or, set, Option, Some, None, refl, sym, ap, ◌∙◌, subst, inl, inr, arith}
use Rattle.std.specs.Option.{is_some}
use Rattle.std.proofs.lemmas.Bool.Decides.{nat_tests}
use Rattle.mpi_base.specs.declared.keys.Key.{Key}
use Rattle.mpi_base.specs.declared.shares.Shared1.{Shared1}
use Rattle.std.specs.Prelude.{unwrap_or}
use Rattle.mpi_base.specs.Keys.{same_key}
use Rattle.mpi_base.specs.MemberLists.{has_rank}
use Rattle.mpi_base.proofs.KeyFacts.{same_key_is, same_key-refl}
use Rattle.mpi_law.specs.declared.setting.Setting.{Setting}
use Rattle.mpi_law.specs.declared.setting.TheConstants.{THREADS}
use Rattle.mpi_law.specs.Local.Objects.{Local, NameRow}
use Rattle.mpi_law.specs.Registry.State as reg
use Rattle.mpi_law.specs.Registry.State.{Registry, RankPart, ThreadPart, Communicator, Caller, Creation, CreationName, Creating, Outcome, Made, NoneFree, blank_part}
use Rattle.mpi_law.specs.Registry.Creations.{is_split, is_counted_on, parent_of, has_called, called_on, no_share, share_of, outcome_for, place_where, is_joinable}
use Rattle.mpi_law.specs.Registry.Contexts.{comm_of, stands_for, is_exchange}
use Rattle.agree_law.specs.declared.rows.Outcome.TheVariants as ended
use Rattle.agree_law.specs.declared.rows.Stage.{Stage}
use Rattle.agree_law.specs.declared.rows.Stage.TheVariants.{Sharing, Called, Waiting, Offered, Done}
use Rattle.agree_law.specs.declared.rows.Verdict.{Verdict}
use Rattle.agree_law.specs.Part.{Agree, stage_of, open_creation}
use Rattle.agree_law.proofs.RowFacts.{stage_of-open}
use Rattle.agree_law.proofs.RowFacts as agreed
use Rattle.comm_law.specs.declared.rows.CommRow.{CommRow}
use Rattle.comm_law.specs.Comms.{Comms as Known}
use Rattle.mpi_protocol.specs.declared.rows.Waits.{Waits}
use Rattle.mpi_protocol.specs.declared.rows.Waits.TheVariants.{Nothing, Creation as Creates, Uncoloured, Freeing}
use Rattle.mpi_protocol.specs.declared.rows.ThreadRow.{ThreadRow}
use Rattle.mpi_protocol.specs.Rank.{Rank, idle_thread}
use Rattle.run_law.proofs.Lists.{tally, one}
use Rattle.run_law.proofs.Rows.{row_in}
use Rattle.due_law.specs.Dues.{Dues}
use Rattle.run_law.proofs.Locals.{LocalFits, binds}
use Rattle.run_law.proofs.Threads.{row_of, part_row, is_for, ThreadsFit}
use Rattle.run_law.proofs.Masks.{MaskFits}
use Rattle.run_law.proofs.Creations.{MembersFit, is_sharing, ShareFits, StageFits, CreationFits, UncolouredFits, creation_in}
use Rattle.run_law.proofs.Comms.{CommFits, CommsFit}
use Rattle.run_law.proofs.Wholes.{ParentFits, GroupFits, number_in}
use Rattle.run_law.proofs.Joined.{rank_in, Joined}
use Rattle.run_law.proofs.OneRank.{each_rank, sizes_set}
use Rattle.run_law.proofs.Parts.{set_at, thread_in, PartsAfter, Elsewhere, threads_set}
use Rattle.run_law.proofs.Ends.{stage_named}
use Rattle.run_law.proofs.JoinWholes.{calling_part, n, rows, counts, Called_row, called_row, creation_kept, uncoloured_kept, after_thread}
use Rattle.run_law.proofs.JoinKept.{whole_after}

-- a stage at a rank that knows at least what it knew
pub stage_rows : (comms : List Communicator) (old new : List CommRow) (names : List NameRow) (r : ℕ) (key : Key) (session : ℕ) (due : Option Verdict) (st : Option Stage) (o : Option Outcome)
    → ((c : ℕ) → st ≡ Some (Done (ended.Context c)) → is_some (row_in old c) ≡ true → is_some (row_in new c) ≡ true) → StageFits comms old names r key session due st o → StageFits comms new names r key session due st o
stage_rows comms old new names r key session due None o f h = h
stage_rows comms old new names r key session due (Some (Sharing s)) o f h = h
stage_rows comms old new names r key session due (Some Called) o f h = h
stage_rows comms old new names r key session due (Some (Waiting i)) o f h = h
stage_rows comms old new names r key session due (Some (Offered i own)) o f h = h
stage_rows comms old new names r key session due (Some (Done (ended.Context c))) None f h = h
stage_rows comms old new names r key session due (Some (Done (ended.Context c))) (Some (Made p)) f h = (h.0, (h.1.0, h.1.1, f c refl h.1.2))
stage_rows comms old new names r key session due (Some (Done (ended.Context c))) (Some NoneFree) f h = h
stage_rows comms old new names r key session due (Some (Done ended.Exhausted)) o f h = h

some_stage : (comms : List Communicator) (known : List CommRow) (names : List NameRow) (r : ℕ) (key : Key) (session : ℕ) (due : Option Verdict) (st e : Option Stage) (o : Option Outcome) → StageFits comms known names r key session due st o → agreed.or_else st e ≡ st
some_stage comms known names r key session due None e o h = absurd h
some_stage comms known names r key session due (Some s) e o h = refl

-- the first stage of a creation that is called: of a split it is the exchange of shares
pub data Begins (key : Key) (name : CreationName) (share : Option Shared1) : Stage → Type 0 where
  calls : is_exchange key.kind ≡ false → is_split name ≡ false → Begins key name share Called
  tells : (s : Shared1) → is_exchange key.kind ≡ true → share ≡ Some s → Begins key name share (Sharing s)

-- the thread has called, and waits for the key
abbrev pub calling_row : List ThreadRow → ℕ → Waits → ThreadRow
calling_row threads t waits = record { calls = (row_of threads t).calls + 1; waits = waits }

module _ (s : Setting) (ranks : List Rank) (due : Dues) (g : Registry) (r t : ℕ) (target : List ℕ) (session : ℕ) (name : CreationName) (group : List ℕ) (m : Local) (new : List RankPart) (j : Joined s ranks due g) (here : t < THREADS)
    (idle : (thread_in g.ranks r t).wait ≡ reg.Idle) (share : Option Shared1) (alone : is_split name ≡ true → (i : ℕ) → i < length g.creations → (creation_in g.creations i).name ≡ name → has_called (creation_in g.creations i) r ≡ false) (self : has_rank group r ≡ true) (fits : GroupFits g.comms name group)
    (fresh : has_called (creation_in g.creations (place_where (is_joinable name) g.creations)) r ≡ false)
    (number : (p : ℕ) → is_counted_on p name ≡ true → number_in name ≡ called_on g.creations p r)
    (under : (p : ℕ) → parent_of name ≡ Some p → ParentFits g.comms p group)
    (parts : PartsAfter g.ranks new r t m (calling_part (get_or g.ranks r blank_part).threads t (place_where (is_joinable name) g.creations)))
    (key : Key) (begun : Stage) (a : Agree) (known : Known) (l : Local) (lt : r < s.ranks) (ew : (row_of (rank_in ranks r).threads t).waits ≡ Nothing) (opened : a.opened ≡ open_creation (rank_in ranks r).agree.opened key begun) (owner : a.owner ≡ (rank_in ranks r).agree.owner) (mask : MaskFits s.contexts a.mask known.rows)
    (stands : stands_for g.comms r key ≡ Some name) (begins : Begins key name share begun) (closed : stage_of (rank_in ranks r).agree.opened key ≡ None) (none : due r key ≡ None) (member : has_rank key.members r ≡ true) (members : group ≡ key.members)
    (more : (c : ℕ) → is_some (row_in (rank_in ranks r).comms.rows c) ≡ true → is_some (row_in known.rows c) ≡ true) (local : LocalFits g.comms known.rows r l m)
    (frees : (c : ℕ) → tally (binds c) (rank_in ranks r).local.names ≡ 0 → tally (binds c) l.names ≡ 0)
    (comms : CommsFit s.contexts g.comms (rows s ranks due g r t target session name group m new j here idle share alone self fits fresh number under parts) (get_or g.ranks r blank_part).threads r known.rows known.added (rank_in ranks r).agree.owner (due r) (rank_in ranks r).threads) where
  abbrev x : Rank
  x = rank_in ranks r

  abbrev at : ℕ
  at = n s ranks due g r t target session name group m new j here idle share alone self fits fresh number under parts

  abbrev after : List Creation
  after = rows s ranks due g r t target session name group m new j here idle share alone self fits fresh number under parts

  c : Called_row s ranks due g r t target session name group m new j here idle share alone self fits fresh number under parts
  c = called_row s ranks due g r t target session name group m new j here idle share alone self fits fresh number under parts

  abbrev row : ThreadRow
  row = calling_row x.threads t (Creates key target session)

  abbrev pub y : Rank
  y = record x { agree = a; comms = known; local = l; threads = set x.threads t row }

  inside : r < length ranks
  inside = let e = j.sizes.ranks_are in omega (arith, e, lt)

  stage_after : (k : Key) → stage_of a.opened k ≡ agreed.or_else (stage_of x.agree.opened k) (if same_key key k then Some begun else None)
  stage_after k = rw opened (stage_of-open x.agree.opened key begun k)

  called_here : stage_of a.opened key ≡ Some begun
  called_here = stage_after key ∙ (let k = same_key-refl key in rw (closed, k) refl)

  balance : (k : Key) → one (is_some (stage_of a.opened k)) + one (is_for k (row_of x.threads t).waits) ≡ one (is_some (stage_of x.agree.opened k)) + one (is_for k (Creates key target session))
  balance k = rw (stage_after k, ew) (go (same_key key k) refl (stage_of x.agree.opened k) refl)
    where
      go : (b : Bool) → same_key key k ≡ b → (st : Option Stage) → stage_of x.agree.opened k ≡ st → one (is_some (agreed.or_else st (if b then Some begun else None))) + 0 ≡ one (is_some st) + one b
      go false e None f = refl
      go false e (Some st) f = refl
      go true e None f = refl
      go true e (Some st) f =
          let is = same_key_is key k e in
          let z : stage_of x.agree.opened k ≡ None = subst (λ (i : Key). stage_of x.agree.opened i ≡ None) is closed in
          absurd (cc (z, f))

  threads_here : ThreadsFit y.threads a.opened (get_or new r blank_part).threads
  threads_here = rw parts.threads (threads_set x.threads x.agree.opened a.opened (get_or g.ranks r blank_part).threads t row (calling_part (get_or g.ranks r blank_part).threads t at) (j.threads r) here (let e = (j.threads r).calls t in omega (arith, e)) tt balance)

  rows_at : (u : ℕ) → ((u ≡ t) × (row_of y.threads u ≡ row)) ⊎ ((u ≢ t) × (row_of y.threads u ≡ row_of x.threads u))
  rows_at u = set_at x.threads t row idle_thread u (let l = (j.threads r).long in let i = here in omega (arith, l, i))

  -- the creation that the thread waits for now
  mine : CreationFits g.comms after known.rows l.names (due r key) (stage_of a.opened key) r t key target session at
  mine = record {
    there = c.inside;
    stands = rw c.name_is stands;
    caller = record { called = c.called; thread_is = ap (λ (k : Caller). k.thread) c.caller_is; target_is = ap (λ (k : Caller). k.target) c.caller_is; session_is = ap (λ (k : Caller). k.session) c.caller_is };
    members = at_members begins;
    member = member;
    kind = rw called_here (at_kind begins);
    share = rw called_here (at_share begins);
    far = rw called_here (at_stage begins);
  }
    where
      group_is : (creation_in after at).group ≡ key.members
      group_is = c.group_is ∙ members

      at_members : {st : Stage} → Begins key name share st → MembersFit (creation_in after at) r key (is_exchange key.kind)
      at_members (tells z proper e) = rw proper group_is
      at_members (calls proper single) =
          let split : is_split (creation_in after at).name ≡ false = ap is_split c.name_is ∙ single in
          rw proper ((rw split group_is), λ e. absurd (cc (e, split)))

      at_kind : {st : Stage} → Begins key name share st → is_exchange key.kind ≡ is_sharing (Some st)
      at_kind (tells z proper e) = proper
      at_kind (calls proper single) = proper

      at_share : {st : Stage} → Begins key name share st → ShareFits (share_of (creation_in after at) r) (Some st)
      at_share (calls proper single) = tt
      at_share (tells z proper e) =
          let is : share_of (creation_in after at) r ≡ z = ap (λ (k : Caller). unwrap_or k.share no_share) c.caller_is ∙ (rw e refl) in
          (sym (ap (λ (w : Shared1). w.colour) is), sym (ap (λ (w : Shared1). w.key) is))

      at_stage : {st : Stage} → Begins key name share st → StageFits g.comms known.rows l.names r key session (due r key) (Some st) (outcome_for (creation_in after at) r)
      at_stage (calls proper single) = (none, c.none r)
      at_stage (tells z proper e) = (none, c.none r)

  creations_here : (u : ℕ) (k : Key) (to : List ℕ) (from i : ℕ) → (row_of y.threads u).waits ≡ Creates k to from → (thread_in new r u).wait ≡ Creating i → CreationFits g.comms after known.rows l.names (due r k) (stage_of a.opened k) r u k to from i
  creations_here u k to from i fw fp = go (rows_at u) (after_thread s ranks due g r t target session name group m new j here idle share alone self fits fresh number under parts r u)
    where
      other : (row_of x.threads u).waits ≡ Creates k to from → (thread_in g.ranks r u).wait ≡ Creating i → CreationFits g.comms after known.rows l.names (due r k) (stage_of a.opened k) r u k to from i
      other ow op =
          let f = j.creations.each r u k to from i ow op in
          let st = stage_after k ∙ some_stage g.comms x.comms.rows x.local.names r k from (due r k) (stage_of x.agree.opened k) (if same_key key k then Some begun else None) (outcome_for (creation_in g.creations i) r) f.far in
          rw st (creation_kept s ranks due g r t target session name group m new j here idle share alone self fits fresh number under parts r u k to from i known.rows l.names (due r k) (stage_of x.agree.opened k)
          (record {
            there = f.there;
            stands = f.stands;
            caller = f.caller;
            members = f.members;
            member = f.member;
            kind = f.kind;
            share = f.share;
            far = stage_rows g.comms x.comms.rows known.rows l.names r k from (due r k) (stage_of x.agree.opened k) _ (λ d e. more d) (stage_named g.comms x.comms.rows x.local.names l.names r k from (due r k) (stage_of x.agree.opened k) _ (λ d e z. frees d z) f.far);
          }))

      go : ((u ≡ t) × (row_of y.threads u ≡ row)) ⊎ ((u ≢ t) × (row_of y.threads u ≡ row_of x.threads u)) → ((r ≡ r) × (u ≡ t) × (thread_in new r u ≡ calling_part (get_or g.ranks r blank_part).threads t at)) ⊎ (Elsewhere r t r u × (thread_in new r u ≡ thread_in g.ranks r u)) → CreationFits g.comms after known.rows l.names (due r k) (stage_of a.opened k) r u k to from i
      go (inr v) (inr w) = other (sym (ap (λ (z : ThreadRow). z.waits) v.1) ∙ fw) (sym (ap (λ (z : ThreadPart). z.wait) w.1) ∙ fp)
      go (inl v) (inr w) = absurd (w.0 refl v.0)
      go (inr v) (inl w) = absurd (v.0 w.1)
      go (inl v) (inl w) =
          let e : Creates key target session ≡ Creates k to from = sym (ap (λ (z : ThreadRow). z.waits) v.1) ∙ fw in
          let f : Creating at ≡ Creating i = sym (ap (λ (z : ThreadPart). z.wait) w.2) ∙ fp in
          let ek : key ≡ k = cc (e) in
          let et : target ≡ to = cc (e) in
          let es : session ≡ from = cc (e) in
          let ei : at ≡ i = cc (f) in
          rw (← ek, ← et, ← es, ← ei, v.0) mine

  uncoloured_at : (q : ℕ) (fresh_rows : List ThreadRow) → ((u : ℕ) (k : Key) (to : List ℕ) (from : ℕ) → (row_of fresh_rows u).waits ≡ Uncoloured k to from → (row_of (rank_in ranks q).threads u).waits ≡ Uncoloured k to from)
      → (u : ℕ) (k : Key) (to : List ℕ) (from i : ℕ) → (row_of fresh_rows u).waits ≡ Uncoloured k to from → (thread_in new q u).wait ≡ Creating i → UncolouredFits g.comms after q u k to from i
  uncoloured_at q fresh_rows back u k to from i fw fp = go (after_thread s ranks due g r t target session name group m new j here idle share alone self fits fresh number under parts q u)
    where
      old : (row_of (rank_in ranks q).threads u).waits ≡ Uncoloured k to from
      old = back u k to from fw

      go : ((q ≡ r) × (u ≡ t) × (thread_in new q u ≡ calling_part (get_or g.ranks r blank_part).threads t at)) ⊎ (Elsewhere r t q u × (thread_in new q u ≡ thread_in g.ranks q u)) → UncolouredFits g.comms after q u k to from i
      go (inr w) = uncoloured_kept s ranks due g r t target session name group m new j here idle share alone self fits fresh number under parts q u k to from i (j.creations.uncoloured q u k to from i old (sym (ap (λ (z : ThreadPart). z.wait) w.1) ∙ fp))
      go (inl w) =
          let z : (row_of x.threads t).waits ≡ Uncoloured k to from = subst (λ (v : ℕ). (row_of (rank_in ranks v).threads t).waits ≡ Uncoloured k to from) w.0 (subst (λ (v : ℕ). (row_of (rank_in ranks q).threads v).waits ≡ Uncoloured k to from) w.1 old) in
          absurd (cc (z, ew))

  uncoloured_back : (u : ℕ) (k : Key) (to : List ℕ) (from : ℕ) → (row_of y.threads u).waits ≡ Uncoloured k to from → (row_of x.threads u).waits ≡ Uncoloured k to from
  uncoloured_back u k to from e = go (rows_at u)
    where
      go : ((u ≡ t) × (row_of y.threads u ≡ row)) ⊎ ((u ≢ t) × (row_of y.threads u ≡ row_of x.threads u)) → (row_of x.threads u).waits ≡ Uncoloured k to from
      go (inl z) = absurd (let b = sym (ap (λ (w : ThreadRow). w.waits) z.1) ∙ e in cc (b))
      go (inr z) = sym (ap (λ (w : ThreadRow). w.waits) z.1) ∙ e

  -- a creation of another rank
  creations_else : (q : ℕ) → q ≢ r → (u : ℕ) (k : Key) (to : List ℕ) (from i : ℕ) → (row_of (rank_in ranks q).threads u).waits ≡ Creates k to from → (thread_in new q u).wait ≡ Creating i → CreationFits g.comms after (rank_in ranks q).comms.rows (rank_in ranks q).local.names (due q k) (stage_of (rank_in ranks q).agree.opened k) q u k to from i
  creations_else q ne u k to from i fw fp = creation_kept s ranks due g r t target session name group m new j here idle share alone self fits fresh number under parts q u k to from i _ _ _ _ (j.creations.each q u k to from i fw (ap (λ (z : RankPart). (part_row z.threads u).wait) (sym (parts.others q ne)) ∙ fp))

  -- communicators

  freed : (q u p : ℕ) → (thread_in new q u).wait ≡ reg.Freeing p → (thread_in g.ranks q u).wait ≡ reg.Freeing p
  freed q u p e = go (after_thread s ranks due g r t target session name group m new j here idle share alone self fits fresh number under parts q u)
    where
      go : ((q ≡ r) × (u ≡ t) × (thread_in new q u ≡ calling_part (get_or g.ranks r blank_part).threads t at)) ⊎ (Elsewhere r t q u × (thread_in new q u ≡ thread_in g.ranks q u)) → (thread_in g.ranks q u).wait ≡ reg.Freeing p
      go (inl z) = absurd (let b = sym (ap (λ (w : ThreadPart). w.wait) z.2) ∙ e in cc (b))
      go (inr z) = sym (ap (λ (w : ThreadPart). w.wait) z.1) ∙ e

  free_back : (u serial : ℕ) → (row_of y.threads u).waits ≡ Freeing serial → (row_of x.threads u).waits ≡ Freeing serial
  free_back u serial e = go (rows_at u)
    where
      go : ((u ≡ t) × (row_of y.threads u ≡ row)) ⊎ ((u ≢ t) × (row_of y.threads u ≡ row_of x.threads u)) → (row_of x.threads u).waits ≡ Freeing serial
      go (inl z) = absurd (let b = sym (ap (λ (w : ThreadRow). w.waits) z.1) ∙ e in cc (b))
      go (inr z) = sym (ap (λ (w : ThreadRow). w.waits) z.1) ∙ e

  comms_else : (q : ℕ) → q ≢ r → CommsFit s.contexts g.comms after (get_or new q blank_part).threads q (rank_in ranks q).comms.rows (rank_in ranks q).comms.added (rank_in ranks q).agree.owner (due q) (rank_in ranks q).threads
  comms_else q ne = record {
    each = λ b. each b (row_in (rank_in ranks q).comms.rows b) (comm_of g.comms q b) ((j.comms q).each b);
    range = (j.comms q).range;
    serials = (j.comms q).serials;
    freeing = λ u serial p fw fp. (j.comms q).freeing u serial p fw (freed q u p fp);
  }
    where
      same : (p : ℕ) → called_on after p q ≡ called_on g.creations p q
      same p =
          let e = counts s ranks due g r t target session name group m new j here idle share alone self fits fresh number under parts p q in
          let z : (r == q) ≡ false = grind (arith, nat_tests, ne) in
          let o : one (is_counted_on p name && (r == q)) ≡ 0 = rw z (go (is_counted_on p name)) in
          omega (arith, e, o)
        where
          go : (b : Bool) → one (b && false) ≡ 0
          go true = refl
          go false = refl

      each : (b : ℕ) (o : Option CommRow) (p : Option ℕ) → CommFits g.comms g.creations q (rank_in ranks q).agree.owner (due q) b o p → CommFits g.comms after q (rank_in ranks q).agree.owner (due q) b o p
      each b None None h = tt
      each b (Some z) None h = h
      each b None (Some p) h = record { key = h.key; owns = h.owns; said = h.said; calls = same p ∙ h.calls }
      each b (Some z) (Some p) h = record { members = h.members; session = h.session; calls = h.calls ∙ sym (same p); stage = h.stage }

  pub join_joined : Joined s (set ranks r y) due (record g { creations = after; ranks = new })
  join_joined = record {
    sizes = sizes_set s g (record g { creations = after; ranks = new }) ranks r y j.sizes lt refl refl parts.long;
    locals = each_rank (λ q z. LocalFits g.comms z.comms.rows q z.local (get_or new q blank_part).local) ranks r y inside (rw parts.local local) (λ q ne. rw (parts.others q ne) (j.locals q));
    threads = each_rank (λ q z. ThreadsFit z.threads z.agree.opened (get_or new q blank_part).threads) ranks r y inside threads_here (λ q ne. rw (parts.others q ne) (j.threads q));
    masks = λ q lq. each_rank (λ i z. i < s.ranks → MaskFits s.contexts z.agree.mask z.comms.rows) ranks r y inside (λ w. mask) (λ i ne. j.masks i) q lq;
    creations = record {
      each = each_rank (λ q z. (u : ℕ) (k : Key) (to : List ℕ) (from i : ℕ) → (row_of z.threads u).waits ≡ Creates k to from → (thread_in new q u).wait ≡ Creating i → CreationFits g.comms after z.comms.rows z.local.names (due q k) (stage_of z.agree.opened k) q u k to from i)
          ranks r y inside creations_here creations_else;
      uncoloured = each_rank (λ q z. (u : ℕ) (k : Key) (to : List ℕ) (from i : ℕ) → (row_of z.threads u).waits ≡ Uncoloured k to from → (thread_in new q u).wait ≡ Creating i → UncolouredFits g.comms after q u k to from i)
          ranks r y inside (uncoloured_at r y.threads uncoloured_back) (λ q ne. uncoloured_at q (rank_in ranks q).threads (λ u k to from e. e));
    };
    comms = each_rank (λ q z. CommsFit s.contexts g.comms after (get_or new q blank_part).threads q z.comms.rows z.comms.added z.agree.owner (due q) z.threads) ranks r y inside
        (rw owner (record { each = comms.each; range = comms.range; serials = comms.serials; freeing = λ u serial p fw fp. comms.freeing u serial p (free_back u serial fw) (freed r u p fp) })) comms_else;
    whole = whole_after s ranks due g r t target session name group m new j here idle share alone self fits fresh number under parts;
  }
