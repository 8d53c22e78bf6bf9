-- The call that ends a session, where it is not refused.
use Rattle.std.proofs.Common.{◌≡◌, ◌≢◌, ◌⊎◌, ◌<◌, ℕ, ◌==◌, ◌&&◌, not, if◌then◌else◌, Bool, true, false, List, [], ◌∷◌, option_map, length, get_or, set, Option, Some, None, refl, sym, ap, ◌∙◌, subst, inl, inr, arith, filter}
use Rattle.std.specs.Option.{is_some}
use Rattle.std.specs.List.{list_any}
use Rattle.std.proofs.lemmas.Bool.Decides.{nat_tests}
use Rattle.mpi_base.specs.declared.keys.Key.{Key}
use Rattle.mpi_base.specs.MemberLists.{has_rank}
use Rattle.mpi_base.specs.declared.ops.Op.{Op}
use Rattle.local_law.specs.Names.{unbind_all}
use Rattle.local_law.specs.Objects as bound
use Rattle.mpi_law.specs.declared.setting.Setting.{Setting}
use Rattle.mpi_law.specs.declared.setting.TheConstants.{THREADS}
use Rattle.mpi_law.specs.declared.effects.Effect.TheVariants.{Ends}
use Rattle.mpi_law.specs.Local.Objects.{Bound, NameRow, Local}
use Rattle.mpi_law.specs.Registry.State as reg
use Rattle.mpi_law.specs.Registry.State.{Registry, RankPart, ThreadPart, Communicator, Creating, Outcome, Made, NoneFree, Wait, blank_part, blank_comm, part_of, session_at, with_call}
use Rattle.mpi_law.specs.Registry.Creations.{outcome_for}
use Rattle.mpi_law.specs.Registry.Contexts.{comm_of}
use Rattle.mpi_law.specs.Registry.Calls.{effect_at, with_freed, is_kept, freed_all}
use Rattle.mpi_law.specs.Registry.Events.{registry_next}
use Rattle.agree_law.specs.declared.rows.Outcome.TheVariants as ended
use Rattle.agree_law.specs.declared.rows.Stage.{Stage}
use Rattle.agree_law.specs.declared.rows.Stage.TheVariants.{Sharing, Called, Waiting, Offered, Done}
use Rattle.agree_law.specs.declared.rows.Verdict.{Verdict}
use Rattle.agree_law.specs.declared.rows.Verdict.TheVariants.{Ready, Retry, Context, Exhausted}
use Rattle.agree_law.specs.Part.{stage_of}
use Rattle.comm_law.specs.declared.rows.CommRow.{CommRow}
use Rattle.comm_law.specs.Comms.{Comms as Known, freed, freed_stage, free_session}
use Rattle.mpi_protocol.specs.declared.rows.Waits.TheVariants.{Nothing, Creation as Creates, Freeing, Ending}
use Rattle.mpi_protocol.specs.declared.rows.ThreadRow.{ThreadRow}
use Rattle.mpi_protocol.specs.Rank.{Rank, idle_thread, creates as rank_creates}
use Rattle.mpi_protocol.specs.OpenHere.{has_open_of}
use Rattle.mpi_protocol.specs.Calls.{called}
use Rattle.run_law.proofs.Lists.{length-map, tally, get_or-map}
use Rattle.run_law.proofs.Rows.{row_in}
use Rattle.run_law.proofs.Contexts.{comm_of_is, has_rank-append, live_member}
use Rattle.due_law.specs.Dues.{Dues}
use Rattle.run_law.proofs.Locals.{BoundFits, NamesFit, LocalFits, binds, is_name}
use Rattle.run_law.proofs.Threads.{row_of}
use Rattle.run_law.proofs.Creations.{DueFits, StageFits, comm_in, creation_in}
use Rattle.run_law.proofs.Comms.{KnownComm, CommFits, CommsFit, FreeFits, is_numbered}
use Rattle.run_law.proofs.Joined.{rank_in, Joined}
use Rattle.due_law.specs.Agreed.{Untold}
use Rattle.run_law.proofs.Parts.{set_twice, thread_in, PartsAfter}
use Rattle.run_law.proofs.OneRank.{rank_set}
use Rattle.run_law.proofs.Bindings.{tally-filter}
use Rattle.run_law.proofs.OneThread.{thread_joined, waited, back}
use Rattle.run_law.proofs.Joins.{calling_row}
use Rattle.run_law.proofs.CallParts.{may_call, parts_call}
use Rattle.run_law.proofs.CallSteps.{call_events, called_part, counted as called_more, plain, busy, any_at}
use Rattle.run_law.proofs.Freed.{Freed, kept, stands_same, stay, freed_else, freed_same, waits_freed, freed_more}
use Rattle.run_law.proofs.SameComms.{known_same}
use Rattle.run_law.proofs.StagedRows.{staged_row, row_staged, any_staged, serials_staged, freed_dead, session_freed}
use Rattle.run_law.proofs.FreedSteps.{freed_joined}
use Rattle.run_law.proofs.SettleSteps.{Goes}
use Rattle.local_law.specs.Objects.{is_of, close_session}
use Rattle.run_law.proofs.Waiters.{thread_inside}

module _ (s : Setting) (ranks : List Rank) (due : Dues) (g : Registry) (r t : ℕ) (j : Joined s ranks due g) (untold : Untold ranks due) (lt : r < s.ranks) (here : t < THREADS) (ew : (row_of (rank_in ranks r).threads t).waits ≡ Nothing) (op : Op)
    (name : List ℕ) (session : ℕ) (idle_session : has_open_of (rank_in ranks r) session ≡ false) where
  abbrev x : Rank
  x = rank_in ranks r

  abbrev ended_now : ℕ → Bool
  ended_now a = a == session

  abbrev m : Local
  m = (part_of g r).local

  abbrev fresh_here : Local
  fresh_here = close_session x.local ended_now

  abbrev fresh_there : Local
  fresh_there = close_session m ended_now

  -- names that are not of the session
  of_same : (a d : Bound) → BoundFits g.comms x.comms.rows r a d → is_of ended_now d ≡ is_of ended_now a
  of_same bound.Reserved bound.Reserved k = refl
  of_same (bound.Session u) (bound.Session v) k = ap ended_now k
  of_same (bound.Group ms u) (bound.Group ns v) k = ap ended_now k.1
  of_same (bound.Comm e u) (bound.Comm q v) k = ap ended_now k.session
  of_same (bound.Request u) (bound.Request v) k = refl
  of_same a d k = absurd k

  names_left : (more : List Communicator) (rows : List CommRow) → ((a d : Bound) → is_of ended_now a ≡ false → BoundFits g.comms x.comms.rows r a d → BoundFits more rows r a d) → (a d : List NameRow) → NamesFit g.comms x.comms.rows r a d → NamesFit more rows r (unbind_all a (is_of ended_now)) (unbind_all d (is_of ended_now))
  names_left more rows f [] [] k = tt
  names_left more rows f [] (d ∷ ds) k = absurd k
  names_left more rows f (a ∷ as') [] k = absurd k
  names_left more rows f (a ∷ as') (d ∷ ds) k = go (is_of ended_now a.1) refl (is_of ended_now d.1) (of_same a.1 d.1 k.1) (names_left more rows f as' ds k.2)
    where
      go : (u : Bool) → is_of ended_now a.1 ≡ u → (v : Bool) → v ≡ is_of ended_now a.1 → NamesFit more rows r (unbind_all as' (is_of ended_now)) (unbind_all ds (is_of ended_now))
          → NamesFit more rows r (if not u then a ∷ unbind_all as' (is_of ended_now) else unbind_all as' (is_of ended_now)) (if not v then d ∷ unbind_all ds (is_of ended_now) else unbind_all ds (is_of ended_now))
      go true e true w ih = ih
      go false e false w ih = (k.0, f a.1 d.1 e k.1, ih)
      go true e false w ih = absurd (cc (e, w))
      go false e true w ih = absurd (cc (e, w))

  left_fits : (more : List Communicator) (rows : List CommRow) → ((a d : Bound) → is_of ended_now a ≡ false → BoundFits g.comms x.comms.rows r a d → BoundFits more rows r a d) → LocalFits more rows r fresh_here fresh_there
  left_fits more rows f =
      let old = j.locals r in
      record {
        live = ap (λ (live : List ℕ). filter (λ a. not (ended_now a)) live) old.live;
        opened = old.opened;
        names = names_left more rows f x.local.names m.names old.names;
        each = λ n. (let z = tally-filter (is_name n) (λ (q : NameRow). not (is_of ended_now q.1)) x.local.names in let e = old.each n in omega (arith, z, e));
        comms_once = λ c. (let z = tally-filter (binds c) (λ (q : NameRow). not (is_of ended_now q.1)) x.local.names in let e = old.comms_once c in omega (arith, z, e));
      }

  fewer : (c : ℕ) → tally (binds c) x.local.names ≡ 0 → tally (binds c) fresh_here.names ≡ 0
  fewer c e = let z = tally-filter (binds c) (λ (q : NameRow). not (is_of ended_now q.1)) x.local.names in omega (arith, z, e)

  -- The thread begins to wait, and the names of the session are unbound

  abbrev row : ThreadRow
  row = calling_row x.threads t (Ending session)

  abbrev part : ThreadPart
  part = called_part (get_or g.ranks r blank_part).threads t (reg.Ending session)

  abbrev new : List RankPart
  new = set g.ranks r (with_call (part_of g r) t fresh_there (reg.Ending session))

  abbrev first : Rank
  first = record x { local = fresh_here; threads = set x.threads t row }

  parts : PartsAfter g.ranks new r t fresh_there part
  parts = parts_call s ranks due g r t j lt here ew fresh_there (reg.Ending session)

  no_freeing : (i q : ℕ) → row.waits ≡ Freeing i → part.wait ≡ reg.Freeing q → FreeFits g.comms x.comms.rows x.comms.added r i q
  no_freeing i q e k = absurd (cc (e))

  abbrev first_joined : Joined s (set ranks r first) due (record g { ranks = new })
  first_joined =
      thread_joined s ranks due g r t row part fresh_here fresh_there new (called_more s ranks due g r t j untold lt here ew op) refl refl j lt here (plain s ranks due g r t j untold lt here ew op) (busy s ranks due g r t j untold lt here ew op) parts (left_fits g.comms x.comms.rows (λ a d e k. k)) fewer no_freeing

  inside : r < length ranks
  inside = let e = j.sizes.ranks_are in omega (arith, e, lt)

  first_is : rank_in (set ranks r first) r ≡ first
  first_is = go (rank_set ranks r first r inside)
    where
      go : ((r ≡ r) × (rank_in (set ranks r first) r ≡ first)) ⊎ ((r ≢ r) × (rank_in (set ranks r first) r ≡ rank_in ranks r)) → rank_in (set ranks r first) r ≡ first
      go (inl a) = a.1
      go (inr a) = absurd (a.0 refl)

  -- Then its communicators are freed

  abbrev hit : ℕ → Bool
  hit q = is_kept r session (comm_in g.comms q)

  abbrev cs : List Communicator
  cs = freed_all g.comms r session

  freed_here : Freed g.comms cs r hit
  freed_here = record { long = length-map (λ (z : Communicator). if is_kept r session z then with_freed r z else z) g.comms; row = λ q. get_or-map (λ (z : Communicator). if is_kept r session z then with_freed r z else z) g.comms blank_comm q }

  abbrev known : Known
  known = free_session x.comms session

  abbrev of_session : CommRow → Bool
  of_session z = z.session == session

  rows_are : (d : ℕ) → row_in known.rows d ≡ option_map (staged_row freed_stage of_session) (row_in x.comms.rows d)
  rows_are d = ap (λ (ms : List CommRow). row_in ms d) (session_freed x.comms session) ∙ row_staged freed_stage x.comms.rows of_session d

  same : (d : ℕ) → is_some (row_in known.rows d) ≡ is_some (row_in x.comms.rows d)
  same d = rw (rows_are d) (go (row_in x.comms.rows d))
    where
      go : (o : Option CommRow) → is_some (option_map (staged_row freed_stage of_session) o) ≡ is_some o
      go None = refl
      go (Some z) = refl

  name_freed : (a d : Bound) → is_of ended_now a ≡ false → BoundFits g.comms x.comms.rows r a d → BoundFits cs known.rows r a d
  name_freed bound.Reserved bound.Reserved ne k = tt
  name_freed (bound.Session u) (bound.Session v) ne k = k
  name_freed (bound.Group ms u) (bound.Group ns v) ne k = k
  name_freed (bound.Comm e u) (bound.Comm q v) ne k =
      record {
        session = k.session;
        stands = stay g.comms cs r hit freed_here r e q k.stands;
        kept = freed_else g.comms cs r hit freed_here q r (λ z w. (let o = k.of_session in let y : (session_at (comm_in g.comms q) r == session) ≡ true = grind (arith, z) in let n : (u == session) ≡ true = rw (← o) y in cc (n, ne))) ∙ k.kept;
        known = same e ∙ k.known;
        of_session = kept g.comms cs r hit freed_here (λ d ms ss back. session_at (record { ctx = d; members = ms; sessions = ss; freed = []; returned = back }) r) q ∙ k.of_session;
      }
  name_freed (bound.Request u) (bound.Request v) ne k = k
  name_freed a d ne k = absurd k

  local_here : LocalFits cs known.rows r fresh_here (part_of (record g { ranks = new }) r).local
  local_here = subst (λ (z : Local). LocalFits cs known.rows r fresh_here z) (sym parts.local) (left_fits cs known.rows name_freed)

  -- no creation of the rank has made one of them
  unmade : (u : ℕ) (k : Key) (to : List ℕ) (from i q : ℕ) → (row_of first.threads u).waits ≡ Creates k to from → (thread_in new r u).wait ≡ Creating i → outcome_for (creation_in g.creations i) r ≡ Some (Made q) → hit q ≡ true → ⊥
  unmade u k to from i q fw fp e hits =
      let w = back s ranks due g r t row part fresh_here fresh_there new (called_more s ranks due g r t j untold lt here ew op) refl refl j lt here (plain s ranks due g r t j untold lt here ew op) (busy s ranks due g r t j untold lt here ew op) parts (left_fits g.comms x.comms.rows (λ a d e k. k)) fewer no_freeing (Creates k to from) refl u fw in
      let o = waited s ranks due g r t row part fresh_here fresh_there new (called_more s ranks due g r t j untold lt here ew op) refl refl j lt here (plain s ranks due g r t j untold lt here ew op) (busy s ranks due g r t j untold lt here ew op) parts (left_fits g.comms x.comms.rows (λ a d e k. k)) fewer no_freeing r u i fp in
      let f = j.creations.each r u k to from i w o in
      let lu = thread_inside s ranks due g j r u i o in
      let made = staged (due r k) (stage_of x.agree.opened k) (subst (λ (z : Option Outcome). StageFits g.comms x.comms.rows x.local.names r k from (due r k) (stage_of x.agree.opened k) z) e f.far) in
      let y : (session_at (comm_in g.comms q) r == session) ≡ true = grind (arith, hits) in
      let of_it : (from == session) ≡ true = rw (← made) y in
      let on : rank_creates (λ k a. a == session) (row_of x.threads u).waits ≡ true = rw w of_it in
      let some = any_at (λ (z : ThreadRow). rank_creates (λ k a. a == session) z.waits) x.threads idle_thread u (let n = (j.threads r).long in omega (arith, n, lu)) on in
      cc (some, idle_session)
    where
      of_due : (v : Option Verdict) → DueFits g.comms r k from v (Some (Made q)) → session_at (comm_in g.comms q) r ≡ from
      of_due None z = absurd z
      of_due (Some Ready) z = absurd z
      of_due (Some Retry) z = absurd z
      of_due (Some Exhausted) z = absurd z
      of_due (Some (Context a)) z = z.session_is

      staged : (v : Option Verdict) (st : Option Stage) → StageFits g.comms x.comms.rows x.local.names r k from v st (Some (Made q)) → session_at (comm_in g.comms q) r ≡ from
      staged v None z = absurd z
      staged v (Some (Sharing a)) z = absurd (let n = z.1 in cc (n))
      staged v (Some Called) z = absurd (let n = z.1 in cc (n))
      staged v (Some (Waiting a)) z = absurd (let n = z.1 in cc (n))
      staged v (Some (Offered a own)) z = of_due v z
      staged v (Some (Done ended.Exhausted)) z = absurd z.1
      staged v (Some (Done (ended.Context a))) z = z.1.0.session_is

  -- what the rank knows
  -- serials and contexts stay
  numbers : (P : ℕ → ℕ → Bool) → list_any (λ (y : CommRow). P y.serial y.ctx) known.rows ≡ list_any (λ (y : CommRow). P y.serial y.ctx) x.comms.rows
  numbers P = ap (λ (ms : List CommRow). list_any (λ (y : CommRow). P y.serial y.ctx) ms) (session_freed x.comms session) ∙ any_staged freed_stage x.comms.rows of_session P

  comms_here : CommsFit s.contexts cs g.creations (get_or new r blank_part).threads r known.rows known.added x.agree.owner (due r) first.threads
  unfolding staged_row
  comms_here =
      record {
        each = λ d. rw (stands_same g.comms cs r hit freed_here r d, rows_are d) (each d (row_in x.comms.rows d) refl (comm_of g.comms r d) refl (old.each d));
        range = λ d e. old.range d (ap is_some (sym (stands_same g.comms cs r hit freed_here r d)) ∙ e);
        freeing = λ u i q fw fp. (let k = waits_freed g.comms cs r hit freed_here x.comms.rows x.comms.added r i q (old.freeing u i q fw fp) in record { inside = k.inside; below = k.below; member = k.member; own = numbers (λ n b. (n == i) && not (b == (comm_in cs q).ctx)) ∙ k.own; gone = numbers (λ n b. n == i) ∙ k.gone });
        serials = λ n. (let a = serials_staged freed_stage x.comms.rows of_session n in let o = old.serials n in let e = ap (λ (ms : List CommRow). tally (is_numbered n) ms) (session_freed x.comms session) in omega (arith, a, o, e));
      }
    where
      old : CommsFit s.contexts g.comms g.creations (get_or new r blank_part).threads r x.comms.rows x.comms.added x.agree.owner (due r) first.threads
      old = subst (λ (z : Rank). CommsFit s.contexts g.comms g.creations (get_or new r blank_part).threads r z.comms.rows z.comms.added z.agree.owner (due r) z.threads) first_is (first_joined.comms r)

      at_row : (d q : ℕ) (y : CommRow) → comm_of g.comms r d ≡ Some q → KnownComm g.comms g.creations r y q → KnownComm cs g.creations r (staged_row freed_stage of_session y) q
      at_row d q y e k = go (y.session == session) refl
        where
          live : has_rank (comm_in g.comms q).members r ≡ true
          live = live_member (comm_in g.comms q) r (comm_of_is g.comms r d q e).live

          -- the rank has freed it then, if not before
          has : (y.session == session) ≡ true → (v : Bool) → has_rank (comm_in g.comms q).freed r ≡ v → has_rank (comm_in cs q).freed r ≡ true
          has on true f = freed_more g.comms cs r hit freed_here q r f
          has on false f =
              let its : (session_at (comm_in g.comms q) r == session) ≡ true = rw (← k.session) on in
              let hits : hit q ≡ true = grind (arith, live, its, f) in
              let self : (r == r) ≡ true = grind (arith, nat_tests) in
              let row_q : comm_in cs q ≡ with_freed r (comm_in g.comms q) = freed_here.row q ∙ (rw hits refl) in
              ap (λ (z : Communicator). has_rank z.freed r) row_q ∙ (has_rank-append (comm_in g.comms q).freed r r ∙ (rw (self, f) refl))

          go : (v : Bool) → (y.session == session) ≡ v → KnownComm cs g.creations r (if v then freed y else y) q
          go false f =
              let its : (session_at (comm_in g.comms q) r == session) ≡ false = rw (← k.session) f in
              let ne : hit q ≡ false = grind (arith, its) in
              known_same g.comms cs r _ (freed_same g.comms cs r hit freed_here) g.creations y q (λ z. cc (z, ne)) k
          go true f =
              record {
                members = k.members ∙ sym (kept g.comms cs r hit freed_here (λ a ms ss back. ms) q);
                session = k.session ∙ sym (kept g.comms cs r hit freed_here (λ a ms ss back. session_at (record { ctx = a; members = ms; sessions = ss; freed = []; returned = back }) r) q);
                calls = k.calls;
                stage = freed_dead y.stage ∙ ap not (sym (has f (has_rank (comm_in g.comms q).freed r) refl));
              }

      each : (d : ℕ) (o : Option CommRow) → row_in x.comms.rows d ≡ o → (q : Option ℕ) → comm_of g.comms r d ≡ q → CommFits g.comms g.creations r x.agree.owner (due r) d o q → CommFits cs g.creations r x.agree.owner (due r) d (option_map (staged_row freed_stage of_session) o) q
      each d None eo None eq k = tt
      each d (Some y) eo None eq k = k
      each d None eo (Some q) eq k = k
      each d (Some y) eo (Some q) eq k = at_row d q y eq k

  pub ends_goes : effect_at s g r op ≡ Ends name session → Goes s g (call_events r t op (called x t (Ends name session))) (set ranks r (called x t (Ends name session)).state) due
  unfolding registry_next
  ends_goes is =
      rw is (
        (may_call s ranks due g r t j lt here ew op (Ends name session) false is refl, tt),
        subst (λ (rs : List Rank). Joined s rs due (record g { comms = cs; ranks = new })) (set_twice ranks r first (record first { comms = known }))
            (freed_joined s (set ranks r first) due (record g { ranks = new }) r cs hit freed_here first known first_joined lt first_is same local_here unmade comms_here),
      )
