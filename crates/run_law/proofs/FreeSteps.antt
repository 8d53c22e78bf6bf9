-- The call of `free`, where it is not refused.
use Rattle.std.proofs.Common.{◌≡◌, ◌≢◌, ◌⊎◌, ◌<◌, ◌≤◌, ℕ, ◌==◌, ◌&&◌, ◌||◌, nat_le, not, if◌then◌else◌, Bool, true, false, List, [], ◌∷◌, option_map, length, get_or, set, Option, Some, None, refl, sym, ap, ◌∙◌, subst, inl, inr, arith, length-set}
use Rattle.std.specs.Option.{is_some, is_none}
use Rattle.std.specs.List.{list_any}
use Rattle.std.proofs.lemmas.Bool.Decides.{nat_tests}
use Rattle.mpi_base.specs.declared.keys.Key.{Key}
use Rattle.mpi_base.specs.MemberLists.{has_rank}
use Rattle.mpi_base.specs.declared.ops.Op.{Op}
use Rattle.local_law.specs.Names.{bound_of, unbind}
use Rattle.local_law.specs.Objects as bound
use Rattle.mpi_law.specs.declared.setting.Setting.{Setting}
use Rattle.mpi_law.specs.declared.setting.TheConstants.{THREADS}
use Rattle.mpi_law.specs.declared.effects.Effect.TheVariants.{Frees}
use Rattle.mpi_law.specs.Local.Objects.{Bound, NameRow, Local, with_names}
use Rattle.mpi_law.specs.Registry.State as reg
use Rattle.mpi_law.specs.Registry.State.{Registry, RankPart, ThreadPart, Communicator, Creating, Outcome, Made, NoneFree, Wait, blank_part, blank_comm, part_of, session_at, with_call}
use Rattle.mpi_law.specs.Registry.Creations.{outcome_for}
use Rattle.mpi_law.specs.Registry.Contexts.{comm_of}
use Rattle.mpi_law.specs.Registry.Calls.{effect_at, with_freed}
use Rattle.mpi_law.specs.Registry.Events.{registry_next}
use Rattle.agree_law.specs.declared.rows.Outcome.TheVariants as ended
use Rattle.agree_law.specs.declared.rows.Stage.{Stage}
use Rattle.agree_law.specs.declared.rows.Stage.TheVariants.{Sharing, Called, Waiting, Offered, Done}
use Rattle.agree_law.specs.declared.rows.Verdict.{Verdict}
use Rattle.agree_law.specs.declared.rows.Verdict.TheVariants.{Ready, Retry, Context, Exhausted}
use Rattle.agree_law.specs.Part.{stage_of}
use Rattle.comm_law.specs.declared.rows.CommRow.{CommRow}
use Rattle.comm_law.specs.Comms.{Comms as Known, comm_at, mark_free, freed, freed_stage}
use Rattle.mpi_protocol.specs.declared.rows.Waits.TheVariants.{Nothing, Creation as Creates, Freeing}
use Rattle.mpi_protocol.specs.declared.rows.ThreadRow.{ThreadRow}
use Rattle.mpi_protocol.specs.Rank.{Rank}
use Rattle.mpi_protocol.specs.Calls.{called}
use Rattle.run_law.proofs.Lists.{tally, one}
use Rattle.run_law.proofs.Rows.{row_in}
use Rattle.run_law.proofs.Contexts.{comm_of_is, live_member, has_rank-append}
use Rattle.due_law.specs.Dues.{Dues}
use Rattle.run_law.proofs.Locals.{CommNamed, BoundFits, NamesFit, LocalFits, is_comm, binds}
use Rattle.run_law.proofs.Threads.{row_of}
use Rattle.run_law.proofs.Creations.{DueFits, StageFits, comm_in, creation_in}
use Rattle.run_law.proofs.Comms.{KnownComm, CommFits, CommsFit, FreeFits, is_numbered}
use Rattle.run_law.proofs.Joined.{rank_in, Joined}
use Rattle.due_law.specs.Agreed.{Untold, DueIsFree}
use Rattle.run_law.proofs.Parts.{set_at, set_twice, thread_in, PartsAfter}
use Rattle.run_law.proofs.OneRank.{rank_set}
use Rattle.run_law.proofs.KnownHere.{Here, known_here as comm_known}
use Rattle.run_law.proofs.Bindings.{bound_some, unbinds, other_unbind}
use Rattle.run_law.proofs.OneThread.{thread_joined, waited, back}
use Rattle.run_law.proofs.Joins.{calling_row}
use Rattle.run_law.proofs.CallParts.{may_call, parts_call}
use Rattle.run_law.proofs.CallSteps.{call_events, called_part, counted as called_more, plain, busy, without_name}
use Rattle.run_law.proofs.CountedRows.{row_ctx}
use Rattle.run_law.proofs.Freed.{Freed, kept, stands_same, stay, freed_else, freed_same, waits_freed}
use Rattle.run_law.proofs.SameComms.{known_same}
use Rattle.run_law.proofs.StagedRows.{staged_row, row_staged, any_staged, serials_staged, mark_is, own_serial, own_alone, freed_dead}
use Rattle.run_law.proofs.FreedSteps.{freed_joined}
use Rattle.run_law.proofs.SettleSteps.{Goes}

module _ (s : Setting) (ranks : List Rank) (due : Dues) (g : Registry) (r t : ℕ) (j : Joined s ranks due g) (untold : Untold ranks due) (free_due : DueIsFree ranks due) (lt : r < s.ranks) (here : t < THREADS) (ew : (row_of (rank_in ranks r).threads t).waits ≡ Nothing) (op : Op)
    (name : List ℕ) (c p session : ℕ) (h : CommNamed g.comms (rank_in ranks r).comms.rows r c session p session) (b : bound_of (rank_in ranks r).local.names name ≡ Some (bound.Comm c session)) where
  abbrev x : Rank
  x = rank_in ranks r

  known_here : Here s ranks due g r c p
  known_here = comm_known s ranks due g r j c session p session h

  abbrev serial : ℕ
  serial = (comm_at x.comms c).serial

  row_is : comm_at x.comms c ≡ known_here.row
  row_is = let e = known_here.is in rw e refl

  there : p < length g.comms
  there = (comm_of_is g.comms r c p h.stands).inside

  -- The thread begins to wait, and the name is unbound

  abbrev l : Local
  l = with_names x.local (unbind x.local.names name)

  abbrev m : Local
  m = with_names (part_of g r).local (unbind (part_of g r).local.names name)

  abbrev row : ThreadRow
  row = calling_row x.threads t (Freeing serial)

  abbrev part : ThreadPart
  part = called_part (get_or g.ranks r blank_part).threads t (reg.Freeing p)

  abbrev new : List RankPart
  new = set g.ranks r (with_call (part_of g r) t m (reg.Freeing p))

  abbrev first : Rank
  first = record x { local = l; threads = set x.threads t row }

  awaits_back : FreeFits g.comms x.comms.rows x.comms.added r serial p
  awaits_back =
      let own = own_serial x.comms.rows c known_here.row known_here.is in
      let few = (j.comms r).serials known_here.row.serial in
      let live = (comm_of_is g.comms r c p h.stands).live in
      let n : nat_le known_here.row.serial x.comms.added ≡ true = at (nat_le known_here.row.serial x.comms.added) refl few own.1 in
      let kept_here : has_rank (comm_in g.comms p).returned r ≡ false = grind (arith, live) in
      let is : serial ≡ known_here.row.serial = ap (λ (z : CommRow). z.serial) row_is in
      let ctx = (comm_of_is g.comms r c p h.stands).context in
      record { inside = there; member = live_member (comm_in g.comms p) r live; below = rw is (grind (arith, nat_tests, n)); own = rw (is, ctx) (own_alone x.comms.rows c known_here.row known_here.is (few_one (nat_le known_here.row.serial x.comms.added) few)); gone = rw (is, kept_here) own.0 }
    where
      few_one : (v : Bool) → tally (is_numbered known_here.row.serial) x.comms.rows ≤ one v → tally (is_numbered known_here.row.serial) x.comms.rows ≤ 1
      few_one true few = few
      few_one false few = omega (arith, few)

      at : (v : Bool) → nat_le known_here.row.serial x.comms.added ≡ v → tally (is_numbered known_here.row.serial) x.comms.rows ≤ one (nat_le known_here.row.serial x.comms.added) → 1 ≤ tally (is_numbered known_here.row.serial) x.comms.rows → nat_le known_here.row.serial x.comms.added ≡ true
      at true e few own = e
      at false e few own = absurd (let o : one (nat_le known_here.row.serial x.comms.added) ≡ 0 = ap one e in omega (arith, few, own, o))

  waits_first : (i q : ℕ) → row.waits ≡ Freeing i → part.wait ≡ reg.Freeing q → FreeFits g.comms x.comms.rows x.comms.added r i q
  waits_first i q e k = let a : serial ≡ i = cc (e) in let d : p ≡ q = cc (k) in subst (λ (z : ℕ). FreeFits g.comms x.comms.rows x.comms.added r z q) a (subst (λ (z : ℕ). FreeFits g.comms x.comms.rows x.comms.added r serial z) d awaits_back)

  parts : PartsAfter g.ranks new r t m part
  parts = parts_call s ranks due g r t j lt here ew m (reg.Freeing p)

  abbrev first_joined : Joined s (set ranks r first) due (record g { ranks = new })
  first_joined =
      thread_joined s ranks due g r t row part l m new (called_more s ranks due g r t j untold lt here ew op) tt refl j lt here (plain s ranks due g r t j untold lt here ew op) (busy s ranks due g r t j untold lt here ew op) parts (without_name s ranks due g r t j untold lt here ew op name)
      (λ d z. other_unbind x.local.names name d z) waits_first

  inside : r < length ranks
  inside = let e = j.sizes.ranks_are in omega (arith, e, lt)

  first_is : rank_in (set ranks r first) r ≡ first
  first_is = go (rank_set ranks r first r inside)
    where
      go : ((r ≡ r) × (rank_in (set ranks r first) r ≡ first)) ⊎ ((r ≢ r) × (rank_in (set ranks r first) r ≡ rank_in ranks r)) → rank_in (set ranks r first) r ≡ first
      go (inl a) = a.1
      go (inr a) = absurd (a.0 refl)

  -- Then the communicator is freed

  abbrev cs : List Communicator
  cs = set g.comms p (with_freed r (comm_in g.comms p))

  abbrev hit : ℕ → Bool
  hit q = q == p

  freed_here : Freed g.comms cs r hit
  freed_here = record { long = length-set g.comms p (with_freed r (comm_in g.comms p)); row = λ q. go q (set_at g.comms p (with_freed r (comm_in g.comms p)) blank_comm q there) (q == p) refl }
    where
      go : (q : ℕ) → ((q ≡ p) × (comm_in cs q ≡ with_freed r (comm_in g.comms p))) ⊎ ((q ≢ p) × (comm_in cs q ≡ comm_in g.comms q)) → (v : Bool) → (q == p) ≡ v → comm_in cs q ≡ (if v then with_freed r (comm_in g.comms q) else comm_in g.comms q)
      go q (inl a) true e = a.1 ∙ ap (λ (i : ℕ). with_freed r (comm_in g.comms i)) (sym a.0)
      go q (inl a) false e = absurd (let z = a.0 in grind (arith, nat_tests, z, e))
      go q (inr a) true e = absurd (a.0 (grind (arith, nat_tests, e)))
      go q (inr a) false e = a.1

  abbrev known : Known
  known = mark_free x.comms c

  rows_are : (d : ℕ) → row_in known.rows d ≡ option_map (staged_row freed_stage (λ z. z.ctx == c)) (row_in x.comms.rows d)
  rows_are d = ap (λ (ms : List CommRow). row_in ms d) (mark_is x.comms c) ∙ row_staged freed_stage x.comms.rows (λ z. z.ctx == c) d

  same : (d : ℕ) → is_some (row_in known.rows d) ≡ is_some (row_in x.comms.rows d)
  same d = rw (rows_are d) (go (row_in x.comms.rows d))
    where
      go : (o : Option CommRow) → is_some (option_map (staged_row freed_stage (λ z. z.ctx == c)) o) ≡ is_some o
      go None = refl
      go (Some z) = refl

  -- a context that stands for it is this one
  one_context : (d q : ℕ) → comm_of g.comms r d ≡ Some q → (q == p) ≡ (d == c)
  one_context d q e = at (q == p) refl (d == c) refl
    where
      at : (u : Bool) → (q == p) ≡ u → (v : Bool) → (d == c) ≡ v → (q == p) ≡ (d == c)
      at true f true k = f ∙ sym k
      at false f false k = f ∙ sym k
      at true f false k =
          let is : q ≡ p = grind (arith, nat_tests, f) in
          let one_ctx = (comm_of_is g.comms r d q e).context in
          let two_ctx = (comm_of_is g.comms r c p h.stands).context in
          let z : d ≡ c = sym one_ctx ∙ (ap (λ (i : ℕ). (comm_in g.comms i).ctx) is ∙ two_ctx) in
          absurd (grind (arith, nat_tests, z, k))
      at false f true k =
          let is : d ≡ c = grind (arith, nat_tests, k) in
          let a : comm_of g.comms r c ≡ Some q = subst (λ (i : ℕ). comm_of g.comms r i ≡ Some q) is e in
          let st = h.stands in
          let z : q ≡ p = cc (a, st) in
          absurd (grind (arith, nat_tests, z, f))

  -- no name is bound to it any more
  nameless : tally (binds c) l.names ≡ 0
  nameless = unbinds x.local.names name c session b ((j.locals r).comms_once c)

  name_freed : (a d : Bound) → is_comm c a ≡ false → BoundFits g.comms x.comms.rows r a d → BoundFits cs known.rows r a d
  name_freed bound.Reserved bound.Reserved ne k = tt
  name_freed (bound.Session u) (bound.Session v) ne k = k
  name_freed (bound.Group ms u) (bound.Group ns v) ne k = k
  name_freed (bound.Comm e u) (bound.Comm q v) ne k =
      record {
        session = k.session;
        stands = stay g.comms cs r hit freed_here r e q k.stands;
        kept = freed_else g.comms cs r hit freed_here q r (λ z w. (let o = one_context e q k.stands in let y : false ≡ true = sym ne ∙ (sym o ∙ z) in cc (y))) ∙ k.kept;
        known = same e ∙ k.known;
        of_session = kept g.comms cs r hit freed_here (λ d ms ss back. session_at (record { ctx = d; members = ms; sessions = ss; freed = []; returned = back }) r) q ∙ k.of_session;
      }
  name_freed (bound.Request u) (bound.Request v) ne k = k
  name_freed a d ne k = absurd k

  names_freed : (a d : List NameRow) → tally (binds c) a ≡ 0 → NamesFit g.comms x.comms.rows r a d → NamesFit cs known.rows r a d
  names_freed [] [] z k = tt
  names_freed [] (d ∷ ds) z k = absurd k
  names_freed (a ∷ as') [] z k = absurd k
  names_freed (a ∷ as') (d ∷ ds) z k = (k.0, name_freed a.1 d.1 (no_one (is_comm c a.1) (omega (arith, z))) k.1, names_freed as' ds (omega (arith, z)) k.2)
    where
      no_one : (v : Bool) → one v ≡ 0 → v ≡ false
      no_one true e = absurd (omega (arith, e))
      no_one false e = refl

  local_here : LocalFits cs known.rows r l (part_of (record g { ranks = new }) r).local
  local_here =
      let f = without_name s ranks due g r t j untold lt here ew op name in
      subst (λ (z : Local). LocalFits cs known.rows r l z) (sym parts.local) (record { live = f.live; opened = f.opened; names = names_freed l.names m.names nameless f.names; each = f.each; comms_once = f.comms_once })

  -- no creation of the rank has made it
  unmade : (u : ℕ) (k : Key) (to : List ℕ) (from i q : ℕ) → (row_of first.threads u).waits ≡ Creates k to from → (thread_in new r u).wait ≡ Creating i → outcome_for (creation_in g.creations i) r ≡ Some (Made q) → hit q ≡ true → ⊥
  unmade u k to from i q fw fp e hits =
      let w = back s ranks due g r t row part l m new (called_more s ranks due g r t j untold lt here ew op) tt refl j lt here (plain s ranks due g r t j untold lt here ew op) (busy s ranks due g r t j untold lt here ew op) parts (without_name s ranks due g r t j untold lt here ew op name) (λ d z. other_unbind x.local.names name d z) waits_first (Creates k to from) refl u fw in
      let o = waited s ranks due g r t row part l m new (called_more s ranks due g r t j untold lt here ew op) tt refl j lt here (plain s ranks due g r t j untold lt here ew op) (busy s ranks due g r t j untold lt here ew op) parts (without_name s ranks due g r t j untold lt here ew op name) (λ d z. other_unbind x.local.names name d z) waits_first r u i fp in
      let f = j.creations.each r u k to from i w o in
      staged (due r k) refl (stage_of x.agree.opened k) (subst (λ (z : Option Outcome). StageFits g.comms x.comms.rows x.local.names r k from (due r k) (stage_of x.agree.opened k) z) e f.far)
    where
      of_due : (v : Option Verdict) → due r k ≡ v → DueFits g.comms r k from v (Some (Made q)) → ⊥
      of_due None d z = z
      of_due (Some Ready) d z = z
      of_due (Some Retry) d z = z
      of_due (Some Exhausted) d z = z
      of_due (Some (Context a)) d z =
          let bit = free_due r k a d in
          let mask = (j.masks r lt).bits a in
          let is : (a == c) ≡ true = sym (one_context a q z.stands) ∙ hits in
          let same_ctx : a ≡ c = grind (arith, nat_tests, is) in
          let known_row : is_some (row_in x.comms.rows a) ≡ true = rw same_ctx h.known in
          let none : is_none (row_in x.comms.rows a) ≡ true = grind (arith, bit, mask) in
          cc_none (row_in x.comms.rows a) known_row none
        where
          cc_none : (o : Option CommRow) → is_some o ≡ true → is_none o ≡ true → ⊥
          cc_none None y n = cc (y)
          cc_none (Some z) y n = cc (n)

      staged : (v : Option Verdict) → due r k ≡ v → (st : Option Stage) → StageFits g.comms x.comms.rows x.local.names r k from v st (Some (Made q)) → ⊥
      staged v d None z = z
      staged v d (Some (Sharing a)) z = let n = z.1 in cc (n)
      staged v d (Some Called) z = let n = z.1 in cc (n)
      staged v d (Some (Waiting a)) z = let n = z.1 in cc (n)
      staged v d (Some (Offered a own)) z = of_due v d z
      staged v d (Some (Done ended.Exhausted)) z = z.1
      staged v d (Some (Done (ended.Context a))) z =
          let is : (a == c) ≡ true = sym (one_context a q z.1.0.stands) ∙ hits in
          let same_ctx : a ≡ c = grind (arith, nat_tests, is) in
          let none : tally (binds c) x.local.names ≡ 0 = subst (λ (i : ℕ). tally (binds i) x.local.names ≡ 0) same_ctx z.1.1 in
          let some = bound_some x.local.names name c session b in
          absurd (omega (arith, none, some))

  -- what the rank knows
  -- serials and contexts stay
  numbers : (P : ℕ → ℕ → Bool) → list_any (λ (y : CommRow). P y.serial y.ctx) known.rows ≡ list_any (λ (y : CommRow). P y.serial y.ctx) x.comms.rows
  numbers P = ap (λ (ms : List CommRow). list_any (λ (y : CommRow). P y.serial y.ctx) ms) (mark_is x.comms c) ∙ any_staged freed_stage x.comms.rows (λ z. z.ctx == c) P

  comms_here : CommsFit s.contexts cs g.creations (get_or new r blank_part).threads r known.rows known.added x.agree.owner (due r) first.threads
  unfolding staged_row
  comms_here =
      record {
        each = λ d. rw (stands_same g.comms cs r hit freed_here r d, rows_are d) (each d (row_in x.comms.rows d) refl (comm_of g.comms r d) refl (old.each d));
        range = λ d e. old.range d (ap is_some (sym (stands_same g.comms cs r hit freed_here r d)) ∙ e);
        freeing = λ u i q fw fp. (let k = waits_freed g.comms cs r hit freed_here x.comms.rows x.comms.added r i q (old.freeing u i q fw fp) in record { inside = k.inside; below = k.below; member = k.member; own = numbers (λ n b. (n == i) && not (b == (comm_in cs q).ctx)) ∙ k.own; gone = numbers (λ n b. n == i) ∙ k.gone });
        serials = λ n. (let a = serials_staged freed_stage x.comms.rows (λ z. z.ctx == c) n in let o = old.serials n in let e = ap (λ (ms : List CommRow). tally (is_numbered n) ms) (mark_is x.comms c) in omega (arith, a, o, e));
      }
    where
      old : CommsFit s.contexts g.comms g.creations (get_or new r blank_part).threads r x.comms.rows x.comms.added x.agree.owner (due r) first.threads
      old = subst (λ (z : Rank). CommsFit s.contexts g.comms g.creations (get_or new r blank_part).threads r z.comms.rows z.comms.added z.agree.owner (due r) z.threads) first_is (first_joined.comms r)

      at_row : (d q : ℕ) (y : CommRow) → y.ctx ≡ d → comm_of g.comms r d ≡ Some q → KnownComm g.comms g.creations r y q → KnownComm cs g.creations r (staged_row freed_stage (λ z. z.ctx == c) y) q
      at_row d q y ctx e k = go (y.ctx == c) refl
        where
          go : (v : Bool) → (y.ctx == c) ≡ v → KnownComm cs g.creations r (if v then freed y else y) q
          go false f =
              let ne : (q == p) ≡ false = one_context d q e ∙ (rw (← ctx) f) in
              known_same g.comms cs r _ (freed_same g.comms cs r hit freed_here) g.creations y q (λ z. cc (z, ne)) k
          go true f =
              let on : (q == p) ≡ true = one_context d q e ∙ (rw (← ctx) f) in
              let self : (r == r) ≡ true = grind (arith, nat_tests) in
              let row_q : comm_in cs q ≡ with_freed r (comm_in g.comms q) = freed_here.row q ∙ (rw on refl) in
              let has : has_rank (comm_in cs q).freed r ≡ true = ap (λ (z : Communicator). has_rank z.freed r) row_q ∙ (has_rank-append (comm_in g.comms q).freed r r ∙ (rw self (last (has_rank (comm_in g.comms q).freed r)))) in
              record {
                members = k.members ∙ sym (kept g.comms cs r hit freed_here (λ a ms ss back. ms) q);
                session = k.session ∙ sym (kept g.comms cs r hit freed_here (λ a ms ss back. session_at (record { ctx = a; members = ms; sessions = ss; freed = []; returned = back }) r) q);
                calls = k.calls;
                stage = freed_dead y.stage ∙ ap not (sym has);
              }
            where
              last : (v : Bool) → (v || true) ≡ true
              last true = refl
              last false = refl

      each : (d : ℕ) (o : Option CommRow) → row_in x.comms.rows d ≡ o → (q : Option ℕ) → comm_of g.comms r d ≡ q → CommFits g.comms g.creations r x.agree.owner (due r) d o q → CommFits cs g.creations r x.agree.owner (due r) d (option_map (staged_row freed_stage (λ z. z.ctx == c)) o) q
      each d None eo None eq k = tt
      each d (Some y) eo None eq k = k
      each d None eo (Some q) eq k = k
      each d (Some y) eo (Some q) eq k = at_row d q y (row_ctx x.comms.rows d y eo) eq k

  pub frees_goes : effect_at s g r op ≡ Frees name p → Goes s g (call_events r t op (called x t (Frees name c))) (set ranks r (called x t (Frees name c)).state) due
  unfolding registry_next
  frees_goes is =
      rw is (
        (may_call s ranks due g r t j lt here ew op (Frees name p) false is refl, tt),
        subst (λ (rs : List Rank). Joined s rs due (record g { comms = cs; ranks = new })) (set_twice ranks r first (record first { comms = known }))
            (freed_joined s (set ranks r first) due (record g { ranks = new }) r cs hit freed_here first known first_joined lt first_is same local_here unmade comms_here),
      )
