-- The call of `create_group`, where it is not refused.
use Rattle.std.proofs.Common.{◌≡◌, ◌<◌, ℕ, ◌+◌, ◌==◌, nat_lt, Bool, true, false, List, [], ◌∷◌, length, get_or, set, Option, Some, None, refl, sym, ap, ◌∙◌, subst, arith}
use Rattle.std.specs.Option.{is_some}
use Rattle.std.specs.List.{list_all}
use Rattle.std.proofs.lemmas.Bool.Decides.{nat_tests}
use Rattle.mpi_base.specs.declared.keys.Key.{Key}
use Rattle.mpi_base.specs.MemberLists.{has_rank}
use Rattle.mpi_base.specs.declared.ops.Op.{Op}
use Rattle.local_law.specs.Names.{bound_of, bind}
use Rattle.local_law.specs.Objects as bound
use Rattle.mpi_law.specs.declared.setting.Setting.{Setting}
use Rattle.mpi_law.specs.declared.setting.TheConstants.{THREADS}
use Rattle.mpi_law.specs.Local.Objects.{Local, with_names}
use Rattle.mpi_law.specs.declared.effects.Origin.TheVariants.{GroupedOn}
use Rattle.mpi_law.specs.Local.Comms.{ask, is_astray}
use Rattle.mpi_law.specs.Registry.State as reg
use Rattle.mpi_law.specs.Registry.State.{Registry, RankPart, ThreadPart, Creation, CreationName, Group_on, Wait, Creating, blank_part, part_of, comm_at, with_call}
use Rattle.mpi_law.specs.Registry.Creations.{parent_of, same_name, is_split, is_counted_on, has_called, caller_of, called_on, place_where, is_joinable, is_open, creates}
use Rattle.mpi_law.specs.Registry.Contexts.{comm_of, stands_for}
use Rattle.mpi_law.specs.Registry.Calls.{effect_at}
use Rattle.mpi_law.specs.Registry.Events.{registry_next}
use Rattle.agree_law.specs.declared.rows.Stage.TheVariants.{Called}
use Rattle.agree_law.specs.Part.{stage_of}
use Rattle.agree_law.specs.Offers.{begin}
use Rattle.comm_law.specs.declared.rows.CommRow.{CommRow}
use Rattle.mpi_protocol.specs.declared.rows.Waits.TheVariants.{Nothing}
use Rattle.mpi_protocol.specs.Rank.{Rank}
use Rattle.mpi_protocol.specs.OpenHere.{is_open_here}
use Rattle.mpi_protocol.specs.Calls.{key_under, called}
use Rattle.run_law.proofs.Lists.{get_or_past}
use Rattle.run_law.proofs.Rows.{row_in}
use Rattle.run_law.proofs.Contexts.{comm_of_is, live_member}
use Rattle.due_law.specs.Dues.{Dues}
use Rattle.run_law.proofs.Locals.{CommNamed}
use Rattle.run_law.proofs.Threads.{row_of, part_row}
use Rattle.run_law.proofs.Creations.{creation_in, comm_in}
use Rattle.run_law.proofs.Comms.{CommFits, CommsFit}
use Rattle.run_law.proofs.Wholes.{ParentFits, GroupFits, number_in, is_open_row}
use Rattle.run_law.proofs.Allowing.{same_name_is, same_name-refl, where_is}
use Rattle.run_law.proofs.Joined.{rank_in, Joined}
use Rattle.due_law.specs.Agreed.{Untold}
use Rattle.run_law.proofs.Waiters.{thread_inside}
use Rattle.run_law.proofs.Parts.{thread_in, PartsAfter}
use Rattle.run_law.proofs.JoinWholes.{rows, counts}
use Rattle.run_law.proofs.Joins.{calls, join_joined}
use Rattle.run_law.proofs.OpenHere.{open_on_agrees}
use Rattle.run_law.proofs.CallParts.{idle, may_call, parts_call}
use Rattle.run_law.proofs.CallSteps.{call_events, none_for, any_at, none_stage, begin_part, held, still_unbound}
use Rattle.run_law.proofs.SettleSteps.{Goes}

each_within : (members ms : List ℕ) (z : ℕ) → list_all (has_rank members) ms ≡ true → has_rank ms z ≡ true → has_rank members z ≡ true
each_within members [] z all h = absurd (cc (h))
each_within members (m ∷ ms) z all h = go (m == z) refl (each_within members ms z)
  where
    go : (b : Bool) → (m == z) ≡ b → (list_all (has_rank members) ms ≡ true → has_rank ms z ≡ true → has_rank members z ≡ true) → has_rank members z ≡ true
    go true e ih = let is : m ≡ z = grind (arith, nat_tests, e) in subst (λ (i : ℕ). has_rank members i ≡ true) is (grind (arith, all))
    go false e ih = ih (grind (arith, all)) (grind (arith, h, e))

module _ (s : Setting) (ranks : List Rank) (due : Dues) (g : Registry) (r t : ℕ) (j : Joined s ranks due g) (untold : Untold ranks due) (lt : r < s.ranks) (here : t < THREADS) (ew : (row_of (rank_in ranks r).threads t).waits ≡ Nothing) (op : Op)
    (c p session tag : ℕ) (ms target : List ℕ) (h : CommNamed g.comms (rank_in ranks r).comms.rows r c session p session) (within : is_astray (comm_at g p).members ms r ≡ false) (free : is_some (bound_of (rank_in ranks r).local.names target) ≡ false)
    (apart : is_open_here (rank_in ranks r) (key_under c tag ms) ≡ false) where
  abbrev x : Rank
  x = rank_in ranks r

  abbrev name : CreationName
  name = Group_on p tag ms

  abbrev key : Key
  key = key_under c tag ms

  abbrev at : ℕ
  at = place_where (is_joinable name) g.creations

  closed : stage_of x.agree.opened key ≡ None
  closed = none_stage (stage_of x.agree.opened key) (sym ((j.threads r).waiter key) ∙ none_for key x.threads apart)

  stands : stands_for g.comms r key ≡ Some name
  stands = rw h.stands refl

  -- the rank has not called it
  fresh : has_called (creation_in g.creations at) r ≡ false
  fresh = go (has_called (creation_in g.creations at) r) refl (nat_lt at (length g.creations)) refl
    where
      go : (a : Bool) → has_called (creation_in g.creations at) r ≡ a → (b : Bool) → nat_lt at (length g.creations) ≡ b → has_called (creation_in g.creations at) r ≡ false
      go false e b f = e
      go true e false f =
          let past = get_or_past g.creations at reg.blank_creation (grind (arith, nat_tests, f)) in
          ap (λ (c : Creation). has_called c r) past
      go true e true f =
          let inside : at < length g.creations = grind (arith, nat_tests, f) in
          let joinable = where_is (is_joinable name) g.creations inside in
          let named : (creation_in g.creations at).name ≡ name = same_name_is (creation_in g.creations at).name name (grind (arith, joinable)) in
          let split : is_split (creation_in g.creations at).name ≡ false = ap is_split named in
          let open_row : is_open_row (creation_in g.creations at) ≡ true = grind (arith, joinable, split) in
          let w = j.whole.awaited at r inside open_row split e in
          let u = (caller_of (creation_in g.creations at).callers r).thread in
          let lu = thread_inside s ranks due g j r u at w in
          let same : same_name (creation_in g.creations at).name name ≡ true = ap (λ (y : CreationName). same_name y name) named ∙ same_name-refl name in
          let on : creates g (λ c. same_name c.name name) (reg.created_by (thread_in g.ranks r u).wait) ≡ true = rw w same in
          let some = any_at (λ (q : ThreadPart). creates g (λ c. same_name c.name name) (reg.created_by q.wait)) (part_of g r).threads reg.idle_thread u (let l = (j.threads r).long_part in omega (arith, l, lu)) on in
          let agree = open_on_agrees s ranks due g r j c p tag ms h.stands in
          absurd (let y : is_open g r name ≡ false = agree ∙ apart in cc (y, some))

  abbrev m : Local
  m = with_names (part_of g r).local (bind (part_of g r).local.names target bound.Reserved)

  abbrev new : List RankPart
  new = set g.ranks r (with_call (part_of g r) t m (Creating at))

  member : has_rank ms r ≡ true
  member = grind (arith, within)

  inside_all : list_all (has_rank (comm_in g.comms p).members) ms ≡ true
  inside_all = grind (arith, within)

  alone : is_split name ≡ true → (i : ℕ) → i < length g.creations → (creation_in g.creations i).name ≡ name → has_called (creation_in g.creations i) r ≡ false
  alone e i li named = absurd (cc (e))

  number : (q : ℕ) → is_counted_on q name ≡ true → number_in name ≡ called_on g.creations q r
  number q e = absurd (cc (e))

  fits : GroupFits g.comms name ms
  fits = ((comm_of_is g.comms r c p h.stands).inside, refl)

  live : has_rank (comm_in g.comms p).members r ≡ true
  live = live_member (comm_in g.comms p) r (comm_of_is g.comms r c p h.stands).live

  under : (q : ℕ) → parent_of name ≡ Some q → ParentFits g.comms q ms
  under q e =
      let is : p ≡ q = cc (e) in
      subst (λ (i : ℕ). ParentFits g.comms i ms) is (record { inside = (comm_of_is g.comms r c p h.stands).inside; within = λ z k. each_within (comm_in g.comms p).members ms z inside_all k; held = λ z. back z (has_rank (comm_in g.comms p).returned z) refl })
    where
      back : (z : ℕ) (b : Bool) → has_rank (comm_in g.comms p).returned z ≡ b → has_rank (comm_in g.comms p).returned z ≡ false
      back z false e = e
      back z true e = absurd (let f = j.whole.returned p z e r live in let k = h.kept in cc (f, k))

  parts : PartsAfter g.ranks new r t m (record { calls = (part_row (get_or g.ranks r blank_part).threads t).calls + 1; wait = Creating at })
  parts = parts_call s ranks due g r t j lt here ew m (Creating at)

  abbrev after : List Creation
  after = rows s ranks due g r t target session name ms m new j here (idle s ranks due g r t j lt here ew) None alone member fits fresh number under parts

  same : (q : ℕ) → called_on after q r ≡ called_on g.creations q r
  same q = let e = counts s ranks due g r t target session name ms m new j here (idle s ranks due g r t j lt here ew) None alone member fits fresh number under parts q r in omega (arith, e)

  comms : CommsFit s.contexts g.comms after (get_or g.ranks r blank_part).threads r x.comms.rows x.comms.added x.agree.owner (due r) x.threads
  comms = record { each = λ b. each b (row_in x.comms.rows b) (comm_of g.comms r b) ((j.comms r).each b); range = (j.comms r).range; freeing = (j.comms r).freeing; serials = (j.comms r).serials }
    where
      each : (b : ℕ) (o : Option CommRow) (q : Option ℕ) → CommFits g.comms g.creations r x.agree.owner (due r) b o q → CommFits g.comms after r x.agree.owner (due r) b o q
      each b None None h = tt
      each b (Some y) None h = h
      each b None (Some q) h = record { key = h.key; owns = h.owns; said = h.said; calls = same q ∙ h.calls }
      each b (Some y) (Some q) h = record { members = h.members; session = h.session; calls = h.calls ∙ sym (same q); stage = h.stage }

  pub grouped_on_goes : effect_at s g r op ≡ ask (GroupedOn p tag ms) target session → Goes s g (call_events r t op (called x t (ask (GroupedOn c tag ms) target session))) (set ranks r (called x t (ask (GroupedOn c tag ms) target session)).state) due
  unfolding registry_next
  grouped_on_goes is =
      let b = begin_part x.rank x.setting.contexts x.agree key in
      rw is (
        (may_call s ranks due g r t j lt here ew op (ask (GroupedOn p tag ms) target session) false is refl, tt),
        join_joined s ranks due g r t target session name ms m new j here (idle s ranks due g r t j lt here ew) None alone member fits fresh number under parts key Called
            (begin x.rank x.setting.contexts x.agree key).part x.comms (with_names x.local (bind x.local.names target bound.Reserved)) lt ew b.0 b.1 (rw b.2 (j.masks r lt)) stands (calls refl refl) closed (untold r key closed) member refl
            (λ d y. y) (held s ranks due g r t j untold lt here ew op target free) (λ d y. still_unbound s ranks due g r t j untold lt here ew op target d y) comms,
      )
