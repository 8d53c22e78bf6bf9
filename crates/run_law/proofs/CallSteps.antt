-- The calls of `create` and `dup`: each is a call that the registry allows, and a reply at once where it is refused.
use Rattle.std.proofs.Common.{◌≡◌, ◌<◌, ℕ, zero, suc, ◌+◌, ◌==◌, nat_lt, Bool, true, false, List, [], ◌∷◌, ◌++◌, length, get_or, set, Option, Some, None, refl, sym, ap, ◌∙◌, arith}
use Rattle.std.specs.Option.{is_some}
use Rattle.std.specs.List.{list_any}
use Rattle.std.proofs.lemmas.Bool.Decides.{nat_tests}
use Rattle.mpi_base.specs.declared.keys.Key.{Key}
use Rattle.mpi_base.specs.Keys.{same_key}
use Rattle.mpi_base.specs.MemberLists.{has_rank}
use Rattle.mpi_base.specs.declared.ops.Op.{Op}
use Rattle.mpi_base.specs.declared.replies.Reply.{Reply}
use Rattle.local_law.specs.Names.{bound_of, bind, unbind}
use Rattle.local_law.specs.Objects as bound
use Rattle.local_law.specs.Objects.{open_session}
use Rattle.mpi_law.specs.declared.setting.Setting.{Setting}
use Rattle.mpi_law.specs.declared.setting.TheConstants.{THREADS}
use Rattle.mpi_law.specs.Local.Objects.{Local, Bound, with_names}
use Rattle.mpi_law.specs.declared.effects.Origin.TheVariants.{Grouped}
use Rattle.mpi_law.specs.declared.effects.Effect.{Effect}
use Rattle.mpi_law.specs.Local.Effects.{is_said}
use Rattle.mpi_law.specs.Local.Comms.{ask, lacks}
use Rattle.mpi_law.specs.Registry.State as reg
use Rattle.mpi_law.specs.Registry.State.{Registry, RankPart, ThreadPart, Creation, CreationName, Group_and_tag, Wait, Creating, blank_part, part_of, with_call}
use Rattle.mpi_law.specs.Registry.Creations.{parent_of, same_name, is_split, is_counted_on, has_called, caller_of, called_on, place_where, is_joinable, is_open, creates}
use Rattle.mpi_law.specs.Registry.Contexts.{comm_of}
use Rattle.mpi_law.specs.Registry.Calls.{effect_at, after_effect, waits}
use Rattle.mpi_law.specs.Registry.Replies.{owed_to}
use Rattle.mpi_law.specs.Registry.Events.{Event, Calls, registry_next}
use Rattle.agree_law.specs.declared.rows.Stage.{Stage}
use Rattle.agree_law.specs.declared.rows.Stage.TheVariants.{Called}
use Rattle.agree_law.specs.Part.{Agree, stage_of, open_creation}
use Rattle.agree_law.specs.Offers.{begin, put_offer}
use Rattle.comm_law.specs.declared.rows.CommRow.{CommRow}
use Rattle.mpi_protocol.specs.declared.rows.Waits.{Waits}
use Rattle.mpi_protocol.specs.declared.rows.Waits.TheVariants.{Nothing, Creation as Creates, Uncoloured, Freeing, Ending, Receiving, Awaiting}
use Rattle.mpi_protocol.specs.declared.rows.ThreadRow.{ThreadRow}
use Rattle.mpi_protocol.specs.Rank as ranks_rank
use Rattle.mpi_protocol.specs.Rank.{Rank}
use Rattle.mpi_protocol.specs.OpenHere.{is_open_here}
use Rattle.mpi_protocol.specs.Moves.{Move}
use Rattle.mpi_protocol.specs.Calls.{key_from, called, says}
use Rattle.mpi_protocol.specs.Run.{match_events, reply_events}
use Rattle.run_law.proofs.Lists.{tally, one, get_or_past}
use Rattle.run_law.proofs.Rows.{row_in}
use Rattle.due_law.specs.Dues.{Dues}
use Rattle.run_law.proofs.Locals.{LocalFits, BoundFits, is_comm, binds, is_name}
use Rattle.run_law.proofs.Threads.{WaitFits, row_of, part_row, is_for}
use Rattle.run_law.proofs.Creations.{creation_in}
use Rattle.run_law.proofs.Comms.{CommFits, CommsFit, FreeFits}
use Rattle.run_law.proofs.Wholes.{ParentFits, number_in, is_open_row}
use Rattle.run_law.proofs.Allowing.{same_name_is, same_name-refl, where_is}
use Rattle.run_law.proofs.Joined.{rank_in, Joined}
use Rattle.due_law.specs.Agreed.{Untold}
use Rattle.run_law.proofs.Bindings.{each_bind, unbound_bind, fewer_unbind, names-bind, names-unbind}
use Rattle.run_law.proofs.Waiters.{thread_inside}
use Rattle.run_law.proofs.Parts.{thread_in, PartsAfter}
use Rattle.run_law.proofs.JoinWholes.{rows, counts}
use Rattle.run_law.proofs.Joins.{calling_row, calls, join_joined}
use Rattle.run_law.proofs.OneThread.{is_creation, uncreated, thread_joined}
use Rattle.run_law.proofs.OpenHere.{open_agrees}
use Rattle.run_law.proofs.CallParts.{idle, may_call, parts_call, said_parts, wait_is, parts_said}
use Rattle.run_law.proofs.SettleSteps.{Goes}

-- the events of a call that sends and posts nothing
abbrev pub call_events : ℕ → ℕ → Op → Move → List Event
call_events r t op m = Calls r t op (is_some m.reply) ∷ match_events r m.matched ++ reply_events r t m.reply

-- where no thread passes, none is counted
pub none_for : (key : Key) (ts : List ThreadRow) → list_any (λ (z : ThreadRow). ranks_rank.creates (λ k session. same_key k key) z.waits) ts ≡ false → tally (λ (z : ThreadRow). is_for key z.waits) ts ≡ 0
none_for key [] h = refl
none_for key (z ∷ zs) h =
    let ih = none_for key zs (grind (arith, h)) in
    let w = at z.waits (grind (arith, h)) in
    let o : one (is_for key z.waits) ≡ 0 = ap one w in
    omega (arith, ih, o)
  where
    at : (a : Waits) → ranks_rank.creates (λ k session. same_key k key) a ≡ false → is_for key a ≡ false
    at Nothing h = refl
    at (Creates k target session) h = h
    at (Uncoloured k target session) h = refl
    at (Freeing c) h = refl
    at (Ending c) h = refl
    at (Receiving c) h = refl
    at (Awaiting c) h = refl

pub any_at : {A : Type 0} (p : A → Bool) (xs : List A) (d : A) (i : ℕ) → i < length xs → p (get_or xs i d) ≡ true → list_any p xs ≡ true
any_at p [] d i lt h = absurd (omega arith)
any_at p (x ∷ xs) d zero lt h = grind (arith, h)
any_at p (x ∷ xs) d (suc i) lt h = let ih = any_at p xs d i (omega (arith, lt)) h in grind (arith, ih)

pub none_stage : (st : Option Stage) → one (is_some st) ≡ 0 → st ≡ None
none_stage None e = refl
none_stage (Some s) e = absurd (omega (arith, e))

pub begin_part : (r top : ℕ) (a : Agree) (key : Key) → ((begin r top a key).part.opened ≡ open_creation a.opened key Called) × ((begin r top a key).part.owner ≡ a.owner) × ((begin r top a key).part.mask ≡ a.mask)
unfolding begin put_offer
begin_part r top a key = (refl, refl, refl)

-- a thread that called, and what it waits for
abbrev pub called_part : List ThreadPart → ℕ → Wait → ThreadPart
called_part parts t b = record { calls = (part_row parts t).calls + 1; wait = b }

module _ (s : Setting) (ranks : List Rank) (due : Dues) (g : Registry) (r t : ℕ) (j : Joined s ranks due g) (untold : Untold ranks due) (lt : r < s.ranks) (here : t < THREADS) (ew : (row_of (rank_in ranks r).threads t).waits ≡ Nothing) (op : Op) where
  abbrev x : Rank
  x = rank_in ranks r

  -- the thread has called once more, and waited for nothing
  pub counted : (part_row (get_or g.ranks r blank_part).threads t).calls + 1 ≡ (row_of x.threads t).calls + 1
  counted = ap (λ (n : ℕ). n + 1) ((j.threads r).calls t)

  pub plain : (k : Key) → is_for k (row_of x.threads t).waits ≡ false
  plain k = ap (is_for k) ew

  pub busy : (i : ℕ) → (thread_in g.ranks r t).wait ≡ Creating i → is_split (creation_in g.creations i).name ≡ true
  busy i e = absurd (uncreated (row_of x.threads t).waits (thread_in g.ranks r t).wait i ((j.threads r).waits t) (ap is_creation ew) e)

  -- a call that replies at once, and does no more than change names
  pub said_goes : (e f : Effect ℕ) (l m : Local) (said : Reply) → effect_at s g r op ≡ f → is_said f ≡ true → called x t e ≡ says x t l (Some said) Nothing → after_effect g r t f ≡ waits g r t m (reg.Reply_now said)
      → LocalFits g.comms x.comms.rows r l m → ((c : ℕ) → tally (binds c) x.local.names ≡ 0 → tally (binds c) l.names ≡ 0) → Goes s g (call_events r t op (called x t e)) (set ranks r (called x t e).state) due
  unfolding registry_next
  said_goes e f l m said is now here_is there_is local frees =
      rw here_is (
        (may_call s ranks due g r t j lt here ew op f true is (sym now), (rw (is, there_is) (ap (λ (w : Wait). owed_to (waits g r t m (reg.Reply_now said)) r w) (wait_is s ranks due g r t j lt here ew m said)), tt)),
        rw (is, there_is) (rw (wait_is s ranks due g r t j lt here ew m said)
            (thread_joined s ranks due g r t (calling_row x.threads t Nothing) (called_part (get_or g.ranks r blank_part).threads t reg.Idle) l m (said_parts s ranks due g r t j lt here ew m said) counted tt refl j lt here plain busy (parts_said s ranks due g r t j lt here ew m said) local frees (λ serial p e f. absurd (cc (e))))),
      )

  -- a call that waits for what is no creation and no give-back
  pub waits_goes : (e f : Effect ℕ) (a : Waits) (b : Wait) (l m : Local) → WaitFits a b → is_creation a ≡ false → ((serial p : ℕ) → a ≡ Freeing serial → b ≡ reg.Freeing p → FreeFits g.comms x.comms.rows x.comms.added r serial p) → effect_at s g r op ≡ f → is_said f ≡ false → called x t e ≡ says x t l None a → after_effect g r t f ≡ waits g r t m b
      → LocalFits g.comms x.comms.rows r l m → ((c : ℕ) → tally (binds c) x.local.names ≡ 0 → tally (binds c) l.names ≡ 0) → Goes s g (call_events r t op (called x t e)) (set ranks r (called x t e).state) due
  unfolding registry_next
  waits_goes e f a b l m fit uncreating freeing is now here_is there_is local frees =
      rw here_is (
        (may_call s ranks due g r t j lt here ew op f false is (sym now), tt),
        rw (is, there_is) (thread_joined s ranks due g r t (calling_row x.threads t a) (called_part (get_or g.ranks r blank_part).threads t b) l m (set g.ranks r (with_call (part_of g r) t m b)) counted fit uncreating j lt here plain busy (parts_call s ranks due g r t j lt here ew m b) local frees freeing),
      )

  -- What a call does to the names: one is bound to what is no communicator, or one is bound no longer

  pub with_name : (target : List ℕ) (a b : Bound) → is_some (bound_of x.local.names target) ≡ false → BoundFits g.comms x.comms.rows r a b → ((c : ℕ) → is_comm c a ≡ false)
      → LocalFits g.comms x.comms.rows r (with_names x.local (bind x.local.names target a)) (with_names (part_of g r).local (bind (part_of g r).local.names target b))
  with_name target a b free fit plain =
      let f = j.locals r in
      record {
        live = f.live;
        opened = f.opened;
        names = names-bind g.comms x.comms.rows r x.local.names (part_of g r).local.names target a b f.names fit;
        each = each_bind x.local.names target a f.each free;
        comms_once = λ c. unbound_bind x.local.names target a c 1 (plain c) (f.comms_once c);
      }

  pub unbound_by : (target : List ℕ) (a : Bound) (c : ℕ) → is_comm c a ≡ false → tally (binds c) x.local.names ≡ 0 → tally (binds c) (bind x.local.names target a) ≡ 0
  unbound_by target a c plain z = let b = unbound_bind x.local.names target a c 0 plain (omega (arith, z)) in omega (arith, b)

  pub without_name : (name : List ℕ) → LocalFits g.comms x.comms.rows r (with_names x.local (unbind x.local.names name)) (with_names (part_of g r).local (unbind (part_of g r).local.names name))
  without_name name =
      let f = j.locals r in
      record {
        live = f.live;
        opened = f.opened;
        names = names-unbind g.comms x.comms.rows r x.local.names (part_of g r).local.names name f.names;
        each = λ n. fewer_unbind x.local.names (is_name n) name 1 (f.each n);
        comms_once = λ c. fewer_unbind x.local.names (binds c) name 1 (f.comms_once c);
      }

  -- a session is opened
  pub with_session : (target : List ℕ) → is_some (bound_of x.local.names target) ≡ false
      → LocalFits g.comms x.comms.rows r (open_session (with_names x.local (bind x.local.names target (bound.Session (x.local.opened + 1)))) (x.local.opened + 1))
      (open_session (with_names (part_of g r).local (bind (part_of g r).local.names target (bound.Session ((part_of g r).local.opened + 1)))) ((part_of g r).local.opened + 1))
  with_session target free =
      let f = j.locals r in
      let o : (part_of g r).local.opened ≡ x.local.opened = f.opened in
      let h = with_name target (bound.Session (x.local.opened + 1)) (bound.Session ((part_of g r).local.opened + 1)) free (ap (λ (n : ℕ). n + 1) o) (λ c. refl) in
      record { live = rw (f.live, o) refl; opened = ap (λ (n : ℕ). n + 1) o; names = h.names; each = h.each; comms_once = h.comms_once }

  -- the target is held
  pub held : (target : List ℕ) → is_some (bound_of x.local.names target) ≡ false → LocalFits g.comms x.comms.rows r (with_names x.local (bind x.local.names target bound.Reserved)) (with_names (part_of g r).local (bind (part_of g r).local.names target bound.Reserved))
  held target free = with_name target bound.Reserved bound.Reserved free tt (λ c. refl)

  pub still_unbound : (target : List ℕ) (c : ℕ) → tally (binds c) x.local.names ≡ 0 → tally (binds c) (bind x.local.names target bound.Reserved) ≡ 0
  still_unbound target c z = unbound_by target bound.Reserved c refl z

  -- From a group

  module _ (z : ℕ) (zs tag target : List ℕ) (session : ℕ) (there : lacks (z ∷ zs) r ≡ false) (free : is_some (bound_of x.local.names target) ≡ false) (apart : is_open_here x (key_from (z ∷ zs) tag) ≡ false) where
    abbrev name : CreationName
    name = Group_and_tag (z ∷ zs) tag

    abbrev key : Key
    key = key_from (z ∷ zs) tag

    abbrev at : ℕ
    at = place_where (is_joinable name) g.creations

    closed : stage_of x.agree.opened key ≡ None
    closed = none_stage (stage_of x.agree.opened key) (sym ((j.threads r).waiter key) ∙ none_for key x.threads apart)

    -- the rank has not called it
    fresh : has_called (creation_in g.creations at) r ≡ false
    fresh = go (has_called (creation_in g.creations at) r) refl (nat_lt at (length g.creations)) refl
      where
        go : (a : Bool) → has_called (creation_in g.creations at) r ≡ a → (b : Bool) → nat_lt at (length g.creations) ≡ b → has_called (creation_in g.creations at) r ≡ false
        go false e b f = e
        go true e false f =
            let past = get_or_past g.creations at reg.blank_creation (grind (arith, nat_tests, f)) in
            ap (λ (c : Creation). has_called c r) past
        go true e true f =
            let inside : at < length g.creations = grind (arith, nat_tests, f) in
            let joinable = where_is (is_joinable name) g.creations inside in
            let named : (creation_in g.creations at).name ≡ name = same_name_is (creation_in g.creations at).name name (grind (arith, joinable)) in
            let split : is_split (creation_in g.creations at).name ≡ false = ap is_split named in
            let open_row : is_open_row (creation_in g.creations at) ≡ true = grind (arith, joinable, split) in
            let w = j.whole.awaited at r inside open_row split e in
            let u = (caller_of (creation_in g.creations at).callers r).thread in
            let lu = thread_inside s ranks due g j r u at w in
            let same : same_name (creation_in g.creations at).name name ≡ true = ap (λ (y : CreationName). same_name y name) named ∙ same_name-refl name in
            let on : creates g (λ c. same_name c.name name) (reg.created_by (thread_in g.ranks r u).wait) ≡ true = rw w same in
            let some = any_at (λ (q : ThreadPart). creates g (λ c. same_name c.name name) (reg.created_by q.wait)) (part_of g r).threads reg.idle_thread u (let l = (j.threads r).long_part in omega (arith, l, lu)) on in
            let agree = open_agrees s ranks due g r j (z ∷ zs) tag in
            absurd (let y : is_open g r name ≡ false = agree ∙ apart in cc (y, some))

    abbrev m : Local
    m = with_names (part_of g r).local (bind (part_of g r).local.names target bound.Reserved)

    abbrev new : List RankPart
    new = set g.ranks r (with_call (part_of g r) t m (Creating at))

    member : has_rank (z ∷ zs) r ≡ true
    member = let l : (length (z ∷ zs) == 0) ≡ false = grind (arith, nat_tests) in grind (arith, there, l)

    alone : is_split name ≡ true → (i : ℕ) → i < length g.creations → (creation_in g.creations i).name ≡ name → has_called (creation_in g.creations i) r ≡ false
    alone e i li named = absurd (cc (e))

    number : (p : ℕ) → is_counted_on p name ≡ true → number_in name ≡ called_on g.creations p r
    number p e = absurd (cc (e))

    under : (p : ℕ) → parent_of name ≡ Some p → ParentFits g.comms p (z ∷ zs)
    under p e = absurd (cc (e))

    parts : PartsAfter g.ranks new r t m (record { calls = (part_row (get_or g.ranks r blank_part).threads t).calls + 1; wait = Creating at })
    parts = parts_call s ranks due g r t j lt here ew m (Creating at)

    same : (p : ℕ) → called_on (rows s ranks due g r t target session name (z ∷ zs) m new j here (idle s ranks due g r t j lt here ew) None alone member refl fresh number under parts) p r ≡ called_on g.creations p r
    same p = let e = counts s ranks due g r t target session name (z ∷ zs) m new j here (idle s ranks due g r t j lt here ew) None alone member refl fresh number under parts p r in omega (arith, e)

    comms : CommsFit s.contexts g.comms (rows s ranks due g r t target session name (z ∷ zs) m new j here (idle s ranks due g r t j lt here ew) None alone member refl fresh number under parts) (get_or g.ranks r blank_part).threads r x.comms.rows x.comms.added x.agree.owner (due r) x.threads
    comms = record { each = λ b. each b (row_in x.comms.rows b) (comm_of g.comms r b) ((j.comms r).each b); range = (j.comms r).range; freeing = (j.comms r).freeing; serials = (j.comms r).serials }
      where
        each : (b : ℕ) (o : Option CommRow) (p : Option ℕ) → CommFits g.comms g.creations r x.agree.owner (due r) b o p
            → CommFits g.comms (rows s ranks due g r t target session name (z ∷ zs) m new j here (idle s ranks due g r t j lt here ew) None alone member refl fresh number under parts) r x.agree.owner (due r) b o p
        each b None None h = tt
        each b (Some y) None h = h
        each b None (Some p) h = record { key = h.key; owns = h.owns; said = h.said; calls = same p ∙ h.calls }
        each b (Some y) (Some p) h = record { members = h.members; session = h.session; calls = h.calls ∙ sym (same p); stage = h.stage }

    pub grouped_goes : effect_at s g r op ≡ ask (Grouped (z ∷ zs) tag) target session → Goes s g (call_events r t op (called x t (ask (Grouped (z ∷ zs) tag) target session))) (set ranks r (called x t (ask (Grouped (z ∷ zs) tag) target session)).state) due
    unfolding registry_next
    grouped_goes is =
        let b = begin_part x.rank x.setting.contexts x.agree key in
        rw is (
          (may_call s ranks due g r t j lt here ew op (ask (Grouped (z ∷ zs) tag) target session) false is refl, tt),
          join_joined s ranks due g r t target session name (z ∷ zs) m new j here (idle s ranks due g r t j lt here ew) None alone member refl fresh number under parts key Called
              (begin x.rank x.setting.contexts x.agree key).part x.comms (with_names x.local (bind x.local.names target bound.Reserved)) lt ew b.0 b.1 (rw b.2 (j.masks r lt)) refl (calls refl refl) closed (untold r key closed) member refl (λ c h. h) (held target free) (λ c y. still_unbound target c y) comms,
        )
