-- A call, an answer, a leave and a give-back keep what a rank keeps.
use Rattle.std.proofs.Common.{◌≡◌, ◌⊎◌, inl, inr, ◌<◌, ◌≤◌, ◌==◌, ◌+◌, not, ℕ, Bool, true, false, if◌then◌else◌, List, [], ◌∷◌, Option, Some, None, refl, sym, subst, ◌∙◌, arith, bytes_eq}
use Rattle.std.proofs.lemmas.Bool.Decides.{nat_tests}
use Rattle.mpi_base.specs.declared.keys.Key.{Key}
use Rattle.mpi_base.specs.declared.messages.Msg.{Msg}
use Rattle.mpi_base.specs.Keys.{same_key}
use Rattle.local_law.specs.Names.{rebind, unbind}
use Rattle.local_law.specs.Objects as bound
use Rattle.mpi_law.specs.declared.setting.Setting.{Setting}
use Rattle.mpi_law.specs.declared.setting.TheConstants.{THREADS}
use Rattle.mpi_law.specs.Local.Objects.{Bound, NameRow, Local}
use Rattle.mpi_law.specs.Local.Effects.{local_after}
use Rattle.mpi_law.specs.Local.Messages.{from_nobody}
use Rattle.mpi_law.specs.declared.effects.Origin.{Origin}
use Rattle.mpi_law.specs.declared.effects.Origin.TheVariants.{Grouped, Duplicated, Divided, GroupedOn}
use Rattle.mpi_law.specs.declared.effects.Sending.{Sending}
use Rattle.mpi_law.specs.declared.effects.Effect.{Effect}
use Rattle.mpi_law.specs.declared.effects.Effect.TheVariants.{Says, Opens, Groups, Ungroups, Joins, Frees, Ends, Sends, Receives, Posts, NullPosts, Completes, Awaits}
use Rattle.agree_law.specs.declared.rows.Outcome.{Outcome}
use Rattle.agree_law.specs.declared.rows.Outcome.TheVariants as outcome
use Rattle.agree_law.specs.Part.{Agree, stage_of}
use Rattle.agree_law.specs.Moves.{give_back, close}
use Rattle.agree_law.proofs.Lists.{AllOf, AllOf_filter}
use Rattle.comm_law.specs.declared.rows.CommRow.{CommRow}
use Rattle.comm_law.specs.declared.rows.CommStage.TheVariants.{Left}
use Rattle.comm_law.specs.Comms.{Comms, row_at, comm_at, at, one_call_more, with_stage, freed, count_call, leave, remove, all_marked, all_marked_row}
use Rattle.match_law.specs.declared.rows.Posted.{Posted}
use Rattle.match_law.specs.Box.{Box, arrive, post}
use Rattle.mpi_protocol.specs.declared.rows.Waits.{Waits}
use Rattle.mpi_protocol.specs.declared.rows.Waits.TheVariants.{Nothing, Creation, Uncoloured, Freeing, Ending, Receiving, Awaiting}
use Rattle.mpi_protocol.specs.declared.rows.ReceiveRow.{ReceiveRow}
use Rattle.mpi_protocol.specs.Packets.{Message, Sent}
use Rattle.mpi_protocol.specs.Rank.{Rank, thread_at, is_idle, has_open_under, with_call, with_waits, receive_of}
use Rattle.mpi_protocol.specs.Moves.{Taking, arrives_to, arrives, posts_to, posts}
use Rattle.mpi_protocol.specs.Calls.{key_of, around_here, counted, opens, sends, message_of, with_post, called}
use Rattle.mpi_protocol.specs.Answers.{outcome_of, target_after, answers, answers_creation, answers_taken, answers_row, answers_receive, answered}
use Rattle.mpi_protocol.specs.Step.{may_leave, leaves, gives_back}
use Rattle.projection_law.specs.Premises.{SetsAreOfRanks}
use Rattle.projection_law.specs.KnownNames.{is_known, NamesAreKnown}
use Rattle.projection_law.proofs.Operations.{GroupFits, GroupsFit, EffectFits, OriginFits, groups_after}
use Rattle.projection_law.proofs.Rows.{RowFits, found_fits, rows_changed, row_has, row_changed, stands, GoesOn, stands_on, goes-count, goes-free, goes-end, goes-remove, leave_other}
use Rattle.projection_law.proofs.Threads.{is_for, WaitStands, Standing, idle_for, standing_each, standing_apart}
use Rattle.projection_law.proofs.Parts.{MaskFits, mask_free, is_open, some_close, OpensOne, opens-begin, opens-begin_share}
use Rattle.projection_law.proofs.Sound.{Sound, Alike, sound_alike, sound_still, sound_one}
use Rattle.projection_law.proofs.SoundCalls.{named_row}

-- messages change nothing of it
pub alike_arrives : (x : Rank) (m : Msg) → Alike x (arrives x m).0
alike_arrives x m = go (arrive x.box m).0 (arrive x.box m).1
  where
    go : (b : Box) (o : Option Posted) → Alike x (arrives_to x m b o).0
    go b None = record { threads = refl; local = refl; comms = refl; agree = refl }
    go b (Some q) = record { threads = refl; local = refl; comms = refl; agree = refl }

pub alike_posts : (x : Rank) (q : Posted) → Alike x (posts x q).0
alike_posts x q = go (post x.box q).0 (post x.box q).1
  where
    go : (b : Box) (o : Option Msg) → Alike x (posts_to x q.number b o).0
    go b None = record { threads = refl; local = refl; comms = refl; agree = refl }
    go b (Some m) = record { threads = refl; local = refl; comms = refl; agree = refl }

-- a communicator that is known and not left has counted one call more
one_more : (t : Comms) (c : ℕ) (m : CommRow) → row_at t c ≡ Some m → m.ctx ≡ c → is_known (Some m) ≡ true → row_has (comm_at t c).calls (row_at (count_call t c) c) ≡ true
one_more t c m there ctx known =
    let here : at c m ≡ true = grind (arith, nat_tests, ctx) in
    let less : m.calls < m.calls + 1 = omega arith in
    let is : row_at (count_call t c) c ≡ Some (one_call_more m) = row_changed t (at c) one_call_more c (λ m. refl) ∙ rw (there, here) refl in
    let now : comm_at t c ≡ m = rw there refl in
    rw (is, now) (grind (arith, nat_tests, less, known))

module _ (s : Setting) (r : ℕ) (x : Rank) (number : x.rank ≡ r) (setting : x.setting ≡ s) (lt : r < s.ranks) (sets : SetsAreOfRanks s) (h : Sound s r x) where
  -- Calls

  module _ (t : ℕ) (inside : t < THREADS) (idle : is_idle (thread_at x t).waits ≡ true) (known : NamesAreKnown x) where
    -- no creation is opened
    plain : (y : Rank) (waits : Waits) → y.threads ≡ with_call x t waits → GroupsFit s.ranks y.local.names → AllOf (RowFits s.ranks s.contexts r) y.comms.rows → GoesOn x.comms y.comms → y.agree ≡ x.agree → WaitStands y.comms waits → Sound s r y
    plain y waits threads groups rows goes agree new =
        sound_one s r x y t (record { calls = (thread_at x t).calls + 1; waits = waits })
        (record {
          threads = threads;
          inside = inside;
          groups = groups;
          rows = rows;
          mask = subst (λ (b : Agree). MaskFits s.contexts b.mask) (sym agree) h.mask;
          old = λ k e. inl (subst (λ b. is_open b k ≡ true) agree e, idle_for (thread_at x t).waits k idle);
          standing = standing_each x.comms y.comms x.threads (λ key e. stands_on x.comms y.comms key goes e) h.standing;
          new = new;
        }) h

    sent : (l : Local) (m : Sending ℕ) → GroupsFit s.ranks l.names → Sound s r (sends x t l m).state
    sent l m groups = go (_ == x.rank) (message_of x m) _
      where
        y : Rank
        y = record x { local = l; threads = with_call x t Nothing; sends = x.sends + 1 }

        done : Bool → Msg → ℕ → Taking × List Sent
        done b msg to = if b then (arrives y msg, []) else ((y, None), record { to = to; packet = Message msg } ∷ [])

        ours : Sound s r y
        ours = plain y Nothing refl groups h.rows (λ c n e. e) refl tt

        go : (b : Bool) (msg : Msg) (to : ℕ) → Sound s r (done b msg to).0.0
        go true msg to = sound_alike s r y (arrives y msg).0 (alike_arrives y msg) ours
        go false msg to = ours

    -- the new creation stands on its communicator, which counts it
    counts : (o : Origin ℕ) → OriginFits s.ranks r (around_here x) x.local.names o → stands (counted x.comms o) (key_of x.comms o) ≡ true
    counts (Grouped group tag) f = refl
    counts (GroupedOn c tag group) f = refl
    counts (Duplicated c) f = (let n = named_row s r x number setting lt sets h known f.0 c f.1 f.2 in one_more x.comms c n.row n.there n.ctx n.known)
    counts (Divided c share) f = (let n = named_row s r x number setting lt sets h known f.0 c f.1 f.2 in one_more x.comms c n.row n.there n.ctx n.known)

    opened : (o : Origin ℕ) (y : Rank) (target : List ℕ) (session : ℕ) → OriginFits s.ranks r (around_here x) x.local.names o → y.agree ≡ (opens x o).part → y.comms ≡ counted x.comms o → y.threads ≡ with_call x t (Creation (key_of x.comms o) target session) → GroupsFit s.ranks y.local.names → Sound s r y
    opened o y target session f agree comms threads groups =
        sound_one s r x y t (record { calls = (thread_at x t).calls + 1; waits = Creation (key_of x.comms o) target session })
        (record {
          threads = threads;
          inside = inside;
          groups = groups;
          rows = subst (λ (z : Comms). AllOf (RowFits s.ranks s.contexts r) z.rows) (sym comms) (rows o);
          mask = subst (λ (b : Agree). MaskFits s.contexts b.mask) (sym agree) (ones.mask h.mask);
          old = λ k e. by k (subst (λ b. is_open b k ≡ true) agree e) (same_key (key_of x.comms o) k) refl;
          standing = subst (λ z. Standing z x.threads) (sym comms) (standing_each x.comms (counted x.comms o) x.threads (λ key e. stands_on x.comms (counted x.comms o) key (goes o) e) h.standing);
          new = subst (λ z. stands z (key_of x.comms o) ≡ true) (sym comms) (counts o f);
        }) h
      where
        one : (o : Origin ℕ) → OpensOne s.contexts x.agree (opens x o).part (key_of x.comms o)
        one (Grouped group tag) = subst (λ (z : Setting). OpensOne z.contexts x.agree (opens x (Grouped group tag)).part (key_of x.comms (Grouped group tag))) setting (opens-begin x.rank x.setting.contexts x.agree _)
        one (Duplicated c) = subst (λ (z : Setting). OpensOne z.contexts x.agree (opens x (Duplicated c)).part (key_of x.comms (Duplicated c))) setting (opens-begin x.rank x.setting.contexts x.agree _)
        one (Divided c share) = opens-begin_share s.contexts x.rank x.agree _ _
        one (GroupedOn c tag group) = subst (λ (z : Setting). OpensOne z.contexts x.agree (opens x (GroupedOn c tag group)).part (key_of x.comms (GroupedOn c tag group))) setting (opens-begin x.rank x.setting.contexts x.agree _)

        ones : OpensOne s.contexts x.agree (opens x o).part (key_of x.comms o)
        ones = one o

        by : (k : Key) → is_open (opens x o).part k ≡ true → (b : Bool) → same_key (key_of x.comms o) k ≡ b → ((is_open x.agree k ≡ true) × (is_for k (thread_at x t).waits ≡ false)) ⊎ (same_key (key_of x.comms o) k ≡ true)
        by k e true u = inr u
        by k e false u = inl (ones.old k e u, idle_for (thread_at x t).waits k idle)

        rows : (o : Origin ℕ) → AllOf (RowFits s.ranks s.contexts r) (counted x.comms o).rows
        rows (Grouped group tag) = h.rows
        rows (GroupedOn c tag group) = h.rows
        rows (Duplicated c) = rows_changed s.ranks s.contexts r (at c) one_call_more x.comms.rows (λ m. (refl, refl)) h.rows
        rows (Divided c share) = rows_changed s.ranks s.contexts r (at c) one_call_more x.comms.rows (λ m. (refl, refl)) h.rows

        goes : (o : Origin ℕ) → GoesOn x.comms (counted x.comms o)
        goes (Grouped group tag) = λ c n e. e
        goes (GroupedOn c tag group) = λ c n e. e
        goes (Duplicated c) = goes-count x.comms c
        goes (Divided c share) = goes-count x.comms c

    -- the objects that a call leaves
    groups_left : (e : Effect ℕ) → EffectFits s.ranks r (around_here x) x.local.names e → GroupsFit s.ranks (local_after x.posts x.local e).names
    groups_left e f = groups_after s.ranks r (around_here x) x.posts x.local e h.groups f

    pub sound_called : (e : Effect ℕ) → EffectFits s.ranks r (around_here x) x.local.names e → Sound s r (called x t e).state
    sound_called (Says said) f = plain _ Nothing refl h.groups h.rows (λ c n e. e) refl tt
    sound_called (Opens target) f = plain _ Nothing refl (groups_left (Opens target) f) h.rows (λ c n e. e) refl tt
    sound_called (Groups target members session) f = plain _ Nothing refl (groups_left (Groups target members session) f) h.rows (λ c n e. e) refl tt
    sound_called (Ungroups name) f = plain _ Nothing refl (groups_left (Ungroups name) f) h.rows (λ c n e. e) refl tt
    sound_called (Joins a) f = opened a.origin _ a.target a.session f refl refl refl (groups_left (Joins a) f)
    sound_called (Frees name c) f = plain _ (Freeing (comm_at x.comms c).serial) refl (groups_left (Frees name c) f) (rows_changed s.ranks s.contexts r (at c) freed x.comms.rows (λ m. (refl, refl)) h.rows) (goes-free x.comms c) refl tt
    sound_called (Ends name q) f = plain _ (Ending q) refl (groups_left (Ends name q) f) (rows_changed s.ranks s.contexts r (λ m. m.session == q) freed x.comms.rows (λ m. (refl, refl)) h.rows) (goes-end x.comms q) refl tt
    sound_called (Sends m) f = sent x.local m h.groups
    sound_called (Receives a) f = sound_alike s r (with_post x t x.local a (Receiving (x.posts + 1))) _ (alike_posts _ _) (plain (with_post x t x.local a (Receiving (x.posts + 1))) (Receiving (x.posts + 1)) refl h.groups h.rows (λ c n e. e) refl tt)
    sound_called (Posts target a) f =
        sound_alike s r (with_post x t (local_after x.posts x.local (Posts target a)) a Nothing) _ (alike_posts _ _) (plain (with_post x t (local_after x.posts x.local (Posts target a)) a Nothing) Nothing refl (groups_left (Posts target a) f) h.rows (λ c n e. e) refl tt)
    sound_called (NullPosts target) f = plain _ Nothing refl (groups_left (NullPosts target) f) h.rows (λ c n e. e) refl tt
    sound_called (Completes name n) f = plain _ (Receiving n) refl (groups_left (Completes name n) f) h.rows (λ c n e. e) refl tt
    sound_called (Awaits name) f = plain _ (Awaiting name) refl h.groups h.rows (λ c n e. e) refl tt

  -- Answers

  module _ (t : ℕ) (inside : t < THREADS) where
    idles : (y : Rank) → y.threads ≡ with_waits x t Nothing → GroupsFit s.ranks y.local.names → y.comms ≡ x.comms → y.agree ≡ x.agree → ((k : Key) → is_for k (thread_at x t).waits ≡ false) → Sound s r y
    idles y threads groups comms agree none =
        sound_one s r x y t (record { calls = (thread_at x t).calls; waits = Nothing })
        (record {
          threads = threads;
          inside = inside;
          groups = groups;
          rows = subst (λ (z : Comms). AllOf (RowFits s.ranks s.contexts r) z.rows) (sym comms) h.rows;
          mask = subst (λ (b : Agree). MaskFits s.contexts b.mask) (sym agree) h.mask;
          old = λ k e. inl (subst (λ b. is_open b k ≡ true) agree e, none k);
          standing = subst (λ z. Standing z x.threads) (sym comms) h.standing;
          new = tt;
        }) h

    unbound : (name : List ℕ) → GroupsFit s.ranks (unbind x.local.names name)
    unbound name = AllOf_filter (λ (row : NameRow). GroupFits s.ranks row.1) (λ (row : NameRow). not (bytes_eq row.0 name)) x.local.names h.groups

    rebound : (names : List NameRow) (name : List ℕ) (b : Bound) → GroupFits s.ranks b → GroupsFit s.ranks names → GroupsFit s.ranks (rebind names name b)
    rebound [] name b f g = tt
    rebound (n ∷ ns) name b f g = (go (bytes_eq n.0 name), rebound ns name b f g.1)
      where
        go : (d : Bool) → GroupFits s.ranks (if d then (n.0, b) else n).1
        go true = f
        go false = g.0

    target_fits : (target : List ℕ) (session : ℕ) (o : Outcome) → GroupsFit s.ranks (target_after x.local target session o).names
    target_fits target session (outcome.Context c) = rebound x.local.names target (bound.Comm c session) tt h.groups
    target_fits target session outcome.Exhausted = unbound target

    closed : (key : Key) (target : List ℕ) (session : ℕ) (o : Option Outcome) → (thread_at x t).waits ≡ Creation key target session → Sound s r (answers_creation x t key target session o).state
    unfolding close
    closed key target session None e = h
    closed key target session (Some o) e =
        sound_one s r x _ t (record { calls = (thread_at x t).calls; waits = Nothing })
        (record {
          threads = refl;
          inside = inside;
          groups = target_fits target session o;
          rows = h.rows;
          mask = h.mask;
          old = λ k u. inl (let z = some_close x.agree.opened key k in (grind (arith, z, u), rw e (grind (arith, z, u))));
          standing = h.standing;
          new = tt;
        }) h

    received : (n : ℕ) → ((k : Key) → is_for k (thread_at x t).waits ≡ false) → Sound s r (answers_receive x t n).state
    received n none = go (n == 0)
      where
        taken : (room : ℕ) (o : Option Msg) → Sound s r (answers_taken x t n room o).state
        taken room None = h
        taken room (Some m) = idles _ refl h.groups refl refl none

        row : (o : Option ReceiveRow) → Sound s r (answers_row x t n o).state
        row None = h
        row (Some w) = taken w.room w.taken

        go : (b : Bool) → Sound s r (if b then answers x t from_nobody else answers_row x t n (receive_of x.receives n)).state
        go true = idles _ refl h.groups refl refl none
        go false = row (receive_of x.receives n)

    pub sound_answered : (z : Waits) → (thread_at x t).waits ≡ z → Sound s r (answered x t z).state
    sound_answered Nothing e = h
    sound_answered (Creation key target session) e = closed key target session (outcome_of (stage_of x.agree.opened key)) e
    sound_answered (Uncoloured key target session) e = idles _ refl (unbound target) refl refl (λ k. rw e refl)
    sound_answered (Freeing serial) e = idles _ refl h.groups refl refl (λ k. rw e refl)
    sound_answered (Ending session) e = idles _ refl h.groups refl refl (λ k. rw e refl)
    sound_answered (Receiving n) e = received n (λ k. rw e refl)
    sound_answered (Awaiting name) e = idles _ refl h.groups refl refl (λ k. rw e refl)

  -- Leaves and give-backs

  pub sound_leaves : (c : ℕ) → may_leave x c ≡ true → Sound s r (leaves x c).state
  unfolding leaves has_open_under
  sound_leaves c may =
      sound_still s r x _
      (record {
        threads = refl;
        groups = h.groups;
        rows = rows_changed s.ranks s.contexts r (at c) (with_stage Left) x.comms.rows (λ m. (refl, refl)) h.rows;
        mask = h.mask;
        old = λ k e. e;
        standing = standing_apart x.comms (leave x.comms c) x.threads c (λ key ne e. leave_other x.comms c key ne e) (grind (arith, may)) h.standing;
      }) h

  pub back_context : (c : ℕ) → all_marked x.comms x.rank c ≡ true → (0 < c) × (c ≤ s.contexts)
  unfolding all_marked
  back_context c may = go (row_at x.comms c) refl may
    where
      go : (o : Option CommRow) → row_at x.comms c ≡ o → all_marked_row x.comms x.rank o ≡ true → (0 < c) × (c ≤ s.contexts)
      go None e m = absurd (cc (m))
      go (Some m) e u =
          let f = found_fits (RowFits s.ranks s.contexts r) x.comms.rows c m h.rows e in
          rw (← f.1) (f.0.above, f.0.below)

  pub sound_gives_back : (c : ℕ) → all_marked x.comms x.rank c ≡ true → Sound s r (gives_back x c).state
  unfolding gives_back give_back
  sound_gives_back c may =
      sound_still s r x _
      (record {
        threads = refl;
        groups = h.groups;
        rows = AllOf_filter (RowFits s.ranks s.contexts r) (λ m. not (at c m)) x.comms.rows h.rows;
        mask = mask_free s.contexts x.agree.mask c (back_context c may).0 h.mask;
        old = λ k e. e;
        standing = standing_each x.comms (remove x.comms c) x.threads (λ key e. stands_on x.comms (remove x.comms c) key (goes-remove x.comms x.rank c may) e) h.standing;
      }) h
