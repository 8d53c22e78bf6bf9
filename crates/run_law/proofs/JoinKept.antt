-- A call joins a creation: what holds of the registry alone goes on to hold.
use Rattle.std.proofs.Common.{◌≡◌, ◌≢◌, ◌⊎◌, ◌<◌, ◌≤◌, ℕ, ◌==◌, ◌&&◌, ◌||◌, Bool, true, false, List, [], length, get_or, Option, Some, None, refl, sym, ap, ◌∙◌, subst, inl, inr, arith}
use Rattle.std.proofs.lemmas.Bool.Decides.{nat_tests}
use Rattle.mpi_base.specs.MemberLists.{has_rank}
use Rattle.mpi_base.specs.declared.shares.Shared1.{Shared1}
use Rattle.mpi_law.specs.declared.setting.Setting.{Setting}
use Rattle.mpi_law.specs.declared.setting.TheConstants.{THREADS}
use Rattle.mpi_law.specs.Local.Objects.{Local}
use Rattle.mpi_law.specs.Registry.State as reg
use Rattle.mpi_law.specs.Registry.State.{Registry, RankPart, ThreadPart, Communicator, Caller, Creation, CreationName, Group_and_tag, Nth_dup, Nth_split, Group_on, Wait, Creating, Made, blank_part, blank_creation}
use Rattle.mpi_law.specs.Registry.Creations.{is_split, is_nil, is_counted_on, parent_of, caller_of, has_called, all_called, called_on, outcome_for, place_where, is_joinable, with_caller}
use Rattle.mpi_protocol.specs.Rank.{Rank}
use Rattle.run_law.proofs.Lists.{one}
use Rattle.due_law.specs.Dues.{Dues}
use Rattle.run_law.proofs.Creations.{creation_in}
use Rattle.run_law.proofs.Wholes.{Wholes, ParentFits, GroupFits, number_in, is_open_row}
use Rattle.run_law.proofs.Joined.{Joined}
use Rattle.run_law.proofs.JoinRows.{JoinedRow, joined_old, opened_new, any-snoc, caller-else}
use Rattle.run_law.proofs.Parts.{thread_in, PartsAfter, Elsewhere}
use Rattle.run_law.proofs.JoinWholes.{calling_part, counted_in, caller, n, rows, how, counts, Called_row, called_row, after_thread, row_kept, new_alone}
use Rattle.run_law.proofs.Waiters.{awaited_inside}

module _ (s : Setting) (ranks : List Rank) (due : Dues) (g : Registry) (r t : ℕ) (target : List ℕ) (session : ℕ) (name : CreationName) (group : List ℕ) (m : Local) (new : List RankPart) (j : Joined s ranks due g) (here : t < THREADS)
    (idle : (thread_in g.ranks r t).wait ≡ reg.Idle) (share : Option Shared1) (alone : is_split name ≡ true → (i : ℕ) → i < length g.creations → (creation_in g.creations i).name ≡ name → has_called (creation_in g.creations i) r ≡ false) (self : has_rank group r ≡ true) (fits : GroupFits g.comms name group)
    (fresh : has_called (creation_in g.creations (place_where (is_joinable name) g.creations)) r ≡ false)
    (number : (p : ℕ) → is_counted_on p name ≡ true → number_in name ≡ called_on g.creations p r)
    (under : (p : ℕ) → parent_of name ≡ Some p → ParentFits g.comms p group)
    (parts : PartsAfter g.ranks new r t m (calling_part (get_or g.ranks r blank_part).threads t (place_where (is_joinable name) g.creations))) where
  abbrev at : ℕ
  at = n s ranks due g r t target session name group m new j here idle share alone self fits fresh number under parts

  abbrev after : List Creation
  after = rows s ranks due g r t target session name group m new j here idle share alone self fits fresh number under parts

  c : Called_row s ranks due g r t target session name group m new j here idle share alone self fits fresh number under parts
  c = called_row s ranks due g r t target session name group m new j here idle share alone self fits fresh number under parts

  old : (i : ℕ) → i < length after → i ≢ at → i < length g.creations
  old i li ne = c.only i li ne

  kept : {A : Type 0} (f : CreationName → List ℕ → List reg.Pick → A) (i : ℕ) → i < length g.creations → f (creation_in after i).name (creation_in after i).group (creation_in after i).picks ≡ f (creation_in g.creations i).name (creation_in g.creations i).group (creation_in g.creations i).picks
  kept f i li = row_kept s ranks due g r t target session name group m new j here idle share alone self fits fresh number under parts f i li

  outcome_kept : (i q : ℕ) → i < length g.creations → outcome_for (creation_in after i) q ≡ outcome_for (creation_in g.creations i) q
  outcome_kept i q li = kept (λ x y z. outcome_for (record { name = x; group = y; callers = []; picks = z; answered = [] }) q) i li

  one_open : (i k : ℕ) → i < length after → k < length after → (creation_in after i).name ≡ (creation_in after k).name → is_open_row (creation_in after i) ≡ true → is_open_row (creation_in after k) ≡ true → i ≡ k
  one_open i k li lk e o p = go (i == at) (k == at) refl refl
    where
      go : (a b : Bool) → (i == at) ≡ a → (k == at) ≡ b → i ≡ k
      go true true ea eb = grind (arith, nat_tests, ea, eb)
      go true false ea eb =
          let is : i ≡ at = grind (arith, nat_tests, ea) in
          let name_i : (creation_in after i).name ≡ name = ap (λ (w : ℕ). (creation_in after w).name) is ∙ c.name_is in
          absurd (new_alone s ranks due g r t target session name group m new j here idle share alone self fits fresh number under parts k lk (grind (arith, nat_tests, eb)) p (sym e ∙ name_i) (how s ranks due g r t target session name group m new j here idle share alone self fits fresh number under parts).row)
      go false true ea eb =
          let is : k ≡ at = grind (arith, nat_tests, eb) in
          let name_k : (creation_in after k).name ≡ name = ap (λ (w : ℕ). (creation_in after w).name) is ∙ c.name_is in
          absurd (new_alone s ranks due g r t target session name group m new j here idle share alone self fits fresh number under parts i li (grind (arith, nat_tests, ea)) o (e ∙ name_k) (how s ranks due g r t target session name group m new j here idle share alone self fits fresh number under parts).row)
      go false false ea eb =
          let lio = old i li (grind (arith, nat_tests, ea)) in
          let lko = old k lk (grind (arith, nat_tests, eb)) in
          j.whole.one_open i k lio lko (sym (kept (λ x y z. x) i lio) ∙ (e ∙ kept (λ x y z. x) k lko)) (sym (kept (λ x y z. is_split x || is_nil z) i lio) ∙ o) (sym (kept (λ x y z. is_split x || is_nil z) k lko) ∙ p)

  for_all : (i q : ℕ) → i < length after → is_split (creation_in after i).name ≡ false → has_rank (creation_in after i).group q ≡ true → outcome_for (creation_in after i) q ≡ None → is_nil (creation_in after i).picks ≡ true
  for_all i q li sp mem none = go (i == at) refl
    where
      go : (a : Bool) → (i == at) ≡ a → is_nil (creation_in after i).picks ≡ true
      go true ea = let is : i ≡ at = grind (arith, nat_tests, ea) in ap (λ (w : ℕ). is_nil (creation_in after w).picks) is ∙ c.nil
      go false ea =
          let lo = old i li (grind (arith, nat_tests, ea)) in
          kept (λ x y z. is_nil z) i lo ∙ j.whole.for_all i q lo (sym (kept (λ x y z. is_split x) i lo) ∙ sp) (sym (kept (λ x y z. has_rank y q) i lo) ∙ mem) (sym (outcome_kept i q lo) ∙ none)

  unpicked : (i : ℕ) → i < length after → is_split (creation_in after i).name ≡ true → all_called (creation_in after i) ≡ false → is_nil (creation_in after i).picks ≡ true
  unpicked i li sp left = go (i == at) refl
    where
      go : (a : Bool) → (i == at) ≡ a → is_nil (creation_in after i).picks ≡ true
      go true ea = let is : i ≡ at = grind (arith, nat_tests, ea) in ap (λ (w : ℕ). is_nil (creation_in after w).picks) is ∙ c.nil
      go false ea =
          let ne : i ≢ at = grind (arith, nat_tests, ea) in
          let same = (how s ranks due g r t target session name group m new j here idle share alone self fits fresh number under parts).same i ne in
          ap (λ (z : Creation). is_nil z.picks) same ∙ j.whole.unpicked i (old i li ne) (sym (ap (λ (z : Creation). is_split z.name) same) ∙ sp) (sym (ap all_called same) ∙ left)

  -- what was made was made before
  made_old : (i q p : ℕ) → i < length after → outcome_for (creation_in after i) q ≡ Some (Made p) → (i < length g.creations) × (outcome_for (creation_in g.creations i) q ≡ Some (Made p))
  made_old i q p li e = go (i == at) refl
    where
      go : (a : Bool) → (i == at) ≡ a → (i < length g.creations) × (outcome_for (creation_in g.creations i) q ≡ Some (Made p))
      go true ea =
          let is : i ≡ at = grind (arith, nat_tests, ea) in
          let none : outcome_for (creation_in after i) q ≡ None = ap (λ (w : ℕ). outcome_for (creation_in after w) q) is ∙ c.none q in
          absurd (cc (none, e))
      go false ea = let lo = old i li (grind (arith, nat_tests, ea)) in (lo, sym (outcome_kept i q lo) ∙ e)

  -- a call counts one more
  more : (p q : ℕ) → called_on g.creations p q ≤ called_on after p q
  more p q = let e = counts s ranks due g r t target session name group m new j here idle share alone self fits fresh number under parts p q in omega (arith, e)

  numbered : (i q p : ℕ) → i < length after → is_counted_on p (creation_in after i).name ≡ true → has_called (creation_in after i) q ≡ true → number_in (creation_in after i).name < called_on after p q
  numbered i q p li on h = go (i == at) refl
    where
      same_row : (lo : i < length g.creations) → has_called (creation_in g.creations i) q ≡ true → number_in (creation_in after i).name < called_on after p q
      same_row lo h' =
          let z = j.whole.numbered i q p lo (sym (kept (λ x y z. is_counted_on p x) i lo) ∙ on) h' in
          let e = kept (λ x y z. number_in x) i lo in
          let b = more p q in
          omega (arith, z, e, b)

      mine : i ≡ at → (r == q) ≡ true → number_in (creation_in after i).name < called_on after p q
      mine is e =
          let name_i : (creation_in after i).name ≡ name = ap (λ (w : ℕ). (creation_in after w).name) is ∙ c.name_is in
          let on_name : is_counted_on p name ≡ true = sym (ap (is_counted_on p) name_i) ∙ on in
          let is_r : r ≡ q = grind (arith, nat_tests, e) in
          let a = counts s ranks due g r t target session name group m new j here idle share alone self fits fresh number under parts p q in
          let b = number p on_name in
          let d = ap number_in name_i in
          let f : called_on g.creations p r ≡ called_on g.creations p q = ap (called_on g.creations p) is_r in
          let o : one (is_counted_on p name && (r == q)) ≡ 1 = rw (on_name, e) refl in
          omega (arith, a, b, d, f, o)

      theirs : i ≡ at → (r == q) ≡ false → JoinedRow g.creations after name group (caller s ranks due g r t target session name group m new j here idle share alone self fits fresh number under parts) at → number_in (creation_in after i).name < called_on after p q
      theirs is e (opened_new x y long none) =
          let h' : has_called (creation_in after at) q ≡ true = sym (ap (λ (w : ℕ). has_called (creation_in after w) q) is) ∙ h in
          let z : ((r == q) || false) ≡ true = sym (ap (λ (k : Creation). has_called k q) y) ∙ h' in
          absurd (grind (arith, z, e))
      theirs is e (joined_old lt ok y long) =
          let h' : has_called (creation_in after at) q ≡ true = sym (ap (λ (w : ℕ). has_called (creation_in after w) q) is) ∙ h in
          let z : has_called (with_caller (creation_in g.creations at) (caller s ranks due g r t target session name group m new j here idle share alone self fits fresh number under parts)) q ≡ true = sym (ap (λ (k : Creation). has_called k q) y) ∙ h' in
          let a = any-snoc (creation_in g.creations at).callers (caller s ranks due g r t target session name group m new j here idle share alone self fits fresh number under parts) q in
          let was : has_called (creation_in g.creations at) q ≡ true = grind (arith, a, z, e) in
          same_row (omega (arith, is, lt)) (ap (λ (w : ℕ). has_called (creation_in g.creations w) q) is ∙ was)

      by : i ≡ at → (b : Bool) → (r == q) ≡ b → number_in (creation_in after i).name < called_on after p q
      by is true e = mine is e
      by is false e = theirs is e (how s ranks due g r t target session name group m new j here idle share alone self fits fresh number under parts).row

      go : (a : Bool) → (i == at) ≡ a → number_in (creation_in after i).name < called_on after p q
      go true ea = by (grind (arith, nat_tests, ea)) (r == q) refl
      go false ea =
          let ne : i ≢ at = grind (arith, nat_tests, ea) in
          same_row (old i li ne) (sym (ap (λ (k : Creation). has_called k q) ((how s ranks due g r t target session name group m new j here idle share alone self fits fresh number under parts).same i ne)) ∙ h)

  group_is : (i : ℕ) → i < length after → GroupFits g.comms (creation_in after i).name (creation_in after i).group
  group_is i li = go (i == at) refl
    where
      go : (a : Bool) → (i == at) ≡ a → GroupFits g.comms (creation_in after i).name (creation_in after i).group
      go true ea = let is : i ≡ at = grind (arith, nat_tests, ea) in subst (λ (w : ℕ). GroupFits g.comms (creation_in after w).name (creation_in after w).group) (sym is) (rw (c.name_is, c.group_is) fits)
      go false ea = let lo = old i li (grind (arith, nat_tests, ea)) in rw (kept (λ x y z. x) i lo, kept (λ x y z. y) i lo) (j.whole.group_is i lo)

  under_after : (q u i p : ℕ) → (thread_in new q u).wait ≡ Creating i → parent_of (creation_in after i).name ≡ Some p → ParentFits g.comms p (creation_in after i).group
  under_after q u i p w e = go (after_thread s ranks due g r t target session name group m new j here idle share alone self fits fresh number under parts q u)
    where
      go : ((q ≡ r) × (u ≡ t) × (thread_in new q u ≡ calling_part (get_or g.ranks r blank_part).threads t at)) ⊎ (Elsewhere r t q u × (thread_in new q u ≡ thread_in g.ranks q u)) → ParentFits g.comms p (creation_in after i).group
      go (inl z) =
          let x : Creating at ≡ Creating i = sym (ap (λ (y : ThreadPart). y.wait) z.2) ∙ w in
          let is : at ≡ i = cc (x) in
          subst (λ (v : ℕ). ParentFits g.comms p (creation_in after v).group) is (rw c.group_is (under p (sym (ap parent_of c.name_is) ∙ (ap (λ (v : ℕ). parent_of (creation_in after v).name) is ∙ e))))
      go (inr z) =
          let w' = sym (ap (λ (y : ThreadPart). y.wait) z.1) ∙ w in
          let lo = awaited_inside s ranks due g j q u i w' in
          subst (λ (ms : List ℕ). ParentFits g.comms p ms) (sym (kept (λ x y z. y) i lo)) (j.whole.under q u i p w' (sym (kept (λ x y z. parent_of x) i lo) ∙ e))

  placed : (p q : ℕ) → length g.comms ≤ p → called_on after p q ≡ 0
  placed p q le = go (is_counted_on p name) refl
    where
      go : (b : Bool) → is_counted_on p name ≡ b → called_on after p q ≡ 0
      go true e = absurd (let z = counted_in g.comms name group p e fits in omega (arith, z, le))
      go false e =
          let a = counts s ranks due g r t target session name group m new j here idle share alone self fits fresh number under parts p q in
          let b = j.whole.placed p q le in
          let o : one (is_counted_on p name && (r == q)) ≡ 0 = rw e refl in
          omega (arith, a, b, o)

  awaited : (i q : ℕ) → i < length after → is_open_row (creation_in after i) ≡ true → is_split (creation_in after i).name ≡ false → has_called (creation_in after i) q ≡ true → (thread_in new q (caller_of (creation_in after i).callers q).thread).wait ≡ Creating i
  awaited i q li o sp h = go (i == at) refl
    where
      still : (u : ℕ) → (thread_in g.ranks q u).wait ≡ Creating i → (thread_in new q u).wait ≡ Creating i
      still u e = at_thread (after_thread s ranks due g r t target session name group m new j here idle share alone self fits fresh number under parts q u)
        where
          at_thread : ((q ≡ r) × (u ≡ t) × (thread_in new q u ≡ calling_part (get_or g.ranks r blank_part).threads t at)) ⊎ (Elsewhere r t q u × (thread_in new q u ≡ thread_in g.ranks q u)) → (thread_in new q u).wait ≡ Creating i
          at_thread (inr z) = ap (λ (y : ThreadPart). y.wait) z.1 ∙ e
          at_thread (inl z) =
              let x : (thread_in g.ranks r t).wait ≡ Creating i = subst (λ (v : ℕ). (thread_in g.ranks v t).wait ≡ Creating i) z.0 (subst (λ (v : ℕ). (thread_in g.ranks q v).wait ≡ Creating i) z.1 e) in
              absurd (cc (x, idle))

      before : (lo : i < length g.creations) → has_called (creation_in g.creations i) q ≡ true → (thread_in g.ranks q (caller_of (creation_in g.creations i).callers q).thread).wait ≡ Creating i
      before lo h' = j.whole.awaited i q lo (sym (kept (λ x y z. is_split x || is_nil z) i lo) ∙ o) (sym (kept (λ x y z. is_split x) i lo) ∙ sp) h'

      mine : i ≡ at → (r == q) ≡ true → (thread_in new q (caller_of (creation_in after i).callers q).thread).wait ≡ Creating i
      mine is e =
          let is_q : q ≡ r = grind (arith, nat_tests, e) in
          let thread : (caller_of (creation_in after at).callers r).thread ≡ t = ap (λ (k : Caller). k.thread) c.caller_is in
          subst (λ (v : ℕ). (thread_in new q (caller_of (creation_in after v).callers q).thread).wait ≡ Creating v) (sym is)
          (subst (λ (v : ℕ). (thread_in new v (caller_of (creation_in after at).callers v).thread).wait ≡ Creating at) (sym is_q)
          (subst (λ (v : ℕ). (thread_in new r v).wait ≡ Creating at) (sym thread) (there (after_thread s ranks due g r t target session name group m new j here idle share alone self fits fresh number under parts r t))))
        where
          there : ((r ≡ r) × (t ≡ t) × (thread_in new r t ≡ calling_part (get_or g.ranks r blank_part).threads t at)) ⊎ (Elsewhere r t r t × (thread_in new r t ≡ thread_in g.ranks r t)) → (thread_in new r t).wait ≡ Creating at
          there (inl z) = ap (λ (y : ThreadPart). y.wait) z.2
          there (inr z) = absurd (z.0 refl refl)

      theirs : i ≡ at → (r == q) ≡ false → JoinedRow g.creations after name group (caller s ranks due g r t target session name group m new j here idle share alone self fits fresh number under parts) at → (thread_in new q (caller_of (creation_in after i).callers q).thread).wait ≡ Creating i
      theirs is e (opened_new x y long none) =
          let h' : has_called (creation_in after at) q ≡ true = sym (ap (λ (w : ℕ). has_called (creation_in after w) q) is) ∙ h in
          let z : ((r == q) || false) ≡ true = sym (ap (λ (k : Creation). has_called k q) y) ∙ h' in
          absurd (grind (arith, z, e))
      theirs is e (joined_old lt ok y long) =
          let h' : has_called (creation_in after at) q ≡ true = sym (ap (λ (w : ℕ). has_called (creation_in after w) q) is) ∙ h in
          let z : has_called (with_caller (creation_in g.creations at) (caller s ranks due g r t target session name group m new j here idle share alone self fits fresh number under parts)) q ≡ true = sym (ap (λ (k : Creation). has_called k q) y) ∙ h' in
          let a = any-snoc (creation_in g.creations at).callers (caller s ranks due g r t target session name group m new j here idle share alone self fits fresh number under parts) q in
          let was : has_called (creation_in g.creations i) q ≡ true = ap (λ (w : ℕ). has_called (creation_in g.creations w) q) is ∙ grind (arith, a, z, e) in
          let same : caller_of (creation_in after i).callers q ≡ caller_of (creation_in g.creations i).callers q = ap (λ (w : ℕ). caller_of (creation_in after w).callers q) is ∙ (ap (λ (k : Creation). caller_of k.callers q) y ∙ (caller-else (creation_in g.creations at).callers (caller s ranks due g r t target session name group m new j here idle share alone self fits fresh number under parts) q e ∙ ap (λ (w : ℕ). caller_of (creation_in g.creations w).callers q) (sym is))) in
          subst (λ (k : Caller). (thread_in new q k.thread).wait ≡ Creating i) (sym same) (still (caller_of (creation_in g.creations i).callers q).thread (before (omega (arith, is, lt)) was))

      by : i ≡ at → (b : Bool) → (r == q) ≡ b → (thread_in new q (caller_of (creation_in after i).callers q).thread).wait ≡ Creating i
      by is true e = mine is e
      by is false e = theirs is e (how s ranks due g r t target session name group m new j here idle share alone self fits fresh number under parts).row

      go : (a : Bool) → (i == at) ≡ a → (thread_in new q (caller_of (creation_in after i).callers q).thread).wait ≡ Creating i
      go true ea = by (grind (arith, nat_tests, ea)) (r == q) refl
      go false ea =
          let ne : i ≢ at = grind (arith, nat_tests, ea) in
          let same = (how s ranks due g r t target session name group m new j here idle share alone self fits fresh number under parts).same i ne in
          subst (λ (k : Creation). (thread_in new q (caller_of k.callers q).thread).wait ≡ Creating i) (sym same) (still (caller_of (creation_in g.creations i).callers q).thread (before (old i li ne) (sym (ap (λ (k : Creation). has_called k q) same) ∙ h)))

  pub whole_after : Wholes g.comms after new
  whole_after = record {
    apart = j.whole.apart;
    one_open = one_open;
    for_all = for_all;
    unpicked = unpicked;
    made_inside = λ i q p li e. (let z = made_old i q p li e in j.whole.made_inside i q p z.0 z.1);
    made_once = λ i k q p li lk e f. (let y = made_old i q p li e in let z = made_old k q p lk f in j.whole.made_once i k q p y.0 z.0 y.1 z.1);
    numbered = numbered;
    group_is = group_is;
    returned = j.whole.returned;
    under = under_after;
    placed = placed;
    awaited = awaited;
  }
