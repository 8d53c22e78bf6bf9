-- The topic of communicators that a rank has left, of the rank's own state: no creation under one is open, and none begins,
-- as no name is bound to it. Each step of a rank keeps it.
use Rattle.std.proofs.Common.{◌≡◌, ◌≤◌, ℕ, zero, suc, ◌==◌, not, if◌then◌else◌, Bool, true, false, List, [], ◌∷◌, set, filter, map, option_map, Option, Some, None, refl, sym, ap, ◌∙◌, subst, arith}
use Rattle.std.proofs.lemmas.Bool.Decides.{nat_tests}
use Rattle.mpi_base.specs.declared.keys.Key.{Key}
use Rattle.mpi_base.specs.Keys.{same_key}
use Rattle.mpi_base.proofs.KeyFacts.{same_key_is}
use Rattle.mpi_base.specs.declared.entries.Act.{Act}
use Rattle.mpi_law.specs.declared.setting.Setting.{Setting}
use Rattle.mpi_law.specs.Local.Objects.{Local}
use Rattle.mpi_law.specs.declared.effects.Origin.{Origin}
use Rattle.mpi_law.specs.declared.effects.Origin.TheVariants.{Grouped, Duplicated, Divided, GroupedOn}
use Rattle.mpi_law.specs.declared.effects.Effect.{Effect}
use Rattle.mpi_law.specs.declared.effects.Effect.TheVariants.{Says, Opens, Groups, Ungroups, Joins, Frees, Ends, Sends, Receives, Posts, NullPosts, Completes, Awaits}
use Rattle.comm_law.specs.declared.rows.CommRow.{CommRow}
use Rattle.comm_law.specs.declared.rows.CommStage.{CommStage}
use Rattle.comm_law.specs.declared.rows.CommStage.TheVariants.{Live, Freed, Left}
use Rattle.comm_law.specs.Comms.{Comms as Known, is_left, with_stage, one_call_more, freed_stage, add, leave, remove}
use Rattle.mpi_protocol.specs.declared.rows.Waits.{Waits}
use Rattle.mpi_protocol.specs.declared.rows.Waits.TheVariants.{Nothing, Creation, Uncoloured, Freeing, Ending, Receiving, Awaiting}
use Rattle.mpi_protocol.specs.declared.rows.ThreadRow.{ThreadRow}
use Rattle.mpi_protocol.specs.Packets.{Packet}
use Rattle.mpi_protocol.specs.Rank.{Rank, fresh, creates, has_open, has_open_under, goes_on, going_on, with_key}
use Rattle.mpi_protocol.specs.Calls.{around_here, key_of, counted as comms_counted}
use Rattle.mpi_protocol.specs.Step.{step, is_enabled, may_leave}
use Rattle.run_law.proofs.Rows.{or_else, row_in, row_in-append, added_row}
use Rattle.run_law.proofs.StagedRows.{staged_row, row_staged, mark_is, session_freed, left_is}
use Rattle.run_law.proofs.CountedRows.{counted, row_counted, count_is, row_ctx}
use Rattle.run_law.proofs.Found.{OfComm, OriginFound, Found}
use Rattle.run_law.proofs.StepKinds.{waits_after, comms_after, SameParent, step_kept}

-- the rank has left the communicator with this context
abbrev pub is_left_row : Option CommRow → Bool
is_left_row None = false
is_left_row (Some m) = is_left m.stage

abbrev pub left_in : List CommRow → ℕ → Bool
left_in rows c = is_left_row (row_in rows c)

-- a creation under it is open
abbrev pub open_under : List ThreadRow → ℕ → Bool
open_under threads c = has_open threads (λ k session. k.parent == c)

abbrev pub Leavings : List CommRow → List ThreadRow → Type 0
Leavings rows threads = (c : ℕ) → 1 ≤ c → left_in rows c ≡ true → open_under threads c ≡ false

-- Rows

-- one whose stage only a leave gives
left_staged : (f : CommStage → CommStage) (test : CommRow → Bool) (o : Option CommRow) → ((st : CommStage) → is_left (f st) ≡ is_left st) → is_left_row (option_map (staged_row f test) o) ≡ is_left_row o
unfolding staged_row
left_staged f test None same = refl
left_staged f test (Some m) same = go (test m)
  where
    go : (b : Bool) → is_left_row (Some (if b then with_stage (f m.stage) m else m)) ≡ is_left m.stage
    go true = same m.stage
    go false = refl

freed_left : (st : CommStage) → is_left (freed_stage st) ≡ is_left st
freed_left Live = refl
freed_left Freed = refl
freed_left Left = refl

left_counted : (c : ℕ) (o : Option CommRow) → is_left_row (option_map (counted c) o) ≡ is_left_row o
unfolding counted
left_counted c None = refl
left_counted c (Some m) = go (m.ctx == c)
  where
    go : (b : Bool) → is_left_row (Some (if b then one_call_more m else m)) ≡ is_left m.stage
    go true = refl
    go false = refl

-- the row of a context where those of another are gone
pub row_removed : (rows : List CommRow) (c b : ℕ) → row_in (filter (λ (m : CommRow). not (m.ctx == c)) rows) b ≡ (if b == c then None else row_in rows b)
row_removed [] c b = go (b == c)
  where
    go : (t : Bool) → row_in [] b ≡ (if t then None else row_in [] b)
    go true = refl
    go false = refl
row_removed (x ∷ xs) c b = go (x.ctx == c) refl (b == c) refl (x.ctx == b) refl (row_removed xs c b)
  where
    go : (t : Bool) → (x.ctx == c) ≡ t → (u : Bool) → (b == c) ≡ u → (v : Bool) → (x.ctx == b) ≡ v → row_in (filter (λ (m : CommRow). not (m.ctx == c)) xs) b ≡ (if u then None else row_in xs b)
        → row_in (if not t then x ∷ filter (λ (m : CommRow). not (m.ctx == c)) xs else filter (λ (m : CommRow). not (m.ctx == c)) xs) b ≡ (if u then None else (if v then Some x else row_in xs b))
    go true e true f v h ih = ih
    go true e false f true h ih = absurd (grind (arith, nat_tests, e, f, h))
    go true e false f false h ih = ih
    go false e true f true h ih = absurd (grind (arith, nat_tests, e, f, h))
    go false e true f false h ih = rw h ih
    go false e false f true h ih = rw h refl
    go false e false f false h ih = rw h ih

-- Threads

open_set : (threads : List ThreadRow) (t : ℕ) (row : ThreadRow) (test : Key → ℕ → Bool) → creates test row.waits ≡ false → has_open threads test ≡ false → has_open (set threads t row) test ≡ false
open_set [] t row test e h = refl
open_set (x ∷ xs) zero row test e h = grind (arith, e, h)
open_set (x ∷ xs) (suc t) row test e h = let ih = open_set xs t row test e (grind (arith, h)) in grind (arith, ih, h)

-- a creation that goes on under another key goes on under its parent
open_on : (threads : List ThreadRow) (key : Key) (next : Option Key) (c : ℕ) → SameParent key next → open_under (with_key threads key next) c ≡ open_under threads c
open_on [] key next c same = refl
open_on (x ∷ xs) key next c same = let here = at x.waits in let ih = open_on xs key next c same in grind (arith, here, ih)
  where
    at : (w : Waits) → creates (λ k session. k.parent == c) (going_on key next w) ≡ creates (λ k session. k.parent == c) w
    at Nothing = refl
    at (Creation k target session) = go (same_key k key) refl next same
      where
        go : (b : Bool) → same_key k key ≡ b → (o : Option Key) → SameParent key o → creates (λ k session. k.parent == c) (if b then goes_on key o target session else Creation k target session) ≡ (k.parent == c)
        go false e o p = refl
        go true e None p = let is = same_key_is k key e in rw is refl
        go true e (Some n) p = let is = same_key_is k key e in rw (is, p) refl
    at (Uncoloured k target session) = refl
    at (Freeing serial) = refl
    at (Ending s) = refl
    at (Receiving n) = refl
    at (Awaiting name) = refl

pub leavings_fresh : (s : Setting) (r : ℕ) → Leavings (fresh s r).comms.rows (fresh s r).threads
leavings_fresh s r c lo e = absurd (cc (e))

-- A step, where no name is bound to a communicator that the rank has left

module _ (x : Rank) (h : Leavings x.comms.rows x.threads) (named : (c : ℕ) → OfComm x.local.names c → left_in x.comms.rows c ≡ false) where
  abbrev OnThree : Local → List ThreadRow → Known → Type 0
  OnThree l threads comms = Leavings comms.rows threads

  left_before : (e : Effect ℕ) (c : ℕ) → left_in (comms_after x e).rows c ≡ left_in x.comms.rows c
  left_before (Says said) c = refl
  left_before (Opens target) c = refl
  left_before (Groups target members session) c = refl
  left_before (Ungroups name) c = refl
  left_before (Joins a) c = go a.origin
    where
      one : (d : ℕ) → left_in (map (counted d) x.comms.rows) c ≡ left_in x.comms.rows c
      one d = ap is_left_row (row_counted x.comms.rows d c) ∙ left_counted d (row_in x.comms.rows c)

      go : (o : Origin ℕ) → left_in (comms_counted x.comms o).rows c ≡ left_in x.comms.rows c
      go (Grouped group tag) = refl
      go (Duplicated d) = ap (λ (ms : List CommRow). left_in ms c) (count_is x.comms d) ∙ one d
      go (Divided d share) = ap (λ (ms : List CommRow). left_in ms c) (count_is x.comms d) ∙ one d
      go (GroupedOn d tag group) = refl
  left_before (Frees name d) c = ap (λ (ms : List CommRow). left_in ms c) (mark_is x.comms d) ∙ (ap is_left_row (row_staged freed_stage x.comms.rows (λ m. m.ctx == d) c) ∙ left_staged freed_stage (λ m. m.ctx == d) (row_in x.comms.rows c) freed_left)
  left_before (Ends name s) c = ap (λ (ms : List CommRow). left_in ms c) (session_freed x.comms s) ∙ (ap is_left_row (row_staged freed_stage x.comms.rows (λ m. m.session == s) c) ∙ left_staged freed_stage (λ m. m.session == s) (row_in x.comms.rows c) freed_left)
  left_before (Sends m) c = refl
  left_before (Receives a) c = refl
  left_before (Posts target a) c = refl
  left_before (NullPosts target) c = refl
  left_before (Completes name n) c = refl
  left_before (Awaits name) c = refl

  -- the new creation, if there is one, is under a communicator that a name is bound to
  apart : (e : Effect ℕ) (c : ℕ) → Found (around_here x) x.local.names e → 1 ≤ c → left_in x.comms.rows c ≡ true → creates (λ k session. k.parent == c) (waits_after x e) ≡ false
  apart (Says said) c f lo left = refl
  apart (Opens target) c f lo left = refl
  apart (Groups target members session) c f lo left = refl
  apart (Ungroups name) c f lo left = refl
  apart (Joins a) c f lo left = go a.origin f.1
    where
      other : (d : ℕ) → OfComm x.local.names d → (b : Bool) → (d == c) ≡ b → b ≡ false
      other d o false e = refl
      other d o true e = absurd (let is : d ≡ c = grind (arith, nat_tests, e) in let n : left_in x.comms.rows c ≡ false = subst (λ (i : ℕ). left_in x.comms.rows i ≡ false) is (named d o) in cc (n, left))

      go : (o : Origin ℕ) → OriginFound x.local.names o → ((key_of x.comms o).parent == c) ≡ false
      go (Grouped group tag) q = grind (arith, nat_tests, lo)
      go (Duplicated d) q = other d q (d == c) refl
      go (Divided d share) q = other d q (d == c) refl
      go (GroupedOn d tag group) q = other d q (d == c) refl
  apart (Frees name d) c f lo left = refl
  apart (Ends name s) c f lo left = refl
  apart (Sends m) c f lo left = refl
  apart (Receives a) c f lo left = refl
  apart (Posts target a) c f lo left = refl
  apart (NullPosts target) c f lo left = refl
  apart (Completes name n) c f lo left = refl
  apart (Awaits name) c f lo left = refl

  added_kept : (d : ℕ) (members : List ℕ) (session : ℕ) → OnThree x.local x.threads (add x.comms d members session)
  added_kept d members session c lo e = h c lo (go (row_in x.comms.rows c) (d == c) (sym (ap is_left_row (row_in-append x.comms.rows _ c)) ∙ e))
    where
      go : (o : Option CommRow) (b : Bool) → is_left_row (or_else o (if b then Some (added_row x.comms d members session) else None)) ≡ true → is_left_row o ≡ true
      go (Some m) b e = e
      go None true e = e
      go None false e = e

  left_kept : (d : ℕ) → may_leave x d ≡ true → OnThree x.local x.threads (leave x.comms d)
  unfolding has_open_under staged_row
  left_kept d may c lo e = go (row_in x.comms.rows c) refl (sym (ap (λ (ms : List CommRow). left_in ms c) (left_is x.comms d) ∙ ap is_left_row (row_staged (λ st. Left) x.comms.rows (λ m. m.ctx == d) c)) ∙ e)
    where
      now : open_under x.threads d ≡ false
      now = grind (arith, may)

      at : (m : CommRow) → row_in x.comms.rows c ≡ Some m → (b : Bool) → (m.ctx == d) ≡ b → is_left_row (Some (if b then with_stage Left m else m)) ≡ true → open_under x.threads c ≡ false
      at m eo true t z =
          let ctx = row_ctx x.comms.rows c m eo in
          let is : d ≡ c = grind (arith, nat_tests, t, ctx) in
          subst (λ (i : ℕ). open_under x.threads i ≡ false) is now
      at m eo false t z = h c lo (rw eo z)

      go : (o : Option CommRow) → row_in x.comms.rows c ≡ o → is_left_row (option_map (staged_row (λ st. Left) (λ m. m.ctx == d)) o) ≡ true → open_under x.threads c ≡ false
      go None eo z = absurd (cc (z))
      go (Some m) eo z = at m eo (m.ctx == d) refl z

  removed_kept : (d : ℕ) → OnThree x.local x.threads (remove x.comms d)
  removed_kept d c lo e = h c lo (go (c == d) (sym (ap is_left_row (row_removed x.comms.rows d c)) ∙ e))
    where
      go : (b : Bool) → is_left_row (if b then None else row_in x.comms.rows c) ≡ true → left_in x.comms.rows c ≡ true
      go true z = absurd (cc (z))
      go false z = z

  pub leavings_step : (act : Act) (p : Option Packet) → is_enabled x act ≡ true → Leavings (step x act p).state.comms.rows (step x act p).state.threads
  leavings_step act p can =
      step_kept OnThree x act p can (record {
        still = h;
        call = λ t e f c lo left. (let before = sym (left_before e c) ∙ left in open_set x.threads t _ (λ k session. k.parent == c) (apart e c f lo before) (h c lo before));
        answer = λ t l a c lo left. open_set x.threads t _ (λ k session. k.parent == c) refl (h c lo left);
        shared = λ key next same c lo left. open_on x.threads key next c same ∙ h c lo left;
        added = added_kept;
        noted = λ c from. h;
        left = left_kept;
        removed = removed_kept;
      })
