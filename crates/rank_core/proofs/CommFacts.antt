-- The communicators of a rank keep their contexts.
use Rattle.std.proofs.Common.{◌≡◌, ◌≤◌, ◌==◌, ◌++◌, ℕ, Bool, true, false, if◌then◌else◌, List, [], ◌∷◌, map, filter, refl, subst, ◌∙◌, arith, Option, Some, None}
use Rattle.std.specs.Prelude.{find}
use Rattle.std.proofs.lemmas.Bool.Decides.{nat_tests}
use Rattle.mpi_law.specs.declared.setting.Setting.{Setting}
use Rattle.mpi_base.specs.declared.keys.Key.{Key}
use Rattle.agree_law.specs.declared.rows.Verdict.{Verdict}
use Rattle.agree_law.specs.declared.rows.Verdict.TheVariants.{Ready, Retry, Context, Exhausted}
use Rattle.and_reduce.specs.Rows.{IsPick}
use Rattle.comm_law.specs.declared.rows.CommRow.{CommRow}
use Rattle.comm_law.specs.Comms.{Comms, all_marked, all_marked_row, at, count_call, free_session, leave, mark_free, remove, row_at}
use Rattle.mpi_base.specs.declared.entries.Act.TheVariants.{Back}
use Rattle.mpi_protocol.specs.declared.rows.ThreadRow.{ThreadRow}
use Rattle.mpi_protocol.specs.Step.{is_enabled}
use Rattle.rank_core.specs.Held.{AreContexts, Held, IsRank}
use Rattle.rank_core.specs.Verdicts.{comms_after}

-- rows that keep their contexts
contexts-changed : (top : ℕ) (test : CommRow → Bool) (f : CommRow → CommRow) (rows : List CommRow) → ((m : CommRow) → (f m).ctx ≡ m.ctx) → AreContexts top rows
    → AreContexts top (map (λ m. if test m then f m else m) rows)
contexts-changed top test f [] same h = tt
contexts-changed top test f (m ∷ ms) same h = (go (test m), contexts-changed top test f ms same h.1)
  where
    go : (b : Bool) → (1 ≤ (if b then f m else m).ctx) × ((if b then f m else m).ctx ≤ top)
    go true = rw (same m) h.0
    go false = h.0

contexts-filter : (top : ℕ) (test : CommRow → Bool) (rows : List CommRow) → AreContexts top rows → AreContexts top (filter test rows)
contexts-filter top test [] h = tt
contexts-filter top test (m ∷ ms) h = go (test m) (contexts-filter top test ms h.1)
  where
    go : (b : Bool) → AreContexts top (filter test ms) → AreContexts top (if b then m ∷ filter test ms else filter test ms)
    go true ih = (h.0, ih)
    go false ih = ih

contexts-more : (top : ℕ) (rows : List CommRow) (m : CommRow) → (1 ≤ m.ctx) × (m.ctx ≤ top) → AreContexts top rows → AreContexts top (rows ++ m ∷ [])
contexts-more top [] m one h = (one, tt)
contexts-more top (x ∷ xs) m one h = (h.0, contexts-more top xs m one h.1)

contexts-verdict : (top : ℕ) (t : Comms) (threads : List ThreadRow) (key : Key) (v : Verdict) → IsPick top v → AreContexts top t.rows → AreContexts top (comms_after t threads key v).rows
contexts-verdict top t threads key Ready pick h = h
contexts-verdict top t threads key Retry pick h = h
contexts-verdict top t threads key (Context c) pick h = contexts-more top t.rows _ pick h
contexts-verdict top t threads key Exhausted pick h = h

contexts-find : (top c : ℕ) (rows : List CommRow) (m : CommRow) → find (λ x. x.ctx == c) rows ≡ Some m → AreContexts top rows → (1 ≤ c) × (c ≤ top)
contexts-find top c [] m e h = absurd (cc (e))
contexts-find top c (x ∷ xs) m e h = go (x.ctx == c) refl e (λ r. contexts-find top c xs m r h.1)
  where
    go : (b : Bool) → (x.ctx == c) ≡ b → (if b then Some x else find (λ y. y.ctx == c) xs) ≡ Some m → (find (λ y. y.ctx == c) xs ≡ Some m → (1 ≤ c) × (c ≤ top)) → (1 ≤ c) × (c ≤ top)
    go true is e ih = let same : x.ctx ≡ c = grind (arith, nat_tests, is) in subst (λ n. (1 ≤ n) × (n ≤ top)) same h.0
    go false is e ih = ih e

-- a communicator that all members have left has one of the contexts
pub context-marked : (top r c : ℕ) (t : Comms) → all_marked t r c ≡ true → AreContexts top t.rows → (1 ≤ c) × (c ≤ top)
unfolding all_marked
context-marked top r c t marked h = go (row_at t c) refl marked
  where
    go : (o : Option CommRow) → row_at t c ≡ o → all_marked_row t r o ≡ true → (1 ≤ c) × (c ≤ top)
    go None is m = absurd (cc (m))
    go (Some x) is m = contexts-find top c t.rows x is h

-- What holds of a rank's fields stays

module _ {words rank : ℕ} {s : Setting} {top told told2 : ℕ} (old new : Comms) (same : told2 ≡ told) (is : IsRank words rank s top told old.rows) where
  kept : AreContexts s.contexts new.rows → IsRank words rank s top told2 new.rows
  kept contexts = record { setting = is.setting; known = is.known; places = is.places; reach = is.reach; same = same ∙ is.same; contexts = contexts }

  pub rank-freed : (c : ℕ) → new ≡ mark_free old c → IsRank words rank s top told2 new.rows
  rank-freed c e = kept (rw e (contexts-changed s.contexts (at c) _ old.rows (λ m. refl) is.contexts))

  pub rank-freed_session : (session : ℕ) → new ≡ free_session old session → IsRank words rank s top told2 new.rows
  rank-freed_session session e = kept (rw e (contexts-changed s.contexts _ _ old.rows (λ m. refl) is.contexts))

  pub rank-counted : (c : ℕ) → new ≡ count_call old c → IsRank words rank s top told2 new.rows
  rank-counted c e = kept (rw e (contexts-changed s.contexts (at c) _ old.rows (λ m. refl) is.contexts))

  pub rank-left : (c : ℕ) → new ≡ leave old c → IsRank words rank s top told2 new.rows
  rank-left c e = kept (rw e (contexts-changed s.contexts (at c) _ old.rows (λ m. refl) is.contexts))

  pub rank-removed : (rank2 top2 c : ℕ) → rank2 ≡ rank → top2 ≡ top → new ≡ remove old c → IsRank words rank2 s top2 told2 new.rows
  rank-removed rank2 top2 c r t e = rw (r, t) (kept (rw e (contexts-filter s.contexts _ old.rows is.contexts)))

  pub rank-verdict : (rank2 top2 : ℕ) (threads : List ThreadRow) (key : Key) (v : Verdict) → rank2 ≡ rank → top2 ≡ top → IsPick top v → new ≡ comms_after old threads key v
      → IsRank words rank2 s top2 told2 new.rows
  rank-verdict rank2 top2 threads key v r t pick e = rw (r, t) (kept (rw e (contexts-verdict s.contexts old threads key v (subst (λ n. IsPick n v) is.reach pick) is.contexts)))

-- the context of a rank that may give it back
pub context-back : (s : Setting) (top : ℕ) (h old : Held) (c : ℕ) → h ≡ old → is_enabled old.state (Back c) ≡ true → top ≡ s.contexts → AreContexts s.contexts h.state.comms.rows → (1 ≤ c) × (c ≤ top)
unfolding is_enabled
context-back s top h old c is enabled reach contexts =
    let marked : all_marked old.state.comms old.state.rank c ≡ true = grind (arith, enabled) in
    rw reach (context-marked s.contexts old.state.rank c old.state.comms marked (subst (λ (o : Held). AreContexts s.contexts o.state.comms.rows) is contexts))
