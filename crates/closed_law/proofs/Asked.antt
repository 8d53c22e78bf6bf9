-- The topic of those that have called a creation, of the registry alone: who has called one, and is not told yet or has no answer, waits
-- for it.
-- A rank without a colour is told once all have called, any other once its class is picked. A class is picked for all its
-- members, and no split is picked before all have called it.
use Rattle.std.proofs.Common.{◌≡◌, ◌⊎◌, ◌<◌, ℕ, Bool, true, false, if◌then◌else◌, List, [], ◌∷◌, ◌++◌, length, Option, Some, None, refl, sym, ap, ◌∙◌, subst, inl, inr, arith}
use Rattle.std.specs.Option.{is_some}
use Rattle.std.proofs.lemmas.Bool.Decides.{nat_tests}
use Rattle.mpi_base.specs.MemberLists.{has_rank}
use Rattle.mpi_law.specs.declared.setting.Setting.{Setting}
use Rattle.mpi_law.specs.declared.setting.TheConstants.{THREADS}
use Rattle.mpi_law.specs.Registry.State.{Registry, Caller, Creation, Outcome, Pick, Creating, ThreadPart, creation_at, thread_of, part_of}
use Rattle.mpi_law.specs.Registry.Creations.{is_split, is_nil, caller_of, has_called, all_called, is_uncoloured, class_of, outcome_for, with_caller, with_pick}
use Rattle.run_law.proofs.Creations.{creation_in}
use Rattle.run_law.proofs.Rows.{or_else}
use Rattle.run_law.proofs.JoinRows.{any-snoc, caller-old}
use Rattle.run_law.proofs.PickedRows.{outcome_for-pick}
use Rattle.closed_law.proofs.ThreadGoes.{ThreadGoes}

-- a rank that has called a creation is told what came of it
abbrev pub is_told : Creation → ℕ → Bool
is_told c r = if is_uncoloured c r then all_called c else is_some (outcome_for c r)

-- of one creation
pub record PicksFit (c : Creation) : Type 0 where
  pub late : is_split c.name ≡ true → all_called c ≡ false → is_nil c.picks ≡ true
  pub classes : (q z : ℕ) → is_split c.name ≡ true → is_some (outcome_for c q) ≡ true → has_rank (class_of c q) z ≡ true → is_some (outcome_for c z) ≡ true

-- it is not told, or has no answer
abbrev pub Lacks : Creation → ℕ → Type 0
Lacks c r = (is_told c r ≡ false) ⊎ (has_rank c.answered r ≡ false)

abbrev pub Waits : Registry → ℕ → Creation → Type 0
Waits g n c = (r : ℕ) → has_called c r ≡ true → Lacks c r → (thread_of g r (caller_of c.callers r).thread).wait ≡ Creating n

pub record Asked (s : Setting) (g : Registry) : Type 0 where
  pub ranks : length g.ranks ≡ s.ranks
  pub threads : (r : ℕ) → length (part_of g r).threads ≡ THREADS
  pub fits : (n : ℕ) → n < length g.creations → PicksFit (creation_at g n)
  pub waits : (n : ℕ) → n < length g.creations → Waits g n (creation_at g n)

-- where the thread that goes on does not wait for a creation, each that waits for one goes on to wait
pub waits_still : (g new : Registry) (r t n : ℕ) (c : Creation) → ThreadGoes g new r t → ((thread_of g r t).wait ≡ Creating n → ⊥) → Waits g n c → Waits new n c
waits_still g new r t n c goes free h q called untold =
    let old = h q called untold in
    ap (λ (z : ThreadPart). z.wait) (goes.others q (caller_of c.callers q).thread (λ a b. free (here a b old))) ∙ old
  where
    here : q ≡ r → (caller_of c.callers q).thread ≡ t → (thread_of g q (caller_of c.callers q).thread).wait ≡ Creating n → (thread_of g r t).wait ≡ Creating n
    here a b old = subst (λ (i : ℕ). (thread_of g r i).wait ≡ Creating n) b (subst (λ (i : ℕ). (thread_of g i (caller_of c.callers q).thread).wait ≡ Creating n) a old)

-- a thread goes on, and the creations stay
pub asked_thread : (s : Setting) (g new : Registry) (r t : ℕ) → ThreadGoes g new r t → new.creations ≡ g.creations → ((n : ℕ) → (thread_of g r t).wait ≡ Creating n → ⊥) → Asked s g → Asked s new
asked_thread s g new r t goes e free h = record {
  ranks = goes.ranks ∙ h.ranks;
  threads = λ q. goes.threads q ∙ h.threads q;
  fits = λ n lt. subst (λ (cs : List Creation). PicksFit (creation_in cs n)) (sym e) (h.fits n (rw e at lt));
  waits = λ n lt. subst (λ (cs : List Creation). Waits new n (creation_in cs n)) (sym e) (waits_still g new r t n (creation_at g n) goes (free n) (h.waits n (rw e at lt)));
}

-- Rows

-- an answer is noted
pub fits_answered : (c : Creation) (xs : List ℕ) → PicksFit c → PicksFit (record c { answered = xs })
fits_answered c xs h = record { late = h.late; classes = h.classes }

nothing_found : (ks : List Pick) (c : Creation) (q : ℕ) → c.picks ≡ ks → is_nil ks ≡ true → outcome_for c q ≡ None
nothing_found [] c q e h = rw e refl
nothing_found (k ∷ ks) c q e h = absurd (cc (h))

-- where nothing is picked nothing came of it
pub none_picked : (c : Creation) (q : ℕ) → is_nil c.picks ≡ true → outcome_for c q ≡ None
none_picked c q h = nothing_found c.picks c q refl h

pub fits_nil : (c : Creation) → is_nil c.picks ≡ true → PicksFit c
fits_nil c h = record { late = λ a b. h; classes = λ q z a b i. absurd (let n = none_picked c q h in let y = rw n at b in cc (y)) }

-- a pick for the class of a rank, once all have called
pub fits_picked : (c : Creation) (k : Pick) (r : ℕ) → all_called c ≡ true → class_of c r ≡ k.members → ((q : ℕ) → is_split c.name ≡ true → has_rank (class_of c r) q ≡ true → class_of c q ≡ class_of c r) → PicksFit c → PicksFit (with_pick c k)
fits_picked c k r all members one h = record {
  late = λ a b. absurd (cc (all, b));
  classes = λ q z a b i. rw (outcome_for-pick c k z) (go q z a i (outcome_for c q) refl (has_rank k.members q) refl (rw (outcome_for-pick c k q) at b));
}
  where
    kept : (z : ℕ) → is_some (outcome_for c z) ≡ true → is_some (or_else (outcome_for c z) (if has_rank k.members z then Some k.outcome else None)) ≡ true
    kept z e = by (outcome_for c z) e
      where
        by : (o : Option Outcome) → is_some o ≡ true → is_some (or_else o (if has_rank k.members z then Some k.outcome else None)) ≡ true
        by None e = absurd (cc (e))
        by (Some a) e = refl

    found : (z : ℕ) → has_rank k.members z ≡ true → is_some (or_else (outcome_for c z) (if has_rank k.members z then Some k.outcome else None)) ≡ true
    found z e = rw e (by (outcome_for c z))
      where
        by : (o : Option Outcome) → is_some (or_else o (Some k.outcome)) ≡ true
        by None = refl
        by (Some a) = refl

    go : (q z : ℕ) → is_split c.name ≡ true → has_rank (class_of c q) z ≡ true → (o : Option Outcome) → outcome_for c q ≡ o → (b : Bool) → has_rank k.members q ≡ b → is_some (or_else o (if b then Some k.outcome else None)) ≡ true
        → is_some (or_else (outcome_for c z) (if has_rank k.members z then Some k.outcome else None)) ≡ true
    go q z a i (Some y) e b f h' = kept z (h.classes q z a (rw e refl) i)
    go q z a i None e true f h' =
        let mine : has_rank (class_of c r) q ≡ true = rw members f in
        let same = one q a mine in
        found z (subst (λ (ms : List ℕ). has_rank ms z ≡ true) (same ∙ members) i)
    go q z a i None e false f h' = absurd (cc (h'))

untold_before : (c : Creation) (k : Pick) (q : ℕ) → is_told (with_pick c k) q ≡ false → is_told c q ≡ false
untold_before c k q e = go (is_uncoloured c q) (outcome_for c q) (rw (outcome_for-pick c k q) at e)
  where
    go : (b : Bool) (o : Option Outcome) → (if b then all_called c else is_some (or_else o (if has_rank k.members q then Some k.outcome else None))) ≡ false → (if b then all_called c else is_some o) ≡ false
    go true o h = h
    go false None h = refl
    go false (Some a) h = absurd (cc (h))

pub waits_picked : (g : Registry) (n : ℕ) (c : Creation) (k : Pick) → Waits g n c → Waits g n (with_pick c k)
waits_picked g n c k h q called (inl untold) = h q called (inl (untold_before c k q untold))
waits_picked g n c k h q called (inr open_yet) = h q called (inr open_yet)

-- one caller more, before all have called and with nothing picked
pub untold_joined : (c : Creation) (k : Caller) (q : ℕ) → is_nil c.picks ≡ true → (is_split c.name ≡ true → all_called c ≡ false) → is_told c q ≡ false
untold_joined c k q none few = go (is_split c.name) refl (outcome_for c q) (none_picked c q none)
  where
    go : (b : Bool) → is_split c.name ≡ b → (o : Option Outcome) → o ≡ None → (if is_uncoloured c q then all_called c else is_some o) ≡ false
    go true e o f = by (is_uncoloured c q)
      where
        by : (u : Bool) → (if u then all_called c else is_some o) ≡ false
        by true = few e
        by false = rw f refl
    go false e o f = rw (e, f) refl

pub waits_joined : (g new : Registry) (r t n : ℕ) (c : Creation) (k : Caller) → ThreadGoes g new r t → ((thread_of g r t).wait ≡ Creating n → ⊥) → (thread_of new r t).wait ≡ Creating n → k.rank ≡ r → k.thread ≡ t
    → ((q : ℕ) → has_called c q ≡ true → is_told c q ≡ false) → ((q : ℕ) → has_called c q ≡ false → k.rank ≡ q → caller_of (c.callers ++ k ∷ []) q ≡ k) → Waits g n c → Waits new n (with_caller c k)
waits_joined g new r t n c k goes free here kr kt untold mine h q called un = go (has_called c q) refl
  where
    go : (b : Bool) → has_called c q ≡ b → (thread_of new q (caller_of (c.callers ++ k ∷ []) q).thread).wait ≡ Creating n
    go true e = rw (caller-old c.callers k q e) (waits_still g new r t n c goes free h q e (inl (untold q e)))
    go false e =
        let a = any-snoc c.callers k q in
        let is : k.rank ≡ q = grind (arith, nat_tests, a, called, e) in
        rw (mine q e is) (rw kt (subst (λ (i : ℕ). (thread_of new i t).wait ≡ Creating n) (sym kr ∙ is) here))
