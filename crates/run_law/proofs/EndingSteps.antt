-- Each step of a rank keeps the topic of sessions.
use Rattle.std.proofs.Common.{◌≡◌, ◌≤◌, ℕ, zero, suc, ◌+◌, ◌==◌, ◌||◌, ◌&&◌, not, if◌then◌else◌, Bool, true, false, List, [], ◌∷◌, ◌++◌, set, replicate, filter, bytes_eq, Option, Some, None, refl, subst, ◌∙◌, arith}
use Rattle.std.specs.List.{AllByRecursion, list_any}
use Rattle.std.proofs.lemmas.Bool.Decides.{nat_tests}
use Rattle.mpi_base.specs.declared.keys.Key.{Key}
use Rattle.mpi_base.specs.Keys.{same_key}
use Rattle.mpi_base.specs.declared.entries.Act.{Act}
use Rattle.local_law.specs.Names.{bound_of, rebind, unbind}
use Rattle.local_law.specs.Objects as bound
use Rattle.mpi_law.specs.declared.setting.Setting.{Setting}
use Rattle.mpi_law.specs.declared.setting.TheConstants.{THREADS}
use Rattle.mpi_law.specs.Local.Objects.{Bound, NameRow, Local}
use Rattle.mpi_law.specs.Local.Effects.{local_after}
use Rattle.mpi_law.specs.declared.effects.Effect.{Effect}
use Rattle.mpi_law.specs.declared.effects.Effect.TheVariants.{Says, Opens, Groups, Ungroups, Joins, Frees, Ends, Sends, Receives, Posts, NullPosts, Completes, Awaits}
use Rattle.agree_law.specs.declared.rows.Outcome.{Outcome}
use Rattle.agree_law.specs.declared.rows.Outcome.TheVariants.{Context, Exhausted}
use Rattle.comm_law.specs.Comms.{Comms as Known}
use Rattle.mpi_protocol.specs.declared.rows.Waits.{Waits}
use Rattle.mpi_protocol.specs.declared.rows.Waits.TheVariants.{Nothing, Creation, Uncoloured, Freeing, Ending, Receiving, Awaiting}
use Rattle.mpi_protocol.specs.declared.rows.ThreadRow.{ThreadRow}
use Rattle.mpi_protocol.specs.Packets.{Packet}
use Rattle.mpi_protocol.specs.Rank.{Rank, fresh, idle_thread, thread_at, creates, goes_on, going_on, with_key, with_call, with_waits}
use Rattle.mpi_protocol.specs.Calls.{around_here}
use Rattle.mpi_protocol.specs.Answers.{target_after}
use Rattle.mpi_protocol.specs.Step.{step, is_enabled}
use Rattle.run_law.proofs.Lists.{All_map, All_snoc, All_at}
use Rattle.run_law.proofs.Contexts.{has_rank-append}
use Rattle.run_law.proofs.Found.{OfSession, Found}
use Rattle.run_law.proofs.StepKinds.{waits_after, comms_after, AnswerLocal, binds_target, frees_target, same_names, step_kept}
use Rattle.run_law.proofs.Endings.{is_live, BoundLives, WaitLives, WaitsLive, Endings}

-- Lists

All_set : {A : Type 0} (P : A → Type 0) (xs : List A) (i : ℕ) (y : A) → AllByRecursion P xs → P y → AllByRecursion P (set xs i y)
All_set P [] i y h k = tt
All_set P (x ∷ xs) zero y h k = (k, h.1)
All_set P (x ∷ xs) (suc i) y h k = (h.0, All_set P xs i y h.1 k)

All_filter : {A : Type 0} (P Q : A → Type 0) (p : A → Bool) (xs : List A) → ((x : A) → p x ≡ true → P x → Q x) → AllByRecursion P xs → AllByRecursion Q (filter p xs)
All_filter P Q p [] f h = tt
All_filter P Q p (x ∷ xs) f h = go (p x) refl (All_filter P Q p xs f h.1)
  where
    go : (b : Bool) → p x ≡ b → AllByRecursion Q (filter p xs) → AllByRecursion Q (if b then x ∷ filter p xs else filter p xs)
    go true e ih = (f x e h.0, ih)
    go false e ih = ih

All_other : {A : Type 0} (P Q : A → Type 0) (p : A → Bool) (xs : List A) → list_any p xs ≡ false → ((x : A) → p x ≡ false → P x → Q x) → AllByRecursion P xs → AllByRecursion Q xs
All_other P Q p [] e f h = tt
All_other P Q p (x ∷ xs) e f h = (f x (grind (arith, e)) h.0, All_other P Q p xs (grind (arith, e)) f h.1)

-- Live sessions

-- all but one
live_less : (live : List ℕ) (s q : ℕ) → is_live (filter (λ a. not (a == s)) live) q ≡ (is_live live q && not (q == s))
live_less [] s q = refl
live_less (a ∷ as') s q = go (a == s) refl (live_less as' s q)
  where
    go : (b : Bool) → (a == s) ≡ b → is_live (filter (λ a. not (a == s)) as') q ≡ (is_live as' q && not (q == s)) → is_live (if not b then a ∷ filter (λ a. not (a == s)) as' else filter (λ a. not (a == s)) as') q ≡ (((a == q) || is_live as' q) && not (q == s))
    go true e ih = grind (arith, nat_tests, e, ih)
    go false e ih = grind (arith, nat_tests, e, ih)

live_below : (live : List ℕ) (n s : ℕ) → AllByRecursion (λ (a : ℕ). a ≤ n) live → is_live live s ≡ true → s ≤ n
live_below [] n s h e = absurd (cc (e))
live_below (a ∷ as') n s h e = go (a == s) refl (live_below as' n s h.1)
  where
    go : (b : Bool) → (a == s) ≡ b → (is_live as' s ≡ true → s ≤ n) → s ≤ n
    go true z ih = let is : a ≡ s = grind (arith, nat_tests, z) in subst (λ (i : ℕ). i ≤ n) is h.0
    go false z ih = ih (grind (arith, e, z))

-- what is bound to a name of a session is live
bound_lives : (live : List ℕ) (s : ℕ) (b : Bound) → bound.is_of (λ (a : ℕ). a == s) b ≡ true → BoundLives live b → is_live live s ≡ true
bound_lives live s bound.Reserved e h = absurd (cc (e))
bound_lives live s (bound.Session a) e h = let is : a ≡ s = grind (arith, nat_tests, e) in subst (λ (i : ℕ). is_live live i ≡ true) is h
bound_lives live s (bound.Group ms a) e h = let is : a ≡ s = grind (arith, nat_tests, e) in subst (λ (i : ℕ). is_live live i ≡ true) is h
bound_lives live s (bound.Comm c a) e h = let is : a ≡ s = grind (arith, nat_tests, e) in subst (λ (i : ℕ). is_live live i ≡ true) is h
bound_lives live s (bound.Request n) e h = absurd (cc (e))

bound_at : (P : Bound → Type 0) (rows : List NameRow) (name : List ℕ) (b : Bound) → AllByRecursion (λ (row : NameRow). P row.1) rows → bound_of rows name ≡ Some b → P b
bound_at P [] name b h e = absurd (cc (e))
bound_at P (x ∷ xs) name b h e = go (bytes_eq x.0 name) refl (bound_at P xs name b h.1)
  where
    go : (t : Bool) → bytes_eq x.0 name ≡ t → (bound_of xs name ≡ Some b → P b) → P b
    go true z ih = let is : x.1 ≡ b = grind (arith, e, z) in subst P is h.0
    go false z ih = ih (grind (arith, e, z))

session_lives : (live : List ℕ) (rows : List NameRow) (s : ℕ) → AllByRecursion (λ (row : NameRow). BoundLives live row.1) rows → OfSession rows s → is_live live s ≡ true
session_lives live rows s h o = bound_lives live s o.what o.of_it (bound_at (BoundLives live) rows o.name o.what h o.there)

-- names with another name, without one, with one bound anew

bound_more : (live : List ℕ) (n : ℕ) (b : Bound) → BoundLives live b → BoundLives (live ++ n ∷ []) b
bound_more live n bound.Reserved h = tt
bound_more live n (bound.Session a) h = has_rank-append live n a ∙ (rw h refl)
bound_more live n (bound.Group ms a) h = has_rank-append live n a ∙ (rw h refl)
bound_more live n (bound.Comm c a) h = has_rank-append live n a ∙ (rw h refl)
bound_more live n (bound.Request m) h = tt

bound_less : (live : List ℕ) (s : ℕ) (b : Bound) → not (bound.is_of (λ (a : ℕ). a == s) b) ≡ true → BoundLives live b → BoundLives (filter (λ a. not (a == s)) live) b
bound_less live s bound.Reserved e h = tt
bound_less live s (bound.Session a) e h = live_less live s a ∙ (rw (h, e) refl)
bound_less live s (bound.Group ms a) e h = live_less live s a ∙ (rw (h, e) refl)
bound_less live s (bound.Comm c a) e h = live_less live s a ∙ (rw (h, e) refl)
bound_less live s (bound.Request m) e h = tt

names_without : (live : List ℕ) (rows : List NameRow) (name : List ℕ) → AllByRecursion (λ (row : NameRow). BoundLives live row.1) rows → AllByRecursion (λ (row : NameRow). BoundLives live row.1) (unbind rows name)
names_without live rows name h = All_filter (λ (row : NameRow). BoundLives live row.1) (λ (row : NameRow). BoundLives live row.1) _ rows (λ row e z. z) h

names_anew : (live : List ℕ) (rows : List NameRow) (name : List ℕ) (b : Bound) → BoundLives live b → AllByRecursion (λ (row : NameRow). BoundLives live row.1) rows → AllByRecursion (λ (row : NameRow). BoundLives live row.1) (rebind rows name b)
names_anew live [] name b k h = tt
names_anew live (x ∷ xs) name b k h = (go (bytes_eq x.0 name), names_anew live xs name b k h.1)
  where
    go : (t : Bool) → BoundLives live (if t then (x.0, b) else x).1
    go true = k
    go false = h.0

-- threads where a session is opened, where one ends, and where a creation goes on

waits_more : (live : List ℕ) (opened : ℕ) (w : Waits) → WaitLives live opened w → WaitLives (live ++ (opened + 1) ∷ []) (opened + 1) w
waits_more live opened Nothing h = tt
waits_more live opened (Creation key target session) h = has_rank-append live (opened + 1) session ∙ (rw h refl)
waits_more live opened (Uncoloured key target session) h = has_rank-append live (opened + 1) session ∙ (rw h refl)
waits_more live opened (Freeing serial) h = tt
waits_more live opened (Ending s) h = let le = h.1 in let other : (opened + 1 == s) ≡ false = grind (arith, nat_tests, le) in (has_rank-append live (opened + 1) s ∙ (rw (h.0, other) refl), omega (arith, le))
waits_more live opened (Receiving n) h = tt
waits_more live opened (Awaiting name) h = tt

waits_less : (live : List ℕ) (opened s : ℕ) (w : Waits) → creates (λ k session. session == s) w ≡ false → WaitLives live opened w → WaitLives (filter (λ a. not (a == s)) live) opened w
waits_less live opened s Nothing e h = tt
waits_less live opened s (Creation key target session) e h = live_less live s session ∙ (rw (h, e) refl)
waits_less live opened s (Uncoloured key target session) e h = live_less live s session ∙ (rw (h, e) refl)
waits_less live opened s (Freeing serial) e h = tt
waits_less live opened s (Ending q) e h = (live_less live s q ∙ (rw h.0 refl), h.1)
waits_less live opened s (Receiving n) e h = tt
waits_less live opened s (Awaiting name) e h = tt

waits_on : (live : List ℕ) (opened : ℕ) (key : Key) (next : Option Key) (w : Waits) → WaitLives live opened w → WaitLives live opened (going_on key next w)
waits_on live opened key next Nothing h = tt
waits_on live opened key next (Creation k target session) h = go (same_key k key) next
  where
    go : (b : Bool) (o : Option Key) → WaitLives live opened (if b then goes_on key o target session else Creation k target session)
    go true None = h
    go true (Some n) = h
    go false o = h
waits_on live opened key next (Uncoloured k target session) h = h
waits_on live opened key next (Freeing serial) h = tt
waits_on live opened key next (Ending s) h = h
waits_on live opened key next (Receiving n) h = tt
waits_on live opened key next (Awaiting name) h = tt

-- at the opening nothing is waited for
pub endings_fresh : (s : Setting) (r : ℕ) → Endings (fresh s r).local (fresh s r).threads
endings_fresh s r = record { opened = tt; names = tt; waits = idle THREADS }
  where
    idle : (n : ℕ) → WaitsLive [] 0 (replicate n idle_thread)
    idle zero = tt
    idle (suc n) = (tt, idle n)

module _ (x : Rank) (h : Endings x.local x.threads) where
  abbrev l : Local
  l = x.local

  -- one thread waits for something else
  one_waits : (t calls : ℕ) (w : Waits) → WaitLives l.live l.opened w → WaitsLive l.live l.opened (set x.threads t (record { calls = calls; waits = w }))
  one_waits t calls w k = All_set (λ (z : ThreadRow). WaitLives l.live l.opened z.waits) x.threads t (record { calls = calls; waits = w }) h.waits k

  -- other names, and the same sessions
  named : (names : List NameRow) (t calls : ℕ) (w : Waits) → AllByRecursion (λ (row : NameRow). BoundLives l.live row.1) names → WaitLives l.live l.opened w → Endings (record { names = names; live = l.live; opened = l.opened }) (set x.threads t (record { calls = calls; waits = w }))
  named names t calls w k z = record { opened = h.opened; names = k; waits = one_waits t calls w z }

  binds_more : (name : List ℕ) (b : Bound) → BoundLives l.live b → AllByRecursion (λ (row : NameRow). BoundLives l.live row.1) (l.names ++ (name, b) ∷ [])
  binds_more name b k = All_snoc (λ (row : NameRow). BoundLives l.live row.1) l.names (name, b) h.names k

  abbrev OnThree : Local → List ThreadRow → Known → Type 0
  OnThree m threads comms = Endings m threads

  calls_kept : (t : ℕ) (e : Effect ℕ) → Found (around_here x) l.names e → OnThree (local_after x.posts l e) (with_call x t (waits_after x e)) (comms_after x e)
  calls_kept t (Says said) f = named l.names t _ Nothing h.names tt
  calls_kept t (Opens target) f =
      let self : is_live (l.live ++ (l.opened + 1) ∷ []) (l.opened + 1) ≡ true = let a = has_rank-append l.live (l.opened + 1) (l.opened + 1) in grind (arith, nat_tests, a) in
      record {
        opened = All_snoc (λ (s : ℕ). s ≤ l.opened + 1) l.live (l.opened + 1) (All_map (λ (s : ℕ). s ≤ l.opened) (λ (s : ℕ). s ≤ l.opened + 1) l.live (λ s k. omega (arith, k)) h.opened) (omega arith);
        names = All_snoc (λ (row : NameRow). BoundLives (l.live ++ (l.opened + 1) ∷ []) row.1) l.names (target, bound.Session (l.opened + 1)) (All_map (λ (row : NameRow). BoundLives l.live row.1) (λ (row : NameRow). BoundLives (l.live ++ (l.opened + 1) ∷ []) row.1) l.names (λ row k. bound_more l.live (l.opened + 1) row.1 k) h.names) self;
        waits = All_set (λ (z : ThreadRow). WaitLives (l.live ++ (l.opened + 1) ∷ []) (l.opened + 1) z.waits) x.threads t _ (All_map (λ (z : ThreadRow). WaitLives l.live l.opened z.waits) (λ (z : ThreadRow). WaitLives (l.live ++ (l.opened + 1) ∷ []) (l.opened + 1) z.waits) x.threads (λ z k. waits_more l.live l.opened z.waits k) h.waits) tt;
      }
  calls_kept t (Groups target members session) f = named _ t _ Nothing (binds_more target (bound.Group members session) (session_lives l.live l.names session h.names f)) tt
  calls_kept t (Ungroups name) f = named _ t _ Nothing (names_without l.live l.names name h.names) tt
  calls_kept t (Joins a) f = named _ t _ _ (binds_more a.target bound.Reserved tt) (session_lives l.live l.names a.session h.names f.0)
  calls_kept t (Frees name c) f = named _ t _ _ (names_without l.live l.names name h.names) tt
  calls_kept t (Ends name s) f =
      let lives = session_lives l.live l.names s h.names f.0 in
      let self : (s == s) ≡ true = grind (arith, nat_tests) in
      record {
        opened = All_filter (λ (a : ℕ). a ≤ l.opened) (λ (a : ℕ). a ≤ l.opened) (λ a. not (a == s)) l.live (λ a e k. k) h.opened;
        names = All_filter (λ (row : NameRow). BoundLives l.live row.1) (λ (row : NameRow). BoundLives (filter (λ a. not (a == s)) l.live) row.1) _ l.names (λ row e k. bound_less l.live s row.1 e k) h.names;
        waits = All_set (λ (z : ThreadRow). WaitLives (filter (λ a. not (a == s)) l.live) l.opened z.waits) x.threads t _
            (All_other (λ (z : ThreadRow). WaitLives l.live l.opened z.waits) (λ (z : ThreadRow). WaitLives (filter (λ a. not (a == s)) l.live) l.opened z.waits) (λ (z : ThreadRow). creates (λ k session. session == s) z.waits) x.threads f.1 (λ z e k. waits_less l.live l.opened s z.waits e k) h.waits)
            (live_less l.live s s ∙ (rw (lives, self) refl), live_below l.live l.opened s h.opened lives);
      }
  calls_kept t (Sends m) f = named l.names t _ Nothing h.names tt
  calls_kept t (Receives a) f = named l.names t _ _ h.names tt
  calls_kept t (Posts target a) f = named _ t _ Nothing (binds_more target (bound.Request (x.posts + 1)) tt) tt
  calls_kept t (NullPosts target) f = named _ t _ Nothing (binds_more target (bound.Request 0) tt) tt
  calls_kept t (Completes name n) f = named _ t _ _ (names_without l.live l.names name h.names) tt
  calls_kept t (Awaits name) f = named l.names t _ _ h.names tt

  answers_kept : (t : ℕ) (m : Local) → AnswerLocal x (thread_at x t).waits m → OnThree m (with_waits x t Nothing) x.comms
  answers_kept t m a = go m (thread_at x t).waits a (All_at (λ (z : ThreadRow). WaitLives l.live l.opened z.waits) x.threads idle_thread t h.waits tt)
    where
      ended : (target : List ℕ) (session : ℕ) (o : Outcome) → is_live l.live session ≡ true → OnThree (target_after l target session o) (with_waits x t Nothing) x.comms
      ended target session (Context c) k = named _ t _ Nothing (names_anew l.live l.names target (bound.Comm c session) k h.names) tt
      ended target session Exhausted k = named _ t _ Nothing (names_without l.live l.names target h.names) tt

      go : (n : Local) (w : Waits) → AnswerLocal x w n → WaitLives l.live l.opened w → OnThree n (with_waits x t Nothing) x.comms
      go _ _ (binds_target key target session o) k = ended target session o k
      go _ _ (frees_target key target session) k = named _ t _ Nothing (names_without l.live l.names target h.names) tt
      go _ _ (same_names w) k = named l.names t _ Nothing h.names tt

  waits_shared : (key : Key) (next : Option Key) → OnThree l (with_key x.threads key next) x.comms
  waits_shared key next = record { opened = h.opened; names = h.names; waits = go x.threads h.waits }
    where
      go : (threads : List ThreadRow) → WaitsLive l.live l.opened threads → WaitsLive l.live l.opened (with_key threads key next)
      go [] k = tt
      go (z ∷ zs) k = (waits_on l.live l.opened key next z.waits k.0, go zs k.1)

  pub endings_step : (act : Act) (p : Option Packet) → is_enabled x act ≡ true → Endings (step x act p).state.local (step x act p).state.threads
  endings_step act p can =
      step_kept OnThree x act p can (record {
        still = h;
        call = calls_kept;
        answer = answers_kept;
        shared = λ key next same. waits_shared key next;
        added = λ c members session. h;
        noted = λ c from. h;
        left = λ c may. h;
        removed = λ c. h;
      })
