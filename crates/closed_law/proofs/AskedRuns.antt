-- Each event of the registry keeps the topic of those that have called, so it holds at the end of every run.
use Rattle.std.proofs.Common.{◌≡◌, ◌≢◌, ◌⊎◌, ◌<◌, ◌≤◌, ◌==◌, ◌||◌, ℕ, ℤ, pos, negsuc, zero, suc, Bool, true, false, not, if◌then◌else◌, List, [], ◌∷◌, ◌++◌, length, get_or, set, replicate, filter, Option, Some, None, option_map, refl, sym, ap, ◌∙◌, subst, inl, inr, arith, length-set}
use Rattle.std.specs.Option.{is_some}
use Rattle.std.specs.Ordering.{int_eq}
use Rattle.std.specs.List.{list_any}
use Rattle.std.proofs.lemmas.List.{length-replicate}
use Rattle.std.proofs.lemmas.Bool.Decides.{nat_tests}
use Rattle.mpi_base.specs.MemberLists.{has_rank}
use Rattle.mpi_base.specs.declared.keys.Key.{Key}
use Rattle.mpi_base.specs.declared.shares.Shared1.{Shared1}
use Rattle.mpi_base.specs.declared.replies.Reply.{Reply}
use Rattle.mpi_base.specs.declared.replies.Reply.TheVariants as reply
use Rattle.mpi_law.specs.declared.setting.Setting.{Setting}
use Rattle.mpi_law.specs.declared.setting.TheConstants.{THREADS}
use Rattle.mpi_law.specs.declared.effects.Effect.{Effect}
use Rattle.mpi_law.specs.declared.effects.Effect.TheVariants.{Says, Opens, Groups, Ungroups, Joins, Frees, Ends, Sends as SendsMessage, Receives, Posts as PostsReceive, NullPosts, Completes, Awaits}
use Rattle.mpi_law.specs.Splits.{has_colour, split_class}
use Rattle.mpi_law.specs.Local.Objects.{Local}
use Rattle.mpi_law.specs.Local.Effects.{local_after}
use Rattle.mpi_law.specs.Registry.State as reg
use Rattle.mpi_law.specs.Registry.State.{Registry, RankPart, Caller, Creation, CreationName, Outcome, Made, NoneFree, Message, Receive, Wait, Creating, blank_part, blank_creation, part_of, thread_of, creation_at, is_idle_wait, registry_opening}
use Rattle.mpi_law.specs.Registry.Creations.{is_split, is_nil, is_picked, class_by, class_of, share_of, caller_of, has_called, is_uncoloured, all_called, name_of, group_of, share_in, join, is_joinable, place_where, outcome_for, with_pick, with_answer}
use Rattle.mpi_law.specs.Registry.Calls.{effect_at, carried_out, to_send, to_post}
use Rattle.mpi_law.specs.Registry.Replies.{owed_to, owed_creation, outcome_reply, answers, idles}
use Rattle.mpi_law.specs.Registry.Contexts.{comm_of, key_place}
use Rattle.mpi_law.specs.Registry.Events.{Event, Calls, Sends, Posts, Picks, Matches, Backs, Replies, after_send, after_post, give_back, registry_next}
use Rattle.mpi_law.specs.Registry.Runs.{MayPick, Allowed, IsRegistryRun, registry_after}
use Rattle.run_law.proofs.Lists.{set_place}
use Rattle.run_law.proofs.Creations.{creation_in}
use Rattle.run_law.proofs.Classes.{by_key_has}
use Rattle.run_law.proofs.JoinRows.{Joining, JoinedRow, joined_old, opened_new, joining, caller-new}
use Rattle.run_law.proofs.PickedRows.{row_set}
use Rattle.closed_law.proofs.ThreadGoes.{ThreadGoes, goes_on, goes_set, goes_thread, here_set}
use Rattle.closed_law.proofs.Asked.{is_told, Lacks, PicksFit, Waits, Asked, waits_still, asked_thread, fits_answered, fits_nil, fits_picked, waits_picked, untold_joined, waits_joined}

-- Classes: the members of one have one class

int_is : (a b : ℤ) → int_eq a b ≡ true → a ≡ b
int_is (pos n) (pos m) e = grind (arith, nat_tests, e)
int_is (negsuc n) (negsuc m) e = grind (arith, nat_tests, e)
int_is (pos n) (negsuc m) e = grind (arith, nat_tests, e)
int_is (negsuc n) (pos m) e = grind (arith, nat_tests, e)

coloured_member : (share : ℕ → Shared1) (colour : ℤ) (ms : List ℕ) (q : ℕ) → has_rank (filter (λ m. has_colour colour (share m).colour) ms) q ≡ true → has_colour colour (share q).colour ≡ true
coloured_member share colour [] q h = absurd (cc (h))
coloured_member share colour (m ∷ ms) q h = go (has_colour colour (share m).colour) refl h (coloured_member share colour ms q)
  where
    go : (b : Bool) → has_colour colour (share m).colour ≡ b → has_rank (if b then m ∷ filter (λ z. has_colour colour (share z).colour) ms else filter (λ z. has_colour colour (share z).colour) ms) q ≡ true
        → (has_rank (filter (λ z. has_colour colour (share z).colour) ms) q ≡ true → has_colour colour (share q).colour ≡ true) → has_colour colour (share q).colour ≡ true
    go false e h ih = ih h
    go true e h ih = at (m == q) refl
      where
        at : (b : Bool) → (m == q) ≡ b → has_colour colour (share q).colour ≡ true
        at true f = let is : m ≡ q = grind (arith, nat_tests, f) in subst (λ (i : ℕ). has_colour colour (share i).colour ≡ true) is e
        at false f = ih (grind (arith, h, f))

pub same_class : (c : Creation) (r q : ℕ) → is_split c.name ≡ true → has_rank (class_of c r) q ≡ true → class_of c q ≡ class_of c r
unfolding split_class
same_class c r q split h = rw split (go (share_of c r).colour (subst (λ (b : Bool). has_rank (if b then class_by c (share_of c r).colour else c.group) q ≡ true) split h))
  where
    alike : (colour : ℤ) (o : Option ℤ) → has_colour colour o ≡ true → o ≡ Some colour
    alike colour None e = absurd (cc (e))
    alike colour (Some d) e = ap (λ (z : ℤ). Some z) (int_is d colour e)

    go : (o : Option ℤ) → has_rank (class_by c o) q ≡ true → class_by c (share_of c q).colour ≡ class_by c o
    go None h = absurd (cc (h))
    go (Some k) h =
        let mine = coloured_member (share_of c) k c.group q (sym (by_key_has (share_of c) (filter (λ m. has_colour k (share_of c m).colour) c.group) q) ∙ h) in
        ap (class_by c) (alike k (share_of c q).colour mine)

-- A call

idle_not : (w : Wait) (n : ℕ) → is_idle_wait w ≡ true → w ≡ Creating n → ⊥
idle_not w n e is = let z = rw is at e in cc (z)

not_all : (b : Bool) → not b ≡ true → b ≡ false
not_all false e = refl
not_all true e = absurd (cc (e))

-- nothing is picked of a creation that may be joined, and where it is a split some member has not called it
joinable_nil : (name : CreationName) (c : Creation) → is_joinable name c ≡ true → PicksFit c → (is_nil c.picks ≡ true) × (is_split c.name ≡ true → all_called c ≡ false)
joinable_nil name c j h = go (is_split c.name) refl
  where
    unpicked : is_picked c ≡ false
    unpicked = not_all (is_picked c) (grind (arith, j))

    nil : (b : Bool) → not b ≡ false → b ≡ true
    nil true e = refl
    nil false e = absurd (cc (e))

    go : (b : Bool) → is_split c.name ≡ b → (is_nil c.picks ≡ true) × (is_split c.name ≡ true → all_called c ≡ false)
    go true e = let few : all_called c ≡ false = (let z = unpicked in rw e at z) in (h.late e few, λ a. few)
    go false e = (nil (is_nil c.picks) (let z = unpicked in rw e at z), λ a. absurd (cc (a, e)))

module _ (s : Setting) (g : Registry) (h : Asked s g) where
  module _ (r t : ℕ) (lr : r < s.ranks) (lt : t < THREADS) (idle : is_idle_wait (thread_of g r t).wait ≡ true) where
    free : (n : ℕ) → (thread_of g r t).wait ≡ Creating n → ⊥
    free n e = idle_not (thread_of g r t).wait n idle e

    joined : (new : Registry) (name : CreationName) (group : List ℕ) (k : Caller) → k.rank ≡ r → k.thread ≡ t → ThreadGoes g new r t → new.creations ≡ join g.creations name group k
        → (thread_of new r t).wait ≡ Creating (place_where (is_joinable name) g.creations) → Asked s new
    joined new name group k kr kt goes creations here = record {
      ranks = goes.ranks ∙ h.ranks;
      threads = λ q. goes.threads q ∙ h.threads q;
      fits = λ n ln. rw creations (each_fits n (rw creations at ln) (n == place) refl);
      waits = λ n ln. rw creations (each_waits n (rw creations at ln) (n == place) refl);
    }
      where
        place : ℕ
        place = place_where (is_joinable name) g.creations

        rows : List Creation
        rows = join g.creations name group k

        j : Joining g.creations rows name group k place
        j = joining g.creations name group k

        other : (n : ℕ) → (n == place) ≡ false → n ≢ place
        other n e = grind (arith, nat_tests, e)

        inside : (n : ℕ) → n < length rows → n ≢ place → n < length g.creations
        inside n ln ne = go j.row
          where
            go : JoinedRow g.creations rows name group k place → n < length g.creations
            go (joined_old lt a b l) = omega (arith, l, ln)
            go (opened_new q a l none) = omega (arith, l, ln, q, ne)

        fits_row : JoinedRow g.creations rows name group k place → PicksFit (creation_in rows place)
        fits_row (joined_old lt a b l) = rw b (fits_nil _ (joinable_nil name (creation_in g.creations place) a (h.fits place lt)).0)
        fits_row (opened_new q a l none) = rw a (fits_nil _ refl)

        waits_row : JoinedRow g.creations rows name group k place → Waits new place (creation_in rows place)
        waits_row (joined_old lt a b l) =
            let nil = joinable_nil name (creation_in g.creations place) a (h.fits place lt) in
            rw b (waits_joined g new r t place (creation_in g.creations place) k goes (free place) here kr kt (λ q called. untold_joined (creation_in g.creations place) k q nil.0 nil.1)
            (λ q none is. subst (λ (i : ℕ). caller_of ((creation_in g.creations place).callers ++ k ∷ []) i ≡ k) is (caller-new (creation_in g.creations place).callers k (rw is none))) (h.waits place lt))
        waits_row (opened_new q a l none) = rw a (λ i called untold. at i called)
          where
            at : (i : ℕ) → list_any (λ (z : Caller). z.rank == i) (k ∷ []) ≡ true → (thread_of new i (caller_of (k ∷ []) i).thread).wait ≡ Creating place
            at i called =
                let is : k.rank ≡ i = grind (arith, nat_tests, called) in
                let mine : caller_of (k ∷ []) i ≡ k = subst (λ (z : ℕ). caller_of (k ∷ []) z ≡ k) is (caller-new [] k refl) in
                rw (mine, kt) (subst (λ (z : ℕ). (thread_of new z t).wait ≡ Creating place) (sym kr ∙ is) here)

        each_fits : (n : ℕ) → n < length rows → (b : Bool) → (n == place) ≡ b → PicksFit (creation_in rows n)
        each_fits n ln true e = let is : n ≡ place = grind (arith, nat_tests, e) in rw is (fits_row j.row)
        each_fits n ln false e = rw (j.same n (other n e)) (h.fits n (inside n ln (other n e)))

        each_waits : (n : ℕ) → n < length rows → (b : Bool) → (n == place) ≡ b → Waits new n (creation_in rows n)
        each_waits n ln true e = let is : n ≡ place = grind (arith, nat_tests, e) in rw is (waits_row j.row)
        each_waits n ln false e = rw (j.same n (other n e)) (waits_still g new r t n (creation_in g.creations n) goes (free n) (h.waits n (inside n ln (other n e))))

    stays : (new : Registry) (p : RankPart) (row : reg.ThreadPart) → new.ranks ≡ set g.ranks r p → p.threads ≡ set (part_of g r).threads t row → new.creations ≡ g.creations → Asked s new
    stays new p row e is same = asked_thread s g new r t (goes_thread g new r t p row e is) same free h

    called : (l : Local) (e : Effect ℕ) → Asked s (carried_out g r t l e)
    called l (Says said) = stays _ _ _ refl refl refl
    called l (Opens target) = stays _ _ _ refl refl refl
    called l (Groups target members session) = stays _ _ _ refl refl refl
    called l (Ungroups name) = stays _ _ _ refl refl refl
    called l (Joins a) =
        let new = carried_out g r t l (Joins a) in
        let goes = goes_thread g new r t _ _ refl refl in
        let long = h.threads r in
        let size = h.ranks in
        joined new (name_of g.creations r a.origin) (group_of g a.origin) (record { rank = r; thread = t; target = a.target; session = a.session; share = share_in a.origin }) refl refl goes refl
        (ap (λ (z : reg.ThreadPart). z.wait) (here_set g new r t _ _ refl refl (omega (arith, size, lr)) (omega (arith, long, lt))))
    called l (Frees name c) = stays _ _ _ refl refl refl
    called l (Ends name q) = stays _ _ _ refl refl refl
    called l (SendsMessage m) = stays _ _ _ refl refl refl
    called l (Receives x) = stays _ _ _ refl refl refl
    called l (PostsReceive target x) = stays _ _ _ refl refl refl
    called l (NullPosts target) = stays _ _ _ refl refl refl
    called l (Completes name n) = stays _ _ _ refl refl refl
    called l (Awaits name) = stays _ _ _ refl refl refl

  sent : (r t : ℕ) (o : Option Message) → to_send (thread_of g r t).wait ≡ o → Asked s (after_send g r t o)
  sent r t None e = h
  sent r t (Some m) e = asked_thread s g _ r t (goes_thread g _ r t _ _ refl refl) refl (λ n is. (let z = rw is at e in cc (z))) h

  posted : (r t : ℕ) (o : Option Receive) → to_post (thread_of g r t).wait ≡ o → Asked s (after_post g r t o)
  posted r t None e = h
  posted r t (Some x) e = asked_thread s g _ r t (goes_thread g _ r t _ _ refl refl) refl (λ n is. (let z = rw is at e in cc (z))) h

  given_back : (r : ℕ) (o : Option ℕ) → Asked s (give_back g r o)
  given_back r None = h
  given_back r (Some p) = record { ranks = h.ranks; threads = h.threads; fits = h.fits; waits = h.waits }

  waits_same : (new : Registry) (n : ℕ) (c : Creation) → new.ranks ≡ g.ranks → Waits g n c → Waits new n c
  waits_same new n c same w q called untold = ap (λ (ps : List RankPart). (get_or (get_or ps q blank_part).threads (caller_of c.callers q).thread reg.idle_thread).wait) same ∙ w q called untold

  -- one creation changes, and no thread
  with_row : (new : Registry) (n : ℕ) (c : Creation) → n < length g.creations → new.ranks ≡ g.ranks → new.creations ≡ set g.creations n c → PicksFit c → Waits g n c → Asked s new
  with_row new n c ln same e f w = record {
    ranks = ap length same ∙ h.ranks;
    threads = λ q. ap (λ (ps : List RankPart). length (get_or ps q blank_part).threads) same ∙ h.threads q;
    fits = λ m lm. rw e (each_fits m (inside m (rw e at lm)) (row_set g.creations n c m ln));
    waits = λ m lm. rw e (waits_same new m (creation_in (set g.creations n c) m) same (each_waits m (inside m (rw e at lm)) (row_set g.creations n c m ln)));
  }
    where
      inside : (m : ℕ) → m < length (set g.creations n c) → m < length g.creations
      inside m lm = let l = length-set g.creations n c in omega (arith, l, lm)

      each_fits : (m : ℕ) → m < length g.creations → ((m ≡ n) × (creation_in (set g.creations n c) m ≡ c)) ⊎ ((m ≢ n) × (creation_in (set g.creations n c) m ≡ creation_in g.creations m)) → PicksFit (creation_in (set g.creations n c) m)
      each_fits m lm (inl a) = rw a.1 f
      each_fits m lm (inr a) = rw a.1 (h.fits m lm)

      each_waits : (m : ℕ) → m < length g.creations → ((m ≡ n) × (creation_in (set g.creations n c) m ≡ c)) ⊎ ((m ≢ n) × (creation_in (set g.creations n c) m ≡ creation_in g.creations m)) → Waits g m (creation_in (set g.creations n c) m)
      each_waits m lm (inl a) = rw (a.1, a.0) w
      each_waits m lm (inr a) = rw a.1 (h.waits m lm)

  -- a pick
  picked : (new : Registry) (r : ℕ) (key : Key) (o : Outcome) → MayPick g r key → new.ranks ≡ g.ranks → new.creations ≡ set g.creations (key_place g r key) (with_pick (creation_at g (key_place g r key)) (record { members = key.members; outcome = o })) → Asked s new
  picked new r key o m same e =
      let n = key_place g r key in
      let c = creation_at g n in
      with_row new n _ m.there same e (fits_picked c (record { members = key.members; outcome = o }) r m.all m.members (λ q split i. same_class c r q split i) (h.fits n m.there)) (waits_picked g n c (record { members = key.members; outcome = o }) (h.waits n m.there))

  -- a reply: the thread that waits for a creation was owed one
  owed_told : (r n : ℕ) (said : Reply) → owed_creation g r (creation_at g n) ≡ Some said → is_told (creation_at g n) r ≡ true
  owed_told r n said e = go (is_uncoloured c r) (all_called c) (outcome_for c r) e
    where
      c : Creation
      c = creation_at g n

      go : (u a : Bool) (o : Option Outcome) → (if u then (if a then Some reply.Null else None) else option_map (outcome_reply g r) o) ≡ Some said → (if u then a else is_some o) ≡ true
      go true true o e = refl
      go true false o e = absurd (cc (e))
      go false a (Some x) e = refl
      go false a None e = absurd (cc (e))

  has_rank-snoc : (xs : List ℕ) (r q : ℕ) → has_rank (xs ++ r ∷ []) q ≡ (has_rank xs q || (r == q))
  has_rank-snoc [] r q = grind (arith)
  has_rank-snoc (x ∷ xs) r q = let ih = has_rank-snoc xs r q in grind (arith, ih)

  module _ (r t : ℕ) where
    idle_after : (new last : Registry) (p : RankPart) → ThreadGoes g new r t → last.ranks ≡ set new.ranks r p → p.threads ≡ set (part_of new r).threads t (record { calls = (get_or (part_of new r).threads t reg.idle_thread).calls; wait = reg.Idle }) → ThreadGoes g last r t
    idle_after new last p goes e is = goes_on g new last r t goes (goes_thread new last r t p _ e is)

    -- one that waits for no creation
    plain : (last : Registry) (p : RankPart) → last.ranks ≡ set g.ranks r p → p.threads ≡ set (part_of g r).threads t (record { calls = (thread_of g r t).calls; wait = reg.Idle }) → last.creations ≡ g.creations → ((n : ℕ) → (thread_of g r t).wait ≡ Creating n → ⊥) → Asked s last
    plain last p e is same free = asked_thread s g last r t (goes_thread g last r t p _ e is) same free h

    -- one that waits for a creation, of which it is told
    answered : (n : ℕ) → (thread_of g r t).wait ≡ Creating n → is_told (creation_at g n) r ≡ true → Asked s (idles (answers g r (Creating n)) r t)
    answered n waits told = record {
      ranks = goes.ranks ∙ h.ranks;
      threads = λ q. goes.threads q ∙ h.threads q;
      fits = λ m lm. each_fits m (inside m lm) (set_place g.creations n noted blank_creation m);
      waits = λ m lm. each_waits m (inside m lm) (set_place g.creations n noted blank_creation m);
    }
      where
        noted : Creation
        noted = with_answer (creation_at g n) r

        new : Registry
        new = answers g r (Creating n)

        goes : ThreadGoes g (idles new r t) r t
        goes = idle_after new (idles new r t) _ (goes_set g new r t _ refl refl (λ u ne. refl)) refl refl

        inside : (m : ℕ) → m < length (set g.creations n noted) → m < length g.creations
        inside m lm = let l = length-set g.creations n noted in omega (arith, l, lm)

        each_fits : (m : ℕ) → m < length g.creations → ((m ≡ n) × (n < length g.creations) × (creation_in (set g.creations n noted) m ≡ noted)) ⊎ (((m ≢ n) ⊎ (length g.creations ≤ n)) × (creation_in (set g.creations n noted) m ≡ creation_in g.creations m)) → PicksFit (creation_in (set g.creations n noted) m)
        each_fits m lm (inl a) = rw a.2 (fits_answered (creation_at g n) _ (h.fits n a.1))
        each_fits m lm (inr a) = rw a.1 (h.fits m lm)

        -- who lacks something of a creation is another thread
        still : (m : ℕ) → m < length g.creations → (q : ℕ) → has_called (creation_at g m) q ≡ true → Lacks (creation_at g m) q → ((q ≡ r) → m ≡ n → ⊥) → (thread_of (idles new r t) q (caller_of (creation_at g m).callers q).thread).wait ≡ Creating m
        still m lm q called lacks apart =
            let old = h.waits m lm q called lacks in
            ap (λ (z : reg.ThreadPart). z.wait) (goes.others q (caller_of (creation_at g m).callers q).thread (λ a b. clash a b old)) ∙ old
          where
            clash : q ≡ r → (caller_of (creation_at g m).callers q).thread ≡ t → (thread_of g q (caller_of (creation_at g m).callers q).thread).wait ≡ Creating m → ⊥
            clash a b old =
                let here = subst (λ (i : ℕ). (thread_of g r i).wait ≡ Creating m) b (subst (λ (i : ℕ). (thread_of g i (caller_of (creation_at g m).callers q).thread).wait ≡ Creating m) a old) in
                let both : Creating m ≡ Creating n = sym here ∙ waits in
                let is : m ≡ n = cc (both) in
                apart a is

        -- of the one that is answered, who lacks something is not the rank that is
        lacks_noted : (q : ℕ) → Lacks noted q → Lacks (creation_at g n) q × ((q ≡ r) → ⊥)
        lacks_noted q (inl untold) = (inl untold, λ a. (let mine : is_told (creation_at g n) r ≡ false = subst (λ (i : ℕ). is_told (creation_at g n) i ≡ false) a untold in cc (mine, told)))
        lacks_noted q (inr open_yet) = let z = has_rank-snoc (creation_at g n).answered r q in (inr (grind (arith, z, open_yet)), λ a. grind (arith, nat_tests, z, open_yet, a))

        each_waits : (m : ℕ) → m < length g.creations → ((m ≡ n) × (n < length g.creations) × (creation_in (set g.creations n noted) m ≡ noted)) ⊎ (((m ≢ n) ⊎ (length g.creations ≤ n)) × (creation_in (set g.creations n noted) m ≡ creation_in g.creations m)) → Waits (idles new r t) m (creation_in (set g.creations n noted) m)
        each_waits m lm (inl a) = rw (a.2, a.0) (λ q called lacks. (let l = lacks_noted q lacks in still n a.1 q called l.0 (λ e f. l.1 e)))
        each_waits m lm (inr a) = rw a.1 (λ q called lacks. still m lm q called lacks (λ e f. (let far = a.0 in grind (arith, far, f, lm))))

    replied : (said : Reply) (b : Wait) → (thread_of g r t).wait ≡ b → owed_to g r b ≡ Some said → Asked s (idles (answers g r b) r t)
    replied said (Creating n) e o = answered n e (owed_told r n said o)
    replied said reg.Idle e o = plain _ _ refl refl refl (λ n is. (let z = rw is at e in cc (z)))
    replied said (reg.Reply_now x) e o = plain _ _ refl refl refl (λ n is. (let z = rw is at e in cc (z)))
    replied said (reg.Sending m) e o = plain _ _ refl refl refl (λ n is. (let z = rw is at e in cc (z)))
    replied said (reg.Posting x) e o = plain _ _ refl refl refl (λ n is. (let z = rw is at e in cc (z)))
    replied said (reg.Requesting x) e o = plain _ _ refl refl refl (λ n is. (let z = rw is at e in cc (z)))
    replied said (reg.Freeing p) e o = plain _ _ refl refl refl (λ n is. (let z = rw is at e in cc (z)))
    replied said (reg.Ending q) e o = plain _ _ refl refl refl (λ n is. (let z = rw is at e in cc (z)))
    replied said (reg.Receiving x) e o = plain _ _ refl refl refl (λ n is. (let z = rw is at e in cc (z)))
    replied said (reg.Awaiting name) e o = plain _ _ refl refl refl (λ n is. (let z = rw is at e in cc (z)))

  -- an event that is allowed
  asked_next : (e : Event) → Allowed s g e → Asked s (registry_next s g e)
  unfolding registry_next
  asked_next (Calls r t op now) a = called r t a.rank a.thread a.idle (local_after (part_of g r).receives (part_of g r).local (effect_at s g r op)) (effect_at s g r op)
  asked_next (Sends r t) a = sent r t (to_send (thread_of g r t).wait) refl
  asked_next (Posts r t) a = posted r t (to_post (thread_of g r t).wait) refl
  asked_next (Picks r key (Some c)) a = picked _ r key (Made (length g.comms)) a.0 refl refl
  asked_next (Picks r key None) a = picked _ r key NoneFree a.0 refl refl
  asked_next (Matches r number from sent) a = record { ranks = h.ranks; threads = h.threads; fits = h.fits; waits = h.waits }
  asked_next (Backs r c dropped) a = given_back r (comm_of g.comms r c)
  asked_next (Replies r t said) a = replied r t said (thread_of g r t).wait refl a

pub asked_run : (s : Setting) (g : Registry) (es : List Event) → IsRegistryRun s g es → Asked s g → Asked s (registry_after s g es)
asked_run s g [] run h = h
asked_run s g (e ∷ es) run h = asked_run s (registry_next s g e) es run.1 (asked_next s g h e run.0)

opened_threads : (n r : ℕ) → length (get_or (replicate n blank_part) r blank_part).threads ≡ THREADS
opened_threads zero r = refl
opened_threads (suc n) zero = refl
opened_threads (suc n) (suc r) = opened_threads n r

pub asked_at_opening : (s : Setting) → Asked s (registry_opening s)
asked_at_opening s = record {
  ranks = length-replicate s.ranks blank_part;
  threads = opened_threads s.ranks;
  fits = λ n lt. absurd (omega (arith, lt));
  waits = λ n lt. absurd (omega (arith, lt));
}

-- at the end of every run of the registry
pub asked_at_end : (s : Setting) (es : List Event) → IsRegistryRun s (registry_opening s) es → Asked s (registry_after s (registry_opening s) es)
asked_at_end s es run = asked_run s (registry_opening s) es run (asked_at_opening s)
