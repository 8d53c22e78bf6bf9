-- One queue more, and one less, among those that are filed.
use Rattle.std.proofs.Common.{◌≡◌, ◌≢◌, ◌⊎◌, ℕ, ◌+◌, ◌-◌, ◌<◌, ◌==◌, ◌&&◌, if◌then◌else◌, Bool, true, false, List, Option, Some, None, option_map, refl, sym, ap, subst, ◌∙◌, inl, inr, arith}
use Rattle.std.specs.Map.{lookup}
use Rattle.std.specs.Option.{IsSome}
use Rattle.std.specs.Option.{option_eq}
use Rattle.std.proofs.lemmas.Bool.Decides.{nat_tests}
use Rattle.match_box.specs.declared.queue.Queue.{Queue}
use Rattle.match_box.specs.declared.node.Entry.{Entry}
use Rattle.match_box.specs.declared.node.Place.{Place}
use Rattle.match_box.specs.Rows.{same_queue}
use Rattle.match_box.specs.Filing.{ends_at, place_at, queue_at, AreFiled, Stands, extended, settled}

option_tells : (a b : Option ℕ) → ((option_eq (λ m n. m == n) a b ≡ true) × (a ≡ b)) ⊎ ((option_eq (λ m n. m == n) a b ≡ false) × (a ≢ b))
option_tells None None = inl (refl, refl)
option_tells None (Some n) = inr (refl, λ e. absurd (cc (e)))
option_tells (Some m) None = inr (refl, λ e. absurd (cc (e)))
option_tells (Some m) (Some n) = grind (arith, nat_tests)

pub same_queue_tells : (a b : Queue) → ((same_queue a b ≡ true) × (a ≡ b)) ⊎ ((same_queue a b ≡ false) × (a ≢ b))
same_queue_tells a b =
    let source = option_tells a.source b.source in
    let tag = option_tells a.tag b.tag in
    grind (arith, nat_tests, source, tag)

-- a change of entries that leaves their ends
pub ends_kept : (old new : List (Queue × Entry)) (f : Entry → Entry) (queue : Queue) → ((e : Entry) → (f e).ends ≡ e.ends)
    → ((q : Queue) → lookup (same_queue q) new ≡ (if same_queue queue q then option_map f (lookup (same_queue q) old) else lookup (same_queue q) old))
    → (q : Queue) → ends_at new q ≡ ends_at old q
ends_kept old new f queue keeps each q = ap (option_map (λ (e : Entry). e.ends)) (each q) ∙ go (same_queue queue q) (lookup (same_queue q) old)
  where
    go : (b : Bool) (found : Option Entry) → option_map (λ (e : Entry). e.ends) (if b then option_map f found else found) ≡ option_map (λ (e : Entry). e.ends) found
    go true None = refl
    go true (Some e) = ap Some (keeps e)
    go false found = refl

-- a change of entries that leaves their places
places_kept : (old new : List (Queue × Entry)) (f : Entry → Entry) (queue : Queue) → ((e : Entry) → (f e).place ≡ e.place)
    → ((q : Queue) → lookup (same_queue q) new ≡ (if same_queue queue q then option_map f (lookup (same_queue q) old) else lookup (same_queue q) old))
    → (q : Queue) → place_at new q ≡ place_at old q
places_kept old new f queue keeps each q = ap (option_map (λ (e : Entry). e.place)) (each q) ∙ go (same_queue queue q) (lookup (same_queue q) old)
  where
    go : (b : Bool) (found : Option Entry) → option_map (λ (e : Entry). e.place) (if b then option_map f found else found) ≡ option_map (λ (e : Entry). e.place) found
    go true None = refl
    go true (Some e) = ap Some (keeps e)
    go false found = refl

pub filed_kept : (old new : List (Queue × Entry)) (f : Entry → Entry) (queue : Queue) (at : ℕ → ℕ → Option Queue) (size : ℕ → ℕ) → ((e : Entry) → (f e).place ≡ e.place)
    → ((q : Queue) → lookup (same_queue q) new ≡ (if same_queue queue q then option_map f (lookup (same_queue q) old) else lookup (same_queue q) old))
    → AreFiled (place_at old) at size → AreFiled (place_at new) at size
filed_kept old new f queue at size keeps each filed =
    let same = places_kept old new f queue keeps each in
    record {
      filed = λ q p is. filed.filed q p (sym (same q) ∙ is);
      whole = filed.whole;
      named = λ c p q is. let there = filed.named c p q is in (there.0, same q ∙ there.1);
    }

use_place : (found : Option Entry) (p : ℕ) → option_map (λ (e : Entry). e.place) found ≡ Some p → IsSome (option_map (λ (e : Entry). e.ends) found)
use_place None p is = absurd (cc (is))
use_place (Some e) p is = refl

-- a queue with a place has ends
pub has_ends : (entries : List (Queue × Entry)) (q : Queue) (p : ℕ) → place_at entries q ≡ Some p → IsSome (ends_at entries q)
has_ends entries q p is = use_place (lookup (same_queue q) entries) p is

-- and without ends it has none
pub no_place : (entries : List (Queue × Entry)) (q : Queue) → ends_at entries q ≡ None → place_at entries q ≡ None
no_place entries q is = go (lookup (same_queue q) entries) is
  where
    go : (found : Option Entry) → option_map (λ (e : Entry). e.ends) found ≡ None → option_map (λ (e : Entry). e.place) found ≡ None
    go None is = refl
    go (Some e) is = absurd (cc (is))

-- a queue with ends stands at a place
pub stands : (entries : List (Queue × Entry)) (places : List (Place × Queue)) (size : ℕ → ℕ) (c n : ℕ) (q : Queue) → AreFiled (place_at entries) (queue_at places) size → n ≡ size c → q.ctx ≡ c
    → IsSome (ends_at entries q) → Stands places n q
stands entries places size c n q filed is on has = go (lookup (same_queue q) entries) refl has
  where
    go : (found : Option Entry) → lookup (same_queue q) entries ≡ found → IsSome (option_map (λ (e : Entry). e.ends) found) → Stands places n q
    go None at some = absurd (cc (some))
    go (Some e) at some =
        let there = filed.filed q e.place (ap (option_map (λ (x : Entry). x.place)) at) in
        (e.place, subst (λ m. e.place < m) (ap size on ∙ sym is) there.0, there.1)

-- the last place of a queue's context has one
pub last_there : (placed : Queue → Option ℕ) (at : ℕ → ℕ → Option Queue) (size : ℕ → ℕ) (q : Queue) (p : ℕ) → AreFiled placed at size → placed q ≡ Some p → IsSome (at q.ctx (size q.ctx - 1))
last_there placed at size q p filed is =
    let there = filed.filed q p is in
    filed.whole q.ctx (size q.ctx - 1) (omega (arith, there.0))

-- the ends with a new queue
pub ends_added : (old new : List (Queue × Entry)) (queue : Queue) (key place : ℕ) → ends_at old queue ≡ None
    → ((q : Queue) → lookup (same_queue q) new ≡ (if same_queue queue q then Some (record { ends = record { first = key; last = key }; place = place }) else lookup (same_queue q) old))
    → (q : Queue) → ends_at new q ≡ (if same_queue queue q then extended key (ends_at old q) else ends_at old q)
ends_added old new queue key place none each q = ap (option_map (λ (e : Entry). e.ends)) (each q) ∙ go (same_queue queue q) refl
  where
    go : (b : Bool) → same_queue queue q ≡ b
        → option_map (λ (e : Entry). e.ends) (if b then Some (record { ends = record { first = key; last = key }; place = place }) else lookup (same_queue q) old) ≡ (if b then extended key (ends_at old q) else ends_at old q)
    go true same =
        let tells = same_queue_tells queue q in
        let here : queue ≡ q = grind (arith, same, tells) in
        sym (ap (extended key) (sym (ap (ends_at old) here) ∙ none))
    go false differs = refl

-- the ends and places without a queue
pub ends_less : (old mid new : List (Queue × Entry)) (gone moved : Queue) (place : ℕ) → ((q : Queue) → lookup (same_queue q) mid ≡ (if same_queue gone q then None else lookup (same_queue q) old))
    → ((q : Queue) → lookup (same_queue q) new ≡ (if same_queue moved q then option_map (settled place) (lookup (same_queue q) mid) else lookup (same_queue q) mid))
    → (q : Queue) → ends_at new q ≡ (if same_queue gone q then None else ends_at old q)
ends_less old mid new gone moved place less settles q =
    ends_kept mid new (settled place) moved (λ e. refl) settles q ∙ ap (option_map (λ (e : Entry). e.ends)) (less q) ∙ go (same_queue gone q)
  where
    go : (b : Bool) → option_map (λ (e : Entry). e.ends) (if b then None else lookup (same_queue q) old) ≡ (if b then None else ends_at old q)
    go true = refl
    go false = refl

pub places_less : (old mid new : List (Queue × Entry)) (gone moved : Queue) (place : ℕ) → ((q : Queue) → lookup (same_queue q) mid ≡ (if same_queue gone q then None else lookup (same_queue q) old))
    → ((q : Queue) → lookup (same_queue q) new ≡ (if same_queue moved q then option_map (settled place) (lookup (same_queue q) mid) else lookup (same_queue q) mid))
    → (q : Queue) → place_at new q ≡ (if same_queue moved q then option_map (λ _. place) (if same_queue gone q then None else place_at old q) else (if same_queue gone q then None else place_at old q))
places_less old mid new gone moved place less settles q =
    ap (option_map (λ (e : Entry). e.place)) (settles q ∙ ap (λ (found : Option Entry). if same_queue moved q then option_map (settled place) found else found) (less q))
    ∙ go (same_queue moved q) (same_queue gone q) (lookup (same_queue q) old)
  where
    go : (a b : Bool) (found : Option Entry)
        → option_map (λ (e : Entry). e.place) (if a then option_map (settled place) (if b then None else found) else (if b then None else found))
        ≡ (if a then option_map (λ _. place) (if b then None else option_map (λ (e : Entry). e.place) found) else (if b then None else option_map (λ (e : Entry). e.place) found))
    go true true found = refl
    go true false None = refl
    go true false (Some e) = refl
    go false true found = refl
    go false false found = refl

module _ (placed placed' : Queue → Option ℕ) (at at' : ℕ → ℕ → Option Queue) (size size' : ℕ → ℕ) where
  -- a queue more, at the end of its context
  pub filed_added : (queue : Queue) → AreFiled placed at size → placed queue ≡ None
      → ((q : Queue) → placed' q ≡ (if same_queue queue q then Some (size queue.ctx) else placed q))
      → ((c p : ℕ) → at' c p ≡ (if (queue.ctx == c) && (size queue.ctx == p) then Some queue else at c p))
      → ((c : ℕ) → size' c ≡ (if queue.ctx == c then size c + 1 else size c))
      → AreFiled placed' at' size'
  filed_added queue filed fresh places ats sizes = record { filed = is_filed; whole = is_whole; named = is_named }
    where
      is_filed : (q : Queue) (p : ℕ) → placed' q ≡ Some p → (p < size' q.ctx) × (at' q.ctx p ≡ Some q)
      is_filed q p is = go (same_queue queue q) refl
        where
          go : (b : Bool) → same_queue queue q ≡ b → (p < size' q.ctx) × (at' q.ctx p ≡ Some q)
          go true same =
              let tells = same_queue_tells queue q in
              let here : queue ≡ q = grind (arith, same, tells) in
              let place : size queue.ctx ≡ p = grind (arith, is, places q, same) in
              let ctx : queue.ctx ≡ q.ctx = ap (λ (x : Queue). x.ctx) here in
              (grind (arith, nat_tests, sizes q.ctx, ctx, place), grind (arith, nat_tests, ats q.ctx p, ctx, place, here))
          go false differs =
              let old : placed q ≡ Some p = grind (arith, is, places q, differs) in
              let there = filed.filed q p old in
              let below = there.0 in
              let found = there.1 in
              (grind (arith, nat_tests, sizes q.ctx, below), grind (arith, nat_tests, ats q.ctx p, below, found))

      is_whole : (c p : ℕ) → p < size' c → IsSome (at' c p)
      is_whole c p below = go ((queue.ctx == c) && (size queue.ctx == p)) refl
        where
          go : (b : Bool) → ((queue.ctx == c) && (size queue.ctx == p)) ≡ b → IsSome (at' c p)
          go true here = subst (λ (x : Option Queue). IsSome x) (sym (ats c p ∙ ap (λ b. if b then Some queue else at c p) here)) refl
          go false differs =
              let old : p < size c = grind (arith, nat_tests, below, sizes c, differs) in
              subst (λ (x : Option Queue). IsSome x) (sym (ats c p ∙ ap (λ b. if b then Some queue else at c p) differs)) (filed.whole c p old)

      is_named : (c p : ℕ) (q : Queue) → at' c p ≡ Some q → (q.ctx ≡ c) × (placed' q ≡ Some p)
      is_named c p q is = go ((queue.ctx == c) && (size queue.ctx == p)) refl
        where
          go : (b : Bool) → ((queue.ctx == c) && (size queue.ctx == p)) ≡ b → (q.ctx ≡ c) × (placed' q ≡ Some p)
          go true here =
              let both : Some queue ≡ Some q = grind (arith, is, ats c p, here) in
              let same : queue ≡ q = grind (arith, both) in
              let tells = same_queue_tells queue q in
              let ctx : queue.ctx ≡ q.ctx = ap (λ (x : Queue). x.ctx) same in
              (grind (arith, nat_tests, here, ctx), grind (arith, nat_tests, places q, tells, same, here))
          go false differs =
              let old : at c p ≡ Some q = grind (arith, is, ats c p, differs) in
              let there = filed.named c p q old in
              let ctx = there.0 in
              let place = there.1 in
              let tells = same_queue_tells queue q in
              (ctx, go' tells ctx place)
            where
              go' : ((same_queue queue q ≡ true) × (queue ≡ q)) ⊎ ((same_queue queue q ≡ false) × (queue ≢ q)) → q.ctx ≡ c → placed q ≡ Some p → placed' q ≡ Some p
              go' (inl same) ctx place = absurd (cc (fresh, ap placed same.1, place))
              go' (inr apart) ctx place = places q ∙ ap (λ b. if b then Some (size queue.ctx) else placed q) apart.0 ∙ place

  -- a queue less: the last of its context comes to its place
  pub filed_less : (gone moved : Queue) (e : ℕ) → AreFiled placed at size → placed gone ≡ Some e → at gone.ctx (size gone.ctx - 1) ≡ Some moved
      → ((q : Queue) → placed' q ≡ (if same_queue moved q then option_map (λ _. e) (if same_queue gone q then None else placed q) else (if same_queue gone q then None else placed q)))
      → ((c p : ℕ) → at' c p ≡ (if (gone.ctx == c) && (e == p) then option_map (λ _. moved) (if (gone.ctx == c) && ((size gone.ctx - 1) == p) then None else at c p)
      else (if (gone.ctx == c) && ((size gone.ctx - 1) == p) then None else at c p)))
      → ((c : ℕ) → size' c ≡ (if gone.ctx == c then size c - 1 else size c))
      → AreFiled placed' at' size'
  filed_less gone moved e filed was last places ats sizes = record { filed = is_filed; whole = is_whole; named = is_named }
    where
      first : (e < size gone.ctx) × (at gone.ctx e ≡ Some gone)
      first = filed.filed gone e was

      end : (moved.ctx ≡ gone.ctx) × (placed moved ≡ Some (size gone.ctx - 1))
      end = filed.named gone.ctx (size gone.ctx - 1) moved last

      is_filed : (q : Queue) (p : ℕ) → placed' q ≡ Some p → (p < size' q.ctx) × (at' q.ctx p ≡ Some q)
      is_filed q p is = go (same_queue gone q) (same_queue moved q) refl refl
        where
          go : (a b : Bool) → same_queue gone q ≡ a → same_queue moved q ≡ b → (p < size' q.ctx) × (at' q.ctx p ≡ Some q)
          go true true here there = absurd (grind (arith, is, places q, here, there))
          go true false here there = absurd (grind (arith, is, places q, here, there))
          go false true differs there =
              let tells = same_queue_tells moved q in
              let turned = same_queue_tells gone q in
              let q_is : moved ≡ q = grind (arith, there, tells) in
              let ctx : q.ctx ≡ gone.ctx = sym (ap (λ (x : Queue). x.ctx) q_is) ∙ end.0 in
              let placed_q : placed q ≡ Some (size gone.ctx - 1) = ap placed (sym q_is) ∙ end.1 in
              let p_is : e ≡ p = grind (arith, is, places q, differs, there, placed_q) in
              let apart : e ≢ size gone.ctx - 1 = λ same. absurd (grind (arith, ap (at gone.ctx) same, first.1, last, q_is, turned, differs)) in
              let below = first.0 in
              let found = first.1 in
              let at_c : at q.ctx p ≡ Some gone = ap (λ c. at c p) ctx ∙ ap (at gone.ctx) (sym p_is) ∙ found in
              (grind (arith, nat_tests, sizes q.ctx, ctx, p_is, apart, below), grind (arith, nat_tests, ats q.ctx p, ctx, p_is, apart, at_c, q_is))
          go false false differs apart =
              let old : placed q ≡ Some p = grind (arith, is, places q, differs, apart) in
              let there = filed.filed q p old in
              let below = there.0 in
              let found = there.1 in
              let one = same_queue_tells gone q in
              let two = same_queue_tells moved q in
              let not_first : (gone.ctx ≡ q.ctx) → e ≢ p = λ ctx same. absurd (grind (arith, found, first.1, ap (at gone.ctx) same, ap (λ c. at c p) ctx, one, differs)) in
              let not_last : (gone.ctx ≡ q.ctx) → (size gone.ctx - 1) ≢ p = λ ctx same. absurd (grind (arith, found, last, ap (at gone.ctx) same, ap (λ c. at c p) ctx, two, apart)) in
              rest below found not_first not_last (gone.ctx == q.ctx) refl
            where
              rest : p < size q.ctx → at q.ctx p ≡ Some q → ((gone.ctx ≡ q.ctx) → e ≢ p) → ((gone.ctx ≡ q.ctx) → (size gone.ctx - 1) ≢ p) → (b : Bool) → (gone.ctx == q.ctx) ≡ b
                  → (p < size' q.ctx) × (at' q.ctx p ≡ Some q)
              rest below found not_first not_last true same =
                  let ctx : gone.ctx ≡ q.ctx = grind (arith, nat_tests, same) in
                  let f = not_first ctx in
                  let l = not_last ctx in
                  let size_is : size gone.ctx ≡ size q.ctx = ap size ctx in
                  (grind (arith, nat_tests, sizes q.ctx, same, l, below, size_is), grind (arith, nat_tests, ats q.ctx p, same, f, l, found))
              rest below found not_first not_last false other = (grind (arith, sizes q.ctx, other, below), grind (arith, ats q.ctx p, other, found))

      is_whole : (c p : ℕ) → p < size' c → IsSome (at' c p)
      is_whole c p below = go (gone.ctx == c) refl (e == p)
        where
          some : (b : Bool) (found : Option Queue) → IsSome found → IsSome (if b then option_map (λ _. moved) found else found)
          some true None is = is
          some true (Some q) is = refl
          some false found is = is

          go : (b : Bool) → (gone.ctx == c) ≡ b → (d : Bool) → IsSome (at' c p)
          go true same d =
              let ctx : gone.ctx ≡ c = grind (arith, nat_tests, same) in
              let size_is : size gone.ctx ≡ size c = ap size ctx in
              let old : p < size c = grind (arith, below, sizes c, same) in
              let apart : ((size gone.ctx - 1) == p) ≡ false = grind (arith, nat_tests, below, sizes c, same, size_is) in
              let here : at' c p ≡ (if e == p then option_map (λ _. moved) (at c p) else at c p) = grind (arith, ats c p, same, apart) in
              subst (λ (x : Option Queue). IsSome x) (sym here) (some (e == p) (at c p) (filed.whole c p old))
          go false other d =
              let old : p < size c = grind (arith, below, sizes c, other) in
              let here : at' c p ≡ at c p = grind (arith, ats c p, other) in
              subst (λ (x : Option Queue). IsSome x) (sym here) (filed.whole c p old)

      is_named : (c p : ℕ) (q : Queue) → at' c p ≡ Some q → (q.ctx ≡ c) × (placed' q ≡ Some p)
      is_named c p q is = go ((gone.ctx == c) && ((size gone.ctx - 1) == p)) ((gone.ctx == c) && (e == p)) refl refl (at c p) refl
        where
          go : (a b : Bool) → ((gone.ctx == c) && ((size gone.ctx - 1) == p)) ≡ a → ((gone.ctx == c) && (e == p)) ≡ b → (found : Option Queue) → at c p ≡ found
              → (q.ctx ≡ c) × (placed' q ≡ Some p)
          go true true ends here found seen = absurd (grind (arith, is, ats c p, ends, here))
          go true false ends here found seen = absurd (grind (arith, is, ats c p, ends, here))
          go false true ends here None seen = absurd (grind (arith, is, ats c p, ends, here, seen))
          go false true ends here (Some x) seen =
              let both : Some moved ≡ Some q = grind (arith, is, ats c p, ends, here, seen) in
              let q_is : moved ≡ q = grind (arith, both) in
              let ctx : gone.ctx ≡ c = grind (arith, nat_tests, here) in
              let p_is : e ≡ p = grind (arith, nat_tests, here) in
              let q_ctx : q.ctx ≡ c = sym (ap (λ (y : Queue). y.ctx) q_is) ∙ end.0 ∙ ctx in
              let placed_q : placed q ≡ Some (size gone.ctx - 1) = ap placed (sym q_is) ∙ end.1 in
              let one = same_queue_tells gone q in
              let two = same_queue_tells moved q in
              let apart : gone ≢ q = λ same. absurd (grind (arith, nat_tests, was, placed_q, ap placed same, ends, ctx, p_is)) in
              (q_ctx, grind (arith, places q, one, two, q_is, apart, placed_q, p_is))
          go false false ends here found seen =
              let old : at c p ≡ Some q = grind (arith, is, ats c p, ends, here) in
              let there = filed.named c p q old in
              let ctx = there.0 in
              let place = there.1 in
              let one = same_queue_tells gone q in
              let two = same_queue_tells moved q in
              let not_gone : gone ≢ q = λ same. absurd (grind (arith, nat_tests, ap placed same, was, place, ap (λ (y : Queue). y.ctx) same, ctx, here)) in
              let not_moved : moved ≢ q = λ same. absurd (grind (arith, nat_tests, ap placed same, end.1, place, ap (λ (y : Queue). y.ctx) same, end.0, ctx, ends)) in
              (ctx, grind (arith, places q, one, two, not_gone, not_moved, place))
