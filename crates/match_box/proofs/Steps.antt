-- One more in a queue, and one less, over plain lists.
use Rattle.std.proofs.Common.{◌≡◌, ◌≢◌, ℕ, suc, ◌+◌, ◌-◌, ◌≤◌, ◌==◌, if◌then◌else◌, Bool, true, false, nat_eq, List, [], ◌∷◌, ◌++◌, map, length, Option, Some, None, option_map, get_or, refl, sym, ap, subst, ◌∙◌, arith}
use Rattle.std.specs.Option.{IsSome}
use Rattle.std.proofs.lemmas.Bool.Decides.{nat_tests}
use Rattle.slab.specs.Slab.{Slab, Updates}
use Rattle.match_box.specs.declared.queue.Queue.{Queue}
use Rattle.match_box.specs.declared.node.Node.{Node}
use Rattle.match_box.specs.declared.node.Ends.{Ends}
use Rattle.match_box.specs.Rows.{Row, row, same_queue, on, spot, head_of, first_of, without_first_of}
use Rattle.match_box.specs.Filing.{extended, ended}
use Rattle.match_box.specs.Nodes.{seen, nodes_in, rows_of, first_in, ends_in, begun, Linked, AreNumbered, AreQueued}
use Rattle.match_box.proofs.FilingFacts.{same_queue_tells}
use Rattle.match_box.proofs.NodeFacts.{map_both, Leads, Puts, Stays, led_all, numbered-led, numbered-put, nodes_in-led, nodes_in-put, nodes_in-less, nodes_in-kept, nodes_in-apart}
use Rattle.match_box.proofs.QueueFacts.{Linked-push, seen-led, ends_in-led, ends_in-append, without_in, firsts, first_in-ends, less-first, Linked-without, ends_in-without, ends_in-without-other, first_node, without-nodes}

pub lowered : (b : Bool) (n : ℕ) → (if b then (if b then n + 1 else n) - 1 else (if b then n + 1 else n)) ≡ n
lowered true n = omega arith
lowered false n = refl

module _ {T : Type 0} where
  abbrev pub fresh : ℕ → Queue → T → Node T
  fresh number queue item = record { number = number; queue = queue; item = item; next = None }

  -- one more
  pub pushed : (old mid new : List (Option (Node T))) (ends later : Queue → Option Ends) (key count : ℕ) (queue : Queue) (item : T)
      → AreNumbered old count → AreQueued (nodes_in old count) ends → Leads old mid (ends queue) key → get_or mid key None ≡ None
      → Puts mid new key (Some (fresh (count + 1) queue item))
      → ((q : Queue) → later q ≡ (if same_queue queue q then extended key (ends q) else ends q))
      → AreNumbered new (count + 1) × AreQueued (nodes_in new (count + 1)) later × (rows_of (nodes_in new (count + 1)) ≡ rows_of (nodes_in old count) ++ row (count + 1) queue item ∷ [])
  unfolding rows_of
  pushed old mid new ends later key count queue item numbered queued leads none puts ends_put = (
    numbered-put mid new key count (fresh (count + 1) queue item) puts refl numbered',
    record {
      links = subst (λ (ns : List (ℕ × Node T)). Linked ns) (sym this) (Linked-push queue key (fresh (count + 1) queue item) (nodes_in old count) refl refl (nodes_in-apart old count) queued.links);
      at = λ q. ends_put q ∙ at q ∙ sym (ap (ends_in q) this);
    },
    ap (map seen) this ∙ map_both seen (led_all (ends_in queue (nodes_in old count)) key (nodes_in old count)) ((key, fresh (count + 1) queue item) ∷ [])
        ∙ ap (λ rs. rs ++ row (count + 1) queue item ∷ []) (seen-led (ends_in queue (nodes_in old count)) key (nodes_in old count)),
  )
    where
      numbered' : AreNumbered mid count
      numbered' = numbered-led old mid (ends queue) key count leads numbered

      this : nodes_in new (count + 1) ≡ led_all (ends_in queue (nodes_in old count)) key (nodes_in old count) ++ (key, fresh (count + 1) queue item) ∷ []
      this = nodes_in-put mid new key count (fresh (count + 1) queue item) puts none refl numbered'
          ∙ ap (λ ns. ns ++ (key, fresh (count + 1) queue item) ∷ []) (nodes_in-led old mid (ends queue) key count count leads numbered)
          ∙ ap (λ at. led_all at key (nodes_in old count) ++ (key, fresh (count + 1) queue item) ∷ []) (queued.at queue)

      at : (q : Queue) → (if same_queue queue q then extended key (ends q) else ends q)
          ≡ ends_in q (led_all (ends_in queue (nodes_in old count)) key (nodes_in old count) ++ (key, fresh (count + 1) queue item) ∷ [])
      at q =
          let one = same_queue_tells queue q in
          let two = same_queue_tells q queue in
          let appended = ends_in-append q (led_all (ends_in queue (nodes_in old count)) key (nodes_in old count)) (key, fresh (count + 1) queue item) in
          let same = ends_in-led q (ends_in queue (nodes_in old count)) key (nodes_in old count) in
          let there = queued.at q in
          grind (arith, one, two, appended, same, there)

  -- the first of a queue is in its slot
  pub first_found : (slots : List (Option (Node T))) (ends : Queue → Option Ends) (count : ℕ) (queue : Queue) (found : Ends)
      → AreQueued (nodes_in slots count) ends → ends queue ≡ Some found
      → (node : Node T) × (get_or slots found.first None ≡ Some node) × (first_of queue (rows_of (nodes_in slots count)) ≡ Some (seen (found.first, node)))
      × (node.queue ≡ queue) × (node.next ≡ first_in queue (without_in queue (nodes_in slots count)))
  unfolding rows_of
  first_found slots ends count queue found queued is =
      let first : first_in queue (nodes_in slots count) ≡ Some found.first = first_in-ends queue (nodes_in slots count) ∙ ap firsts (sym (queued.at queue) ∙ is) in
      let all = first_node queue (Stays slots count) found.first (nodes_in slots count) queued.links (nodes_in-kept slots count) first in
      (all.0, all.1.1, all.2, all.3, all.4)

  -- one less
  pub taken : (old new : List (Option (Node T))) (ends later : Queue → Option Ends) (count : ℕ) (queue : Queue) (found : Ends) (node : Node T)
      → AreNumbered old count → AreQueued (nodes_in old count) ends → ends queue ≡ Some found → get_or old found.first None ≡ Some node
      → Puts old new found.first None
      → ((q : Queue) → later q ≡ (if same_queue queue q then ended node.next (ends q) else ends q))
      → AreQueued (nodes_in new count) later × (rows_of (nodes_in new count) ≡ without_first_of queue (rows_of (nodes_in old count)))
      × (Some node.item ≡ option_map (λ (r : Row T). r.item) (first_of queue (rows_of (nodes_in old count))))
  unfolding rows_of
  taken old new ends later count queue found node numbered queued is at takes ends_take = (
    record {
      links = subst (λ (ns : List (ℕ × Node T)). Linked ns) (sym this) (Linked-without queue (nodes_in old count) queued.links);
      at = λ q. ends_take q ∙ ends_at q ∙ sym (ap (ends_in q) this);
    },
    ap (map seen) this ∙ without-nodes queue (nodes_in old count),
    item,
  )
    where
      first : first_in queue (nodes_in old count) ≡ Some found.first
      first = first_in-ends queue (nodes_in old count) ∙ ap firsts (sym (queued.at queue) ∙ is)

      this : nodes_in new count ≡ without_in queue (nodes_in old count)
      this = nodes_in-less old new found.first count count takes numbered ∙ less-first queue found.first (nodes_in old count) (nodes_in-apart old count) first

      all : (other : Node T) × (get_or old found.first None ≡ Some other) × (first_of queue (rows_of (nodes_in old count)) ≡ Some (seen (found.first, other)))
          × (other.queue ≡ queue) × (other.next ≡ first_in queue (without_in queue (nodes_in old count)))
      all = first_found old ends count queue found queued is

      node_is : all.0 ≡ node
      node_is = let both : Some all.0 ≡ Some node = sym all.1 ∙ at in grind (arith, both)

      item : Some node.item ≡ option_map (λ (r : Row T). r.item) (first_of queue (rows_of (nodes_in old count)))
      item = ap (λ (n : Node T). Some n.item) (sym node_is) ∙ sym (ap (option_map (λ (r : Row T). r.item)) all.2)

      ends_at : (q : Queue) → (if same_queue queue q then ended node.next (ends q) else ends q) ≡ ends_in q (without_in queue (nodes_in old count))
      ends_at q = go (same_queue queue q) refl
        where
          go : (b : Bool) → same_queue queue q ≡ b → (if b then ended node.next (ends q) else ends q) ≡ ends_in q (without_in queue (nodes_in old count))
          go true same =
              let tells = same_queue_tells queue q in
              let q_is : queue ≡ q = grind (arith, same, tells) in
              let next : node.next ≡ first_in queue (without_in queue (nodes_in old count)) = ap (λ (n : Node T). n.next) (sym node_is) ∙ all.4 in
              ap (λ x. ended node.next (ends x)) (sym q_is) ∙ ap (ended node.next) is ∙ ap (λ m. ended m (Some found)) next
              ∙ sym (ends_in-without queue found (nodes_in old count) (sym (queued.at queue) ∙ is))
              ∙ ap (λ x. ends_in x (without_in queue (nodes_in old count))) q_is
          go false differs = queued.at q ∙ sym (ends_in-without-other queue q (nodes_in old count) differs)

  -- the head of a queue
  pub head_some : (slots : List (Option (Node T))) (ends : Queue → Option Ends) (count : ℕ) (queue : Queue) (found : Ends) (node : Node T)
      → AreQueued (nodes_in slots count) ends → ends queue ≡ Some found → get_or slots found.first None ≡ Some node
      → Some (record { number = node.number; queue = queue }) ≡ spot (λ q. same_queue queue q) (rows_of (nodes_in slots count))
  head_some slots ends count queue found node queued is at =
      let all = first_found slots ends count queue found queued is in
      let both : Some all.0 ≡ Some node = sym all.1 ∙ at in
      let node_is : all.0 ≡ node = grind (arith, both) in
      sym (ap (option_map head_of) all.2 ∙ ap (λ (n : Node T). Some (record { number = n.number; queue = n.queue })) node_is
      ∙ ap (λ q. Some (record { number = node.number; queue = q })) (sym (ap (λ (n : Node T). n.queue) node_is) ∙ all.3))

  first_none : (queue : Queue) (ns : List (ℕ × Node T)) → ends_in queue ns ≡ None → first_of queue (map seen ns) ≡ None
  first_none queue [] none = refl
  first_none queue (n ∷ ns) none = go (same_queue queue n.1.queue) refl (first_none queue ns) (ends_in queue ns) refl
    where
      go : (b : Bool) → same_queue queue n.1.queue ≡ b → (ends_in queue ns ≡ None → first_of queue (map seen ns) ≡ None) → (rest : Option Ends) → ends_in queue ns ≡ rest
          → first_of queue (map seen (n ∷ ns)) ≡ None
      go true same later None is = absurd (cc (none, same, is))
      go true same later (Some ends) is = absurd (cc (none, same, is))
      go false differs later rest is =
          let there = later (grind (arith, none, differs)) in
          grind (arith, differs, there)

  without-none : (queue : Queue) (rows : List (Row T)) → first_of queue rows ≡ None → without_first_of queue rows ≡ rows
  without-none queue [] none = refl
  without-none queue (r ∷ rs) none = go (same_queue queue r.queue) refl (without-none queue rs)
    where
      go : (b : Bool) → same_queue queue r.queue ≡ b → (first_of queue rs ≡ None → without_first_of queue rs ≡ rs) → without_first_of queue (r ∷ rs) ≡ r ∷ rs
      go true same later = absurd (cc (none, same))
      go false differs later =
          let rest : first_of queue rs ≡ None = grind (arith, none, differs) in
          let there = later rest in
          grind (arith, differs, there)

  -- an empty queue
  pub none_first : (slots : List (Option (Node T))) (ends : Queue → Option Ends) (count : ℕ) (queue : Queue)
      → AreQueued (nodes_in slots count) ends → ends queue ≡ None
      → (first_of queue (rows_of (nodes_in slots count)) ≡ None) × (without_first_of queue (rows_of (nodes_in slots count)) ≡ rows_of (nodes_in slots count))
  unfolding rows_of
  none_first slots ends count queue queued is =
      let none = first_none queue (nodes_in slots count) (sym (queued.at queue) ∙ is) in
      (none, without-none queue (map seen (nodes_in slots count)) none)

  pub head_none : (slots : List (Option (Node T))) (ends : Queue → Option Ends) (count : ℕ) (queue : Queue)
      → AreQueued (nodes_in slots count) ends → ends queue ≡ None → None ≡ spot (λ q. same_queue queue q) (rows_of (nodes_in slots count))
  head_none slots ends count queue queued is = sym (ap (option_map head_of) (none_first slots ends count queue queued is).0)

  -- a queue with ends is not empty
  ends_first : (queue : Queue) (ns : List (ℕ × Node T)) → IsSome (ends_in queue ns) → IsSome (first_of queue (map seen ns))
  ends_first queue [] some = absurd (cc (some))
  ends_first queue (n ∷ ns) some = go (same_queue queue n.1.queue) refl (ends_first queue ns)
    where
      go : (b : Bool) → same_queue queue n.1.queue ≡ b → (IsSome (ends_in queue ns) → IsSome (first_of queue (map seen ns))) → IsSome (if b then Some (seen n) else first_of queue (map seen ns))
      go true same later = refl
      go false differs later = later (subst (λ b. IsSome (if b then begun n.0 (ends_in queue ns) else ends_in queue ns)) differs some)

  pub some_first : (slots : List (Option (Node T))) (ends : Queue → Option Ends) (count : ℕ) (queue : Queue)
      → AreQueued (nodes_in slots count) ends → IsSome (ends queue) → IsSome (first_of queue (rows_of (nodes_in slots count)))
  unfolding rows_of
  some_first slots ends count queue queued some = ends_first queue (nodes_in slots count) (subst (λ (e : Option Ends). IsSome e) (queued.at queue) some)

  -- how many wait on a context
  pub on-push : (c number : ℕ) (queue : Queue) (item : T) (rows : List (Row T))
      → length (on c (rows ++ row number queue item ∷ [])) ≡ (if queue.ctx == c then length (on c rows) + 1 else length (on c rows))
  on-push c number queue item [] = grind (arith)
  on-push c number queue item (r ∷ rs) = let later = on-push c number queue item rs in grind (arith, later)

  pub on-without : (c : ℕ) (queue : Queue) (rows : List (Row T)) → IsSome (first_of queue rows)
      → length (on c rows) ≡ (if queue.ctx == c then length (on c (without_first_of queue rows)) + 1 else length (on c (without_first_of queue rows)))
  on-without c queue [] some = absurd (cc (some))
  on-without c queue (r ∷ rs) some = go (same_queue queue r.queue) refl (on-without c queue rs)
    where
      go : (b : Bool) → same_queue queue r.queue ≡ b
          → (IsSome (first_of queue rs) → length (on c rs) ≡ (if queue.ctx == c then length (on c (without_first_of queue rs)) + 1 else length (on c (without_first_of queue rs))))
          → length (on c (r ∷ rs)) ≡ (if queue.ctx == c then length (on c (without_first_of queue (r ∷ rs))) + 1 else length (on c (without_first_of queue (r ∷ rs))))
      go true same later =
          let tells = same_queue_tells queue r.queue in
          let here : queue ≡ r.queue = grind (arith, same, tells) in
          let ctx : queue.ctx ≡ r.queue.ctx = ap (λ (q : Queue). q.ctx) here in
          grind (arith, same, ctx)
      go false differs later =
          let there = later (subst (λ b. IsSome (if b then Some r else first_of queue rs)) differs some) in
          grind (arith, differs, there)

  pub on-less : (queue : Queue) (rows : List (Row T)) → IsSome (first_of queue rows) → 1 ≤ length (on queue.ctx rows)
  on-less queue rows some =
      let is = on-without queue.ctx queue rows some in
      let same : (queue.ctx == queue.ctx) ≡ true = grind (arith, nat_tests) in
      let one : length (on queue.ctx rows) ≡ length (on queue.ctx (without_first_of queue rows)) + 1 =
      is ∙ ap (λ b. if b then length (on queue.ctx (without_first_of queue rows)) + 1 else length (on queue.ctx (without_first_of queue rows))) same in
      omega (arith, one)

  on-few : (c : ℕ) (rows : List (Row T)) → length (on c rows) ≤ length rows
  on-few c [] = omega arith
  on-few c (r ∷ rs) = go (r.queue.ctx == c) (on-few c rs)
    where
      go : (b : Bool) → length (on c rs) ≤ length rs → length (if b then r ∷ on c rs else on c rs) ≤ length (r ∷ rs)
      go true later = omega (arith, later)
      go false later = omega (arith, later)

  rows_many : (ns : List (ℕ × Node T)) → length (map seen ns) ≡ length ns
  rows_many [] = refl
  rows_many (n ∷ ns) = ap suc (rows_many ns)

  pub few_on : (c count : ℕ) (ns : List (ℕ × Node T)) → length ns ≤ count → length (on c (rows_of ns)) ≤ count
  unfolding rows_of
  few_on c count ns few = let one = on-few c (map seen ns) in let two = rows_many ns in omega (arith, one, two, few)

  -- the slots after a write into one of them
  pub puts_from : (old new : Slab (Node T)) (key : ℕ) (slot : Option (Node T)) → Updates old new key slot → Puts old.slots new.slots key slot
  puts_from old new key slot updates k = go (nat_eq key k) refl
    where
      go : (b : Bool) → nat_eq key k ≡ b → get_or new.slots k None ≡ (if nat_eq key k then slot else get_or old.slots k None)
      go true same =
          let here : key ≡ k = grind (arith, nat_tests, same) in
          subst (λ j. get_or new.slots j None ≡ slot) here updates.changed ∙ sym (ap (λ b. if b then slot else get_or old.slots k None) same)
      go false differs =
          let apart : k ≢ key = grind (arith, nat_tests, differs) in
          updates.others k apart ∙ sym (ap (λ b. if b then slot else get_or old.slots k None) differs)
