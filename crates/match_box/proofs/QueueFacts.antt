-- Queues of nodes.
use Rattle.std.proofs.Common.{◌≡◌, ℕ, ◌==◌, if◌then◌else◌, Bool, true, false, List, [], ◌∷◌, ◌++◌, map, Option, Some, None, refl, sym, ap, subst, ◌∙◌, arith}
use Rattle.std.proofs.lemmas.Bool.Decides.{nat_tests}
use Rattle.match_box.specs.declared.queue.Queue.{Queue}
use Rattle.match_box.specs.declared.node.Node.{Node}
use Rattle.match_box.specs.declared.node.Ends.{Ends}
use Rattle.match_box.specs.Rows.{AllOf, same_queue, first_of, without_first_of}
use Rattle.match_box.specs.Filing.{extended, ended}
use Rattle.match_box.specs.Nodes.{seen, first_in, ends_in, begun, Linked, led}
use Rattle.match_box.proofs.FilingFacts.{same_queue_tells}
use Rattle.match_box.proofs.NodeFacts.{less, led_all, Apart}

-- the first of a queue, as ends and rows have it
abbrev pub firsts : Option Ends → Option ℕ
firsts None = None
firsts (Some ends) = Some ends.first

abbrev pub or_else : Option ℕ → Option ℕ → Option ℕ
or_else None m = m
or_else (Some n) m = Some n

begun-extended : (n number : ℕ) (rest : Option Ends) → begun n (extended number rest) ≡ extended number (begun n rest)
begun-extended n number None = refl
begun-extended n number (Some ends) = refl

or_else-none : (m : Option ℕ) → or_else m None ≡ m
or_else-none None = refl
or_else-none (Some n) = refl

module _ {T : Type 0} where
  -- without the first of a queue
  abbrev pub without_in : Queue → List (ℕ × Node T) → List (ℕ × Node T)
  without_in queue [] = []
  without_in queue (n ∷ ns) = if same_queue queue n.1.queue then ns else n ∷ without_in queue ns

  pub less-above : (k : ℕ) (ns : List (ℕ × Node T)) → AllOf (λ (m : ℕ × Node T). (k == m.0) ≡ false) ns → less k ns ≡ ns
  less-above k [] above = refl
  less-above k (n ∷ ns) above = let later = less-above k ns above.1 in grind (arith, nat_tests, later, above.0)

  first_in-above : (queue : Queue) (k first : ℕ) (ns : List (ℕ × Node T)) → AllOf (λ (m : ℕ × Node T). (k == m.0) ≡ false) ns → first_in queue ns ≡ Some first → (k == first) ≡ false
  first_in-above queue k first [] above is = absurd (cc (is))
  first_in-above queue k first (n ∷ ns) above is =
      go (same_queue queue n.1.queue) refl (first_in-above queue k first ns above.1)
    where
      go : (b : Bool) → same_queue queue n.1.queue ≡ b → (first_in queue ns ≡ Some first → (k == first) ≡ false) → (k == first) ≡ false
      go true same later = grind (arith, is, same, above.0)
      go false differs later =
          let rest : first_in queue ns ≡ Some first = grind (arith, is, differs) in
          later rest

  -- the first of a queue is the only one of its number
  pub less-first : (queue : Queue) (first : ℕ) (ns : List (ℕ × Node T)) → Apart ns → first_in queue ns ≡ Some first → less first ns ≡ without_in queue ns
  less-first queue first [] rises is = refl
  less-first queue first (n ∷ ns) rises is =
      go (same_queue queue n.1.queue) refl (less-first queue first ns rises.1)
    where
      go : (b : Bool) → same_queue queue n.1.queue ≡ b → (first_in queue ns ≡ Some first → less first ns ≡ without_in queue ns) → less first (n ∷ ns) ≡ without_in queue (n ∷ ns)
      go true same later =
          let here : n.0 ≡ first = grind (arith, is, same) in
          let rest = less-above n.0 ns rises.0 in
          grind (arith, nat_tests, same, here, rest)
      go false differs later =
          let rest : first_in queue ns ≡ Some first = grind (arith, is, differs) in
          let there = later rest in
          let above = first_in-above queue n.0 first ns rises.0 rest in
          grind (arith, nat_tests, differs, there, above)

  first_in-without : (queue other : Queue) (ns : List (ℕ × Node T)) → same_queue queue other ≡ false → first_in other (without_in queue ns) ≡ first_in other ns
  first_in-without queue other [] differs = refl
  first_in-without queue other (n ∷ ns) differs =
      let later = first_in-without queue other ns differs in
      let one = same_queue_tells queue n.1.queue in
      let two = same_queue_tells other n.1.queue in
      let three = same_queue_tells queue other in
      grind (arith, later, one, two, three, differs)

  -- links without the first of a queue
  pub Linked-without : (queue : Queue) (ns : List (ℕ × Node T)) → Linked ns → Linked (without_in queue ns)
  Linked-without queue [] links = links
  Linked-without queue (n ∷ ns) links = go (same_queue queue n.1.queue) refl (Linked-without queue ns links.1)
    where
      go : (b : Bool) → same_queue queue n.1.queue ≡ b → Linked (without_in queue ns) → Linked (if b then ns else n ∷ without_in queue ns)
      go true same later = links.1
      go false differs later = (links.0 ∙ sym (first_in-without queue n.1.queue ns differs), later)

  -- the ends of the other queues stay
  pub ends_in-without-other : (queue other : Queue) (ns : List (ℕ × Node T)) → same_queue queue other ≡ false → ends_in other (without_in queue ns) ≡ ends_in other ns
  ends_in-without-other queue other [] differs = refl
  ends_in-without-other queue other (n ∷ ns) differs =
      let later = ends_in-without-other queue other ns differs in
      let one = same_queue_tells queue n.1.queue in
      let two = same_queue_tells other n.1.queue in
      let three = same_queue_tells queue other in
      grind (arith, later, one, two, three, differs)

  pub first_in-ends : (queue : Queue) (ns : List (ℕ × Node T)) → first_in queue ns ≡ firsts (ends_in queue ns)
  first_in-ends queue [] = refl
  first_in-ends queue (n ∷ ns) = go (same_queue queue n.1.queue) (ends_in queue ns) (first_in-ends queue ns)
    where
      go : (b : Bool) (rest : Option Ends) → first_in queue ns ≡ firsts rest → (if b then Some n.0 else first_in queue ns) ≡ firsts (if b then begun n.0 rest else rest)
      go true None later = refl
      go true (Some ends) later = refl
      go false rest later = later

  pub without-nodes : (queue : Queue) (ns : List (ℕ × Node T)) → map seen (without_in queue ns) ≡ without_first_of queue (map seen ns)
  without-nodes queue [] = refl
  without-nodes queue (n ∷ ns) = let later = without-nodes queue ns in grind (arith, later)

  pub ends_in-without : (queue : Queue) (ends : Ends) (ns : List (ℕ × Node T)) → ends_in queue ns ≡ Some ends
      → ends_in queue (without_in queue ns) ≡ ended (first_in queue (without_in queue ns)) (Some ends)
  ends_in-without queue ends [] is = absurd (cc (is))
  ends_in-without queue ends (n ∷ ns) is = go (same_queue queue n.1.queue) refl (ends_in-without queue ends ns)
    where
      here : (rest : Option Ends) → begun n.0 rest ≡ Some ends → rest ≡ ended (firsts rest) (Some ends)
      here None is' = refl
      here (Some old) is' = grind (arith, is')

      go : (b : Bool) → same_queue queue n.1.queue ≡ b → (ends_in queue ns ≡ Some ends → ends_in queue (without_in queue ns) ≡ ended (first_in queue (without_in queue ns)) (Some ends))
          → ends_in queue (without_in queue (n ∷ ns)) ≡ ended (first_in queue (without_in queue (n ∷ ns))) (Some ends)
      go true same later =
          let began : begun n.0 (ends_in queue ns) ≡ Some ends = grind (arith, is, same) in
          let what = here (ends_in queue ns) began in
          let first = first_in-ends queue ns in
          grind (arith, same, what, first)
      go false differs later =
          let rest : ends_in queue ns ≡ Some ends = grind (arith, is, differs) in
          let there = later rest in
          grind (arith, differs, there)

  -- the first of a queue leads to the next
  pub first_node : (queue : Queue) (P : ℕ × Node T → Type 0) (first : ℕ) (ns : List (ℕ × Node T)) → Linked ns → AllOf P ns → first_in queue ns ≡ Some first
      → (node : Node T) × P (first, node) × (first_of queue (map seen ns) ≡ Some (seen (first, node))) × (node.queue ≡ queue) × (node.next ≡ first_in queue (without_in queue ns))
  first_node queue P first [] links each is = absurd (cc (is))
  first_node queue P first (n ∷ ns) links each is = go (same_queue queue n.1.queue) refl (first_node queue P first ns links.1 each.1)
    where
      go : (b : Bool) → same_queue queue n.1.queue ≡ b
          → (first_in queue ns ≡ Some first → (node : Node T) × P (first, node) × (first_of queue (map seen ns) ≡ Some (seen (first, node))) × (node.queue ≡ queue) × (node.next ≡ first_in queue (without_in queue ns)))
          → (node : Node T) × P (first, node) × (first_of queue (map seen (n ∷ ns)) ≡ Some (seen (first, node))) × (node.queue ≡ queue) × (node.next ≡ first_in queue (without_in queue (n ∷ ns)))
      go true same later =
          let here : n.0 ≡ first = grind (arith, is, same) in
          let tells = same_queue_tells queue n.1.queue in
          let queue_is : n.1.queue ≡ queue = grind (arith, same, tells) in
          let found : first_of queue (map seen (n ∷ ns)) ≡ Some (seen (first, n.1)) = grind (arith, same, here) in
          let next : n.1.next ≡ first_in queue (without_in queue (n ∷ ns)) = grind (arith, same, queue_is, links.0) in
          (n.1, subst (λ k. P (k, n.1)) here each.0, found, queue_is, next)
      go false differs later =
          let rest : first_in queue ns ≡ Some first = grind (arith, is, differs) in
          let there = later rest in
          let found : first_of queue (map seen (n ∷ ns)) ≡ Some (seen (first, there.0)) = grind (arith, differs, there.2) in
          let next : there.0.next ≡ first_in queue (without_in queue (n ∷ ns)) = grind (arith, differs, there.4) in
          (there.0, there.1, found, there.3, next)

  -- one more, at the end of its queue
  led_all-none : (next : ℕ) (ns : List (ℕ × Node T)) → led_all None next ns ≡ ns
  led_all-none next [] = refl
  led_all-none next (n ∷ ns) = ap (λ rest. n ∷ rest) (led_all-none next ns)

  -- no node has the number
  led_all-above : (at : Ends) (next : ℕ) (ns : List (ℕ × Node T)) → AllOf (λ (m : ℕ × Node T). (at.last == m.0) ≡ false) ns → led_all (Some at) next ns ≡ ns
  led_all-above at next [] above = refl
  led_all-above at next (n ∷ ns) above = let later = led_all-above at next ns above.1 in grind (arith, nat_tests, later, above.0)

  -- only the last counts
  led_all-last : (a b : Ends) (next : ℕ) (ns : List (ℕ × Node T)) → a.last ≡ b.last → led_all (Some a) next ns ≡ led_all (Some b) next ns
  led_all-last a b next [] same = refl
  led_all-last a b next (n ∷ ns) same = let later = led_all-last a b next ns same in grind (arith, nat_tests, later, same)

  seen-led-one : (at : Option Ends) (next : ℕ) (n : ℕ × Node T) → seen (n.0, led at next n.0 n.1) ≡ seen n
  seen-led-one None next n = refl
  seen-led-one (Some ends) next n = grind (arith)

  pub seen-led : (at : Option Ends) (next : ℕ) (ns : List (ℕ × Node T)) → map seen (led_all at next ns) ≡ map seen ns
  seen-led at next [] = refl
  seen-led at next (n ∷ ns) = let later = seen-led at next ns in let here = seen-led-one at next n in grind (arith, later, here)

  queue-led : (at : Option Ends) (next : ℕ) (n : ℕ × Node T) → (led at next n.0 n.1).queue ≡ n.1.queue
  queue-led None next n = refl
  queue-led (Some ends) next n = grind (arith)

  first_in-led : (queue : Queue) (at : Option Ends) (next : ℕ) (ns : List (ℕ × Node T)) → first_in queue (led_all at next ns) ≡ first_in queue ns
  first_in-led queue at next [] = refl
  first_in-led queue at next (n ∷ ns) = let later = first_in-led queue at next ns in let here = queue-led at next n in grind (arith, later, here)

  pub ends_in-led : (queue : Queue) (at : Option Ends) (next : ℕ) (ns : List (ℕ × Node T)) → ends_in queue (led_all at next ns) ≡ ends_in queue ns
  ends_in-led queue at next [] = refl
  ends_in-led queue at next (n ∷ ns) = let later = ends_in-led queue at next ns in let here = queue-led at next n in grind (arith, later, here)

  first_in-append : (queue : Queue) (ns : List (ℕ × Node T)) (new : ℕ × Node T)
      → first_in queue (ns ++ new ∷ []) ≡ or_else (first_in queue ns) (if same_queue queue new.1.queue then Some new.0 else None)
  first_in-append queue [] new = refl
  first_in-append queue (n ∷ ns) new = let later = first_in-append queue ns new in grind (arith, later)

  pub ends_in-append : (queue : Queue) (ns : List (ℕ × Node T)) (new : ℕ × Node T)
      → ends_in queue (ns ++ new ∷ []) ≡ (if same_queue queue new.1.queue then extended new.0 (ends_in queue ns) else ends_in queue ns)
  ends_in-append queue [] new = refl
  ends_in-append queue (n ∷ ns) new =
      let later = ends_in-append queue ns new in
      let begins = begun-extended n.0 new.0 (ends_in queue ns) in
      grind (arith, later, begins)

  last-above : (queue : Queue) (k : ℕ) (ends : Ends) (ns : List (ℕ × Node T)) → AllOf (λ (m : ℕ × Node T). (k == m.0) ≡ false) ns → ends_in queue ns ≡ Some ends → (k == ends.last) ≡ false
  last-above queue k ends [] above is = absurd (cc (is))
  last-above queue k ends (n ∷ ns) above is =
      go (same_queue queue n.1.queue) (ends_in queue ns) refl refl (λ old rest. last-above queue k old ns above.1 rest)
    where
      go : (b : Bool) (rest : Option Ends) → same_queue queue n.1.queue ≡ b → ends_in queue ns ≡ rest → ((old : Ends) → ends_in queue ns ≡ Some old → (k == old.last) ≡ false) → (k == ends.last) ≡ false
      go true None same rest later = let here : Some (record { first = n.0; last = n.0 }) ≡ Some ends = grind (arith, is, same, rest) in grind (arith, here, above.0)
      go true (Some old) same rest later =
          let there = later old rest in
          let here : begun n.0 (Some old) ≡ Some ends = grind (arith, is, same, rest) in
          grind (arith, here, there)
      go false rest differs was later = later ends (grind (arith, is, differs))

  -- the queue's last leads to the new one
  pub Linked-push : (queue : Queue) (number : ℕ) (node : Node T) (ns : List (ℕ × Node T)) → node.queue ≡ queue → node.next ≡ None → Apart ns → Linked ns
      → Linked (led_all (ends_in queue ns) number ns ++ (number, node) ∷ [])
  Linked-push queue number node [] of_queue last rises links = (last, _)
  Linked-push queue number node (n ∷ ns) of_queue last rises links =
      go (same_queue queue n.1.queue) (ends_in queue ns) refl refl (Linked-push queue number node ns of_queue last rises.1 links.1)
    where
      appended : first_in n.1.queue (led_all (ends_in queue ns) number ns ++ (number, node) ∷ []) ≡ or_else (first_in n.1.queue ns) (if same_queue n.1.queue node.queue then Some number else None)
      appended = first_in-append n.1.queue (led_all (ends_in queue ns) number ns) (number, node)
          ∙ ap (λ m. or_else m (if same_queue n.1.queue node.queue then Some number else None)) (first_in-led n.1.queue (ends_in queue ns) number ns)

      go : (b : Bool) (rest : Option Ends) → same_queue queue n.1.queue ≡ b → ends_in queue ns ≡ rest → Linked (led_all (ends_in queue ns) number ns ++ (number, node) ∷ [])
          → Linked (led_all (if same_queue queue n.1.queue then begun n.0 (ends_in queue ns) else ends_in queue ns) number (n ∷ ns) ++ (number, node) ∷ [])
      go true None same rest later =
          let tells = same_queue_tells queue n.1.queue in
          let queue_is : n.1.queue ≡ queue = grind (arith, same, tells) in
          let reflexive = same_queue_tells queue queue in
          let none : first_in queue ns ≡ None = first_in-ends queue ns ∙ ap firsts rest in
          let next : Some number ≡ first_in n.1.queue (led_all (ends_in queue ns) number ns ++ (number, node) ∷ []) =
          grind (arith, appended, none, queue_is, of_queue, reflexive) in
          let stays : led_all (Some (record { first = n.0; last = n.0 })) number ns ≡ led_all (ends_in queue ns) number ns =
          led_all-above (record { first = n.0; last = n.0 }) number ns rises.0 ∙ sym (led_all-none number ns) ∙ ap (λ at. led_all at number ns) (sym rest) in
          let this : led_all (if same_queue queue n.1.queue then begun n.0 (ends_in queue ns) else ends_in queue ns) number (n ∷ ns)
          ≡ (n.0, record n.1 { next = Some number }) ∷ led_all (ends_in queue ns) number ns =
          ap (λ at. led_all at number (n ∷ ns)) (ap (λ b. if b then begun n.0 (ends_in queue ns) else ends_in queue ns) same ∙ ap (begun n.0) rest)
          ∙ grind (arith, nat_tests, stays) in
          subst (λ (all : List (ℕ × Node T)). Linked (all ++ (number, node) ∷ [])) (sym this) (next, later)
      go true (Some old) same rest later =
          let tells = same_queue_tells queue n.1.queue in
          let queue_is : n.1.queue ≡ queue = grind (arith, same, tells) in
          let first : first_in n.1.queue ns ≡ Some old.first = ap (λ q. first_in q ns) queue_is ∙ first_in-ends queue ns ∙ ap firsts rest in
          let next : n.1.next ≡ first_in n.1.queue (led_all (ends_in queue ns) number ns ++ (number, node) ∷ []) =
          grind (arith, appended, first, links.0) in
          let above = last-above queue n.0 old ns rises.0 rest in
          let stays : led_all (Some (record { first = n.0; last = old.last })) number ns ≡ led_all (ends_in queue ns) number ns =
          led_all-last (record { first = n.0; last = old.last }) old number ns refl ∙ ap (λ at. led_all at number ns) (sym rest) in
          let this : led_all (if same_queue queue n.1.queue then begun n.0 (ends_in queue ns) else ends_in queue ns) number (n ∷ ns)
          ≡ n ∷ led_all (ends_in queue ns) number ns =
          ap (λ at. led_all at number (n ∷ ns)) (ap (λ b. if b then begun n.0 (ends_in queue ns) else ends_in queue ns) same ∙ ap (begun n.0) rest)
          ∙ grind (arith, nat_tests, stays, above) in
          subst (λ (all : List (ℕ × Node T)). Linked (all ++ (number, node) ∷ [])) (sym this) (next, later)
      go false rest differs was later =
          let tells = same_queue_tells queue n.1.queue in
          let turned = same_queue_tells n.1.queue node.queue in
          let apart : same_queue n.1.queue node.queue ≡ false = grind (arith, differs, tells, turned, of_queue) in
          let kept = or_else-none (first_in n.1.queue ns) in
          let next : n.1.next ≡ first_in n.1.queue (led_all (ends_in queue ns) number ns ++ (number, node) ∷ []) =
          grind (arith, appended, apart, kept, links.0) in
          let this : led_all (if same_queue queue n.1.queue then begun n.0 (ends_in queue ns) else ends_in queue ns) number (n ∷ ns)
          ≡ n ∷ led_all (ends_in queue ns) number ns =
          ap (λ at. led_all at number (n ∷ ns)) (ap (λ b. if b then begun n.0 (ends_in queue ns) else ends_in queue ns) differs)
          ∙ ap (λ m. m ∷ led_all (ends_in queue ns) number ns) (unmoved rest was) in
          subst (λ (all : List (ℕ × Node T)). Linked (all ++ (number, node) ∷ [])) (sym this) (next, later)
        where
          unmoved : (rest : Option Ends) → ends_in queue ns ≡ rest → (n.0, led (ends_in queue ns) number n.0 n.1) ≡ n
          unmoved None was = ap (λ at. (n.0, led at number n.0 n.1)) was
          unmoved (Some old) was =
              let above = last-above queue n.0 old ns rises.0 was in
              ap (λ at. (n.0, led at number n.0 n.1)) was ∙ grind (arith, nat_tests, above)
