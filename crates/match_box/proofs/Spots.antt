-- The first that passes a test of its queue.
use Rattle.std.proofs.Common.{◌≡◌, ◌≢◌, ◌⊎◌, ℕ, ◌<◌, ◌==◌, ◌||◌, Bool, true, false, is_some, List, [], ◌∷◌, map, find, Option, Some, None, refl, sym, ap, ◌∙◌, inl, inr, arith}
use Rattle.std.specs.Option.{option_eq}
use Rattle.std.proofs.lemmas.Bool.Decides.{nat_tests}
use Rattle.match_law.specs.Box.{without_first}
use Rattle.match_box.specs.declared.queue.Queue.{Queue}
use Rattle.match_box.specs.declared.node.Node.{Node}
use Rattle.match_box.specs.declared.node.Head.{Head}
use Rattle.match_box.specs.Rows.{Row, AllOf, IsRising, same_queue, takes, meets, spot, head_of, sooner, first_of, without_first_of}
use Rattle.match_box.specs.Nodes.{seen, rows_of, Rising, nodes_in}
use Rattle.match_box.proofs.NodeFacts.{nodes_in-rising}
use Rattle.match_box.proofs.FilingFacts.{same_queue_tells}

module _ {T : Type 0} where
  above_seen : (k : ℕ) (ns : List (ℕ × Node T)) → AllOf (λ (m : ℕ × Node T). k < m.1.number) ns → AllOf (λ (r : Row T). k < r.number) (map seen ns)
  above_seen k [] above = _
  above_seen k (n ∷ ns) above = (above.0, above_seen k ns above.1)

  rising_seen : (ns : List (ℕ × Node T)) → Rising ns → IsRising (map seen ns)
  rising_seen [] rises = _
  rising_seen (n ∷ ns) rises = (above_seen n.1.number ns rises.0, rising_seen ns rises.1)

  -- the numbers rise
  pub rows_rise : (slots : List (Option (Node T))) (count : ℕ) → IsRising (rows_of (nodes_in slots count))
  unfolding rows_of
  rows_rise slots count = rising_seen (nodes_in slots count) (nodes_in-rising slots count)

  spot-above : (test : Queue → Bool) (k : ℕ) (head : Head) (rows : List (Row T)) → AllOf (λ (r : Row T). k < r.number) rows → spot test rows ≡ Some head → k < head.number
  spot-above test k head [] above is = absurd (cc (is))
  spot-above test k head (r ∷ rs) above is = go (test r.queue) refl (spot-above test k head rs above.1)
    where
      go : (b : Bool) → test r.queue ≡ b → (spot test rs ≡ Some head → k < head.number) → k < head.number
      go true same later = let here : Some (head_of r) ≡ Some head = grind (arith, is, same) in grind (arith, here, above.0)
      go false differs later = later (grind (arith, is, differs))

  pub spot-same : (p q : Queue → Bool) (rows : List (Row T)) → AllOf (λ (r : Row T). p r.queue ≡ q r.queue) rows → spot p rows ≡ spot q rows
  spot-same p q [] same = refl
  spot-same p q (r ∷ rs) same = let later = spot-same p q rs same.1 in let here = same.0 in grind (arith, later, here)

  pub each_row : (P : Row T → Type 0) (rows : List (Row T)) → ((r : Row T) → P r) → AllOf P rows
  each_row P [] all = _
  each_row P (r ∷ rs) all = (all r, each_row P rs all)

  -- the sooner of two is the first that passes either test
  pub sooner-spots : (p q : Queue → Bool) (rows : List (Row T)) → IsRising rows → sooner (spot p rows) (spot q rows) ≡ spot (λ x. p x || q x) rows
  sooner-spots p q [] rises = refl
  sooner-spots p q (r ∷ rs) rises = go (p r.queue) (q r.queue) (spot p rs) (spot q rs) refl refl refl refl (sooner-spots p q rs rises.1)
    where
      go : (b c : Bool) (one other : Option Head) → p r.queue ≡ b → q r.queue ≡ c → spot p rs ≡ one → spot q rs ≡ other → sooner (spot p rs) (spot q rs) ≡ spot (λ x. p x || q x) rs
          → sooner (spot p (r ∷ rs)) (spot q (r ∷ rs)) ≡ spot (λ x. p x || q x) (r ∷ rs)
      go true true one other first second left right later = grind (arith, nat_tests, first, second)
      go true false one None first second left right later = grind (arith, nat_tests, first, second, right)
      go true false one (Some h) first second left right later =
          let above = spot-above q r.number h rs rises.0 right in
          grind (arith, nat_tests, first, second, right, above)
      go false true None other first second left right later = grind (arith, nat_tests, first, second, left)
      go false true (Some h) other first second left right later =
          let above = spot-above p r.number h rs rises.0 left in
          grind (arith, nat_tests, first, second, left, above)
      go false false one other first second left right later = grind (arith, nat_tests, first, second, later)

  -- the first that passes is the first of its queue
  pub first_passes : (test : Queue → Bool) (rows : List (Row T)) (head : Head) → spot test rows ≡ Some head
      → (find (λ (r : Row T). test r.queue) rows ≡ first_of head.queue rows) × (without_first (λ (r : Row T). test r.queue) rows ≡ without_first_of head.queue rows)
      × (test head.queue ≡ true)
  first_passes test [] head is = absurd (cc (is))
  first_passes test (r ∷ rs) head is = go (test r.queue) refl (first_passes test rs head)
    where
      go : (b : Bool) → test r.queue ≡ b
          → (spot test rs ≡ Some head → (find (λ (r : Row T). test r.queue) rs ≡ first_of head.queue rs) × (without_first (λ (r : Row T). test r.queue) rs ≡ without_first_of head.queue rs) × (test head.queue ≡ true))
          → (find (λ (r : Row T). test r.queue) (r ∷ rs) ≡ first_of head.queue (r ∷ rs)) × (without_first (λ (r : Row T). test r.queue) (r ∷ rs) ≡ without_first_of head.queue (r ∷ rs))
          × (test head.queue ≡ true)
      go true same later =
          let both : Some (head_of r) ≡ Some head = grind (arith, is, same) in
          let queue_is : r.queue ≡ head.queue = grind (arith, both) in
          let tells = same_queue_tells head.queue r.queue in
          (grind (arith, same, queue_is, tells), grind (arith, same, queue_is, tells), ap test (sym queue_is) ∙ same)
      go false differs later =
          let there = later (grind (arith, is, differs)) in
          let passes = there.2 in
          let found = there.0 in
          let rest = there.1 in
          let tells = same_queue_tells head.queue r.queue in
          let apart : same_queue head.queue r.queue ≡ false = other tells passes in
          (grind (arith, differs, apart, found), grind (arith, differs, apart, rest), passes)
        where
          other : ((same_queue head.queue r.queue ≡ true) × (head.queue ≡ r.queue)) ⊎ ((same_queue head.queue r.queue ≡ false) × (head.queue ≢ r.queue)) → test head.queue ≡ true → same_queue head.queue r.queue ≡ false
          other (inl same) passes = absurd (cc (passes, differs, ap test same.1))
          other (inr apart) passes = apart.0

meets_is : (a b : Option ℕ) → meets a b ≡ (option_eq (λ m n. m == n) a b || option_eq (λ m n. m == n) a None)
meets_is None None = refl
meets_is None (Some n) = refl
meets_is (Some m) None = refl
meets_is (Some m) (Some n) = grind (arith, nat_tests)

-- the four queues whose receives may take a message of a queue
pub takes_is : (a b : Queue) → takes a b
    ≡ ((same_queue b a || same_queue (record { ctx = b.ctx; lane = b.lane; source = None; tag = b.tag }) a)
    || (same_queue (record { ctx = b.ctx; lane = b.lane; source = b.source; tag = None }) a || same_queue (record { ctx = b.ctx; lane = b.lane; source = None; tag = None }) a))
takes_is a b =
    let source = meets_is a.source b.source in
    let tag = meets_is a.tag b.tag in
    let one = turned a.source b.source in
    let two = turned a.tag b.tag in
    let three = turned a.source None in
    let four = turned a.tag None in
    grind (arith, nat_tests, source, tag, one, two, three, four)
  where
    turned : (m n : Option ℕ) → option_eq (λ a b. a == b) m n ≡ option_eq (λ a b. a == b) n m
    turned None None = refl
    turned None (Some n) = refl
    turned (Some m) None = refl
    turned (Some m) (Some n) = grind (arith, nat_tests)

exactly : (a b : Option ℕ) → is_some a ≡ true → option_eq (λ m n. m == n) a b ≡ meets a b
exactly None b some = absurd (cc (some))
exactly (Some n) b some = refl

-- where source and tag are named, only one queue is wanted
pub takes-exact : (a b : Queue) → is_some a.source ≡ true → is_some a.tag ≡ true → same_queue a b ≡ takes a b
takes-exact a b source tag =
    let one = exactly a.source b.source source in
    let two = exactly a.tag b.tag tag in
    grind (arith, one, two)
