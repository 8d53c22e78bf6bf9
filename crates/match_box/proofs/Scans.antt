-- The first over several queues.
use Rattle.std.proofs.Common.{◌≡◌, ◌≢◌, ◌⊎◌, ℕ, zero, suc, ◌<◌, ◌==◌, ◌&&◌, ◌||◌, if◌then◌else◌, Bool, true, false, List, [], ◌∷◌, map, Option, Some, None, refl, sym, ap, subst, ◌∙◌, inl, inr, arith}
use Rattle.std.specs.Option.{IsSome, MatchOption}
use Rattle.std.proofs.lemmas.Bool.Decides.{nat_tests}
use Rattle.match_box.specs.declared.queue.Queue.{Queue}
use Rattle.match_box.specs.declared.node.Node.{Node}
use Rattle.match_box.specs.declared.node.Ends.{Ends}
use Rattle.match_box.specs.declared.node.Head.{Head}
use Rattle.match_box.specs.Rows.{Row, AllOf, IsRising, same_queue, takes, spot, sooner, sooner_in, first_of}
use Rattle.match_box.specs.declared.node.Place.{Place}
use Rattle.match_box.specs.Filing.{queue_at, Stands}
use Rattle.match_box.specs.Nodes.{seen, rows_of, nodes_in, ends_in, begun, AreQueued}
use Rattle.match_box.proofs.FilingFacts.{same_queue_tells}
use Rattle.match_box.proofs.NodeFacts.{AllOf-to}
use Rattle.match_box.proofs.Steps.{some_first}
use Rattle.match_box.proofs.Spots.{sooner-spots, spot-same, each_row, takes_is}

-- whether a queue is the one found and wanted
abbrev pub met : Queue → Option Queue → Queue → Bool
met wanted None x = false
met wanted (Some q) x = takes wanted q && same_queue q x

-- whether a queue is among those at the first places and wanted
abbrev pub among : Queue → (ℕ → Option Queue) → ℕ → Queue → Bool
among wanted at zero x = false
among wanted at (suc n) x = among wanted at n x || met wanted (at n) x

module _ {T : Type 0} where
  pub four : (b : Queue) (rows : List (Row T)) → IsRising rows → (h1 h2 h3 h4 s1 s2 s : Option Head)
      → h1 ≡ spot (λ q. same_queue b q) rows
      → h2 ≡ spot (λ q. same_queue (record { ctx = b.ctx; lane = b.lane; source = None; tag = b.tag }) q) rows
      → h3 ≡ spot (λ q. same_queue (record { ctx = b.ctx; lane = b.lane; source = b.source; tag = None }) q) rows
      → h4 ≡ spot (λ q. same_queue (record { ctx = b.ctx; lane = b.lane; source = None; tag = None }) q) rows
      → s1 ≡ sooner h1 h2 → s2 ≡ sooner h3 h4 → s ≡ sooner s1 s2 → s ≡ spot (λ q. takes q b) rows
  four b rows rises h1 h2 h3 h4 s1 s2 s f1 f2 f3 f4 e1 e2 e =
      e ∙ ap (λ x. sooner x s2) (e1 ∙ ap (λ x. sooner x h2) f1 ∙ ap (λ x. sooner (spot p1 rows) x) f2 ∙ sooner-spots p1 p2 rows rises)
      ∙ ap (λ x. sooner (spot (λ q. p1 q || p2 q) rows) x) (e2 ∙ ap (λ x. sooner x h4) f3 ∙ ap (λ x. sooner (spot p3 rows) x) f4 ∙ sooner-spots p3 p4 rows rises)
      ∙ sooner-spots (λ q. p1 q || p2 q) (λ q. p3 q || p4 q) rows rises
      ∙ spot-same (λ q. (p1 q || p2 q) || (p3 q || p4 q)) (λ q. takes q b) rows (each_row _ rows (λ r. sym (takes_is r.queue b)))
    where
      p1 : Queue → Bool
      p1 q = same_queue b q

      p2 : Queue → Bool
      p2 q = same_queue (record { ctx = b.ctx; lane = b.lane; source = None; tag = b.tag }) q

      p3 : Queue → Bool
      p3 q = same_queue (record { ctx = b.ctx; lane = b.lane; source = b.source; tag = None }) q

      p4 : Queue → Bool
      p4 q = same_queue (record { ctx = b.ctx; lane = b.lane; source = None; tag = None }) q

  -- one queue more
  pub sooner_step : (wanted : Queue) (rows : List (Row T)) (p : Queue → Bool) (found : Option Queue) → IsRising rows
      → sooner_in wanted rows (spot p rows) found ≡ spot (λ x. p x || met wanted found x) rows
  sooner_step wanted rows p None rises = spot-same p (λ x. p x || false) rows (each_row _ rows (λ r. grind (arith)))
  sooner_step wanted rows p (Some q) rises = go (takes wanted q) refl
    where
      go : (b : Bool) → takes wanted q ≡ b
          → (if takes wanted q then sooner (spot p rows) (spot (λ x. same_queue q x) rows) else spot p rows) ≡ spot (λ x. p x || (takes wanted q && same_queue q x)) rows
      go true is =
          ap (λ b. if b then sooner (spot p rows) (spot (λ x. same_queue q x) rows) else spot p rows) is
          ∙ sooner-spots p (λ x. same_queue q x) rows rises
          ∙ spot-same (λ x. p x || same_queue q x) (λ x. p x || (takes wanted q && same_queue q x)) rows (each_row _ rows (λ r. grind (arith, is)))
      go false is =
          ap (λ b. if b then sooner (spot p rows) (spot (λ x. same_queue q x) rows) else spot p rows) is
          ∙ spot-same p (λ x. p x || (takes wanted q && same_queue q x)) rows (each_row _ rows (λ r. grind (arith, is)))

  pub spot-none : (rows : List (Row T)) → None ≡ spot (λ _. false) rows
  spot-none [] = refl
  spot-none (r ∷ rs) = spot-none rs

  -- each row's queue has ends
  abbrev pub HasEnds : List (ℕ × Node T) → Row T → Type 0
  HasEnds ns r = (e : Ends) × (ends_in r.queue ns ≡ Some e)

  has_more : (n : ℕ × Node T) (ns : List (ℕ × Node T)) (r : Row T) → HasEnds ns r → HasEnds (n ∷ ns) r
  has_more n ns r has = go (same_queue r.queue n.1.queue) refl
    where
      go : (b : Bool) → same_queue r.queue n.1.queue ≡ b → (e : Ends) × ((if b then begun n.0 (ends_in r.queue ns) else ends_in r.queue ns) ≡ Some e)
      go true same = (record { first = n.0; last = has.0.last }, ap (begun n.0) has.1)
      go false differs = has

  has_first : (n : ℕ × Node T) (ns : List (ℕ × Node T)) → HasEnds (n ∷ ns) (seen n)
  has_first n ns = go (ends_in n.1.queue ns) refl
    where
      same : same_queue n.1.queue n.1.queue ≡ true
      same = let tells = same_queue_tells n.1.queue n.1.queue in grind (arith, tells)

      go : (rest : Option Ends) → ends_in n.1.queue ns ≡ rest → (e : Ends) × ((if same_queue n.1.queue n.1.queue then begun n.0 (ends_in n.1.queue ns) else ends_in n.1.queue ns) ≡ Some e)
      go None is = (record { first = n.0; last = n.0 }, ap (λ b. if b then begun n.0 (ends_in n.1.queue ns) else ends_in n.1.queue ns) same ∙ ap (begun n.0) is)
      go (Some e) is = (record { first = n.0; last = e.last }, ap (λ b. if b then begun n.0 (ends_in n.1.queue ns) else ends_in n.1.queue ns) same ∙ ap (begun n.0) is)

  pub all_have : (ns : List (ℕ × Node T)) → AllOf (HasEnds ns) (map seen ns)
  all_have [] = _
  all_have (n ∷ ns) = (has_first n ns, AllOf-to (HasEnds ns) (HasEnds (n ∷ ns)) (map seen ns) (has_more n ns) (all_have ns))

among-not : (wanted : Queue) (at : ℕ → Option Queue) (n : ℕ) (x : Queue) → takes wanted x ≡ false → among wanted at n x ≡ false
among-not wanted at zero x fails = refl
among-not wanted at (suc n) x fails = ap (λ b. b || met wanted (at n) x) (among-not wanted at n x fails) ∙ here (at n)
  where
    here : (found : Option Queue) → met wanted found x ≡ false
    here None = refl
    here (Some q) = other (same_queue_tells q x)
      where
        other : ((same_queue q x ≡ true) × (q ≡ x)) ⊎ ((same_queue q x ≡ false) × (q ≢ x)) → (takes wanted q && same_queue q x) ≡ false
        other (inl same) = let fails' : takes wanted q ≡ false = ap (takes wanted) same.1 ∙ fails in grind (arith, fails')
        other (inr apart) = grind (arith, apart.0)

among-at : (wanted : Queue) (at : ℕ → Option Queue) (n p : ℕ) (x : Queue) → takes wanted x ≡ true → p < n → at p ≡ Some x → among wanted at n x ≡ true
among-at wanted at zero p x passes below is = absurd (omega (arith, below))
among-at wanted at (suc n) p x passes below is = go (p == n) refl (among-at wanted at n p x passes)
  where
    go : (b : Bool) → (p == n) ≡ b → (p < n → at p ≡ Some x → among wanted at n x ≡ true) → (among wanted at n x || met wanted (at n) x) ≡ true
    go true same later =
        let here : p ≡ n = grind (arith, nat_tests, same) in
        let at_n : at n ≡ Some x = ap at (sym here) ∙ is in
        let tells = same_queue_tells x x in
        let this : met wanted (at n) x ≡ true = ap (λ (f : Option Queue). met wanted f x) at_n ∙ grind (arith, tells, passes) in
        grind (arith, this)
    go false differs later =
        let under : p < n = grind (arith, nat_tests, differs, below) in
        let there = later under is in
        grind (arith, there)

-- a queue stands among those of its context
pub stands_at : (places : List (Place × Queue)) (size c : ℕ) (q : Queue) → q.ctx ≡ c → Stands places size q → (p : ℕ) × (p < size) × (queue_at places c p ≡ Some q)
stands_at places size c q on there = (there.0, there.1, subst (λ k. queue_at places k there.0 ≡ Some q) on there.2)

takes-ctx : (a b : Queue) → takes a b ≡ true → b.ctx ≡ a.ctx
takes-ctx a b passes = grind (arith, nat_tests, passes)

module _ {T : Type 0} where
  -- all queues of the context are looked at
  pub scan_finds : (wanted : Queue) (slots : List (Option (Node T))) (count size : ℕ) (ends : Queue → Option Ends) (at : ℕ → Option Queue) → AreQueued (nodes_in slots count) ends
      → ((q : Queue) → q.ctx ≡ wanted.ctx → IsSome (ends q) → (p : ℕ) × (p < size) × (at p ≡ Some q))
      → spot (λ x. among wanted at size x) (rows_of (nodes_in slots count)) ≡ spot (λ q. takes wanted q) (rows_of (nodes_in slots count))
  unfolding rows_of
  scan_finds wanted slots count size ends at queued stand =
      spot-same (λ x. among wanted at size x) (λ q. takes wanted q) (map seen (nodes_in slots count))
      (AllOf-to (HasEnds (nodes_in slots count)) _ (map seen (nodes_in slots count)) (λ r has. among_is r.queue (subst (λ (e : Option Ends). IsSome e) (sym (queued.at r.queue ∙ has.1)) refl)) (all_have (nodes_in slots count)))
    where
      among_is : (x : Queue) → IsSome (ends x) → among wanted at size x ≡ takes wanted x
      among_is x has = go (takes wanted x) refl
        where
          go : (b : Bool) → takes wanted x ≡ b → among wanted at size x ≡ b
          go true passes =
              let there = stand x (takes-ctx wanted x passes) has in
              among-at wanted at size there.0 x passes there.1 there.2
          go false fails = among-not wanted at size x fails

  -- a queue of a context
  pub on_is : (c : ℕ) (slots : List (Option (Node T))) (count : ℕ) (ends : Queue → Option Ends) (found : Option Queue) → AreQueued (nodes_in slots count) ends
      → (found ≡ None → (q : Queue) → q.ctx ≡ c → ends q ≡ None)
      → ((q : Queue) → found ≡ Some q → (q.ctx ≡ c) × IsSome (ends q))
      → MatchOption found (AllOf (λ (r : Row T). (r.queue.ctx == c) ≡ false) (rows_of (nodes_in slots count))) (λ (q : Queue). ((q.ctx == c) ≡ true) × IsSome (first_of q (rows_of (nodes_in slots count))))
  unfolding rows_of
  on_is c slots count ends None queued none some =
      AllOf-to (HasEnds (nodes_in slots count)) _ (map seen (nodes_in slots count)) (λ r has. off r.queue (sym (queued.at r.queue ∙ has.1)) (r.queue.ctx == c) refl) (all_have (nodes_in slots count))
    where
      off : (x : Queue) {e : Ends} → Some e ≡ ends x → (b : Bool) → (x.ctx == c) ≡ b → (x.ctx == c) ≡ false
      off x has false is = is
      off x has true is =
          let ctx : x.ctx ≡ c = grind (arith, nat_tests, is) in
          absurd (cc (has, none refl x ctx))
  on_is c slots count ends (Some q) queued none some =
      let there = some q refl in
      let ctx = there.0 in
      (grind (arith, nat_tests, ctx), some_first slots ends count q queued there.1)
