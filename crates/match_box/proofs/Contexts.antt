-- What waits on a context.
use Rattle.std.proofs.Common.{◌≡◌, ℕ, ◌+◌, ◌==◌, if◌then◌else◌, Bool, true, false, List, [], ◌∷◌, length, refl, subst, Some, arith}
use Rattle.std.specs.Option.{IsSome}
use Rattle.match_box.specs.declared.queue.Queue.{Queue}
use Rattle.match_box.specs.Rows.{Row, AllOf, same_queue, off, first_of, without_first_of}
use Rattle.match_box.proofs.FilingFacts.{same_queue_tells}

module _ {T : Type 0} where
  -- without a row of the context
  pub off-without : (c : ℕ) (queue : Queue) (rows : List (Row T)) → (queue.ctx == c) ≡ true → off c (without_first_of queue rows) ≡ off c rows
  off-without c queue [] is = refl
  off-without c queue (r ∷ rs) is =
      let later = off-without c queue rs is in
      let tells = same_queue_tells queue r.queue in
      grind (arith, later, tells, is)

  pub less-without : (queue : Queue) (rows : List (Row T)) → IsSome (first_of queue rows) → length (without_first_of queue rows) + 1 ≡ length rows
  less-without queue [] some = absurd (cc (some))
  less-without queue (r ∷ rs) some = go (same_queue queue r.queue) refl (less-without queue rs)
    where
      go : (b : Bool) → same_queue queue r.queue ≡ b → (IsSome (first_of queue rs) → length (without_first_of queue rs) + 1 ≡ length rs)
          → length (if b then rs else r ∷ without_first_of queue rs) + 1 ≡ length (r ∷ rs)
      go true same later = omega arith
      go false differs later =
          let there = later (subst (λ b. IsSome (if b then Some r else first_of queue rs)) differs some) in
          omega (arith, there)

  pub off-all : (c : ℕ) (rows : List (Row T)) → AllOf (λ (r : Row T). (r.queue.ctx == c) ≡ false) rows → off c rows ≡ rows
  off-all c [] all = refl
  off-all c (r ∷ rs) all = let later = off-all c rs all.1 in let here = all.0 in grind (arith, later, here)
