-- What each rank's own state keeps, in the words of the laws.
use Rattle.std.proofs.Common.{◌≡◌, ℕ, zero, suc, Bool, true, false, List, [], ◌∷◌, get_or, Option, Some, None, refl, subst, ap, ◌∙◌, arith}
use Rattle.std.proofs.lemmas.Bool.Decides.{nat_tests}
use Rattle.mpi_base.specs.declared.keys.Key.{Key}
use Rattle.mpi_base.specs.Keys.{same_key}
use Rattle.mpi_base.proofs.KeyFacts.{same_key_is}
use Rattle.mpi_law.specs.declared.setting.Setting.{Setting}
use Rattle.agree_law.specs.World.{Event}
use Rattle.comm_law.specs.declared.rows.CommRow.{CommRow}
use Rattle.comm_law.specs.Comms.{row_at}
use Rattle.mpi_protocol.specs.declared.rows.Waits.{Waits}
use Rattle.mpi_protocol.specs.declared.rows.Waits.TheVariants.{Nothing, Creation, Uncoloured, Freeing, Ending, Receiving, Awaiting}
use Rattle.mpi_protocol.specs.declared.rows.ThreadRow.{ThreadRow}
use Rattle.mpi_protocol.specs.Rank.{idle_thread}
use Rattle.mpi_protocol.specs.World.{World, rank_at}
use Rattle.projection_law.specs.Facts.{OpensAreWaitedFor, IsCounted, OpensAreCounted, CommsFit}
use Rattle.projection_law.proofs.Rows.{RowFits, found_fits, row_has}
use Rattle.projection_law.proofs.Threads.{is_for, is_waited, waited_stands}
use Rattle.projection_law.proofs.SoundRuns.{Follows}

-- the creation that a thread waits for
record Waiting (threads : List ThreadRow) (key : Key) : Type 0 where
  pub thread : ℕ
  pub target : List ℕ
  pub session : ℕ
  pub waits : (get_or threads thread idle_thread).waits ≡ Creation key target session

waiting : (threads : List ThreadRow) (key : Key) → is_waited threads key ≡ true → Waiting threads key
waiting [] key e = absurd (cc (e))
waiting (x ∷ xs) key e = go x.waits refl (waiting xs key)
  where
    later : is_for key x.waits ≡ false → (is_waited xs key ≡ true → Waiting xs key) → Waiting (x ∷ xs) key
    later f ih = let i = ih (grind (arith, e, f)) in record { thread = suc i.thread; target = i.target; session = i.session; waits = i.waits }

    go : (z : Waits) → x.waits ≡ z → (is_waited xs key ≡ true → Waiting xs key) → Waiting (x ∷ xs) key
    go Nothing u ih = later (rw u refl) ih
    go (Creation k target session) u ih = by (same_key k key) refl
      where
        by : (b : Bool) → same_key k key ≡ b → Waiting (x ∷ xs) key
        by true t = record { thread = zero; target = target; session = session; waits = u ∙ ap (λ z. Creation z target session) (same_key_is k key t) }
        by false t = later (rw u t) ih
    go (Uncoloured k target session) u ih = later (rw u refl) ih
    go (Freeing serial) u ih = later (rw u refl) ih
    go (Ending session) u ih = later (rw u refl) ih
    go (Receiving n) u ih = later (rw u refl) ih
    go (Awaiting name) u ih = later (rw u refl) ih

module _ (s : Setting) (w : World) (es : List Event) (h : Follows s w es) where
  pub opens_are_waited_for : OpensAreWaitedFor w
  opens_are_waited_for r key stage lt e =
      let i = waiting (rank_at w r).threads key ((h.sound r lt).waited key (rw e refl)) in
      record { thread = i.thread; target = i.target; session = i.session; waits = i.waits }

  pub opens_are_counted : OpensAreCounted w
  opens_are_counted r key stage lt e counted = go (row_at (rank_at w r).comms key.parent) refl
    where
      has : row_has key.number (row_at (rank_at w r).comms key.parent) ≡ true
      has = (let t = waited_stands (rank_at w r).comms (rank_at w r).threads key ((h.sound r lt).waited key (rw e refl)) (h.sound r lt).standing in grind (arith, t, counted))

      go : (o : Option CommRow) → row_at (rank_at w r).comms key.parent ≡ o → IsCounted w r key
      go None u = absurd (let f : row_has key.number None ≡ true = subst (λ o. row_has key.number o ≡ true) u has in cc (f))
      go (Some m) u =
          let f : row_has key.number (Some m) ≡ true = subst (λ o. row_has key.number o ≡ true) u has in
          record { row = m; there = u; calls = grind (arith, nat_tests, f); stays = grind (arith, f) }

  pub comms_fit : CommsFit s w
  comms_fit r c row lt e =
      let f = found_fits (RowFits s.ranks s.contexts r) (rank_at w r).comms.rows c row (h.sound r lt).rows e in
      let m = f.0 in
      let at = f.1 in
      let above = m.above in
      let below = m.below in
      record { context = at; some = omega (arith, above, at); few = omega (arith, below, at); ranks = m.ranks; member = m.here }
