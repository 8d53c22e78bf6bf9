-- One event of the agreement against one move of a rank.
use Rattle.std.proofs.Common.{◌≡◌, ◌<◌, ℕ, true, length, sym, subst, ◌∙◌, arith}
use Rattle.agree_law.specs.Packets as agree
use Rattle.agree_law.specs.World as agreement
use Rattle.agree_law.specs.World.{Event, part_at, may_happen, happens, happened, run, is_done, rank_of}
use Rattle.agree_law.proofs.Lists.{AllOf}
use Rattle.agree_law.proofs.Kept.{Kept}
use Rattle.mpi_protocol.specs.Packets.{agreeing}
use Rattle.mpi_protocol.specs.Rank.{Rank}
use Rattle.mpi_protocol.specs.World.{World}
use Rattle.projection_law.proofs.Projected.{Projects, same_size}
use Rattle.projection_law.proofs.Targets.{GoesBelow}
use Rattle.projection_law.proofs.Moved.{Ruled, ruled-happens, happens_so, sent_below, after_put, moved_projects}

-- an event of a rank is a move at it; the packet that it takes is off the links already
pub record IsMove (top : ℕ) (a b : agreement.World) (r : ℕ) (e : Event) (t : agree.Moved) : Type 0 where
  pub may : may_happen top a e ≡ true
  pub does : happened top a e ≡ agreement.moved b r t
  pub goes : AllOf (GoesBelow (length b.parts)) t.sent

module _ (top : ℕ) (w : World) (a b : agreement.World) (r : ℕ) (e : Event) (t : agree.Moved) (p : Projects w b) (h : Ruled top a) (lt : r < length w.ranks) (m : IsMove top a b r e t) where
  pub one_moved : happens top a e ≡ agreement.moved b r t
  one_moved = happens_so top a e m.may ∙ m.does

  pub one_below : AllOf (λ s. s.to < length b.parts) t.sent
  one_below =
      let n = same_size w b p in
      sent_below top b r t (omega (arith, n, lt)) (subst (Kept top) one_moved (ruled-happens top a e h).holds.kept) m.goes

  pub one_event : (y : Rank) → y.agree ≡ t.part → Projects (after_put w r y (agreeing t.sent)) (happens top a e)
  one_event y is = subst (Projects (after_put w r y (agreeing t.sent))) (sym one_moved) (moved_projects w b r y t p lt is one_below)
