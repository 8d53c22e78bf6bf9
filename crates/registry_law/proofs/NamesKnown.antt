-- What projection_law asks of a caller: each communicator that a name is bound to is known to the rank, and not left.
use Rattle.std.proofs.Common.{◌≡◌, ℕ, true, Option, Some, ap, ◌∙◌, subst, arith}
use Rattle.local_law.specs.Names.{bound_of}
use Rattle.local_law.specs.Objects as bound
use Rattle.mpi_base.specs.declared.entries.Act.{Act}
use Rattle.mpi_base.specs.declared.entries.Act.TheVariants.{Call, Answer, Deliver, Offer as MakeOffer, Settle, Leave, Back}
use Rattle.mpi_law.specs.declared.setting.Setting.{Setting}
use Rattle.mpi_law.specs.Local.Objects.{Bound}
use Rattle.mpi_law.specs.Registry.State.{Registry, part_of}
use Rattle.comm_law.specs.Comms.{row_at}
use Rattle.mpi_protocol.specs.Rank.{Rank}
use Rattle.mpi_protocol.specs.World.{World, rank_at}
use Rattle.projection_law.specs.KnownNames.{is_known, NamesAreKnown, NamesAreKnownFor}
use Rattle.due_law.specs.Dues.{Dues}
use Rattle.run_law.proofs.Locals.{BoundFits}
use Rattle.run_law.proofs.Comms.{is_live}
use Rattle.run_law.proofs.Joined.{Joined}
use Rattle.run_law.proofs.Bindings.{BothBound, neither, both, bound-fits}
use Rattle.run_law.proofs.KnownHere.{known_here}
use Rattle.run_law.proofs.LeftHere.{live_stays}

module _ (s : Setting) (w : World) (due : Dues) (g : Registry) (j : Joined s w.ranks due g) (r : ℕ) where
  abbrev x : Rank
  x = rank_at w r

  pub names_known : NamesAreKnown x
  names_known name c session e = go (bound_of x.local.names name) e (bound-fits g.comms x.comms.rows r x.local.names (part_of g r).local.names name (j.locals r).names)
    where
      at : (b : Bound) → BoundFits g.comms x.comms.rows r (bound.Comm c session) b → is_known (row_at x.comms c) ≡ true
      at (bound.Comm p q) h =
          let k = known_here s w.ranks due g r j c session p q h in
          let stage = k.fits.stage in
          let kept = h.kept in
          let live : is_live k.row.stage ≡ true = grind (arith, stage, kept) in
          let stays = live_stays k.row.stage live in
          ap is_known k.is ∙ grind (arith, stays)
      at bound.Reserved h = absurd h
      at (bound.Session q) h = absurd h
      at (bound.Group ms q) h = absurd h
      at (bound.Request n) h = absurd h

      go : (a : Option Bound) → a ≡ Some (bound.Comm c session) → {b : Option Bound} → BothBound g.comms x.comms.rows r a b → is_known (row_at x.comms c) ≡ true
      go _ e (neither) = absurd (cc (e))
      go _ e (both a b h) = let is : a ≡ bound.Comm c session = cc (e) in at b (subst (λ (z : Bound). BoundFits g.comms x.comms.rows r z b) is h)

  pub names_known_for : (act : Act) → NamesAreKnownFor x act
  names_known_for (Call t op) = names_known
  names_known_for (Answer t) = tt
  names_known_for (Deliver from) = tt
  names_known_for (MakeOffer key) = tt
  names_known_for (Settle key) = tt
  names_known_for (Leave c) = tt
  names_known_for (Back c) = tt
