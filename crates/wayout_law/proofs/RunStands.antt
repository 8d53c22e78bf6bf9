-- What the way out asks of a world stands in each world of a protocol run: the agreement of the world is that of an agreement run,
-- and each rank has what its own state keeps.
use Rattle.std.proofs.Common.{◌≡◌, ◌<◌, ℕ, true, List, length, sym, subst, arith}
use Rattle.mpi_base.specs.declared.keys.Key.{Key}
use Rattle.mpi_law.specs.declared.setting.Setting.{Setting}
use Rattle.agree_law.specs.Part.{Agree}
use Rattle.agree_law.specs.Kinds.{is_share}
use Rattle.agree_law.specs.Shares.{may_settle_share}
use Rattle.agree_law.specs.Moves.{may_settle}
use Rattle.agree_law.specs.World as agreement
use Rattle.agree_law.specs.World.{Event, run}
use Rattle.mpi_protocol.specs.World.{World, rank_at}
use Rattle.mpi_protocol.specs.Projection.{IsAgreementOf}
use Rattle.projection_law.proofs.Projected.{agreement_is}
use Rattle.projection_law.proofs.Exchanged.{settled_is_taken}
use Rattle.projection_law.proofs.Runs.{ruled}
use Rattle.projection_law.proofs.Laws.{packets_are_taken_there}
use Rattle.projection_law.proofs.SoundRuns.{Follows}
use Rattle.wayout_law.proofs.Bound.{AreWaited}
use Rattle.wayout_law.proofs.Rows.{OneEach}
use Rattle.wayout_law.proofs.OneRowSteps.{one_row_always}
use Rattle.wayout_law.proofs.Leaves.{FewOthers}
use Rattle.wayout_law.proofs.Members.{few_others}
use Rattle.wayout_law.proofs.Waiters.{enough_wait, all_wait}
use Rattle.wayout_law.proofs.Decisions.{SharesAreTaken}
use Rattle.wayout_law.proofs.Agreements.{agreement-part}
use Rattle.wayout_law.proofs.Stands.{Stands}

-- an exchange that may be settled has the shares of all members
share_settles : (r : ℕ) (a : Agree) (key : Key) → is_share key.kind ≡ true → may_settle r a key ≡ true → may_settle_share r a key ≡ true
unfolding may_settle
share_settles r a key share may = grind (arith, share, may)

module _ (s : Setting) (w : World) (es : List Event) (h : Follows s w es) where
  is_agreed : IsAgreementOf w (run s.contexts es (agreement.opening s.ranks s.contexts))
  is_agreed = agreement_is w (run s.contexts es (agreement.opening s.ranks s.contexts)) h.projected.projects

  row_each : (r : ℕ) → OneEach (rank_at w r).agree.opened
  row_each r = subst (λ (a : Agree). OneEach a.opened) (agreement-part w (run s.contexts es (agreement.opening s.ranks s.contexts)) is_agreed r) (one_row_always s.ranks s.contexts es r)

  others_few : (r : ℕ) → r < length w.ranks → FewOthers (length w.ranks) (rank_at w r).rank (rank_at w r).comms.rows
  others_few r lt =
      let count = h.projected.count in
      subst (λ n. FewOthers n (rank_at w r).rank (rank_at w r).comms.rows) (sym count) (subst (λ z. FewOthers s.ranks z (rank_at w r).comms.rows) (sym (h.projected.numbers r lt)) (few_others s.ranks s.contexts r (rank_at w r).comms.rows (h.sound r lt).rows))

  shares_taken : (r : ℕ) (key : Key) → may_settle r (rank_at w r).agree key ≡ true → SharesAreTaken r (rank_at w r).agree key
  shares_taken r key may share =
      let a = run s.contexts es (agreement.opening s.ranks s.contexts) in
      let here = agreement-part w a is_agreed r in
      subst (λ (b : Agree). is_share key.kind ≡ true → may_settle_share r b key ≡ true → SharesAreTaken r b key) here (λ p m q. settled_is_taken s.contexts a r key (ruled s es) m) share (share_settles r (rank_at w r).agree key share may) share

  pub run-stands : Stands s.contexts w
  run-stands = record {
    agreed = run s.contexts es (agreement.opening s.ranks s.contexts);
    is_agreed = is_agreed;
    kept = (ruled s es).holds.kept;
    exchanges = (ruled s es).exchanges;
    number = h.projected.numbers;
    threads = λ r lt. (h.sound r lt).long;
    rows = row_each;
    others = others_few;
    shares = λ r key lt may. shares_taken r key may;
    taken = λ from r p lf lt e. packets_are_taken_there s w es h.projected r from p lt lf e;
  }

  -- no rank has more open creations than threads that wait
  pub run-waited : AreWaited w.ranks
  run-waited = all_wait w.ranks (λ r lt. enough_wait (rank_at w r).agree.opened (rank_at w r).threads (row_each r) (h.sound r lt).waited)
