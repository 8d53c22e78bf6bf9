-- What holds of each rank alone, along a world: at the opening, and after a step of one rank.
use Rattle.std.proofs.Common.{◌≡◌, ◌<◌, ℕ, true, List, length, set, Option, arith}
use Rattle.mpi_base.specs.declared.entries.Act.{Act}
use Rattle.mpi_law.specs.declared.setting.Setting.{Setting}
use Rattle.mpi_law.specs.Registry.State.{Registry}
use Rattle.mpi_protocol.specs.Packets.{Packet}
use Rattle.mpi_protocol.specs.Rank.{Rank}
use Rattle.mpi_protocol.specs.Step.{step, is_enabled}
use Rattle.mpi_protocol.specs.World.{opening}
use Rattle.due_law.specs.Dues.{Dues}
use Rattle.run_law.proofs.Joined.{rank_in, Joined}
use Rattle.run_law.proofs.OneRank.{each_rank}
use Rattle.run_law.proofs.Opening.{each_fresh}
use Rattle.run_law.proofs.Endings.{Endings}
use Rattle.run_law.proofs.EndingSteps.{endings_fresh, endings_step}
use Rattle.run_law.proofs.Leavings.{Leavings, leavings_fresh, leavings_step}
use Rattle.run_law.proofs.LeftHere.{named_kept}
use Rattle.run_law.proofs.Backs.{AllLeavings}

abbrev pub AllEndings : List Rank → Type 0
AllEndings ranks = (q : ℕ) → Endings (rank_in ranks q).local (rank_in ranks q).threads

pub record Owned (ranks : List Rank) : Type 0 where
  pub endings : AllEndings ranks
  pub leavings : AllLeavings ranks

pub owned_opening : (s : Setting) → Owned (opening s).ranks
owned_opening s = record {
  endings = each_fresh s (λ x. Endings x.local x.threads) endings_fresh;
  leavings = each_fresh s (λ x. Leavings x.comms.rows x.threads) leavings_fresh;
}

-- a step of a rank that belongs to the registry with the others
pub owned_step : (s : Setting) (ranks : List Rank) (due : Dues) (g : Registry) (r : ℕ) (act : Act) (p : Option Packet) → Joined s ranks due g → r < s.ranks → is_enabled (rank_in ranks r) act ≡ true → Owned ranks → Owned (set ranks r (step (rank_in ranks r) act p).state)
owned_step s ranks due g r act p j lt can o =
    let inside : r < length ranks = (let e = j.sizes.ranks_are in omega (arith, e, lt)) in
    record {
      endings = each_rank (λ q x. Endings x.local x.threads) ranks r (step (rank_in ranks r) act p).state inside (endings_step (rank_in ranks r) (o.endings r) act p can) (λ q ne. o.endings q);
      leavings = each_rank (λ q x. Leavings x.comms.rows x.threads) ranks r (step (rank_in ranks r) act p).state inside (leavings_step (rank_in ranks r) (o.leavings r) (named_kept s ranks due g j r) act p can) (λ q ne. o.leavings q);
    }
