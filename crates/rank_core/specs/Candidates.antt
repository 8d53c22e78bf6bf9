-- The steps that may be the next of a kind, and the least of those that are.
use Rattle.std.specs.Prelude.{◌≡◌, ◌&&◌, Bool, true, false, if◌then◌else◌, List, ◌++◌, map, Option, Some, None}
use Rattle.std.specs.List.{AllByRecursion, range_with_len}
use Rattle.mpi_base.specs.declared.entries.Act.{Act}
use Rattle.mpi_base.specs.declared.entries.Act.TheVariants.{Answer, Offer as MakeOffer, Settle, Leave, Back}
use Rattle.mpi_law.specs.declared.setting.TheConstants.{THREADS}
use Rattle.mpi_protocol.specs.Rank.{Rank}
use Rattle.mpi_protocol.specs.Step.{is_enabled}
use Rattle.rank_core.specs.declared.next.StepKind.{StepKind}
use Rattle.rank_core.specs.declared.next.StepKind.TheVariants as kind
use Rattle.rank_core.specs.Next.{is_of_kind, comes_before, is_above}

-- an answer for each thread, a settle for each key with an offer or a share, an offer for each key that is open, and a leave and
-- a give-back for each communicator
abbrev pub candidates : Rank → StepKind → List Act
candidates x kind.Answer = map (λ t. Answer t) (range_with_len 0 THREADS)
candidates x kind.Settle = map (λ o. Settle o.key) x.agree.gathered ++ map (λ s. Settle s.key) x.agree.shares
candidates x kind.Offer = map (λ o. MakeOffer o.key) x.agree.opened
candidates x kind.Leave = map (λ m. Leave m.ctx) x.comms.rows
candidates x kind.Back = map (λ m. Back m.ctx) x.comms.rows

-- a step counts where it comes after one that may be there, and may be made
abbrev pub counts : Rank → Option Act → Act → Bool
counts x after a = is_above after a && is_enabled x a

-- the lesser of two steps, the second of which may be missing
abbrev pub lesser : Act → Option Act → Option Act
lesser a None = Some a
lesser a (Some b) = if comes_before a b then Some a else Some b

-- a step is the least of those in a list that count; none where none counts
abbrev pub IsLeast : Rank → StepKind → Option Act → List Act → Option Act → Type 0
IsLeast x wanted after acts None = AllByRecursion (λ a. counts x after a ≡ false) acts
IsLeast x wanted after acts (Some l) =
    (is_of_kind wanted l ≡ true) × (counts x after l ≡ true) × AllByRecursion (λ a. counts x after a ≡ true → comes_before a l ≡ false) acts
