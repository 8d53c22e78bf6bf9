-- The packets of the agreement, and what a move leaves.
use Rattle.std.specs.Prelude.{ℕ, Bool, List, []}
use Rattle.mpi_base.specs.declared.keys.Key.{Key}
use Rattle.mpi_base.specs.declared.shares.Shared1.{Shared1}
use Rattle.agree_law.specs.declared.rows.Verdict.{Verdict}
use Rattle.agree_law.specs.Part.{Agree}

-- what a rank sends to another
pub data Packet : Type 0 where
  -- what a subtree offers in a round: whether every member owns, and the and of their masks
  Up : Key → ℕ → Bool → List Bool → Packet
  -- what the first member says of a round, handed down the tree
  Down : Key → ℕ → Verdict → Packet
  -- a member's share of a split, and all members' shares in order of place
  Share : Key → Shared1 → Packet
  Shares : Key → List Shared1 → Packet

-- a packet with its receiver
pub record Sent : Type 0 where
  pub to : ℕ
  pub packet : Packet

-- the part after a move, and what is sent, in order
pub record Moved : Type 0 where
  pub part : Agree
  pub sent : List Sent

-- nothing changes
abbrev pub stays : Agree → Moved
stays a = record { part = a; sent = [] }
