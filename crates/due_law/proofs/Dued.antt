-- What is kept of what is due: on each edge of a key's tree a verdict on its way brings what is due below and finds nothing due above,
-- and where none is on its way the same is due at both ends.
use Rattle.std.proofs.Common.{◌≡◌, ◌<◌, ℕ, true, false, List, length, get_or, Option, Some, None}
use Rattle.mpi_base.specs.declared.keys.Key.{Key}
use Rattle.agree_law.specs.declared.rows.Verdict.{Verdict}
use Rattle.agree_law.specs.declared.rows.Verdict.TheVariants.{Context}
use Rattle.agree_law.specs.Tree.{member_at, parent_of}
use Rattle.agree_law.specs.Part.{Agree}
use Rattle.agree_law.specs.Packets.{Packet, Up, Down, Share, Shares}
use Rattle.agree_law.specs.Rule.{is_key}
use Rattle.agree_law.specs.World.{Flight, World, part_at}
use Rattle.agree_law.proofs.Lists.{AllOf, tally}
use Rattle.agree_law.proofs.Kept.{is_good}
use Rattle.due_law.specs.Dues.{Dues, final_of}
use Rattle.due_law.proofs.Downs.{is_down_to}

-- a verdict on its way brings what is due to its receiver, and its sender has taken it
abbrev pub Brings : Dues → ℕ → ℕ → Packet → Type 0
Brings due from to (Up key i own mask) = Unit {0}
Brings due from to (Down key i v) = (due to key ≡ final_of v) × (due from key ≡ None)
Brings due from to (Share key s) = Unit {0}
Brings due from to (Shares key list) = Unit {0}

abbrev pub BringsAt : Dues → Flight → Type 0
BringsAt due f = Brings due f.from f.to f.packet

-- a rank to which a verdict is due keeps its mask for the key
pub record Keeps (a : Agree) (key : Key) (v : Verdict) : Type 0 where
  pub final : final_of v ≡ Some v
  pub owns : is_key a.owner key ≡ true
  pub free : (c : ℕ) → v ≡ Context c → get_or a.mask c false ≡ true

-- what is due to the member at a place of the key
abbrev pub due_at : Dues → Key → ℕ → Option Verdict
due_at due key q = due (member_at key.members q) key

-- how many verdicts are on their way to the member at a place
abbrev pub downs_at : List Flight → Key → ℕ → ℕ
downs_at links key q = tally (is_down_to key (member_at key.members q)) links

pub record Dued (w : World) (due : Dues) : Type 0 where
  pub flown : AllOf (BringsAt due) w.links
  pub level : (key : Key) (q : ℕ) → is_good (length w.parts) key ≡ true → 0 < q → q < length key.members → downs_at w.links key q ≡ 0 → due_at due key q ≡ due_at due key (parent_of q)
  pub first : (key : Key) → is_good (length w.parts) key ≡ true → 0 < length key.members → due_at due key 0 ≡ None
  pub held : (r : ℕ) (key : Key) (v : Verdict) → due r key ≡ Some v → Keeps (part_at w r) key v
