-- What the acts of a run of the ranks ask of the agreement, each of one step, in the words of the ranks and of what is due.
use Rattle.std.specs.Prelude.{◌≡◌, ◌<◌, ◌≤◌, ℕ, Bool, true, false, List, get_or, Option, Some, None}
use Rattle.mpi_base.specs.declared.keys.Key.{Key}
use Rattle.mpi_base.specs.MemberLists.{has_rank}
use Rattle.mpi_law.specs.declared.setting.Setting.{Setting}
use Rattle.mpi_law.specs.Registry.Contexts.{is_exchange}
use Rattle.agree_law.specs.declared.rows.Stage.TheVariants.{Called, Waiting, Offered}
use Rattle.agree_law.specs.declared.rows.Verdict.{Verdict}
use Rattle.agree_law.specs.declared.rows.Verdict.TheVariants.{Ready, Retry, Context, Exhausted}
use Rattle.agree_law.specs.Part.{stage_of}
use Rattle.agree_law.specs.Rule.{is_key}
use Rattle.mpi_protocol.specs.Rank.{Rank}
use Rattle.mpi_protocol.specs.World.{blank}
use Rattle.due_law.specs.Dues.{Dues}

abbrev pub rank_in : List Rank → ℕ → Rank
rank_in ranks r = get_or ranks r blank

-- at a settle that decides a key, each member has offered its mask, which the key owns, and nothing
-- is due to it under the key
pub record HasOffered (x : Rank) (due : Option Verdict) (key : Key) : Type 0 where
  pub round : ℕ
  pub stage : stage_of x.agree.opened key ≡ Some (Offered round true)
  pub owns : is_key x.agree.owner key ≡ true
  pub none : due ≡ None

pub record AllOffered (s : Setting) (ranks : List Rank) (due : Dues) (key : Key) : Type 0 where
  pub proper : is_exchange key.kind ≡ false
  pub inside : (q : ℕ) → has_rank key.members q ≡ true → q < s.ranks
  pub each : (q : ℕ) → has_rank key.members q ≡ true → HasOffered (rank_in ranks q) (due q key) key

-- a context that is picked is free in each member's mask; where exhausted is said, some member's
-- mask lacks each
abbrev pub IsFreeInMasks : List Rank → Key → ℕ → Type 0
IsFreeInMasks ranks key c = (q : ℕ) → has_rank key.members q ≡ true → get_or (rank_in ranks q).agree.mask c false ≡ true

pub record Lacking (ranks : List Rank) (key : Key) (c : ℕ) : Type 0 where
  pub rank : ℕ
  pub member : has_rank key.members rank ≡ true
  pub lacks : get_or (rank_in ranks rank).agree.mask c false ≡ false

-- a rank takes a final verdict for a key that it has offered its mask for, and which owns it, and
-- the verdict is the one that is due
pub record TakesFinal (x : Rank) (due : Option Verdict) (key : Key) (v : Verdict) : Type 0 where
  pub round : ℕ
  pub stage : stage_of x.agree.opened key ≡ Some (Offered round true)
  pub owns : is_key x.agree.owner key ≡ true
  pub said : due ≡ Some v

-- nothing is due under a key that is not open
abbrev pub Untold : List Rank → Dues → Type 0
Untold ranks due = (r : ℕ) (key : Key) → stage_of (rank_in ranks r).agree.opened key ≡ None → due r key ≡ None

-- a context that is due is free in the mask until it is taken
abbrev pub DueIsFree : List Rank → Dues → Type 0
DueIsFree ranks due = (r : ℕ) (key : Key) (c : ℕ) → due r key ≡ Some (Context c) → get_or (rank_in ranks r).agree.mask c false ≡ true

-- What an offer and a verdict find

-- an offer is made where the creation waits for it, and nothing is due
pub record HasWaited (x : Rank) (due : Option Verdict) (key : Key) : Type 0 where
  pub round : ℕ
  pub stage : stage_of x.agree.opened key ≡ Some (Waiting round)
  pub none : due ≡ None

-- ready is said, and taken, where the creation is called and nothing is due
pub record HasCalled (x : Rank) (due : Option Verdict) (key : Key) : Type 0 where
  pub stage : stage_of x.agree.opened key ≡ Some Called
  pub none : due ≡ None

-- retry is said, and taken, where an offer is made and nothing is due
pub record HasTried (x : Rank) (due : Option Verdict) (key : Key) : Type 0 where
  pub round : ℕ
  pub own : Bool
  pub stage : stage_of x.agree.opened key ≡ Some (Offered round own)
  pub none : due ≡ None

-- a context is said where all have offered and it is free in each mask
pub record PicksContext (s : Setting) (ranks : List Rank) (due : Dues) (key : Key) (c : ℕ) : Type 0 where
  pub offered : AllOffered s ranks due key
  pub free : IsFreeInMasks ranks key c

-- exhausted is said where all have offered and no context is free in each mask
pub record PicksNone (s : Setting) (ranks : List Rank) (due : Dues) (key : Key) : Type 0 where
  pub offered : AllOffered s ranks due key
  pub lacking : (c : ℕ) → 1 ≤ c → c ≤ s.contexts → Lacking ranks key c

-- what the first member finds that says a verdict
abbrev pub SaysFinds : Setting → List Rank → Dues → ℕ → Key → Verdict → Type 0
SaysFinds s ranks due r key Ready = HasCalled (rank_in ranks r) (due r key) key
SaysFinds s ranks due r key Retry = HasTried (rank_in ranks r) (due r key) key
SaysFinds s ranks due r key (Context c) = PicksContext s ranks due key c
SaysFinds s ranks due r key Exhausted = PicksNone s ranks due key

-- what a member finds that takes a verdict
abbrev pub TakesFinds : Rank → Option Verdict → Key → Verdict → Type 0
TakesFinds x due key Ready = HasCalled x due key
TakesFinds x due key Retry = HasTried x due key
TakesFinds x due key (Context c) = TakesFinal x due key (Context c)
TakesFinds x due key Exhausted = TakesFinal x due key Exhausted
