-- What the drain's searches find.
use Rattle.std.specs.Prelude.{◌≡◌, ℕ, ◌<◌, ◌&&◌, ◌||◌, Bool, true, false, if◌then◌else◌, Option, Some, None, IfSome, nat_le}
use Rattle.mpi_base.specs.declared.keys.Key.{Key}
use Rattle.mpi_base.specs.Keys.{same_key, key_before}
use Rattle.mpi_base.specs.declared.entries.Act.TheVariants.{Offer as MakeOffer}
use Rattle.mpi_base.specs.declared.entries.Choice.{Choice}
use Rattle.mpi_law.specs.ScriptLists.{AllScripts}
use Rattle.mpi_protocol.specs.Order.{IsOpenTo, is_call, is_no_later, kind_of, offered_anywhere}
use Rattle.mpi_protocol.specs.Step.{is_enabled}
use Rattle.mpi_protocol.specs.World.{World, rank_at, may_happen}
use Rattle.rank_core.specs.declared.next.StepKind.{StepKind}
use Rattle.rank_core.specs.declared.next.StepKind.TheVariants as kind

-- a choice of this kind may be made
pub record IsOfKind (w : World) (n : ℕ) (c : Choice) : Type 0 where
  pub enabled : may_happen w c ≡ true
  pub kind : kind_of w c.act ≡ n

-- a call of the next operation of its script may be made
pub record IsCallOf (w : World) (scripts : AllScripts) (c : Choice) : Type 0 where
  pub may : IsOpenTo w scripts c
  pub call : is_call c.act ≡ true

-- the first of some choices in the drain's order
pub record IsFirstOf (w : World) (Some_choices : Choice → Type 0) (c : Choice) : Type 0 where
  pub one : Some_choices c
  pub least : (d : Choice) → Some_choices d → is_no_later w c d ≡ true

-- there are none of them
abbrev pub NoneOf : (Choice → Type 0) → Type 0
NoneOf Some_choices = (c : Choice) → Some_choices c → ⊥

-- the number of a kind of step in the order; an offer is of one kind or of another
abbrev pub number_of : StepKind → ℕ
number_of kind.Answer = 2
number_of kind.Settle = 3
number_of kind.Offer = 0
number_of kind.Leave = 6
number_of kind.Back = 7

-- the number of the offers for a key that some rank has offered, and of the others
abbrev pub number_of_offer : Bool → ℕ
number_of_offer true = 4
number_of_offer false = 5

-- the offer of a key is due at a rank, and some rank has offered the key, or none
pub record IsDueOffer (w : World) (b : Bool) (r : ℕ) (key : Key) : Type 0 where
  pub enabled : is_enabled (rank_at w r) (MakeOffer key) ≡ true
  pub offered : offered_anywhere w key ≡ b

-- of an offer that may be there and one of no earlier rank, the first by key and rank
abbrev pub lesser : Option (Key × ℕ) → Key → ℕ → Option (Key × ℕ)
lesser None key r = Some (key, r)
lesser (Some p) key r = if key_before key p.0 then Some (key, r) else Some p

-- there is an offer, and it comes no later than another one by key and rank
abbrev pub covers : Option (Key × ℕ) → Key → ℕ → Bool
covers None key r = false
covers (Some p) key r = key_before p.0 key || (same_key p.0 key && nat_le p.1 r)

-- the first by key and rank of the due offers at the ranks before this one
pub record IsLeast (w : World) (b : Bool) (n : ℕ) (o : Option (Key × ℕ)) : Type 0 where
  pub due : IfSome o (λ p. (p.1 < n) × IsDueOffer w b p.1 p.0)
  pub least : (r : ℕ) (key : Key) → r < n → IsDueOffer w b r key → covers o key r ≡ true
