-- The drain's order of choices, and when nothing is left to do. The order is this project's own.
use Rattle.std.specs.Prelude.{◌≡◌, ℕ, ◌<◌, ◌==◌, ◌&&◌, ◌||◌, Bool, true, false, if◌then◌else◌, List, [], ◌∷◌, length, Option, Some, None, nat_lt, nat_le}
use Rattle.std.specs.List.{list_any}
use Rattle.mpi_base.specs.declared.keys.Key.{Key}
use Rattle.mpi_base.specs.declared.keys.Kind.TheVariants as kind
use Rattle.mpi_base.specs.Keys.{same_key, key_before}
use Rattle.mpi_base.specs.declared.entries.Act.{Act}
use Rattle.mpi_base.specs.declared.entries.Act.TheVariants.{Call, Answer, Deliver, Offer as MakeOffer, Settle, Leave, Back}
use Rattle.mpi_base.specs.declared.entries.Choice.{Choice}
use Rattle.mpi_base.specs.declared.entries.Entry.{Entry}
use Rattle.mpi_law.specs.declared.setting.TheConstants.{THREADS}
use Rattle.mpi_law.specs.ScriptLists.{AllScripts, next_op}
use Rattle.agree_law.specs.declared.rows.Stage.{Stage}
use Rattle.agree_law.specs.declared.rows.Stage.TheVariants.{Sharing, Called, Waiting, Offered, Done}
use Rattle.agree_law.specs.Part.{stage_of}
use Rattle.mpi_protocol.specs.Rank.{Rank, thread_at, is_idle}
use Rattle.mpi_protocol.specs.World.{World, rank_at, may_happen, moved}

abbrev pub is_offered : Option Stage → Bool
is_offered None = false
is_offered (Some (Sharing s)) = false
is_offered (Some Called) = false
is_offered (Some (Waiting i)) = false
is_offered (Some (Offered i own)) = true
is_offered (Some (Done o)) = false

-- some rank has made its offer of the key's round
abbrev pub offered_anywhere : World → Key → Bool
offered_anywhere w key = list_any (λ x. is_offered (stage_of x.agree.opened key)) w.ranks

-- deliveries first, then answers, settles, offers of a key that some rank has offered, other offers, leaves, give-backs, and calls
abbrev pub kind_of : World → Act → ℕ
kind_of w (Deliver from) = 1
kind_of w (Answer t) = 2
kind_of w (Settle key) = 3
kind_of w (MakeOffer key) = if offered_anywhere w key then 4 else 5
kind_of w (Leave c) = 6
kind_of w (Back c) = 7
kind_of w (Call t op) = 8

-- where an act of a rank stands in the order: its kind, then two numbers with a key between them
pub record Spot : Type 0 where
  pub kind : ℕ
  pub first : ℕ
  pub key : Key
  pub second : ℕ

-- stands for a key where an act has none
abbrev pub no_key : Key
no_key = record { parent = 0; kind = kind.From; number = 0; tag = []; members = [] }

-- within a kind: by sender and receiver, by rank and thread, by rank and key, by key and rank, or by rank and context
abbrev pub spot_of : World → ℕ → Act → Spot
spot_of w r (Deliver from) = record { kind = kind_of w (Deliver from); first = from; key = no_key; second = r }
spot_of w r (Answer t) = record { kind = kind_of w (Answer t); first = r; key = no_key; second = t }
spot_of w r (Settle k) = record { kind = kind_of w (Settle k); first = r; key = k; second = 0 }
spot_of w r (MakeOffer k) = record { kind = kind_of w (MakeOffer k); first = 0; key = k; second = r }
spot_of w r (Leave c) = record { kind = kind_of w (Leave c); first = r; key = no_key; second = c }
spot_of w r (Back c) = record { kind = kind_of w (Back c); first = r; key = no_key; second = c }
spot_of w r (Call t op) = record { kind = kind_of w (Call t op); first = r; key = no_key; second = t }

abbrev pub is_spot_le : Spot → Spot → Bool
is_spot_le a b =
    nat_lt a.kind b.kind || ((a.kind == b.kind)
    && (nat_lt a.first b.first || ((a.first == b.first)
    && (key_before a.key b.key || (same_key a.key b.key && nat_le a.second b.second)))))

-- a choice comes no later than another
abbrev pub is_no_later : World → Choice → Choice → Bool
is_no_later w c d = is_spot_le (spot_of w c.rank c.act) (spot_of w d.rank d.act)

-- a call is the next of its script
abbrev pub IsOfScript : AllScripts → Rank → ℕ → Act → Type 0
IsOfScript scripts x r (Call t op) = next_op scripts r t (thread_at x t).calls ≡ Some op
IsOfScript scripts x r (Answer t) = Unit {0}
IsOfScript scripts x r (Deliver from) = Unit {0}
IsOfScript scripts x r (MakeOffer key) = Unit {0}
IsOfScript scripts x r (Settle key) = Unit {0}
IsOfScript scripts x r (Leave c) = Unit {0}
IsOfScript scripts x r (Back c) = Unit {0}

-- a choice that the drain may make
pub record IsOpenTo (w : World) (scripts : AllScripts) (c : Choice) : Type 0 where
  pub enabled : may_happen w c ≡ true
  pub scripted : IsOfScript scripts (rank_at w c.rank) c.rank c.act

-- the first of the choices that the drain may make
pub record IsFirstChoice (w : World) (scripts : AllScripts) (c : Choice) : Type 0 where
  pub may : IsOpenTo w scripts c
  pub least : (d : Choice) → IsOpenTo w scripts d → is_no_later w c d ≡ true

-- each choice of a journal is the first in the state that the entries before it leave
abbrev pub IsDrained : AllScripts → World → List Entry → Type 0
IsDrained scripts w [] = Unit {0}
IsDrained scripts w (e ∷ es) = IsFirstChoice w scripts e.choice × IsDrained scripts (moved w e.choice) es

abbrev pub is_call : Act → Bool
is_call (Call t op) = true
is_call (Answer t) = false
is_call (Deliver from) = false
is_call (MakeOffer key) = false
is_call (Settle key) = false
is_call (Leave c) = false
is_call (Back c) = false

-- no choice but a call may be made, and each thread that waits for nothing is at the end of its script
pub record IsQuiet (w : World) (scripts : AllScripts) : Type 0 where
  pub still : (c : Choice) → is_call c.act ≡ false → may_happen w c ≡ false
  pub ended : (r t : ℕ) → r < length w.ranks → t < THREADS → is_idle (thread_at (rank_at w r) t).waits ≡ true → next_op scripts r t (thread_at (rank_at w r) t).calls ≡ None
