-- The next step of a kind.
use Rattle.std.specs.Prelude.{◌≡◌, ℕ, Bool, true, false, nat_lt, Option, Some, None}
use Rattle.mpi_base.specs.declared.keys.Key.{Key}
use Rattle.mpi_base.specs.Keys.{key_before}
use Rattle.mpi_base.specs.declared.entries.Act.{Act}
use Rattle.mpi_base.specs.declared.entries.Act.TheVariants.{Call, Answer, Deliver, Offer as MakeOffer, Settle, Leave, Back}
use Rattle.mpi_protocol.specs.Rank.{Rank}
use Rattle.mpi_protocol.specs.Step.{is_enabled}
use Rattle.rank_core.specs.declared.next.StepKind.{StepKind}
use Rattle.rank_core.specs.declared.next.StepKind.TheVariants as kind

-- whether a kind is this one
abbrev pub is_answer : StepKind → Bool
is_answer kind.Answer = true
is_answer kind.Settle = false
is_answer kind.Offer = false
is_answer kind.Leave = false
is_answer kind.Back = false

abbrev pub is_settle : StepKind → Bool
is_settle kind.Answer = false
is_settle kind.Settle = true
is_settle kind.Offer = false
is_settle kind.Leave = false
is_settle kind.Back = false

abbrev pub is_offer : StepKind → Bool
is_offer kind.Answer = false
is_offer kind.Settle = false
is_offer kind.Offer = true
is_offer kind.Leave = false
is_offer kind.Back = false

abbrev pub is_leave : StepKind → Bool
is_leave kind.Answer = false
is_leave kind.Settle = false
is_leave kind.Offer = false
is_leave kind.Leave = true
is_leave kind.Back = false

abbrev pub is_back : StepKind → Bool
is_back kind.Answer = false
is_back kind.Settle = false
is_back kind.Offer = false
is_back kind.Leave = false
is_back kind.Back = true

-- whether a step is of a kind
abbrev pub is_of_kind : StepKind → Act → Bool
is_of_kind k (Call t op) = false
is_of_kind k (Answer t) = is_answer k
is_of_kind k (Deliver from) = false
is_of_kind k (MakeOffer key) = is_offer k
is_of_kind k (Settle key) = is_settle k
is_of_kind k (Leave c) = is_leave k
is_of_kind k (Back c) = is_back k

-- what orders steps of one kind: a key, a thread or a context
pub data Place : Type 0 where
  ByKey : Key → Place
  ByNumber : ℕ → Place

abbrev pub place_of : Act → Place
place_of (Call t op) = ByNumber t
place_of (Answer t) = ByNumber t
place_of (Deliver from) = ByNumber from
place_of (MakeOffer key) = ByKey key
place_of (Settle key) = ByKey key
place_of (Leave c) = ByNumber c
place_of (Back c) = ByNumber c

abbrev pub place_before : Place → Place → Bool
place_before (ByKey k) (ByKey l) = key_before k l
place_before (ByKey k) (ByNumber n) = false
place_before (ByNumber m) (ByKey l) = false
place_before (ByNumber m) (ByNumber n) = nat_lt m n

-- of two steps of one kind, whether the first comes first
abbrev pub comes_before : Act → Act → Bool
comes_before a b = place_before (place_of a) (place_of b)

-- whether a step comes after one that may be there
abbrev pub is_above : Option Act → Act → Bool
is_above None a = true
is_above (Some b) a = comes_before b a

-- the first enabled step of a kind after the one that may be there
pub record IsNext (x : Rank) (wanted : StepKind) (after : Option Act) (a : Act) : Type 0 where
  pub kind : is_of_kind wanted a ≡ true
  pub enabled : is_enabled x a ≡ true
  pub above : is_above after a ≡ true
  pub least : (b : Act) → is_of_kind wanted b ≡ true → is_enabled x b ≡ true → is_above after b ≡ true → comes_before b a ≡ false

-- no enabled step of a kind comes after the one that may be there
abbrev pub NoneNext : Rank → StepKind → Option Act → Type 0
NoneNext x wanted after = (a : Act) → is_of_kind wanted a ≡ true → is_enabled x a ≡ true → is_above after a ≡ false
