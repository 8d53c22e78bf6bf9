-- What is found in the order of kinds is the first choice, and where nothing is found it is quiet.
use Rattle.std.proofs.Common.{◌≡◌, ◌⊎◌, ℕ, ◌+◌, ◌<◌, ◌≤◌, ◌||◌, nat_lt, if◌then◌else◌, Bool, true, false, length, Option, Some, None, refl, sym, subst, inl, inr, arith, true≢false}
use Rattle.std.proofs.lemmas.Bool.Decides.{nat_tests}
use Rattle.std.specs.Prelude.{IfSome}
use Rattle.std.specs.Option.{IfNone}
use Rattle.mpi_base.specs.declared.ops.Op.{Op}
use Rattle.mpi_base.specs.declared.entries.Act.{Act}
use Rattle.mpi_base.specs.declared.entries.Act.TheVariants.{Call, Answer, Deliver, Offer as MakeOffer, Settle, Leave, Back}
use Rattle.mpi_base.specs.declared.entries.Choice.{Choice}
use Rattle.mpi_law.specs.declared.setting.TheConstants.{THREADS}
use Rattle.mpi_law.specs.ScriptLists.{AllScripts, next_op}
use Rattle.mpi_protocol.specs.Rank.{Rank, thread_at, is_idle}
use Rattle.mpi_protocol.specs.Step.{is_enabled}
use Rattle.mpi_protocol.specs.World.{World, rank_at, may_happen}
use Rattle.mpi_protocol.specs.Order.{IsFirstChoice, IsQuiet, IsOfScript, is_no_later, spot_of, kind_of, is_call, offered_anywhere}
use Rattle.world_drain.specs.Searches.{IsOfKind, IsCallOf, IsFirstOf, NoneOf}

-- no choice of an earlier kind may be made
pub record NoneBelow (w : World) (n : ℕ) : Type 0 where
  pub none : (d : Choice) → may_happen w d ≡ true → kind_of w d.act < n → ⊥

offer_kind : (b : Bool) → 1 ≤ (if b then 4 else 5)
offer_kind true = omega arith
offer_kind false = omega arith

kind_from_one : (w : World) (a : Act) → 1 ≤ kind_of w a
kind_from_one w (Call t op) = omega arith
kind_from_one w (Answer t) = omega arith
kind_from_one w (Deliver from) = omega arith
kind_from_one w (MakeOffer key) = offer_kind (offered_anywhere w key)
kind_from_one w (Settle key) = omega arith
kind_from_one w (Leave c) = omega arith
kind_from_one w (Back c) = omega arith

-- nothing is before the first kind
pub none_below_one : (w : World) → NoneBelow w 1
none_below_one w = record { none = λ d e l. let k = kind_from_one w d.act in absurd (omega (arith, k, l)) }

-- one kind after another
pub none_below_next : (w : World) (n : ℕ) → NoneBelow w n → NoneOf (IsOfKind w n) → NoneBelow w (n + 1)
none_below_next w n below none = record { none = λ d e l. go d e (split (kind_of w d.act) l) }
  where
    split : (k : ℕ) → k < n + 1 → (k < n) ⊎ (k ≡ n)
    split k l = grind (arith, l)

    go : (d : Choice) → may_happen w d ≡ true → ((kind_of w d.act < n) ⊎ (kind_of w d.act ≡ n)) → ⊥
    go d e (inl l) = below.none d e l
    go d e (inr k) = none d (record { enabled = e; kind = k })

-- the kind of a choice is the first part of its place
spot_kind : (w : World) (r : ℕ) (a : Act) → (spot_of w r a).kind ≡ kind_of w a
spot_kind w r (Call t op) = refl
spot_kind w r (Answer t) = refl
spot_kind w r (Deliver from) = refl
spot_kind w r (MakeOffer key) = refl
spot_kind w r (Settle key) = refl
spot_kind w r (Leave c) = refl
spot_kind w r (Back c) = refl

or_first : (a b : Bool) → a ≡ true → (a || b) ≡ true
or_first true b e = refl
or_first false b e = absurd (true≢false (sym e))

is_below : (a b : ℕ) → a < b → nat_lt a b ≡ true
is_below a b h = grind (arith, nat_tests, h)

-- a choice of a later kind comes later
later_kind : (w : World) (c d : Choice) → kind_of w c.act < kind_of w d.act → is_no_later w c d ≡ true
later_kind w c d l =
    or_first (nat_lt (spot_of w c.rank c.act).kind (spot_of w d.rank d.act).kind) _
    (rw (spot_kind w c.rank c.act, spot_kind w d.rank d.act) (is_below (kind_of w c.act) (kind_of w d.act) l))

-- a choice that is before those of its kind is before all, where there is none of an earlier kind
no_later : (w : World) (n : ℕ) (c d : Choice) → kind_of w c.act ≡ n → NoneBelow w n → may_happen w d ≡ true → (kind_of w d.act ≡ n → is_no_later w c d ≡ true) → is_no_later w c d ≡ true
no_later w n c d k below e least = go (split (kind_of w d.act))
  where
    split : (m : ℕ) → (m < n) ⊎ ((m ≡ n) ⊎ (n < m))
    split m = grind arith

    go : (kind_of w d.act < n) ⊎ ((kind_of w d.act ≡ n) ⊎ (n < kind_of w d.act)) → is_no_later w c d ≡ true
    go (inl l) = absurd (below.none d e l)
    go (inr (inl s)) = least s
    go (inr (inr l)) = later_kind w c d (subst (λ (m : ℕ). m < kind_of w d.act) (sym k) l)

-- only a call is of a script
scripted_below : (w : World) (scripts : AllScripts) (x : Rank) (r : ℕ) (a : Act) → kind_of w a < 8 → IsOfScript scripts x r a
scripted_below w scripts x r (Call t op) l = absurd (omega (arith, l))
scripted_below w scripts x r (Answer t) l = tt
scripted_below w scripts x r (Deliver from) l = tt
scripted_below w scripts x r (MakeOffer key) l = tt
scripted_below w scripts x r (Settle key) l = tt
scripted_below w scripts x r (Leave c) l = tt
scripted_below w scripts x r (Back c) l = tt

-- the first of a kind is the first choice, where there is none of an earlier kind
pub first_of_kind : (w : World) (scripts : AllScripts) (n : ℕ) (c : Choice) → n < 8 → NoneBelow w n → IsFirstOf w (IsOfKind w n) c → IsFirstChoice w scripts c
first_of_kind w scripts n c l below f = record {
  may = record { enabled = f.one.enabled; scripted = scripted_below w scripts (rank_at w c.rank) c.rank c.act (subst (λ (m : ℕ). m < 8) (sym f.one.kind) l) };
  least = λ d may. no_later w n c d f.one.kind below may.enabled (λ k. f.least d (record { enabled = may.enabled; kind = k }));
}

offer_not_eight : (b : Bool) → ◌≡◌ {A = ℕ} (if b then 4 else 5) 8 → ⊥
offer_not_eight true e = absurd (omega (arith, e))
offer_not_eight false e = absurd (omega (arith, e))

-- the eighth kind is that of calls
call_is_eighth : (w : World) (a : Act) → is_call a ≡ true → kind_of w a ≡ 8
call_is_eighth w (Call t op) e = refl
call_is_eighth w (Answer t) e = absurd (true≢false (sym e))
call_is_eighth w (Deliver from) e = absurd (true≢false (sym e))
call_is_eighth w (MakeOffer key) e = absurd (true≢false (sym e))
call_is_eighth w (Settle key) e = absurd (true≢false (sym e))
call_is_eighth w (Leave c) e = absurd (true≢false (sym e))
call_is_eighth w (Back c) e = absurd (true≢false (sym e))

eighth_is_call : (w : World) (a : Act) → kind_of w a ≡ 8 → is_call a ≡ true
eighth_is_call w (Call t op) e = refl
eighth_is_call w (Answer t) e = absurd (omega (arith, e))
eighth_is_call w (Deliver from) e = absurd (omega (arith, e))
eighth_is_call w (MakeOffer key) e = absurd (offer_not_eight (offered_anywhere w key) e)
eighth_is_call w (Settle key) e = absurd (omega (arith, e))
eighth_is_call w (Leave c) e = absurd (omega (arith, e))
eighth_is_call w (Back c) e = absurd (omega (arith, e))

-- the first call is the first choice, where nothing else may be done
pub first_of_calls : (w : World) (scripts : AllScripts) (c : Choice) → NoneBelow w 8 → IsFirstOf w (IsCallOf w scripts) c → IsFirstChoice w scripts c
first_of_calls w scripts c below f = record {
  may = f.one.may;
  least = λ d may. no_later w 8 c d (call_is_eighth w c.act f.one.call) below may.enabled (λ k. f.least d (record { may = may; call = eighth_is_call w d.act k }));
}

offer_below : (b : Bool) → (if b then 4 else 5) < 8
offer_below true = omega arith
offer_below false = omega arith

others_below : (w : World) (a : Act) → is_call a ≡ false → kind_of w a < 8
others_below w (Call t op) e = absurd (true≢false e)
others_below w (Answer t) e = omega arith
others_below w (Deliver from) e = omega arith
others_below w (MakeOffer key) e = offer_below (offered_anywhere w key)
others_below w (Settle key) e = omega arith
others_below w (Leave c) e = omega arith
others_below w (Back c) e = omega arith

-- a thread that waits for nothing may call
pub may_call : (w : World) (r t : ℕ) (op : Op) → r < length w.ranks → t < THREADS → is_idle (thread_at (rank_at w r) t).waits ≡ true → may_happen w (record { rank = r; act = Call t op }) ≡ true
unfolding is_enabled
may_call w r t op lr lt idle = rw (is_below r (length w.ranks) lr, is_below t THREADS lt, idle) refl

-- where nothing may be done, it is quiet
pub quiet_if_none : (w : World) (scripts : AllScripts) → NoneBelow w 8 → NoneOf (IsCallOf w scripts) → IsQuiet w scripts
quiet_if_none w scripts below none = record { still = λ c e. calm c e (may_happen w c) refl; ended = λ r t lr lt idle. at_end r t lr lt idle (next_op scripts r t (thread_at (rank_at w r) t).calls) refl }
  where
    calm : (c : Choice) → is_call c.act ≡ false → (b : Bool) → may_happen w c ≡ b → b ≡ false
    calm c e true m = absurd (below.none c m (others_below w c.act e))
    calm c e false m = refl

    at_end : (r t : ℕ) → r < length w.ranks → t < THREADS → is_idle (thread_at (rank_at w r) t).waits ≡ true → (o : Option Op) → next_op scripts r t (thread_at (rank_at w r) t).calls ≡ o → o ≡ None
    at_end r t lr lt idle None e = refl
    at_end r t lr lt idle (Some op) e = absurd (none (record { rank = r; act = Call t op }) (record { may = record { enabled = may_call w r t op lr lt idle; scripted = e }; call = refl }))

-- what follows for each that is found, and where none is
pub if_some : {A : Type 0} {P Q : A → Type 0} (a : Option A) → ((x : A) → P x → Q x) → IfSome a P → IfSome a Q
if_some None f p = p
if_some (Some x) f p = f x p

pub if_none : {A P Q : Type 0} (a : Option A) → (P → Q) → IfNone a P → IfNone a Q
if_none None f p = f p
if_none (Some x) f p = p
