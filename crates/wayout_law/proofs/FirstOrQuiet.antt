-- A world that is not quiet has a first choice.
use Rattle.std.proofs.Common.{◌≡◌, ◌⊎◌, ◌<◌, ℕ, Bool, true, false, List, [], ◌∷◌, length, Option, Some, None, refl, subst, inl, inr, arith, ⊎_elim}
use Rattle.std.proofs.lemmas.Bool.Decides.{nat_tests}
use Rattle.mpi_base.specs.declared.ops.Op.{Op}
use Rattle.mpi_base.specs.declared.entries.Act.{Act}
use Rattle.mpi_base.specs.declared.entries.Act.TheVariants.{Call, Answer, Deliver, Offer as MakeOffer, Settle, Leave, Back}
use Rattle.mpi_base.specs.declared.entries.Choice.{Choice}
use Rattle.mpi_law.specs.ScriptLists.{AllScripts, next_op}
use Rattle.mpi_law.specs.declared.setting.TheConstants.{THREADS}
use Rattle.mpi_protocol.specs.Rank.{Rank, thread_at, is_idle}
use Rattle.mpi_protocol.specs.Step.{is_enabled}
use Rattle.mpi_protocol.specs.World.{World, rank_at, may_happen}
use Rattle.mpi_protocol.specs.Order.{IsOfScript, IsFirstChoice, is_no_later, is_call, IsQuiet}
use Rattle.wayout_law.proofs.SpotOrder.{later_total, later_trans}
use Rattle.wayout_law.proofs.Candidates.{Has, all-has, candidates, open_is_candidate, candidates_scripted}

-- none of these may happen
abbrev NoneMay : World → List Choice → Type 0
NoneMay w cs = (d : Choice) → Has d cs → may_happen w d ≡ false

-- the first of these that may happen
record FirstOf (w : World) (cs : List Choice) : Type 0 where
  pub choice : Choice
  pub there : Has choice cs
  pub may : may_happen w choice ≡ true
  pub least : (d : Choice) → Has d cs → may_happen w d ≡ true → is_no_later w choice d ≡ true

itself : (w : World) (c : Choice) → is_no_later w c c ≡ true
itself w c = ⊎_elim (λ e. e) (λ e. e) (later_total w c c)

first_of : (w : World) (cs : List Choice) → NoneMay w cs ⊎ FirstOf w cs
first_of w [] = inl (λ d h. absurd h)
first_of w (c ∷ cs) = go (may_happen w c) refl (first_of w cs)
  where
    none : may_happen w c ≡ false → NoneMay w cs → NoneMay w (c ∷ cs)
    none e n d (inl is) = subst (λ z. may_happen w z ≡ false) is e
    none e n d (inr h) = n d h

    passed : may_happen w c ≡ false → (f : FirstOf w cs) → (d : Choice) → Has d (c ∷ cs) → may_happen w d ≡ true → is_no_later w f.choice d ≡ true
    passed e f d (inl is) m = absurd (let z = subst (λ z. may_happen w z ≡ false) is e in cc (z, m))
    passed e f d (inr h) m = f.least d h m

    alone : NoneMay w cs → (d : Choice) → Has d (c ∷ cs) → may_happen w d ≡ true → is_no_later w c d ≡ true
    alone n d (inl is) m = subst (λ z. is_no_later w c z ≡ true) is (itself w c)
    alone n d (inr h) m = absurd (let z = n d h in cc (z, m))

    before : (f : FirstOf w cs) → is_no_later w c f.choice ≡ true → (d : Choice) → Has d (c ∷ cs) → may_happen w d ≡ true → is_no_later w c d ≡ true
    before f l d (inl is) m = subst (λ z. is_no_later w c z ≡ true) is (itself w c)
    before f l d (inr h) m = later_trans w c f.choice d l (f.least d h m)

    behind : (f : FirstOf w cs) → is_no_later w f.choice c ≡ true → (d : Choice) → Has d (c ∷ cs) → may_happen w d ≡ true → is_no_later w f.choice d ≡ true
    behind f l d (inl is) m = subst (λ z. is_no_later w f.choice z ≡ true) is l
    behind f l d (inr h) m = f.least d h m

    go : (b : Bool) → may_happen w c ≡ b → NoneMay w cs ⊎ FirstOf w cs → NoneMay w (c ∷ cs) ⊎ FirstOf w (c ∷ cs)
    go false e (inl n) = inl (none e n)
    go false e (inr f) = inr (record { choice = f.choice; there = inr f.there; may = f.may; least = passed e f })
    go true e (inl n) = inr (record { choice = c; there = inl refl; may = e; least = alone n })
    go true e (inr f) =
        ⊎_elim
        (λ (l : is_no_later w c f.choice ≡ true). inr (record { choice = c; there = inl refl; may = e; least = before f l }))
        (λ (l : is_no_later w f.choice c ≡ true). inr (record { choice = f.choice; there = inr f.there; may = f.may; least = behind f l }))
        (later_total w c f.choice)

-- any choice but a call is of no script
plain_scripted : (scripts : AllScripts) (x : Rank) (r : ℕ) (act : Act) → is_call act ≡ false → IsOfScript scripts x r act
plain_scripted scripts x r (Call t op) e = absurd (cc)
plain_scripted scripts x r (Answer t) e = tt
plain_scripted scripts x r (Deliver from) e = tt
plain_scripted scripts x r (MakeOffer key) e = tt
plain_scripted scripts x r (Settle key) e = tt
plain_scripted scripts x r (Leave c) e = tt
plain_scripted scripts x r (Back c) e = tt

may_call : (w : World) (r t : ℕ) (op : Op) → r < length w.ranks → t < THREADS → is_idle (thread_at (rank_at w r) t).waits ≡ true → may_happen w (record { rank = r; act = Call t op }) ≡ true
unfolding is_enabled
may_call w r t op lr lt idle = grind (arith, nat_tests, lr, lt, idle)

quiet_if_none : (w : World) (scripts : AllScripts) → NoneMay w (candidates w scripts) → IsQuiet w scripts
quiet_if_none w scripts none = record { still = λ c plain. still c plain (may_happen w c) refl; ended = λ r t lr lt idle. ended r t lr lt idle (next_op scripts r t (thread_at (rank_at w r) t).calls) refl }
  where
    still : (c : Choice) → is_call c.act ≡ false → (b : Bool) → may_happen w c ≡ b → may_happen w c ≡ false
    still c plain false e = e
    still c plain true e = none c (open_is_candidate w scripts c (record { enabled = e; scripted = plain_scripted scripts (rank_at w c.rank) c.rank c.act plain }))

    ended : (r t : ℕ) → r < length w.ranks → t < THREADS → is_idle (thread_at (rank_at w r) t).waits ≡ true → (o : Option Op) → next_op scripts r t (thread_at (rank_at w r) t).calls ≡ o → next_op scripts r t (thread_at (rank_at w r) t).calls ≡ None
    ended r t lr lt idle None e = e
    ended r t lr lt idle (Some op) e =
        let c : Choice = record { rank = r; act = Call t op } in
        let m = may_call w r t op lr lt idle in
        let n = none c (open_is_candidate w scripts c (record { enabled = m; scripted = e })) in
        absurd (cc (m, n))

-- a world is quiet, or has a first choice
pub first_or_quiet : (w : World) (scripts : AllScripts) → IsQuiet w scripts ⊎ ((c : Choice) × IsFirstChoice w scripts c)
first_or_quiet w scripts = go (first_of w (candidates w scripts))
  where
    go : NoneMay w (candidates w scripts) ⊎ FirstOf w (candidates w scripts) → IsQuiet w scripts ⊎ ((c : Choice) × IsFirstChoice w scripts c)
    go (inl none) = inl (quiet_if_none w scripts none)
    go (inr f) =
        inr (
          f.choice,
          record {
            may = record { enabled = f.may; scripted = all-has (λ (c : Choice). IsOfScript scripts (rank_at w c.rank) c.rank c.act) f.choice (candidates w scripts) (candidates_scripted w scripts) f.there };
            least = λ d open_to. f.least d (open_is_candidate w scripts d open_to) open_to.enabled;
          },
        )
