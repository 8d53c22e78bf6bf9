-- What a search over ranks finds, or does not find.
use Rattle.std.proofs.Common.{◌≡◌, ◌⊎◌, ℕ, ◌+◌, ◌<◌, ◌≤◌, ◌==◌, ◌&&◌, ◌||◌, nat_lt, nat_le, if◌then◌else◌, Bool, true, false, length, Option, Some, None, refl, sym, ◌∙◌, subst, inl, inr, arith, true≢false}
use Rattle.std.proofs.lemmas.Bool.Decides.{nat_tests}
use Rattle.std.proofs.lemmas.Grind.{common_steps}
use Rattle.mpi_base.specs.declared.keys.Key.{Key}
use Rattle.mpi_base.specs.Keys.{same_key, key_before}
use Rattle.mpi_base.proofs.KeyFacts.{same_key-refl, key_before_total}
use Rattle.mpi_base.specs.declared.ops.Op.{Op}
use Rattle.mpi_base.specs.declared.entries.Act.{Act}
use Rattle.mpi_base.specs.declared.entries.Act.TheVariants.{Call, Answer, Deliver, Offer as MakeOffer, Settle, Leave, Back}
use Rattle.mpi_base.specs.declared.entries.Choice.{Choice}
use Rattle.mpi_law.specs.declared.setting.TheConstants.{THREADS}
use Rattle.mpi_law.specs.ScriptLists.{AllScripts, next_op}
use Rattle.mpi_protocol.specs.Rank.{thread_at, is_idle}
use Rattle.mpi_protocol.specs.Step.{is_enabled}
use Rattle.mpi_protocol.specs.World.{World, rank_at, has_packet, may_happen}
use Rattle.mpi_protocol.specs.Order.{IsOfScript, is_no_later, kind_of, is_call, offered_anywhere, no_key}
use Rattle.mpi_protocol.proofs.Lines.{first, rest}
use Rattle.rank_core.specs.declared.next.StepKind.{StepKind}
use Rattle.rank_core.specs.declared.next.StepKind.TheVariants as kind
use Rattle.rank_core.specs.Next.{is_offer, is_of_kind, comes_before, IsNext, NoneNext}
use Rattle.world_drain.specs.Searches.{IsOfKind, IsCallOf, IsFirstOf, NoneOf, number_of}
use Rattle.world_drain.proofs.Found.{may_call}

is_above : (a b : ℕ) → nat_lt a b ≡ true → a < b
is_above a b h = grind (arith, nat_tests, h)

-- a choice that may be made is of a rank of the world
pub rank_below : (w : World) (r : ℕ) (a : Act) → may_happen w (record { rank = r; act = a }) ≡ true → r < length w.ranks
rank_below w r a e = is_above r (length w.ranks) (first (nat_lt r (length w.ranks)) (has_packet w r a && is_enabled (rank_at w r) a) e)

-- and so of its setting
pub rank_of_setting : (w : World) (n : ℕ) (c : Choice) → length w.ranks ≡ n → may_happen w c ≡ true → c.rank < n
rank_of_setting w n c e may = let l = rank_below w c.rank c.act may in omega (arith, l, e)

-- and its rank allows it
pub rank_allows : (w : World) (r : ℕ) (a : Act) → may_happen w (record { rank = r; act = a }) ≡ true → is_enabled (rank_at w r) a ≡ true
rank_allows w r a e = rest (has_packet w r a) (is_enabled (rank_at w r) a) (rest (nat_lt r (length w.ranks)) (has_packet w r a && is_enabled (rank_at w r) a) e)

-- Deliveries

-- no delivery of a lesser sender may be made
abbrev pub NoneFrom : World → ℕ → Type 0
NoneFrom w from = (f r : ℕ) → f < from → may_happen w (record { rank = r; act = Deliver f }) ≡ true → ⊥

-- nor one of this sender to a lesser receiver
abbrev pub NoneTo : World → ℕ → ℕ → Type 0
NoneTo w from rank = (r : ℕ) → r < rank → may_happen w (record { rank = r; act = Deliver from }) ≡ true → ⊥

pub none_from_zero : (w : World) → NoneFrom w 0
none_from_zero w f r l e = absurd (omega (arith, l))

pub none_to_zero : (w : World) (from : ℕ) → NoneTo w from 0
none_to_zero w from r l e = absurd (omega (arith, l))

pub none_to_next : (w : World) (from rank : ℕ) → NoneTo w from rank → may_happen w (record { rank = rank; act = Deliver from }) ≡ false → NoneTo w from (rank + 1)
none_to_next w from rank none e r l m = go (split l)
  where
    split : r < rank + 1 → (r < rank) ⊎ (r ≡ rank)
    split l = grind (arith, l)

    go : (r < rank) ⊎ (r ≡ rank) → ⊥
    go (inl k) = none r k m
    go (inr s) = true≢false (sym (subst (λ (i : ℕ). may_happen w (record { rank = i; act = Deliver from }) ≡ true) s m) ∙ e)

pub none_from_next : (w : World) (from : ℕ) → NoneFrom w from → NoneTo w from (length w.ranks) → NoneFrom w (from + 1)
none_from_next w from none to f r l m = go (split l)
  where
    split : f < from + 1 → (f < from) ⊎ (f ≡ from)
    split l = grind (arith, l)

    go : (f < from) ⊎ (f ≡ from) → ⊥
    go (inl k) = none f r k m
    go (inr s) = to r (rank_below w r (Deliver f) m) (subst (λ (i : ℕ). may_happen w (record { rank = r; act = Deliver i }) ≡ true) s m)

one_of_two : (b : Bool) (n : ℕ) → (n < 4) ⊎ (5 < n) → (if b then 4 else 5) ≡ n → ⊥
one_of_two true n (inl l) e = omega (arith, e, l)
one_of_two true n (inr l) e = omega (arith, e, l)
one_of_two false n (inl l) e = omega (arith, e, l)
one_of_two false n (inr l) e = omega (arith, e, l)

-- of two places with the same first number and no key
numbers_no_later : (a b c d : ℕ) → (a < c) ⊎ ((a ≡ c) × (b ≤ d)) → (nat_lt a c || ((a == c) && (key_before no_key no_key || (same_key no_key no_key && nat_le b d)))) ≡ true
numbers_no_later a b c d (inl l) = grind (arith, nat_tests, l)
numbers_no_later a b c d (inr p) = let s = same_key-refl no_key in let q = p.0 in let l = p.1 in grind (arith, nat_tests, common_steps, s, q, l)

pub delivery_found : (w : World) (from rank : ℕ) → NoneFrom w from → NoneTo w from rank → may_happen w (record { rank = rank; act = Deliver from }) ≡ true
    → IsFirstOf w (IsOfKind w 1) (record { rank = rank; act = Deliver from })
delivery_found w from rank none to e = record { one = record { enabled = e; kind = refl }; least = λ d may. least d.rank d.act may.enabled may.kind }
  where
    split : (f r : ℕ) → (f < from) ⊎ (((f ≡ from) × (r < rank)) ⊎ ((from < f) ⊎ ((from ≡ f) × (rank ≤ r))))
    split f r = grind arith

    least : (r : ℕ) (a : Act) → may_happen w (record { rank = r; act = a }) ≡ true → kind_of w a ≡ 1 → is_no_later w (record { rank = rank; act = Deliver from }) (record { rank = r; act = a }) ≡ true
    least r (Call t op) m k = absurd (omega (arith, k))
    least r (Answer t) m k = absurd (omega (arith, k))
    least r (Deliver f) m k = go (split f r)
      where
        go : (f < from) ⊎ (((f ≡ from) × (r < rank)) ⊎ ((from < f) ⊎ ((from ≡ f) × (rank ≤ r)))) → is_no_later w (record { rank = rank; act = Deliver from }) (record { rank = r; act = Deliver f }) ≡ true
        go (inl l) = absurd (none f r l m)
        go (inr (inl p)) = absurd (to r p.1 (subst (λ (i : ℕ). may_happen w (record { rank = r; act = Deliver i }) ≡ true) p.0 m))
        go (inr (inr o)) = numbers_no_later from rank f r o
    least r (MakeOffer key) m k = absurd (one_of_two (offered_anywhere w key) 1 (inl (omega arith)) k)
    least r (Settle key) m k = absurd (omega (arith, k))
    least r (Leave c) m k = absurd (omega (arith, k))
    least r (Back c) m k = absurd (omega (arith, k))

sender_below : (w : World) (r f : ℕ) → may_happen w (record { rank = r; act = Deliver f }) ≡ true → f < length w.ranks
sender_below w r f e =
    is_above f (length w.ranks) (first (nat_lt f (length w.ranks)) _ (first (has_packet w r (Deliver f)) (is_enabled (rank_at w r) (Deliver f)) (rest (nat_lt r (length w.ranks)) (has_packet w r (Deliver f) && is_enabled (rank_at w r) (Deliver f)) e)))

pub no_delivery : (w : World) → NoneFrom w (length w.ranks) → NoneOf (IsOfKind w 1)
no_delivery w none d may = go d.rank d.act may.enabled may.kind
  where
    go : (r : ℕ) (a : Act) → may_happen w (record { rank = r; act = a }) ≡ true → kind_of w a ≡ 1 → ⊥
    go r (Call t op) m k = omega (arith, k)
    go r (Answer t) m k = omega (arith, k)
    go r (Deliver f) m k = none f r (sender_below w r f m) m
    go r (MakeOffer key) m k = one_of_two (offered_anywhere w key) 1 (inl (omega arith)) k
    go r (Settle key) m k = omega (arith, k)
    go r (Leave c) m k = omega (arith, k)
    go r (Back c) m k = omega (arith, k)

-- Steps of one kind, by rank

-- none of the kind may be made at a lesser rank
abbrev pub NoneAt : World → StepKind → ℕ → Type 0
NoneAt w k rank = (r : ℕ) → r < rank → NoneNext (rank_at w r) k None

pub none_at_zero : (w : World) (k : StepKind) → NoneAt w k 0
none_at_zero w k r l = absurd (omega (arith, l))

pub none_at_next : (w : World) (k : StepKind) (rank : ℕ) → NoneAt w k rank → NoneNext (rank_at w rank) k None → NoneAt w k (rank + 1)
none_at_next w k rank none here r l = go (split l)
  where
    split : r < rank + 1 → (r < rank) ⊎ (r ≡ rank)
    split l = grind (arith, l)

    go : (r < rank) ⊎ (r ≡ rank) → NoneNext (rank_at w r) k None
    go (inl m) = none r m
    go (inr s) = subst (λ (i : ℕ). NoneNext (rank_at w i) k None) (sym s) here

-- the number of a kind is that of its steps
kind_number : (w : World) (k : StepKind) (a : Act) → is_offer k ≡ false → is_of_kind k a ≡ true → kind_of w a ≡ number_of k
kind_number w kind.Answer (Answer t) o e = refl
kind_number w kind.Settle (Settle key) o e = refl
kind_number w kind.Leave (Leave c) o e = refl
kind_number w kind.Back (Back c) o e = refl
kind_number w kind.Offer a o e = absurd (true≢false o)
kind_number w k a o e = absurd (true≢false (sym e))

has_number : (w : World) (k : StepKind) (a : Act) → is_offer k ≡ false → kind_of w a ≡ number_of k → is_of_kind k a ≡ true
has_number w kind.Answer (Answer t) o e = refl
has_number w kind.Settle (Settle key) o e = refl
has_number w kind.Leave (Leave c) o e = refl
has_number w kind.Back (Back c) o e = refl
has_number w kind.Offer a o e = absurd (true≢false o)
has_number w kind.Answer (MakeOffer key) o e = absurd (one_of_two (offered_anywhere w key) 2 (inl (omega arith)) e)
has_number w kind.Settle (MakeOffer key) o e = absurd (one_of_two (offered_anywhere w key) 3 (inl (omega arith)) e)
has_number w kind.Leave (MakeOffer key) o e = absurd (one_of_two (offered_anywhere w key) 6 (inr (omega arith)) e)
has_number w kind.Back (MakeOffer key) o e = absurd (one_of_two (offered_anywhere w key) 7 (inr (omega arith)) e)
has_number w k a o e = absurd (omega (arith, e))

-- of two keys, one that is not after the other comes first or is the same
not_after : (k l : Key) → key_before l k ≡ false → (key_before k l || (same_key k l && true)) ≡ true
not_after k l e = go (key_before_total k l)
  where
    go : (k ≡ l) ⊎ ((key_before k l ≡ true) ⊎ (key_before l k ≡ true)) → (key_before k l || (same_key k l && true)) ≡ true
    go (inl s) = subst (λ (m : Key). (key_before k m || (same_key k m && true)) ≡ true) s (grind (arith, common_steps, same_key-refl k))
    go (inr (inl b)) = grind (arith, common_steps, b)
    go (inr (inr b)) = absurd (true≢false (sym b ∙ e))

-- of two places with a rank, no number and these keys
keys_no_later : (a c : ℕ) (k l : Key) → (a < c) ⊎ ((a ≡ c) × (key_before l k ≡ false)) → (nat_lt a c || ((a == c) && (key_before k l || (same_key k l && true)))) ≡ true
keys_no_later a c k l (inl m) = grind (arith, nat_tests, m)
keys_no_later a c k l (inr p) = let s = not_after k l p.1 in let q = p.0 in grind (arith, nat_tests, common_steps, s, q)

numbers_too : (a b c d : ℕ) → (a < c) ⊎ ((a ≡ c) × (nat_lt d b ≡ false)) → (a < c) ⊎ ((a ≡ c) × (b ≤ d))
numbers_too a b c d (inl l) = inl l
numbers_too a b c d (inr p) = let q = p.1 in inr (p.0, grind (arith, nat_tests, q))

-- of two steps of one kind, one of a lesser rank, or of the same and not after the other, comes no later
kind_no_later : (w : World) (k : StepKind) (rank r : ℕ) (a b : Act) → is_offer k ≡ false → is_of_kind k a ≡ true → is_of_kind k b ≡ true
    → (rank < r) ⊎ ((rank ≡ r) × (comes_before b a ≡ false)) → is_no_later w (record { rank = rank; act = a }) (record { rank = r; act = b }) ≡ true
kind_no_later w kind.Answer rank r (Answer t) (Answer u) o e f n = numbers_no_later rank t r u (numbers_too rank t r u n)
kind_no_later w kind.Settle rank r (Settle key) (Settle other) o e f n = keys_no_later rank r key other n
kind_no_later w kind.Leave rank r (Leave c) (Leave d) o e f n = numbers_no_later rank c r d (numbers_too rank c r d n)
kind_no_later w kind.Back rank r (Back c) (Back d) o e f n = numbers_no_later rank c r d (numbers_too rank c r d n)
kind_no_later w kind.Offer rank r a b o e f n = absurd (true≢false o)
kind_no_later w kind.Answer rank r (Answer t) b o e f n = absurd (true≢false (sym f))
kind_no_later w kind.Settle rank r (Settle key) b o e f n = absurd (true≢false (sym f))
kind_no_later w kind.Leave rank r (Leave c) b o e f n = absurd (true≢false (sym f))
kind_no_later w kind.Back rank r (Back c) b o e f n = absurd (true≢false (sym f))
kind_no_later w k rank r a b o e f n = absurd (true≢false (sym e))

-- a step of a kind takes no packet from a link
needs_no_packet : (w : World) (k : StepKind) (r : ℕ) (a : Act) → is_of_kind k a ≡ true → has_packet w r a ≡ true
needs_no_packet w k r (Call t op) e = refl
needs_no_packet w k r (Answer t) e = refl
needs_no_packet w k r (Deliver from) e = absurd (true≢false (sym e))
needs_no_packet w k r (MakeOffer key) e = refl
needs_no_packet w k r (Settle key) e = refl
needs_no_packet w k r (Leave c) e = refl
needs_no_packet w k r (Back c) e = refl

pub is_below : (a b : ℕ) → a < b → nat_lt a b ≡ true
is_below a b h = grind (arith, nat_tests, h)

pub step_found : (w : World) (k : StepKind) (rank : ℕ) (act : Act) → is_offer k ≡ false → rank < length w.ranks → NoneAt w k rank → IsNext (rank_at w rank) k None act
    → IsFirstOf w (IsOfKind w (number_of k)) (record { rank = rank; act = act })
step_found w k rank act o l none n = record {
  one = record { enabled = rw (is_below rank (length w.ranks) l, needs_no_packet w k rank act n.kind, n.enabled) refl; kind = kind_number w k act o n.kind };
  least = λ d may. least d.rank d.act may.enabled (has_number w k d.act o may.kind);
}
  where
    split : (r : ℕ) → (r < rank) ⊎ ((rank < r) ⊎ (rank ≡ r))
    split r = grind arith

    least : (r : ℕ) (a : Act) → may_happen w (record { rank = r; act = a }) ≡ true → is_of_kind k a ≡ true → is_no_later w (record { rank = rank; act = act }) (record { rank = r; act = a }) ≡ true
    least r a m e = go (split r)
      where
        go : (r < rank) ⊎ ((rank < r) ⊎ (rank ≡ r)) → is_no_later w (record { rank = rank; act = act }) (record { rank = r; act = a }) ≡ true
        go (inl b) = absurd (true≢false (none r b a e (rank_allows w r a m)))
        go (inr (inl b)) = kind_no_later w k rank r act a o n.kind e (inl b)
        go (inr (inr s)) = kind_no_later w k rank r act a o n.kind e (inr (s, n.least a e (subst (λ (i : ℕ). is_enabled (rank_at w i) a ≡ true) (sym s) (rank_allows w r a m)) refl))

pub no_step : (w : World) (k : StepKind) → is_offer k ≡ false → NoneAt w k (length w.ranks) → NoneOf (IsOfKind w (number_of k))
no_step w k o none d may = true≢false (none d.rank (rank_below w d.rank d.act may.enabled) d.act (has_number w k d.act o may.kind) (rank_allows w d.rank d.act may.enabled))

-- Calls

-- no thread of a lesser rank may call
abbrev pub NoneCalls : World → AllScripts → ℕ → Type 0
NoneCalls w scripts rank = (r t : ℕ) → r < rank → t < THREADS → is_idle (thread_at (rank_at w r) t).waits ≡ true → next_op scripts r t (thread_at (rank_at w r) t).calls ≡ None

-- nor any lesser thread of this one
abbrev pub NoneCallsAt : World → AllScripts → ℕ → ℕ → Type 0
NoneCallsAt w scripts rank thread = (t : ℕ) → t < thread → is_idle (thread_at (rank_at w rank) t).waits ≡ true → next_op scripts rank t (thread_at (rank_at w rank) t).calls ≡ None

pub none_calls_zero : (w : World) (scripts : AllScripts) → NoneCalls w scripts 0
none_calls_zero w scripts r t l m e = absurd (omega (arith, l))

pub none_calls_at_zero : (w : World) (scripts : AllScripts) (rank : ℕ) → NoneCallsAt w scripts rank 0
none_calls_at_zero w scripts rank t l e = absurd (omega (arith, l))

pub none_calls_at_next : (w : World) (scripts : AllScripts) (rank thread : ℕ) → NoneCallsAt w scripts rank thread
    → (is_idle (thread_at (rank_at w rank) thread).waits ≡ true → next_op scripts rank thread (thread_at (rank_at w rank) thread).calls ≡ None) → NoneCallsAt w scripts rank (thread + 1)
none_calls_at_next w scripts rank thread none here t l = go (split l)
  where
    split : t < thread + 1 → (t < thread) ⊎ (thread ≡ t)
    split l = grind (arith, l)

    go : (t < thread) ⊎ (thread ≡ t) → is_idle (thread_at (rank_at w rank) t).waits ≡ true → next_op scripts rank t (thread_at (rank_at w rank) t).calls ≡ None
    go (inl m) = none t m
    go (inr s) = subst (λ (i : ℕ). is_idle (thread_at (rank_at w rank) i).waits ≡ true → next_op scripts rank i (thread_at (rank_at w rank) i).calls ≡ None) s here

pub none_calls_next : (w : World) (scripts : AllScripts) (rank : ℕ) → NoneCalls w scripts rank → NoneCallsAt w scripts rank THREADS → NoneCalls w scripts (rank + 1)
none_calls_next w scripts rank none here r t l m = go (split l)
  where
    split : r < rank + 1 → (r < rank) ⊎ (rank ≡ r)
    split l = grind (arith, l)

    go : (r < rank) ⊎ (rank ≡ r) → is_idle (thread_at (rank_at w r) t).waits ≡ true → next_op scripts r t (thread_at (rank_at w r) t).calls ≡ None
    go (inl b) = none r t b m
    go (inr s) = subst (λ (i : ℕ). is_idle (thread_at (rank_at w i) t).waits ≡ true → next_op scripts i t (thread_at (rank_at w i) t).calls ≡ None) s (here t m)

none_is_not_some : {A : Type 0} {x : A} (o : Option A) → o ≡ None → o ≡ Some x → ⊥
none_is_not_some o n e = absurd (cc (n, e))

-- what a call needs of its thread
thread_idle : (w : World) (r t : ℕ) (op : Op) → may_happen w (record { rank = r; act = Call t op }) ≡ true → (t < THREADS) × (is_idle (thread_at (rank_at w r) t).waits ≡ true)
unfolding is_enabled
thread_idle w r t op e =
    let allows = rank_allows w r (Call t op) e in
    (is_above t THREADS (first (nat_lt t THREADS) _ allows), rest (nat_lt t THREADS) _ allows)

pub call_found : (w : World) (scripts : AllScripts) (rank thread : ℕ) (op : Op) → rank < length w.ranks → thread < THREADS → NoneCalls w scripts rank → NoneCallsAt w scripts rank thread
    → is_idle (thread_at (rank_at w rank) thread).waits ≡ true → next_op scripts rank thread (thread_at (rank_at w rank) thread).calls ≡ Some op
    → IsFirstOf w (IsCallOf w scripts) (record { rank = rank; act = Call thread op })
call_found w scripts rank thread op lr lt none here idle e = record {
  one = record { may = record { enabled = may_call w rank thread op lr lt idle; scripted = e }; call = refl };
  least = λ d may. least d.rank d.act may.may.enabled may.may.scripted may.call;
}
  where
    split : (r t : ℕ) → (r < rank) ⊎ (((rank ≡ r) × (t < thread)) ⊎ ((rank < r) ⊎ ((rank ≡ r) × (thread ≤ t))))
    split r t = grind arith

    least : (r : ℕ) (a : Act) → may_happen w (record { rank = r; act = a }) ≡ true → IsOfScript scripts (rank_at w r) r a → is_call a ≡ true
        → is_no_later w (record { rank = rank; act = Call thread op }) (record { rank = r; act = a }) ≡ true
    least r (Call t other) m s c = go (split r t)
      where
        go : (r < rank) ⊎ (((rank ≡ r) × (t < thread)) ⊎ ((rank < r) ⊎ ((rank ≡ r) × (thread ≤ t)))) → is_no_later w (record { rank = rank; act = Call thread op }) (record { rank = r; act = Call t other }) ≡ true
        go (inl b) = let i = thread_idle w r t other m in absurd (none_is_not_some _ (none r t b i.0 i.1) s)
        go (inr (inl p)) =
            let i = thread_idle w r t other m in
            absurd (none_is_not_some _ (subst (λ (j : ℕ). is_idle (thread_at (rank_at w j) t).waits ≡ true → next_op scripts j t (thread_at (rank_at w j) t).calls ≡ None) p.0 (here t p.1) i.1) s)
        go (inr (inr n)) = numbers_no_later rank thread r t n
    least r (Answer t) m s c = absurd (true≢false (sym c))
    least r (Deliver f) m s c = absurd (true≢false (sym c))
    least r (MakeOffer key) m s c = absurd (true≢false (sym c))
    least r (Settle key) m s c = absurd (true≢false (sym c))
    least r (Leave d) m s c = absurd (true≢false (sym c))
    least r (Back d) m s c = absurd (true≢false (sym c))

pub no_call : (w : World) (scripts : AllScripts) → NoneCalls w scripts (length w.ranks) → NoneOf (IsCallOf w scripts)
no_call w scripts none d may = go d.rank d.act may.may.enabled may.may.scripted may.call
  where
    go : (r : ℕ) (a : Act) → may_happen w (record { rank = r; act = a }) ≡ true → IsOfScript scripts (rank_at w r) r a → is_call a ≡ true → ⊥
    go r (Call t op) m s c = let i = thread_idle w r t op m in none_is_not_some _ (none r t (rank_below w r (Call t op) m) i.0 i.1) s
    go r (Answer t) m s c = true≢false (sym c)
    go r (Deliver f) m s c = true≢false (sym c)
    go r (MakeOffer key) m s c = true≢false (sym c)
    go r (Settle key) m s c = true≢false (sym c)
    go r (Leave x) m s c = true≢false (sym c)
    go r (Back x) m s c = true≢false (sym c)
