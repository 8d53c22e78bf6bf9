-- The least candidate of a kind that counts is the next step of the kind.
use Rattle.std.proofs.Common.{◌≡◌, ℕ, zero, suc, ◌+◌, ◌<◌, ◌==◌, ◌&&◌, ◌||◌, Bool, true, false, if◌then◌else◌, List, [], ◌∷◌, ◌++◌, map, take, get_or, length, Option, Some, None, refl, sym, ◌∙◌, ap, subst, arith, true≢false}
use Rattle.std.specs.Prelude.{find, IfSome, is_some, nat_lt}
use Rattle.std.specs.Option.{IfNone}
use Rattle.std.specs.List.{AllByRecursion, list_any, range_with_len}
use Rattle.std.proofs.lemmas.Bool.Decides.{nat_tests}
use Rattle.std.proofs.lemmas.List.{map_more, append-nil, append_assoc}
use Rattle.mpi_base.specs.declared.keys.Key.{Key}
use Rattle.mpi_base.specs.Keys.{same_key}
use Rattle.mpi_base.proofs.KeyFacts.{same_key_is, key_before_trans, key_before_irreflexive}
use Rattle.mpi_base.specs.declared.entries.Act.{Act}
use Rattle.mpi_base.specs.declared.entries.Act.TheVariants.{Answer, Offer as MakeOffer, Settle, Leave, Back}
use Rattle.mpi_law.specs.declared.setting.TheConstants.{THREADS}
use Rattle.agree_law.specs.declared.rows.CreationRow.{CreationRow}
use Rattle.agree_law.specs.declared.rows.ShareRow.{ShareRow}
use Rattle.agree_law.specs.Part.{Offer, stage_of}
use Rattle.agree_law.specs.Gather.{has_offer, is_ready}
use Rattle.agree_law.specs.Moves.{may_settle}
use Rattle.agree_law.specs.Offers.{is_due}
use Rattle.agree_law.specs.Shares.{share_here, may_settle_share}
use Rattle.agree_law.specs.Verdicts.{may_settle_offers}
use Rattle.and_reduce.specs.declared.offers.OfferRow.{OfferRow}
use Rattle.and_reduce.specs.Rows.{offer_of}
use Rattle.comm_law.specs.declared.rows.CommRow.{CommRow}
use Rattle.comm_law.specs.Comms.{row_at, all_marked}
use Rattle.mpi_protocol.specs.Rank.{Rank}
use Rattle.mpi_protocol.specs.Step.{is_enabled}
use Rattle.rank_core.specs.declared.next.StepKind.{StepKind}
use Rattle.rank_core.specs.declared.next.StepKind.TheVariants as kind
use Rattle.rank_core.specs.Next.{is_of_kind, Place, ByKey, ByNumber, place_of, place_before, comes_before, is_above, IsNext, NoneNext}
use Rattle.rank_core.specs.Candidates.{candidates, counts, lesser, IsLeast}

-- The order

place_before_trans : (a b c : Place) → place_before a b ≡ true → place_before b c ≡ true → place_before a c ≡ true
place_before_trans (ByKey k) (ByKey l) (ByKey m) p q = key_before_trans k l m p q
place_before_trans (ByKey k) (ByKey l) (ByNumber n) p q = absurd (cc)
place_before_trans (ByKey k) (ByNumber n) c p q = absurd (cc)
place_before_trans (ByNumber n) (ByKey l) c p q = absurd (cc)
place_before_trans (ByNumber l) (ByNumber m) (ByKey n) p q = absurd (cc)
place_before_trans (ByNumber l) (ByNumber m) (ByNumber n) p q = grind (arith, nat_tests, p, q)

place_before_irreflexive : (a : Place) → place_before a a ≡ false
place_before_irreflexive (ByKey k) = key_before_irreflexive k
place_before_irreflexive (ByNumber n) = grind (arith, nat_tests)

-- what comes before another is not after what does not come before that other
before-less : (a b c : Act) → comes_before a b ≡ true → comes_before c b ≡ false → comes_before c a ≡ false
before-less a b c ab cb = go (comes_before c a) refl
  where
    go : (t : Bool) → comes_before c a ≡ t → t ≡ false
    go true e = let t = place_before_trans (place_of c) (place_of a) (place_of b) e ab in absurd (cc)
    go false e = refl

-- The least so far

all-push : {X : Type 0} (P : X → Type 0) (xs : List X) (x : X) → AllByRecursion P xs → P x → AllByRecursion P (xs ++ x ∷ [])
all-push P [] x a p = (p, tt)
all-push P (y ∷ xs) x a p = (a.0, all-push P xs x a.1 p)

all-weaker : {X : Type 0} (P Q : X → Type 0) → ((x : X) → P x → Q x) → (xs : List X) → AllByRecursion P xs → AllByRecursion Q xs
all-weaker P Q f [] a = tt
all-weaker P Q f (x ∷ xs) a = (f x a.0, all-weaker P Q f xs a.1)

-- the least with one step more
IsLeast-more : (x : Rank) (wanted : StepKind) (after : Option Act) (acts : List Act) (o : Option Act) (a : Act) → is_of_kind wanted a ≡ true → IsLeast x wanted after acts o
    → IsLeast x wanted after (acts ++ a ∷ []) (if counts x after a then lesser a o else o)
IsLeast-more x wanted after acts None a k h = go (counts x after a) refl
  where
    go : (b : Bool) → counts x after a ≡ b → IsLeast x wanted after (acts ++ a ∷ []) (if b then Some a else None)
    go true e = (
      k,
      e,
      all-push (λ m. counts x after m ≡ true → comes_before m a ≡ false) acts a
          (all-weaker (λ m. counts x after m ≡ false) (λ m. counts x after m ≡ true → comes_before m a ≡ false) (λ m f t. absurd (cc (f, t))) acts h)
          (λ t. place_before_irreflexive (place_of a)),
    )
    go false e = all-push (λ m. counts x after m ≡ false) acts a h e
IsLeast-more x wanted after acts (Some l) a k h = go (counts x after a) refl (comes_before a l) refl
  where
    go : (b : Bool) → counts x after a ≡ b → (c : Bool) → comes_before a l ≡ c
        → IsLeast x wanted after (acts ++ a ∷ []) (if b then (if c then Some a else Some l) else Some l)
    go true e true f = (
      k,
      e,
      all-push (λ m. counts x after m ≡ true → comes_before m a ≡ false) acts a
          (all-weaker (λ m. counts x after m ≡ true → comes_before m l ≡ false) (λ m. counts x after m ≡ true → comes_before m a ≡ false)
          (λ m n t. before-less a l m f (n t)) acts h.2)
          (λ t. place_before_irreflexive (place_of a)),
    )
    go true e false f = (h.0, h.1, all-push (λ m. counts x after m ≡ true → comes_before m l ≡ false) acts a h.2 (λ t. f))
    go false e c f = (h.0, h.1, all-push (λ m. counts x after m ≡ true → comes_before m l ≡ false) acts a h.2 (λ t. absurd (cc (e, t))))

-- the least with one step more, in a list that is that longer
pub IsLeast-longer : (x : Rank) (wanted : StepKind) (after : Option Act) (acts longer : List Act) (o r : Option Act) (a : Act)
    → is_of_kind wanted a ≡ true → longer ≡ acts ++ a ∷ [] → IsLeast x wanted after acts o → r ≡ (if counts x after a then lesser a o else o) → IsLeast x wanted after longer r
IsLeast-longer x wanted after acts longer o r a k is h e = rw (e, is) (IsLeast-more x wanted after acts o a k h)

-- the least with the step of one row more, after the first steps
pub IsLeast-rows : {R : Type 0} (x : Rank) (wanted : StepKind) (after : Option Act) (first : List Act) (of : R → Act) (rows : List R) (i : ℕ) (row : R) (o r : Option Act) (a : Act)
    → is_of_kind wanted a ≡ true → a ≡ of row → i < length rows → row ≡ get_or rows i row → IsLeast x wanted after (first ++ map of (take i rows)) o
    → r ≡ (if counts x after a then lesser a o else o) → IsLeast x wanted after (first ++ map of (take (i + 1) rows)) r
IsLeast-rows {R} x wanted after first of rows i row o r a k act inside is h e =
    let more : map of (take (i + 1) rows) ≡ map of (take i rows) ++ a ∷ [] =
    map_more of rows i row inside ∙ ap (λ (y : R). map of (take i rows) ++ of y ∷ []) (sym is) ∙ ap (λ (b : Act). map of (take i rows) ++ b ∷ []) (sym act) in
    let longer : first ++ map of (take (i + 1) rows) ≡ (first ++ map of (take i rows)) ++ a ∷ [] =
    ap (λ (acts : List Act). first ++ acts) more ∙ sym (append_assoc first (map of (take i rows)) (a ∷ [])) in
    IsLeast-longer x wanted after (first ++ map of (take i rows)) (first ++ map of (take (i + 1) rows)) o r a k longer h e

-- the settles of rows are those of the offers that they stand for
settle-rows : {w : ℕ} (top : ℕ) (rows : List (OfferRow w)) → map (λ (r : OfferRow w). Settle r.key) rows ≡ map (λ (o : Offer). Settle o.key) (map (offer_of top) rows)
settle-rows top [] = refl
settle-rows top (r ∷ rows) = ap (λ (acts : List Act). Settle r.key ∷ acts) (settle-rows top rows)

-- the least of the offers, before the shares
pub settles-start : {w : ℕ} (top : ℕ) (x : Rank) (after : Option Act) (rows : List (OfferRow w)) (least : Option Act) → map (offer_of top) rows ≡ x.agree.gathered
    → IsLeast x kind.Settle after (map (λ (r : OfferRow w). Settle r.key) rows) least → IsLeast x kind.Settle after (map (λ o. Settle o.key) x.agree.gathered ++ []) least
settles-start top x after rows least e h =
    subst (λ (acts : List Act). IsLeast x kind.Settle after acts least)
    (settle-rows top rows ∙ ap (λ (os : List Offer). map (λ (o : Offer). Settle o.key) os) e ∙ sym (append-nil (map (λ (o : Offer). Settle o.key) x.agree.gathered))) h

-- Candidates

-- what holds of each step of rows holds of that of a key that a row has
offered : (P : Act → Type 0) (offers : List Offer) (key : Key) (place : ℕ) → AllByRecursion P (map (λ o. Settle o.key) offers) → has_offer offers key place ≡ true → P (Settle key)
offered P [] key place a h = absurd (cc)
offered P (o ∷ offers) key place a h = go (same_key o.key key && (o.place == place)) refl h (offered P offers key place a.1)
  where
    go : (b : Bool) → (same_key o.key key && (o.place == place)) ≡ b → (b || has_offer offers key place) ≡ true → (has_offer offers key place ≡ true → P (Settle key)) → P (Settle key)
    go true e k ih = subst (λ l. P (Settle l)) (same_key_is o.key key (grind (arith, e))) a.0
    go false e k ih = ih k

shared : (P : Act → Type 0) (shares : List ShareRow) (key : Key) (place : ℕ) → AllByRecursion P (map (λ s. Settle s.key) shares) → is_some (share_here shares key place) ≡ true → P (Settle key)
shared P [] key place a h = absurd (cc)
shared P (o ∷ shares) key place a h = go (same_key o.key key && (o.place == place)) refl (shared P shares key place a.1)
  where
    go : (b : Bool) → (same_key o.key key && (o.place == place)) ≡ b → (is_some (share_here shares key place) ≡ true → P (Settle key)) → P (Settle key)
    go true e ih = subst (λ l. P (Settle l)) (same_key_is o.key key (grind (arith, e))) a.0
    go false e ih = ih (rw e at h)

opened : (P : Act → Type 0) (rows : List CreationRow) (key : Key) → AllByRecursion P (map (λ o. MakeOffer o.key) rows) → is_due (stage_of rows key) ≡ true → P (MakeOffer key)
opened P [] key a h = absurd (cc)
opened P (o ∷ rows) key a h = go (same_key o.key key) refl (opened P rows key a.1)
  where
    go : (b : Bool) → same_key o.key key ≡ b → (is_due (stage_of rows key) ≡ true → P (MakeOffer key)) → P (MakeOffer key)
    go true e ih = subst (λ l. P (MakeOffer l)) (same_key_is o.key key e) a.0
    go false e ih = ih (rw e at h)

known : (P : Act → Type 0) (of : ℕ → Act) (rows : List CommRow) (c : ℕ) (o : Option CommRow) → AllByRecursion P (map (λ m. of m.ctx) rows)
    → find (λ (m : CommRow). m.ctx == c) rows ≡ o → (o ≡ None → P (of c)) → P (of c)
known P of [] c o a e n = n (sym e)
known P of (m ∷ rows) c o a e n = go (m.ctx == c) refl (known P of rows c o a.1)
  where
    go : (b : Bool) → (m.ctx == c) ≡ b → (find (λ (m : CommRow). m.ctx == c) rows ≡ o → (o ≡ None → P (of c)) → P (of c)) → P (of c)
    go true t ih = subst (λ d. P (of d)) (grind (arith, nat_tests, t)) a.0
    go false t ih = ih (rw t at e) n

numbered : (P : Act → Type 0) (first n t : ℕ) → AllByRecursion P (map (λ u. Answer u) (range_with_len first n)) → nat_lt t first ≡ false → nat_lt t (first + n) ≡ true → P (Answer t)
numbered P first zero t a low high = absurd (grind (arith, nat_tests, low, high))
numbered P first (suc n) t a low high = go (first == t) refl (numbered P (first + 1) n t a.1)
  where
    go : (b : Bool) → (first == t) ≡ b → (nat_lt t (first + 1) ≡ false → nat_lt t ((first + 1) + n) ≡ true → P (Answer t)) → P (Answer t)
    go true e ih = subst (λ u. P (Answer u)) (grind (arith, nat_tests, e)) a.0
    go false e ih = ih (grind (arith, nat_tests, low, e)) (grind (arith, nat_tests, high))

all-left : {X : Type 0} (P : X → Type 0) (xs ys : List X) → AllByRecursion P (xs ++ ys) → AllByRecursion P xs
all-left P [] ys a = tt
all-left P (x ∷ xs) ys a = (a.0, all-left P xs ys a.1)

all-right : {X : Type 0} (P : X → Type 0) (xs ys : List X) → AllByRecursion P (xs ++ ys) → AllByRecursion P ys
all-right P [] ys a = a
all-right P (x ∷ xs) ys a = all-right P xs ys a.1

-- a key that may be settled has an offer or a share
settled : (P : Act → Type 0) (x : Rank) (key : Key) → AllByRecursion P (candidates x kind.Settle) → may_settle x.rank x.agree key ≡ true → P (Settle key)
unfolding may_settle is_ready
settled P x key a h = go key.members refl (may_settle_offers x.rank x.agree key) refl
  where
    go : (ms : List ℕ) → key.members ≡ ms → (b : Bool) → may_settle_offers x.rank x.agree key ≡ b → P (Settle key)
    go ms m true e =
        offered P x.agree.gathered key 0 (all-left P (map (λ o. Settle o.key) x.agree.gathered) (map (λ s. Settle s.key) x.agree.shares) a) (grind (arith, nat_tests, e))
    go [] m false e = let s : may_settle_share x.rank x.agree key ≡ true = rw e at h in let f = rw m at s in absurd (grind (arith, f))
    go (r ∷ ms) m false e =
        let s : may_settle_share x.rank x.agree key ≡ true = rw e at h in
        let f = rw m at s in
        shared P x.agree.shares key 0 (all-right P (map (λ o. Settle o.key) x.agree.gathered) (map (λ s. Settle s.key) x.agree.shares) a) (grind (arith, nat_tests, f))

-- what holds of each candidate holds of each step of the kind that may be made
is-candidate : (P : Act → Type 0) (x : Rank) (wanted : StepKind) (a : Act) → is_of_kind wanted a ≡ true → is_enabled x a ≡ true → AllByRecursion P (candidates x wanted) → P a
unfolding is_enabled all_marked
is-candidate P x kind.Answer (Answer t) k e all = numbered P 0 THREADS t all (grind (arith, nat_tests)) (grind (arith, nat_tests, e))
is-candidate P x kind.Settle (Settle key) k e all = settled P x key all e
is-candidate P x kind.Offer (MakeOffer key) k e all = opened P x.agree.opened key all e
is-candidate P x kind.Leave (Leave c) k e all = known P (λ d. Leave d) x.comms.rows c (row_at x.comms c) all refl (λ n. let f = rw n at e in absurd (cc))
is-candidate P x kind.Back (Back c) k e all = known P (λ d. Back d) x.comms.rows c (row_at x.comms c) all refl (λ n. let f = rw n at e in absurd (cc))
is-candidate P x wanted a k e all = absurd (cc)

-- The next step

pub next-found : (x : Rank) (wanted : StepKind) (after o : Option Act) → IsLeast x wanted after (candidates x wanted) o → IfSome o (IsNext x wanted after)
next-found x wanted after None h = tt
next-found x wanted after (Some l) h =
    let c = h.1 in record { kind = h.0; enabled = grind (arith, c); above = grind (arith, c); least = least }
  where
    least : (b : Act) → is_of_kind wanted b ≡ true → is_enabled x b ≡ true → is_above after b ≡ true → comes_before b l ≡ false
    least b k en ab = is-candidate (λ m. counts x after m ≡ true → comes_before m l ≡ false) x wanted b k en h.2 (grind (arith, en, ab))

pub next-none : (x : Rank) (wanted : StepKind) (after o : Option Act) → IsLeast x wanted after (candidates x wanted) o → IfNone o (NoneNext x wanted after)
next-none x wanted after None h = λ a k en. let f = is-candidate (λ m. counts x after m ≡ false) x wanted a k en h in grind (arith, f, en)
next-none x wanted after (Some l) h = tt

-- Whether there is one at all

none-passes : (f : Act → Bool) (acts : List Act) → list_any f acts ≡ false → AllByRecursion (λ m. f m ≡ false) acts
none-passes f [] e = tt
none-passes f (a ∷ acts) e = (grind (arith, e), none-passes f acts (grind (arith, e)))

any-map : {X : Type 0} (f : Act → Bool) (of : X → Act) (xs : List X) → list_any f (map of xs) ≡ list_any (λ x. f (of x)) xs
any-map f of [] = refl
any-map f of (x ∷ xs) = ap (λ (b : Bool). f (of x) || b) (any-map f of xs)

none-enabled : (x : Rank) (wanted : StepKind) → list_any (is_enabled x) (candidates x wanted) ≡ false → NoneNext x wanted None
none-enabled x wanted e a k en = absurd (true≢false (sym en ∙ is-candidate (λ m. is_enabled x m ≡ false) x wanted a k en (none-passes (is_enabled x) (candidates x wanted) e)))

pub no-candidate : (x : Rank) (wanted : StepKind) → candidates x wanted ≡ [] → NoneNext x wanted None
no-candidate x wanted e = none-enabled x wanted (rw e refl)

pub no-answer : (x : Rank) → list_any (λ t. is_enabled x (Answer t)) (range_with_len 0 THREADS) ≡ false → NoneNext x kind.Answer None
no-answer x e = none-enabled x kind.Answer (any-map (is_enabled x) (λ t. Answer t) (range_with_len 0 THREADS) ∙ e)

pub no-leave : (x : Rank) → list_any (λ m. is_enabled x (Leave m.ctx)) x.comms.rows ≡ false → NoneNext x kind.Leave None
no-leave x e = none-enabled x kind.Leave (any-map (is_enabled x) (λ m. Leave m.ctx) x.comms.rows ∙ e)

pub no-back : (x : Rank) → list_any (λ m. is_enabled x (Back m.ctx)) x.comms.rows ≡ false → NoneNext x kind.Back None
no-back x e = none-enabled x kind.Back (any-map (is_enabled x) (λ m. Back m.ctx) x.comms.rows ∙ e)
