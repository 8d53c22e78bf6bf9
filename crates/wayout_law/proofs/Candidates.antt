-- The choices that may be open in a world are a list: each is of a rank's own rows, its threads, or its links.
use Rattle.std.proofs.Common.{◌≡◌, ◌⊎◌, ◌<◌, ◌≤◌, ◌+◌, ◌==◌, ◌&&◌, ℕ, zero, suc, Bool, true, false, List, [], ◌∷◌, ◌++◌, map, find, length, Option, Some, None, refl, sym, subst, ap, inl, inr, arith}
use Rattle.std.specs.Prelude.{if◌then◌else◌}
use Rattle.std.specs.Option.{is_some}
use Rattle.std.specs.List.{list_all, range_with_len}
use Rattle.std.proofs.lemmas.Bool.Decides.{nat_tests}
use Rattle.mpi_base.specs.declared.keys.Key.{Key}
use Rattle.mpi_base.specs.declared.ops.Op.{Op}
use Rattle.mpi_base.specs.Keys.{same_key}
use Rattle.mpi_base.proofs.KeyFacts.{same_key_is}
use Rattle.mpi_base.specs.declared.entries.Act.{Act}
use Rattle.mpi_base.specs.declared.entries.Act.TheVariants.{Call, Answer, Deliver, Offer as MakeOffer, Settle, Leave, Back}
use Rattle.mpi_base.specs.declared.entries.Choice.{Choice}
use Rattle.mpi_law.specs.ScriptLists.{AllScripts, next_op}
use Rattle.mpi_law.specs.declared.setting.TheConstants.{THREADS}
use Rattle.agree_law.specs.declared.rows.CreationRow.{CreationRow}
use Rattle.agree_law.specs.declared.rows.ShareRow.{ShareRow}
use Rattle.agree_law.specs.declared.rows.Stage.{Stage}
use Rattle.agree_law.specs.Tree.{is_first}
use Rattle.agree_law.specs.Part.{Offer, Agree, stage_of}
use Rattle.agree_law.specs.Gather.{has_offer, is_ready}
use Rattle.agree_law.specs.Offers.{is_due}
use Rattle.agree_law.specs.Verdicts.{may_settle_offers}
use Rattle.agree_law.specs.Shares.{share_here, may_settle_share}
use Rattle.agree_law.specs.Moves.{may_settle}
use Rattle.agree_law.proofs.Lists.{AllOf, AllOf-append, AllOf_map}
use Rattle.comm_law.specs.declared.rows.CommRow.{CommRow}
use Rattle.comm_law.specs.Comms.{Comms, row_at, is_freed_row, all_marked, all_marked_row}
use Rattle.mpi_protocol.specs.Rank.{Rank, thread_at}
use Rattle.mpi_protocol.specs.Step.{is_enabled}
use Rattle.mpi_protocol.specs.World.{World, rank_at, may_happen}
use Rattle.mpi_protocol.specs.Order.{IsOfScript, IsOpenTo}

-- Lists

-- an item is in a list
abbrev pub Has : {A : Type 0} → A → List A → Type 0
Has a [] = ⊥
Has a (x ∷ xs) = (x ≡ a) ⊎ Has a xs

has-left : {A : Type 0} (a : A) (xs ys : List A) → Has a xs → Has a (xs ++ ys)
has-left a [] ys h = absurd h
has-left a (x ∷ xs) ys (inl e) = inl e
has-left a (x ∷ xs) ys (inr h) = inr (has-left a xs ys h)

has-right : {A : Type 0} (a : A) (xs ys : List A) → Has a ys → Has a (xs ++ ys)
has-right a [] ys h = h
has-right a (x ∷ xs) ys h = inr (has-right a xs ys h)

has-map : {A B : Type 0} (f : A → B) (a : A) (xs : List A) → Has a xs → Has (f a) (map f xs)
has-map f a [] h = absurd h
has-map f a (x ∷ xs) (inl e) = inl (ap f e)
has-map f a (x ∷ xs) (inr h) = inr (has-map f a xs h)

has-range : (a n i : ℕ) → a ≤ i → i < a + n → Has i (range_with_len a n)
has-range a zero i lo hi = absurd (omega (arith, lo, hi))
has-range a (suc n) i lo hi = go (a == i) refl (λ above. has-range (a + 1) n i above (omega (arith, hi)))
  where
    go : (b : Bool) → (a == i) ≡ b → (a + 1 ≤ i → Has i (range_with_len (a + 1) n)) → Has i (range_with_len a (suc n))
    go true s ih = inl (grind (arith, nat_tests, s))
    go false s ih = inr (ih (grind (arith, nat_tests, s, lo)))

pub all-has : {A : Type 0} (P : A → Type 0) (a : A) (xs : List A) → AllOf P xs → Has a xs → P a
all-has P a [] all h = absurd h
all-has P a (x ∷ xs) all (inl e) = subst P e all.0
all-has P a (x ∷ xs) all (inr h) = all-has P a xs all.1 h

-- Rows

offer_row : (os : List Offer) (key : Key) (p : ℕ) → has_offer os key p ≡ true → Has key (map (λ o. o.key) os)
offer_row [] key p e = absurd (cc)
offer_row (o ∷ os) key p e = go (same_key o.key key) refl (offer_row os key p)
  where
    go : (b : Bool) → same_key o.key key ≡ b → (has_offer os key p ≡ true → Has key (map (λ o. o.key) os)) → Has key (map (λ o. o.key) (o ∷ os))
    go true s ih = inl (same_key_is o.key key s)
    go false s ih = inr (ih (grind (arith, s, e)))

share_row : (os : List ShareRow) (key : Key) (p : ℕ) → is_some (share_here os key p) ≡ true → Has key (map (λ o. o.key) os)
share_row [] key p e = absurd (cc)
share_row (o ∷ os) key p e = go (same_key o.key key) refl e (share_row os key p)
  where
    go : (b : Bool) → same_key o.key key ≡ b → is_some (if b && (o.place == p) then Some o.share else share_here os key p) ≡ true → (is_some (share_here os key p) ≡ true → Has key (map (λ o. o.key) os)) → Has key (map (λ o. o.key) (o ∷ os))
    go true s f ih = inl (same_key_is o.key key s)
    go false s f ih = inr (ih f)

open_row : (os : List CreationRow) (key : Key) → is_some (stage_of os key) ≡ true → Has key (map (λ o. o.key) os)
open_row [] key e = absurd (cc)
open_row (o ∷ os) key e = go (same_key o.key key) refl (open_row os key)
  where
    go : (b : Bool) → same_key o.key key ≡ b → (is_some (stage_of os key) ≡ true → Has key (map (λ o. o.key) os)) → Has key (map (λ o. o.key) (o ∷ os))
    go true s ih = inl (same_key_is o.key key s)
    go false s ih = inr (ih (rw s at e))

comm_row : (ms : List CommRow) (c : ℕ) → is_some (find (λ m. m.ctx == c) ms) ≡ true → Has c (map (λ m. m.ctx) ms)
comm_row [] c e = absurd (cc)
comm_row (m ∷ ms) c e = go (m.ctx == c) refl (comm_row ms c)
  where
    go : (b : Bool) → (m.ctx == c) ≡ b → (is_some (find (λ m. m.ctx == c) ms) ≡ true → Has c (map (λ m. m.ctx) ms)) → Has c (map (λ m. m.ctx) (m ∷ ms))
    go true s ih = inl (grind (arith, nat_tests, s))
    go false s ih = inr (ih (rw s at e))

-- The acts of a rank

abbrev call_with : ℕ → Option Op → List Act
call_with t None = []
call_with t (Some op) = Call t op ∷ []

abbrev calls_of : AllScripts → Rank → ℕ → List ℕ → List Act
calls_of scripts x r [] = []
calls_of scripts x r (t ∷ ts) = call_with t (next_op scripts r t (thread_at x t).calls) ++ calls_of scripts x r ts

abbrev settles_of : Agree → List Key
settles_of a = map (λ o. o.key) a.gathered ++ map (λ o. o.key) a.shares

abbrev backs_on : AllScripts → Rank → ℕ → List Act
backs_on scripts x r = map (λ c. Back c) (map (λ m. m.ctx) x.comms.rows) ++ calls_of scripts x r (range_with_len 0 THREADS)

abbrev leaves_on : AllScripts → Rank → ℕ → List Act
leaves_on scripts x r = map (λ c. Leave c) (map (λ m. m.ctx) x.comms.rows) ++ backs_on scripts x r

abbrev offers_on : AllScripts → Rank → ℕ → List Act
offers_on scripts x r = map (λ k. MakeOffer k) (map (λ o. o.key) x.agree.opened) ++ leaves_on scripts x r

abbrev settles_on : AllScripts → Rank → ℕ → List Act
settles_on scripts x r = map (λ k. Settle k) (settles_of x.agree) ++ offers_on scripts x r

abbrev answers_on : AllScripts → Rank → ℕ → List Act
answers_on scripts x r = map (λ t. Answer t) (range_with_len 0 THREADS) ++ settles_on scripts x r

abbrev acts_of : World → AllScripts → ℕ → List Act
acts_of w scripts r = map (λ from. Deliver from) (range_with_len 0 (length w.ranks)) ++ answers_on scripts (rank_at w r) r

-- who may settle has a row of the key
shares_row : (r : ℕ) (a : Agree) (key : Key) (ms : List ℕ) → is_first r ms ≡ true → list_all (λ p. is_some (share_here a.shares key p)) (range_with_len 0 (length ms)) ≡ true → Has key (map (λ o. o.key) a.shares)
shares_row r a key [] first all = absurd (cc)
shares_row r a key (m ∷ ms) first all = share_row a.shares key 0 (grind (arith, all))

settle_row : (r : ℕ) (a : Agree) (key : Key) → may_settle r a key ≡ true → Has key (settles_of a)
unfolding may_settle is_ready
settle_row r a key may = go (may_settle_offers r a key) refl
  where
    go : (b : Bool) → may_settle_offers r a key ≡ b → Has key (settles_of a)
    go true e = has-left key (map (λ o. o.key) a.gathered) (map (λ o. o.key) a.shares) (offer_row a.gathered key 0 (grind (arith, e)))
    go false e =
        let s : may_settle_share r a key ≡ true = grind (arith, may, e) in
        has-right key (map (λ o. o.key) a.gathered) (map (λ o. o.key) a.shares) (shares_row r a key key.members (grind (arith, s)) (grind (arith, s)))

due_some : (o : Option Stage) → is_due o ≡ true → is_some o ≡ true
due_some None e = absurd (cc)
due_some (Some s) e = refl

freed_some : (o : Option CommRow) → is_freed_row o ≡ true → is_some o ≡ true
freed_some None e = absurd (cc)
freed_some (Some m) e = refl

marked_some : (t : Comms) (r : ℕ) (o : Option CommRow) → all_marked_row t r o ≡ true → is_some o ≡ true
marked_some t r None e = absurd (cc)
marked_some t r (Some m) e = refl

marked_row : (t : Comms) (r c : ℕ) → all_marked t r c ≡ true → is_some (row_at t c) ≡ true
unfolding all_marked
marked_row t r c e = marked_some t r (row_at t c) e

call_there : (scripts : AllScripts) (x : Rank) (r t : ℕ) (op : Op) (ts : List ℕ) → Has t ts → next_op scripts r t (thread_at x t).calls ≡ Some op → Has (Call t op) (calls_of scripts x r ts)
call_there scripts x r t op [] h e = absurd h
call_there scripts x r t op (u ∷ ts) (inl is) e =
    has-left (Call t op) (call_with u (next_op scripts r u (thread_at x u).calls)) (calls_of scripts x r ts)
    (subst (λ z. Has (Call t op) (call_with z (next_op scripts r z (thread_at x z).calls))) (sym is) (rw e (inl refl)))
call_there scripts x r t op (u ∷ ts) (inr h) e = has-right (Call t op) (call_with u (next_op scripts r u (thread_at x u).calls)) (calls_of scripts x r ts) (call_there scripts x r t op ts h e)

-- an act that is open is one of them, in the section of its kind

in_backs : (scripts : AllScripts) (x : Rank) (r : ℕ) (act : Act) → Has act (calls_of scripts x r (range_with_len 0 THREADS)) → Has act (backs_on scripts x r)
in_backs scripts x r act h = has-right act (map (λ c. Back c) (map (λ m. m.ctx) x.comms.rows)) (calls_of scripts x r (range_with_len 0 THREADS)) h

in_leaves : (scripts : AllScripts) (x : Rank) (r : ℕ) (act : Act) → Has act (backs_on scripts x r) → Has act (leaves_on scripts x r)
in_leaves scripts x r act h = has-right act (map (λ c. Leave c) (map (λ m. m.ctx) x.comms.rows)) (backs_on scripts x r) h

in_offers : (scripts : AllScripts) (x : Rank) (r : ℕ) (act : Act) → Has act (leaves_on scripts x r) → Has act (offers_on scripts x r)
in_offers scripts x r act h = has-right act (map (λ k. MakeOffer k) (map (λ o. o.key) x.agree.opened)) (leaves_on scripts x r) h

in_settles : (scripts : AllScripts) (x : Rank) (r : ℕ) (act : Act) → Has act (offers_on scripts x r) → Has act (settles_on scripts x r)
in_settles scripts x r act h = has-right act (map (λ k. Settle k) (settles_of x.agree)) (offers_on scripts x r) h

in_answers : (scripts : AllScripts) (x : Rank) (r : ℕ) (act : Act) → Has act (settles_on scripts x r) → Has act (answers_on scripts x r)
in_answers scripts x r act h = has-right act (map (λ t. Answer t) (range_with_len 0 THREADS)) (settles_on scripts x r) h

in_acts : (w : World) (scripts : AllScripts) (r : ℕ) (act : Act) → Has act (answers_on scripts (rank_at w r) r) → Has act (acts_of w scripts r)
in_acts w scripts r act h = has-right act (map (λ from. Deliver from) (range_with_len 0 (length w.ranks))) (answers_on scripts (rank_at w r) r) h

open_act : (w : World) (scripts : AllScripts) (r : ℕ) (act : Act) → may_happen w (record { rank = r; act = act }) ≡ true → IsOfScript scripts (rank_at w r) r act → Has act (acts_of w scripts r)
unfolding is_enabled
open_act w scripts r (Deliver from) may of =
    has-left (Deliver from) (map (λ z. Deliver z) (range_with_len 0 (length w.ranks))) (answers_on scripts (rank_at w r) r)
    (has-map (λ z. Deliver z) from (range_with_len 0 (length w.ranks)) (has-range 0 (length w.ranks) from (omega arith) (let l : from < length w.ranks = grind (arith, nat_tests, may) in omega (arith, l))))
open_act w scripts r (Answer t) may of =
    in_acts w scripts r (Answer t)
    (has-left (Answer t) (map (λ z. Answer z) (range_with_len 0 THREADS)) (settles_on scripts (rank_at w r) r)
    (has-map (λ z. Answer z) t (range_with_len 0 THREADS) (has-range 0 THREADS t (omega arith) (let l : t < THREADS = grind (arith, nat_tests, may) in omega (arith, l)))))
open_act w scripts r (Settle key) may of =
    let x = rank_at w r in
    in_acts w scripts r (Settle key)
    (in_answers scripts x r (Settle key)
    (has-left (Settle key) (map (λ k. Settle k) (settles_of x.agree)) (offers_on scripts x r) (has-map (λ k. Settle k) key (settles_of x.agree) (settle_row x.rank x.agree key (grind (arith, may))))))
open_act w scripts r (MakeOffer key) may of =
    let x = rank_at w r in
    let keys = map (λ (o : CreationRow). o.key) x.agree.opened in
    in_acts w scripts r (MakeOffer key)
    (in_answers scripts x r (MakeOffer key)
    (in_settles scripts x r (MakeOffer key)
    (has-left (MakeOffer key) (map (λ k. MakeOffer k) keys) (leaves_on scripts x r) (has-map (λ k. MakeOffer k) key keys (open_row x.agree.opened key (due_some (stage_of x.agree.opened key) (grind (arith, may))))))))
open_act w scripts r (Leave c) may of =
    let x = rank_at w r in
    let contexts = map (λ (m : CommRow). m.ctx) x.comms.rows in
    in_acts w scripts r (Leave c)
    (in_answers scripts x r (Leave c)
    (in_settles scripts x r (Leave c)
    (in_offers scripts x r (Leave c)
    (has-left (Leave c) (map (λ z. Leave z) contexts) (backs_on scripts x r) (has-map (λ z. Leave z) c contexts (comm_row x.comms.rows c (freed_some (row_at x.comms c) (grind (arith, may)))))))))
open_act w scripts r (Back c) may of =
    let x = rank_at w r in
    let contexts = map (λ (m : CommRow). m.ctx) x.comms.rows in
    in_acts w scripts r (Back c)
    (in_answers scripts x r (Back c)
    (in_settles scripts x r (Back c)
    (in_offers scripts x r (Back c)
    (in_leaves scripts x r (Back c)
    (has-left (Back c) (map (λ z. Back z) contexts) (calls_of scripts x r (range_with_len 0 THREADS)) (has-map (λ z. Back z) c contexts (comm_row x.comms.rows c (marked_row x.comms x.rank c (grind (arith, may))))))))))
open_act w scripts r (Call t op) may of =
    let x = rank_at w r in
    in_acts w scripts r (Call t op)
    (in_answers scripts x r (Call t op)
    (in_settles scripts x r (Call t op)
    (in_offers scripts x r (Call t op)
    (in_leaves scripts x r (Call t op)
    (in_backs scripts x r (Call t op)
    (call_there scripts x r t op (range_with_len 0 THREADS) (has-range 0 THREADS t (omega arith) (let l : t < THREADS = grind (arith, nat_tests, may) in omega (arith, l))) of))))))

-- and each call among them is the next of its script
abbrev Scripted : AllScripts → Rank → ℕ → List Act → Type 0
Scripted scripts x r acts = AllOf (λ a. IsOfScript scripts x r a) acts

scripted_then : {A : Type 0} (scripts : AllScripts) (x : Rank) (r : ℕ) (f : A → Act) (xs : List A) (acts : List Act) → ((a : A) → IsOfScript scripts x r (f a)) → Scripted scripts x r acts → Scripted scripts x r (map f xs ++ acts)
scripted_then scripts x r f [] acts g h = h
scripted_then scripts x r f (a ∷ xs) acts g h = (g a, scripted_then scripts x r f xs acts g h)

calls_scripted : (scripts : AllScripts) (x : Rank) (r : ℕ) (ts : List ℕ) → Scripted scripts x r (calls_of scripts x r ts)
calls_scripted scripts x r [] = tt
calls_scripted scripts x r (t ∷ ts) =
    AllOf-append (λ a. IsOfScript scripts x r a) (call_with t (next_op scripts r t (thread_at x t).calls)) (calls_of scripts x r ts) (one (next_op scripts r t (thread_at x t).calls) refl) (calls_scripted scripts x r ts)
  where
    one : (o : Option Op) → next_op scripts r t (thread_at x t).calls ≡ o → Scripted scripts x r (call_with t o)
    one None e = tt
    one (Some op) e = (e, tt)

acts_scripted : (w : World) (scripts : AllScripts) (r : ℕ) → Scripted scripts (rank_at w r) r (acts_of w scripts r)
acts_scripted w scripts r =
    let x = rank_at w r in
    let contexts = map (λ (m : CommRow). m.ctx) x.comms.rows in
    scripted_then scripts x r (λ from. Deliver from) (range_with_len 0 (length w.ranks)) (answers_on scripts x r) (λ a. tt)
    (scripted_then scripts x r (λ t. Answer t) (range_with_len 0 THREADS) (settles_on scripts x r) (λ a. tt)
    (scripted_then scripts x r (λ k. Settle k) (settles_of x.agree) (offers_on scripts x r) (λ a. tt)
    (scripted_then scripts x r (λ k. MakeOffer k) (map (λ (o : CreationRow). o.key) x.agree.opened) (leaves_on scripts x r) (λ a. tt)
    (scripted_then scripts x r (λ c. Leave c) contexts (backs_on scripts x r) (λ a. tt)
    (scripted_then scripts x r (λ c. Back c) contexts (calls_of scripts x r (range_with_len 0 THREADS)) (λ a. tt) (calls_scripted scripts x r (range_with_len 0 THREADS)))))))

-- The choices of a world

abbrev at_rank : ℕ → Act → Choice
at_rank r a = record { rank = r; act = a }

abbrev of_ranks : World → AllScripts → List ℕ → List Choice
of_ranks w scripts [] = []
of_ranks w scripts (r ∷ rs) = map (at_rank r) (acts_of w scripts r) ++ of_ranks w scripts rs

abbrev pub candidates : World → AllScripts → List Choice
candidates w scripts = of_ranks w scripts (range_with_len 0 (length w.ranks))

of_rank : (w : World) (scripts : AllScripts) (r : ℕ) (act : Act) (rs : List ℕ) → Has r rs → Has act (acts_of w scripts r) → Has (at_rank r act) (of_ranks w scripts rs)
of_rank w scripts r act [] h k = absurd h
of_rank w scripts r act (q ∷ rs) (inl is) k =
    has-left (at_rank r act) (map (at_rank q) (acts_of w scripts q)) (of_ranks w scripts rs) (subst (λ z. Has (at_rank r act) (map (at_rank z) (acts_of w scripts z))) (sym is) (has-map (at_rank r) act (acts_of w scripts r) k))
of_rank w scripts r act (q ∷ rs) (inr h) k = has-right (at_rank r act) (map (at_rank q) (acts_of w scripts q)) (of_ranks w scripts rs) (of_rank w scripts r act rs h k)

-- each choice that is open is a candidate
pub open_is_candidate : (w : World) (scripts : AllScripts) (c : Choice) → IsOpenTo w scripts c → Has c (candidates w scripts)
open_is_candidate w scripts c may =
    let e = may.enabled in
    let lt : c.rank < length w.ranks = grind (arith, nat_tests, e) in
    of_rank w scripts c.rank c.act (range_with_len 0 (length w.ranks)) (has-range 0 (length w.ranks) c.rank (omega arith) (omega (arith, lt))) (open_act w scripts c.rank c.act e may.scripted)

-- a candidate that may happen is open
pub candidates_scripted : (w : World) (scripts : AllScripts) → AllOf (λ c. IsOfScript scripts (rank_at w c.rank) c.rank c.act) (candidates w scripts)
candidates_scripted w scripts = go (range_with_len 0 (length w.ranks))
  where
    go : (rs : List ℕ) → AllOf (λ (c : Choice). IsOfScript scripts (rank_at w c.rank) c.rank c.act) (of_ranks w scripts rs)
    go [] = tt
    go (r ∷ rs) =
        AllOf-append (λ (c : Choice). IsOfScript scripts (rank_at w c.rank) c.rank c.act) (map (at_rank r) (acts_of w scripts r)) (of_ranks w scripts rs)
        (AllOf_map (λ (c : Choice). IsOfScript scripts (rank_at w c.rank) c.rank c.act) (at_rank r) (acts_of w scripts r) (acts_scripted w scripts r)) (go rs)
