-- Whether a journal is drained, as a test: each of its choices is the first that may be made, and whether nothing is left to do
-- after it. That the test is right: so both may be shown by computing.
use Rattle.std.proofs.Common.{◌≡◌, ℕ, zero, suc, ◌+◌, ◌<◌, ◌≤◌, ◌==◌, ◌&&◌, ◌||◌, not, if◌then◌else◌, nat_lt, Bool, true, false, List, [], ◌∷◌, length, get_or, drop, find, option_map, Option, Some, None, is_none, is_some, refl, ap, subst, arith}
use Rattle.std.specs.List.{list_all, range_with_len}
use Rattle.std.proofs.lemmas.Bool.Decides.{nat_tests}
use Rattle.mpi_base.specs.declared.keys.Key.{Key}
use Rattle.mpi_base.specs.declared.ops.Op.{Op}
use Rattle.mpi_base.specs.declared.entries.Act.{Act}
use Rattle.mpi_base.specs.declared.entries.Act.TheVariants.{Call, Answer, Deliver, Offer as MakeOffer, Settle, Leave, Back}
use Rattle.mpi_base.specs.declared.entries.Choice.{Choice}
use Rattle.mpi_base.specs.declared.entries.Entry.{Entry}
use Rattle.mpi_base.specs.Keys.{same_key}
use Rattle.mpi_base.proofs.KeyFacts.{same_key_is}
use Rattle.mpi_law.specs.declared.setting.TheConstants.{THREADS}
use Rattle.mpi_law.specs.ScriptLists.{AllScripts, next_op}
use Rattle.agree_law.specs.declared.rows.Stage.{Stage}
use Rattle.agree_law.specs.declared.rows.CreationRow.{CreationRow}
use Rattle.agree_law.specs.declared.rows.ShareRow.{ShareRow}
use Rattle.agree_law.specs.Tree.{is_first, children_of}
use Rattle.agree_law.specs.Part.{Offer, stage_of}
use Rattle.agree_law.specs.Kinds.{is_share}
use Rattle.agree_law.specs.Gather.{has_offer, is_ready}
use Rattle.agree_law.specs.Offers.{is_due}
use Rattle.agree_law.specs.Shares.{share_here}
use Rattle.agree_law.specs.Moves.{may_settle}
use Rattle.comm_law.specs.declared.rows.CommRow.{CommRow}
use Rattle.comm_law.specs.Comms.{Comms, row_at, is_freed_row, all_marked_row, all_marked}
use Rattle.mpi_protocol.specs.Rank.{Rank, thread_at, is_idle, has_open_under}
use Rattle.mpi_protocol.specs.Answers.{is_answerable}
use Rattle.mpi_protocol.specs.Step.{is_enabled}
use Rattle.mpi_protocol.specs.World.{World, rank_at, has_packet, may_happen, moved}
use Rattle.mpi_protocol.specs.Order.{is_no_later, is_call, IsOfScript, IsOpenTo, IsFirstChoice, IsDrained, IsQuiet}
use Rattle.mpi_protocol.proofs.Lines.{all_enabled, first, rest}

-- The test

-- whether each act but a call that a rank may make passes a test
abbrev pub each_passes : (Act → Bool) → ℕ → Rank → Bool
each_passes ok n x =
    list_all (λ f. ok (Deliver f)) (range_with_len 0 n)
    && (list_all (λ t. ok (Answer t)) (range_with_len 0 THREADS)
    && (list_all (λ o. ok (Settle o.key)) x.agree.gathered
    && (list_all (λ o. ok (Settle o.key)) x.agree.shares
    && (list_all (λ o. ok (MakeOffer o.key)) x.agree.opened
    && (list_all (λ m. ok (Leave m.ctx)) x.comms.rows && list_all (λ m. ok (Back m.ctx)) x.comms.rows)))))

abbrev pub passes_next : (Act → Bool) → ℕ → Option Op → Bool
passes_next ok t None = true
passes_next ok t (Some op) = ok (Call t op)

-- and each call of the next operation of a script
abbrev pub each_call_passes : (Act → Bool) → AllScripts → ℕ → Rank → Bool
each_call_passes ok scripts r x = list_all (λ t. passes_next ok t (next_op scripts r t (thread_at x t).calls)) (range_with_len 0 THREADS)

abbrev pub if_it_may : Bool → World → Choice → Choice → Bool
if_it_may false w c d = true
if_it_may true w c d = is_no_later w c d

-- an act may not be made, or comes no earlier than a choice
abbrev pub comes_no_earlier : World → Choice → ℕ → Act → Bool
comes_no_earlier w c r a = if_it_may (may_happen w (record { rank = r; act = a })) w c (record { rank = r; act = a })

abbrev pub is_first_at : AllScripts → World → Choice → ℕ → Bool
is_first_at scripts w c r =
    each_passes (comes_no_earlier w c r) (length w.ranks) (rank_at w r) && each_call_passes (comes_no_earlier w c r) scripts r (rank_at w r)

abbrev pub is_first_of : AllScripts → World → Choice → Bool
is_first_of scripts w c = may_happen w c && list_all (is_first_at scripts w c) (range_with_len 0 (length w.ranks))

unfoldable pub all_first : AllScripts → World → List Entry → Bool
all_first scripts w [] = true
all_first scripts w (e ∷ es) = is_first_of scripts w e.choice && all_first scripts (moved w e.choice) es

-- the operations that the calls of a journal are, and those that the scripts have in their places
abbrev pub op_in : Act → Option Op
op_in (Call t op) = Some op
op_in (Answer t) = None
op_in (Deliver from) = None
op_in (MakeOffer key) = None
op_in (Settle key) = None
op_in (Leave c) = None
op_in (Back c) = None

abbrev pub op_due : AllScripts → World → ℕ → Act → Option Op
op_due scripts w r (Call t op) = next_op scripts r t (thread_at (rank_at w r) t).calls
op_due scripts w r (Answer t) = None
op_due scripts w r (Deliver from) = None
op_due scripts w r (MakeOffer key) = None
op_due scripts w r (Settle key) = None
op_due scripts w r (Leave c) = None
op_due scripts w r (Back c) = None

abbrev pub ops_in : List Entry → List (Option Op)
ops_in [] = []
ops_in (e ∷ es) = op_in e.choice.act ∷ ops_in es

unfoldable pub ops_due : AllScripts → World → List Entry → List (Option Op)
ops_due scripts w [] = []
ops_due scripts w (e ∷ es) = op_due scripts w e.choice.rank e.choice.act ∷ ops_due scripts (moved w e.choice) es

abbrev pub is_still_at : World → ℕ → Act → Bool
is_still_at w r a = not (may_happen w (record { rank = r; act = a }))

abbrev pub is_at_end : AllScripts → ℕ → Rank → ℕ → Bool
is_at_end scripts r x t = not (is_idle (thread_at x t).waits) || is_none (next_op scripts r t (thread_at x t).calls)

-- no act but a call may be made at a rank, and each of its threads waits or is at the end of its script
abbrev pub is_quiet_at : AllScripts → World → ℕ → Bool
is_quiet_at scripts w r = each_passes (is_still_at w r) (length w.ranks) (rank_at w r) && list_all (is_at_end scripts r (rank_at w r)) (range_with_len 0 THREADS)

unfoldable pub is_quiet : AllScripts → World → Bool
is_quiet scripts w = list_all (is_quiet_at scripts w) (range_with_len 0 (length w.ranks))

-- Lists

all_in : (p : ℕ → Bool) (a n c : ℕ) → list_all p (range_with_len a n) ≡ true → a ≤ c → c < a + n → p c ≡ true
all_in p a zero c e lo hi = absurd (omega arith)
all_in p a (suc n) c e lo hi = go (a == c) refl (first (p a) (list_all p (range_with_len (a + 1) n)) e) (all_in p (a + 1) n c (rest (p a) (list_all p (range_with_len (a + 1) n)) e))
  where
    go : (t : Bool) → (a == c) ≡ t → p a ≡ true → (a + 1 ≤ c → c < a + 1 + n → p c ≡ true) → p c ≡ true
    go true eq here more = let is : a ≡ c = grind (arith, nat_tests, eq) in subst (λ (i : ℕ). p i ≡ true) is here
    go false eq here more = more (grind (arith, nat_tests, eq, lo)) (omega (arith, hi))

below : (a b : ℕ) → nat_lt a b ≡ true → a < b
below a b h = grind (arith, nat_tests, h)

up_to : (p : ℕ → Bool) (n c : ℕ) → list_all p (range_with_len 0 n) ≡ true → nat_lt c n ≡ true → p c ≡ true
up_to p n c e lt = all_in p 0 n c e (omega arith) (let is = below c n lt in omega (arith, is))

-- what holds of the keys of all rows holds of a key that has a row
of_stage : (f : Key → Bool) (xs : List CreationRow) (key : Key) → list_all (λ o. f o.key) xs ≡ true → is_some (stage_of xs key) ≡ true → f key ≡ true
of_stage f [] key h found = absurd (cc (found))
of_stage f (o ∷ os) key h found = go (same_key o.key key) refl found (of_stage f os key (rest (f o.key) (list_all (λ o. f o.key) os) h))
  where
    go : (b : Bool) → same_key o.key key ≡ b → is_some (option_map (λ r. r.stage) (if b then Some o else find (λ r. same_key r.key key) os)) ≡ true
        → (is_some (stage_of os key) ≡ true → f key ≡ true) → f key ≡ true
    go true e k ih = subst (λ (i : Key). f i ≡ true) (same_key_is o.key key e) (first (f o.key) (list_all (λ o. f o.key) os) h)
    go false e k ih = ih k

of_offer : (f : Key → Bool) (xs : List Offer) (key : Key) (p : ℕ) → list_all (λ o. f o.key) xs ≡ true → has_offer xs key p ≡ true → f key ≡ true
of_offer f [] key p h found = absurd (cc (found))
of_offer f (o ∷ os) key p h found = go (same_key o.key key) (o.place == p) refl found (of_offer f os key p (rest (f o.key) (list_all (λ o. f o.key) os) h))
  where
    go : (b c : Bool) → same_key o.key key ≡ b → ((b && c) || has_offer os key p) ≡ true → (has_offer os key p ≡ true → f key ≡ true) → f key ≡ true
    go true c e k ih = subst (λ (i : Key). f i ≡ true) (same_key_is o.key key e) (first (f o.key) (list_all (λ o. f o.key) os) h)
    go false c e k ih = ih k

of_share : (f : Key → Bool) (xs : List ShareRow) (key : Key) (p : ℕ) → list_all (λ o. f o.key) xs ≡ true → is_some (share_here xs key p) ≡ true → f key ≡ true
of_share f [] key p h found = absurd (cc (found))
of_share f (o ∷ os) key p h found = go (same_key o.key key) (o.place == p) refl found (of_share f os key p (rest (f o.key) (list_all (λ o. f o.key) os) h))
  where
    go : (b c : Bool) → same_key o.key key ≡ b → is_some (if b && c then Some o.share else share_here os key p) ≡ true → (is_some (share_here os key p) ≡ true → f key ≡ true) → f key ≡ true
    go true c e k ih = subst (λ (i : Key). f i ≡ true) (same_key_is o.key key e) (first (f o.key) (list_all (λ o. f o.key) os) h)
    go false c e k ih = ih k

of_row : (f : ℕ → Bool) (xs : List CommRow) (c : ℕ) → list_all (λ m. f m.ctx) xs ≡ true → is_some (find (λ (m : CommRow). m.ctx == c) xs) ≡ true → f c ≡ true
of_row f [] c h found = absurd (cc (found))
of_row f (m ∷ ms) c h found = go (m.ctx == c) refl found (of_row f ms c (rest (f m.ctx) (list_all (λ m. f m.ctx) ms) h))
  where
    go : (b : Bool) → (m.ctx == c) ≡ b → is_some (if b then Some m else find (λ (m : CommRow). m.ctx == c) ms) ≡ true → (is_some (find (λ (m : CommRow). m.ctx == c) ms) ≡ true → f c ≡ true) → f c ≡ true
    go true e k ih = let is : m.ctx ≡ c = grind (arith, nat_tests, e) in subst (λ (i : ℕ). f i ≡ true) is (first (f m.ctx) (list_all (λ m. f m.ctx) ms) h)
    go false e k ih = ih k

-- What an act needs at a rank

due_is_there : (s : Option Stage) → is_due s ≡ true → is_some s ≡ true
due_is_there None e = e
due_is_there (Some s) e = refl

freed_is_there : (o : Option CommRow) → is_freed_row o ≡ true → is_some o ≡ true
freed_is_there None e = e
freed_is_there (Some m) e = refl

marked_is_there : (t : Comms) (r : ℕ) (o : Option CommRow) → all_marked_row t r o ≡ true → is_some o ≡ true
marked_is_there t r None e = e
marked_is_there t r (Some m) e = refl

or_none : (a : Bool) → (a || false) ≡ true → a ≡ true
or_none true h = refl
or_none false h = h

-- an exchange has a first member, whose share is there
first_share : (r : ℕ) (shares : List ShareRow) (key : Key) (members : List ℕ)
    → (is_first r members && list_all (λ p. is_some (share_here shares key p)) (range_with_len 0 (length members))) ≡ true → is_some (share_here shares key 0) ≡ true
first_share r shares key [] h = absurd (cc (h))
first_share r shares key (m ∷ ms) h =
    first (is_some (share_here shares key 0)) (list_all (λ p. is_some (share_here shares key p)) (range_with_len 1 (length ms)))
    (rest (m == r) (list_all (λ p. is_some (share_here shares key p)) (range_with_len 0 (length (m ∷ ms)))) h)

of_either : (f : Key → Bool) (x : Rank) (key : Key) → list_all (λ o. f o.key) x.agree.gathered ≡ true → list_all (λ o. f o.key) x.agree.shares ≡ true
    → may_settle x.rank x.agree key ≡ true → f key ≡ true
unfolding may_settle is_ready
of_either f x key offers shares may = go (is_share key.kind) may
  where
    go : (b : Bool)
        → ((not b && (is_first x.rank key.members && list_all (has_offer x.agree.gathered key) (0 ∷ children_of 0 (length key.members))))
        || (b && (is_first x.rank key.members && list_all (λ p. is_some (share_here x.agree.shares key p)) (range_with_len 0 (length key.members))))) ≡ true
        → f key ≡ true
    go false h =
        let whole = rest (is_first x.rank key.members) (list_all (has_offer x.agree.gathered key) (0 ∷ children_of 0 (length key.members))) (or_none _ h) in
        of_offer f x.agree.gathered key 0 offers (first (has_offer x.agree.gathered key 0) (list_all (has_offer x.agree.gathered key) (children_of 0 (length key.members))) whole)
    go true h = of_share f x.agree.shares key 0 shares (first_share x.rank x.agree.shares key key.members h)

-- That it is right

record Parts (ok : Act → Bool) (n : ℕ) (x : Rank) : Type 0 where
  deliveries : list_all (λ f. ok (Deliver f)) (range_with_len 0 n) ≡ true
  answers : list_all (λ t. ok (Answer t)) (range_with_len 0 THREADS) ≡ true
  offer_settles : list_all (λ o. ok (Settle o.key)) x.agree.gathered ≡ true
  share_settles : list_all (λ o. ok (Settle o.key)) x.agree.shares ≡ true
  offers : list_all (λ o. ok (MakeOffer o.key)) x.agree.opened ≡ true
  leaves : list_all (λ m. ok (Leave m.ctx)) x.comms.rows ≡ true
  backs : list_all (λ m. ok (Back m.ctx)) x.comms.rows ≡ true

parts : (ok : Act → Bool) (n : ℕ) (x : Rank) → each_passes ok n x ≡ true → Parts ok n x
parts ok n x h =
    let a = list_all (λ f. ok (Deliver f)) (range_with_len 0 n) in
    let b = list_all (λ t. ok (Answer t)) (range_with_len 0 THREADS) in
    let c = list_all (λ o. ok (Settle o.key)) x.agree.gathered in
    let d = list_all (λ o. ok (Settle o.key)) x.agree.shares in
    let e = list_all (λ o. ok (MakeOffer o.key)) x.agree.opened in
    let f = list_all (λ m. ok (Leave m.ctx)) x.comms.rows in
    let g = list_all (λ m. ok (Back m.ctx)) x.comms.rows in
    let h1 = rest a (b && (c && (d && (e && (f && g))))) h in
    let h2 = rest b (c && (d && (e && (f && g)))) h1 in
    let h3 = rest c (d && (e && (f && g))) h2 in
    let h4 = rest d (e && (f && g)) h3 in
    let h5 = rest e (f && g) h4 in
    record {
      deliveries = first a (b && (c && (d && (e && (f && g))))) h;
      answers = first b (c && (d && (e && (f && g)))) h1;
      offer_settles = first c (d && (e && (f && g))) h2;
      share_settles = first d (e && (f && g)) h3;
      offers = first e (f && g) h4;
      leaves = first f g h5;
      backs = rest f g h5;
    }

-- an act that may be made passes, where each passes
passes : (ok : Act → Bool) (w : World) (r : ℕ) (a : Act) → Parts ok (length w.ranks) (rank_at w r) → has_packet w r a ≡ true → is_enabled (rank_at w r) a ≡ true → is_call a ≡ false → ok a ≡ true
unfolding is_enabled all_marked
passes ok w r (Call t op) all packet may call = absurd (cc (call))
passes ok w r (Answer t) all packet may call =
    up_to (λ i. ok (Answer i)) THREADS t all.answers (first (nat_lt t THREADS) (is_answerable (rank_at w r) (thread_at (rank_at w r) t).waits) may)
passes ok w r (Deliver from) all packet may call = up_to (λ i. ok (Deliver i)) (length w.ranks) from all.deliveries (first (nat_lt from (length w.ranks)) _ packet)
passes ok w r (MakeOffer key) all packet may call =
    of_stage (λ k. ok (MakeOffer k)) (rank_at w r).agree.opened key all.offers (due_is_there (stage_of (rank_at w r).agree.opened key) may)
passes ok w r (Settle key) all packet may call = of_either (λ k. ok (Settle k)) (rank_at w r) key all.offer_settles all.share_settles may
passes ok w r (Leave c) all packet may call =
    of_row (λ i. ok (Leave i)) (rank_at w r).comms.rows c all.leaves (freed_is_there (row_at (rank_at w r).comms c) (first (is_freed_row (row_at (rank_at w r).comms c)) (not (has_open_under (rank_at w r) c)) may))
passes ok w r (Back c) all packet may call =
    of_row (λ i. ok (Back i)) (rank_at w r).comms.rows c all.backs
    (marked_is_there (rank_at w r).comms (rank_at w r).rank (row_at (rank_at w r).comms c) (first (all_marked_row (rank_at w r).comms (rank_at w r).rank (row_at (rank_at w r).comms c)) _ may))

-- so does a call of the next operation of a script
passes_call : (ok : Act → Bool) (scripts : AllScripts) (r : ℕ) (x : Rank) (t : ℕ) (op : Op) → each_call_passes ok scripts r x ≡ true → nat_lt t THREADS ≡ true
    → next_op scripts r t (thread_at x t).calls ≡ Some op → ok (Call t op) ≡ true
passes_call ok scripts r x t op all lt due =
    subst (λ (o : Option Op). passes_next ok t o ≡ true) due (up_to (λ i. passes_next ok i (next_op scripts r i (thread_at x i).calls)) THREADS t all lt)

passes_either : (ok : Act → Bool) (scripts : AllScripts) (w : World) (r : ℕ) (a : Act)
    → (each_passes ok (length w.ranks) (rank_at w r) && each_call_passes ok scripts r (rank_at w r)) ≡ true
    → has_packet w r a ≡ true → is_enabled (rank_at w r) a ≡ true → IsOfScript scripts (rank_at w r) r a → ok a ≡ true
unfolding is_enabled
passes_either ok scripts w r a h = go a (parts ok (length w.ranks) (rank_at w r) (first (each_passes ok (length w.ranks) (rank_at w r)) (each_call_passes ok scripts r (rank_at w r)) h))
    (rest (each_passes ok (length w.ranks) (rank_at w r)) (each_call_passes ok scripts r (rank_at w r)) h)
  where
    go : (b : Act) → Parts ok (length w.ranks) (rank_at w r) → each_call_passes ok scripts r (rank_at w r) ≡ true → has_packet w r b ≡ true → is_enabled (rank_at w r) b ≡ true → IsOfScript scripts (rank_at w r) r b → ok b ≡ true
    go (Call t op) all calls packet may due = passes_call ok scripts r (rank_at w r) t op calls (first (nat_lt t THREADS) (is_idle (thread_at (rank_at w r) t).waits) may) due
    go (Answer t) all calls packet may due = passes ok w r (Answer t) all packet may refl
    go (Deliver from) all calls packet may due = passes ok w r (Deliver from) all packet may refl
    go (MakeOffer key) all calls packet may due = passes ok w r (MakeOffer key) all packet may refl
    go (Settle key) all calls packet may due = passes ok w r (Settle key) all packet may refl
    go (Leave c) all calls packet may due = passes ok w r (Leave c) all packet may refl
    go (Back c) all calls packet may due = passes ok w r (Back c) all packet may refl

first_when : (scripts : AllScripts) (w : World) (c : Choice) → is_first_of scripts w c ≡ true → IsOfScript scripts (rank_at w c.rank) c.rank c.act → IsFirstChoice w scripts c
first_when scripts w c h due =
    record {
      may = record { enabled = first (may_happen w c) (list_all (is_first_at scripts w c) (range_with_len 0 (length w.ranks))) h; scripted = due };
      least = least;
    }
  where
    all : list_all (is_first_at scripts w c) (range_with_len 0 (length w.ranks)) ≡ true
    all = rest (may_happen w c) (list_all (is_first_at scripts w c) (range_with_len 0 (length w.ranks))) h

    least : (d : Choice) → IsOpenTo w scripts d → is_no_later w c d ≡ true
    least d may =
        let lt = first (nat_lt d.rank (length w.ranks)) (has_packet w d.rank d.act && is_enabled (rank_at w d.rank) d.act) may.enabled in
        let able = rest (nat_lt d.rank (length w.ranks)) (has_packet w d.rank d.act && is_enabled (rank_at w d.rank) d.act) may.enabled in
        let packet = first (has_packet w d.rank d.act) (is_enabled (rank_at w d.rank) d.act) able in
        let enabled = rest (has_packet w d.rank d.act) (is_enabled (rank_at w d.rank) d.act) able in
        let here = up_to (is_first_at scripts w c) (length w.ranks) d.rank all lt in
        let passed = passes_either (comes_no_earlier w c d.rank) scripts w d.rank d.act here packet enabled may.scripted in
        subst (λ (b : Bool). if_it_may b w c d ≡ true) may.enabled passed

scripted_when : (scripts : AllScripts) (w : World) (r : ℕ) (a : Act) → op_due scripts w r a ≡ op_in a → IsOfScript scripts (rank_at w r) r a
scripted_when scripts w r (Call t op) e = e
scripted_when scripts w r (Answer t) e = tt
scripted_when scripts w r (Deliver from) e = tt
scripted_when scripts w r (MakeOffer key) e = tt
scripted_when scripts w r (Settle key) e = tt
scripted_when scripts w r (Leave c) e = tt
scripted_when scripts w r (Back c) e = tt

-- a journal that passes is drained
pub drained_when : (scripts : AllScripts) (w : World) (es : List Entry) → all_first scripts w es ≡ true → ops_due scripts w es ≡ ops_in es → IsDrained scripts w es
unfolding all_first ops_due
drained_when scripts w [] h o = tt
drained_when scripts w (e ∷ es) h o = (
  first_when scripts w e.choice (first (is_first_of scripts w e.choice) (all_first scripts (moved w e.choice) es) h)
      (scripted_when scripts w e.choice.rank e.choice.act (ap (λ (l : List (Option Op)). get_or l 0 None) o)),
  drained_when scripts (moved w e.choice) es (rest (is_first_of scripts w e.choice) (all_first scripts (moved w e.choice) es) h) (ap (drop 1) o),
)

-- and its choices are all enabled
pub enabled_when : (scripts : AllScripts) (w : World) (es : List Entry) → all_first scripts w es ≡ true → all_enabled w es ≡ true
unfolding all_first all_enabled
enabled_when scripts w [] h = refl
enabled_when scripts w (e ∷ es) h =
    both (may_happen w e.choice) (all_enabled (moved w e.choice) es)
    (first (may_happen w e.choice) (list_all (is_first_at scripts w e.choice) (range_with_len 0 (length w.ranks))) (first (is_first_of scripts w e.choice) (all_first scripts (moved w e.choice) es) h))
    (enabled_when scripts (moved w e.choice) es (rest (is_first_of scripts w e.choice) (all_first scripts (moved w e.choice) es) h))
  where
    both : (a b : Bool) → a ≡ true → b ≡ true → (a && b) ≡ true
    both true b x y = y
    both false b x y = absurd (cc (x))

is_below : (a b : ℕ) → a < b → nat_lt a b ≡ true
is_below a b h = grind (arith, nat_tests, h)

-- a world that passes is quiet
pub quiet_when : (scripts : AllScripts) (w : World) → is_quiet scripts w ≡ true → IsQuiet w scripts
unfolding is_quiet
quiet_when scripts w h = record { still = still; ended = ended }
  where
    at : (r : ℕ) → nat_lt r (length w.ranks) ≡ true → is_quiet_at scripts w r ≡ true
    at r lt = up_to (is_quiet_at scripts w) (length w.ranks) r h lt

    still : (c : Choice) → is_call c.act ≡ false → may_happen w c ≡ false
    still c call = go (may_happen w c) refl
      where
        go : (b : Bool) → may_happen w c ≡ b → may_happen w c ≡ false
        go false e = e
        go true e =
            let lt = first (nat_lt c.rank (length w.ranks)) (has_packet w c.rank c.act && is_enabled (rank_at w c.rank) c.act) e in
            let able = rest (nat_lt c.rank (length w.ranks)) (has_packet w c.rank c.act && is_enabled (rank_at w c.rank) c.act) e in
            let packet = first (has_packet w c.rank c.act) (is_enabled (rank_at w c.rank) c.act) able in
            let enabled = rest (has_packet w c.rank c.act) (is_enabled (rank_at w c.rank) c.act) able in
            let each = first (each_passes (is_still_at w c.rank) (length w.ranks) (rank_at w c.rank)) (list_all (is_at_end scripts c.rank (rank_at w c.rank)) (range_with_len 0 THREADS)) (at c.rank lt) in
            let passed = passes (is_still_at w c.rank) w c.rank c.act (parts (is_still_at w c.rank) (length w.ranks) (rank_at w c.rank) each) packet enabled call in
            let off : not true ≡ true = subst (λ (b : Bool). not b ≡ true) e passed in
            absurd (cc (off))

    ended : (r t : ℕ) → r < length w.ranks → t < THREADS → is_idle (thread_at (rank_at w r) t).waits ≡ true → next_op scripts r t (thread_at (rank_at w r) t).calls ≡ None
    ended r t lr lt idle =
        let here = up_to (is_at_end scripts r (rank_at w r)) THREADS t (rest (each_passes (is_still_at w r) (length w.ranks) (rank_at w r)) (list_all (is_at_end scripts r (rank_at w r)) (range_with_len 0 THREADS)) (at r (is_below r (length w.ranks) lr))) (is_below t THREADS lt) in
        nothing (next_op scripts r t (thread_at (rank_at w r) t).calls) (subst (λ (b : Bool). (not b || is_none (next_op scripts r t (thread_at (rank_at w r) t).calls)) ≡ true) idle here)
      where
        nothing : (o : Option Op) → is_none o ≡ true → o ≡ None
        nothing None e = refl
        nothing (Some op) e = absurd (cc (e))
