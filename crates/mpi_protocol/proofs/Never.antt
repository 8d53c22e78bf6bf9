-- What a rank never does, in any state: each lemma says which choice may not be made, or what an offer may not say, and what stands
-- in its way.
use Rattle.std.proofs.Common.{◌≡◌, ◌≢◌, ℕ, zero, suc, ◌==◌, ◌&&◌, ◌||◌, not, nat_lt, if◌then◌else◌, Bool, true, false, List, [], ◌∷◌, length, get_or, set, find, option_map, Option, Some, None, is_none, is_some, refl, sym, subst, arith}
use Rattle.std.specs.List.{list_all}
use Rattle.std.proofs.lemmas.Bool.Decides.{nat_tests}
use Rattle.mpi_base.specs.MemberLists.{has_rank}
use Rattle.mpi_base.specs.declared.keys.Key.{Key}
use Rattle.mpi_base.specs.declared.ops.Op.{Op}
use Rattle.mpi_base.specs.declared.entries.Act.{Act}
use Rattle.mpi_base.specs.declared.entries.Act.TheVariants.{Call, Answer, Deliver, Offer as MakeOffer, Settle, Leave, Back}
use Rattle.mpi_base.specs.declared.entries.Said.TheVariants as said
use Rattle.mpi_base.specs.Keys.{same_key, key_before}
use Rattle.mpi_base.proofs.KeyFacts.{same_key_is}
use Rattle.mpi_base.specs.declared.messages.Msg.{Msg}
use Rattle.mpi_law.specs.declared.setting.TheConstants.{THREADS}
use Rattle.mpi_law.specs.Local.Messages.{from_nobody}
use Rattle.agree_law.specs.declared.rows.Outcome.{Outcome}
use Rattle.agree_law.specs.declared.rows.Stage.{Stage}
use Rattle.agree_law.specs.declared.rows.Stage.TheVariants.{Sharing, Called, Waiting, Offered, Done}
use Rattle.agree_law.specs.declared.rows.CreationRow.{CreationRow}
use Rattle.agree_law.specs.Tree.{is_first, children_of}
use Rattle.agree_law.specs.Part.{Agree, stage_of}
use Rattle.agree_law.specs.Kinds.{is_share}
use Rattle.agree_law.specs.Rule.{is_waiting, is_least, may_own}
use Rattle.agree_law.specs.Gather.{has_offer, is_ready}
use Rattle.agree_law.specs.Offers.{make_offer, put_offer, if_waiting}
use Rattle.agree_law.specs.Moves.{may_settle}
use Rattle.comm_law.specs.declared.rows.CommRow.{CommRow}
use Rattle.comm_law.specs.Comms.{row_at, is_left, is_noted, is_marked_by, all_marked}
use Rattle.match_law.specs.Box.{has_posted}
use Rattle.mpi_protocol.specs.declared.rows.Waits.{Waits}
use Rattle.mpi_protocol.specs.declared.rows.Waits.TheVariants.{Nothing, Creation, Uncoloured, Freeing, Ending, Receiving, Awaiting}
use Rattle.mpi_protocol.specs.declared.rows.ThreadRow.{ThreadRow}
use Rattle.mpi_protocol.specs.declared.rows.ReceiveRow.{ReceiveRow}
use Rattle.mpi_protocol.specs.Packets.{Packet}
use Rattle.mpi_protocol.specs.Rank.{Rank, idle_thread, thread_at, is_idle, has_open_under, receive_of, taken_of}
use Rattle.mpi_protocol.specs.Moves.{stays}
use Rattle.mpi_protocol.specs.Answers.{outcome_of, is_done, is_answerable, answers, answers_creation, answers_taken, answers_row, answered}
use Rattle.mpi_protocol.specs.Agreeing.{offers}
use Rattle.mpi_protocol.specs.Step.{is_enabled, step}
use Rattle.mpi_protocol.specs.World.{World, rank_at, has_packet, link, may_happen}

-- what a rank may not do does not happen in its world
pub not_in_a_world : (w : World) (r : ℕ) (a : Act) → is_enabled (rank_at w r) a ≡ false → may_happen w (record { rank = r; act = a }) ≡ false
not_in_a_world w r a off = go (nat_lt r (length w.ranks)) (has_packet w r a) (is_enabled (rank_at w r) a) off
  where
    go : (a b c : Bool) → c ≡ false → (a && (b && c)) ≡ false
    go false b c off = refl
    go true false c off = refl
    go true true c off = off

-- nothing is delivered from a link without packets
pub no_delivery_from_an_empty_link : (w : World) (r from : ℕ) → link w from r ≡ [] → may_happen w (record { rank = r; act = Deliver from }) ≡ false
no_delivery_from_an_empty_link w r from empty = rw empty (go (nat_lt r (length w.ranks)) (nat_lt from (length w.ranks)) (is_enabled (rank_at w r) (Deliver from)))
  where
    go : (a b c : Bool) → (a && ((b && false) && c)) ≡ false
    go false b c = refl
    go true false c = refl
    go true true c = refl

-- Give-backs and leaves

-- a communicator is not given back while a key owns the rank's mask
pub no_back_while_a_key_owns : (x : Rank) (c : ℕ) (key : Key) → x.agree.owner ≡ Some key → is_enabled x (Back c) ≡ false
unfolding is_enabled
no_back_while_a_key_owns x c key owned = rw owned (go (all_marked x.comms x.rank c) (has_posted x.box c))
  where
    go : (a b : Bool) → (a && (not b && false)) ≡ false
    go false b = refl
    go true false = refl
    go true true = refl

-- nor while a receive of the rank on it is posted
pub no_back_with_a_posted_receive : (x : Rank) (c : ℕ) → has_posted x.box c ≡ true → is_enabled x (Back c) ≡ false
unfolding is_enabled
no_back_with_a_posted_receive x c posted = rw posted (go (all_marked x.comms x.rank c))
  where
    go : (a : Bool) → (a && false) ≡ false
    go false = refl
    go true = refl

every : (f : ℕ → Bool) (ms : List ℕ) (r : ℕ) → has_rank ms r ≡ true → f r ≡ false → list_all f ms ≡ false
every f [] r m off = absurd (cc (m))
every f (x ∷ xs) r m off = go (x == r) refl (λ there. every f xs r there off)
  where
    go : (b : Bool) → (x == r) ≡ b → (has_rank xs r ≡ true → list_all f xs ≡ false) → list_all f (x ∷ xs) ≡ false
    go true e ih = let is : x ≡ r = grind (arith, nat_tests, e) in let here : f x ≡ false = subst (λ (i : ℕ). f i ≡ false) (sym is) off in grind (arith, here)
    go false e ih = let rest = ih (grind (arith, m, e)) in go_rest (f x) (list_all f xs) rest
      where
        go_rest : (a b : Bool) → b ≡ false → (a && b) ≡ false
        go_rest false b off = refl
        go_rest true b off = off

-- nor before the marker of each other member has come
pub no_back_before_a_marker : (x : Rank) (c : ℕ) (m : CommRow) (q : ℕ)
    → row_at x.comms c ≡ Some m → has_rank m.members q ≡ true → q ≢ x.rank → is_noted x.comms m.ctx q ≡ false
    → is_enabled x (Back c) ≡ false
unfolding is_enabled all_marked
no_back_before_a_marker x c m q is there other missing =
    let unmarked : is_marked_by x.comms x.rank m.ctx q ≡ false = grind (arith, nat_tests, other, missing) in
    let none = every (is_marked_by x.comms x.rank m.ctx) m.members q there unmarked in
    rw (is, none) (go (is_left m.stage) (not (has_posted x.box c) && is_none x.agree.owner))
  where
    go : (a b : Bool) → ((a && false) && b) ≡ false
    go false b = refl
    go true b = refl

-- nor before the rank itself has left it
pub no_back_before_the_leave : (x : Rank) (c : ℕ) (m : CommRow) → row_at x.comms c ≡ Some m → is_left m.stage ≡ false → is_enabled x (Back c) ≡ false
unfolding is_enabled all_marked
no_back_before_the_leave x c m is stays = rw (is, stays) refl

-- a communicator is not left while a creation under it is open at the rank
pub no_leave_while_a_creation_is_open : (x : Rank) (c : ℕ) → has_open_under x c ≡ true → is_enabled x (Leave c) ≡ false
unfolding is_enabled
no_leave_while_a_creation_is_open x c opened = rw opened (go _)
  where
    go : (a : Bool) → (a && false) ≡ false
    go false = refl
    go true = refl

-- Offers

-- what an offer says depends on whether it may own
zero_said : (x : Rank) (key : Key) (p : Option Packet) → may_own x.agree key ≡ false → (step x (MakeOffer key) p).said ≡ Some said.Zero
unfolding step offers
zero_said x key p off = rw off refl

keeps_owner : (x : Rank) (key : Key) (p : Option Packet) → may_own x.agree key ≡ false → (step x (MakeOffer key) p).state.agree.owner ≡ x.agree.owner
unfolding step offers make_offer put_offer
keeps_owner x key p off = go (stage_of x.agree.opened key)
  where
    go : (s : Option Stage) → (if_waiting x.rank x.setting.contexts x.agree key s).part.owner ≡ x.agree.owner
    go None = refl
    go (Some (Sharing s)) = refl
    go (Some Called) = refl
    go (Some (Waiting i)) = rw off refl
    go (Some (Offered i own)) = refl
    go (Some (Done c)) = refl

owned_may_not : (a : Agree) (key k : Key) → a.owner ≡ Some k → may_own a key ≡ false
unfolding may_own
owned_may_not a key k owned = rw owned refl

-- an offer does not own while a key owns the mask, and leaves the mask to it
pub no_owning_offer_while_a_key_owns : (x : Rank) (key k : Key) (p : Option Packet) → x.agree.owner ≡ Some k
    → ((step x (MakeOffer key) p).said ≡ Some said.Zero) × ((step x (MakeOffer key) p).state.agree.owner ≡ Some k)
no_owning_offer_while_a_key_owns x key k p owned =
    let off = owned_may_not x.agree key k owned in
    (zero_said x key p off, rw (keeps_owner x key p off) owned)

-- a key that waits is open
listed : (all xs : List CreationRow) (k key : Key) → is_waiting (stage_of all k) ≡ true → is_some (stage_of xs k) ≡ true → key_before k key ≡ true
    → list_all (λ o. not (is_waiting (stage_of all o.key)) || not (key_before o.key key)) xs ≡ false
listed all [] k key waits found before = absurd (cc (found))
listed all (o ∷ os) k key waits found before = go (same_key o.key k) refl (λ there. listed all os k key waits there before) found
  where
    failing : (a b c : Bool) → a ≡ true → b ≡ true → ((not a || not b) && c) ≡ false
    failing true true c ea eb = refl
    failing true false c ea eb = absurd (cc (eb))
    failing false b c ea eb = absurd (cc (ea))

    later : (a b : Bool) → b ≡ false → (a && b) ≡ false
    later false b e = refl
    later true b e = e

    go : (b : Bool) → same_key o.key k ≡ b → (is_some (stage_of os k) ≡ true → list_all (λ o. not (is_waiting (stage_of all o.key)) || not (key_before o.key key)) os ≡ false)
        → is_some (option_map (λ r. r.stage) (if b then Some o else find (λ r. same_key r.key k) os)) ≡ true
        → list_all (λ o. not (is_waiting (stage_of all o.key)) || not (key_before o.key key)) (o ∷ os) ≡ false
    go true e ih h =
        let is = same_key_is o.key k e in
        let waiting : is_waiting (stage_of all o.key) ≡ true = subst (λ (i : Key). is_waiting (stage_of all i) ≡ true) (sym is) waits in
        let earlier : key_before o.key key ≡ true = subst (λ (i : Key). key_before i key ≡ true) (sym is) before in
        failing (is_waiting (stage_of all o.key)) (key_before o.key key) (list_all (λ o. not (is_waiting (stage_of all o.key)) || not (key_before o.key key)) os) waiting earlier
    go false e ih h = later (not (is_waiting (stage_of all o.key)) || not (key_before o.key key)) (list_all (λ o. not (is_waiting (stage_of all o.key)) || not (key_before o.key key)) os) (ih h)

waiting_is_there : (s : Option Stage) → is_waiting s ≡ true → is_some s ≡ true
waiting_is_there None e = e
waiting_is_there (Some s) e = refl

lesser_may_not : (a : Agree) (key k : Key) → is_waiting (stage_of a.opened k) ≡ true → key_before k key ≡ true → may_own a key ≡ false
unfolding may_own is_least
lesser_may_not a key k waits before =
    rw (listed a.opened a.opened k key waits (waiting_is_there (stage_of a.opened k) waits) before) (go (is_none a.owner))
  where
    go : (b : Bool) → (b && false) ≡ false
    go false = refl
    go true = refl

-- nor while a lesser key waits at the rank
pub no_owning_offer_before_a_lesser_key : (x : Rank) (key k : Key) (p : Option Packet) → is_waiting (stage_of x.agree.opened k) ≡ true → key_before k key ≡ true
    → ((step x (MakeOffer key) p).said ≡ Some said.Zero) × ((step x (MakeOffer key) p).state.agree.owner ≡ x.agree.owner)
no_owning_offer_before_a_lesser_key x key k p waits before =
    let off = lesser_may_not x.agree key k waits before in
    (zero_said x key p off, keeps_owner x key p off)

-- Settles

-- a rank settles only a key of which it is the first member
pub no_settle_by_another : (x : Rank) (key : Key) → is_first x.rank key.members ≡ false → is_enabled x (Settle key) ≡ false
unfolding is_enabled may_settle
no_settle_by_another x key other = rw other (go (is_share key.kind))
  where
    go : (a : Bool) → ((not a && false) || (a && false)) ≡ false
    go false = refl
    go true = refl

-- and not while its own offer, or that of a child in the tree, is missing
pub no_settle_before_an_offer : (x : Rank) (key : Key) (q : ℕ) → is_share key.kind ≡ false → has_rank (0 ∷ children_of 0 (length key.members)) q ≡ true → has_offer x.agree.gathered key q ≡ false
    → is_enabled x (Settle key) ≡ false
unfolding is_enabled may_settle is_ready
no_settle_before_an_offer x key q plain there missing =
    rw (plain, every (has_offer x.agree.gathered key) (0 ∷ children_of 0 (length key.members)) q there missing) (go (is_first x.rank key.members))
  where
    go : (a : Bool) → ((a && false) || false) ≡ false
    go false = refl
    go true = refl

-- Calls and answers

-- a thread that waits calls nothing
pub no_call_while_waiting : (x : Rank) (t : ℕ) (op : Op) → is_idle (thread_at x t).waits ≡ false → is_enabled x (Call t op) ≡ false
unfolding is_enabled
no_call_while_waiting x t op busy = rw busy (go (nat_lt t THREADS))
  where
    go : (a : Bool) → (a && false) ≡ false
    go false = refl
    go true = refl

-- a thread that waits for nothing is not answered
pub no_answer_to_an_idle_thread : (x : Rank) (t : ℕ) → (thread_at x t).waits ≡ Nothing → is_enabled x (Answer t) ≡ false
unfolding is_enabled
no_answer_to_an_idle_thread x t idle = rw idle (go (nat_lt t THREADS))
  where
    go : (a : Bool) → (a && false) ≡ false
    go false = refl
    go true = refl

idle_in : (xs : List ThreadRow) (t calls : ℕ) → (get_or (set xs t (record { calls = calls; waits = Nothing })) t idle_thread).waits ≡ Nothing
idle_in [] t calls = refl
idle_in (x ∷ xs) zero calls = refl
idle_in (x ∷ xs) (suc t) calls = idle_in xs t calls

answered_is_idle : (x : Rank) (t : ℕ) (w : Waits) → is_answerable x w ≡ true → (thread_at (answered x t w).state t).waits ≡ Nothing
answered_is_idle x t Nothing can = absurd (cc (can))
answered_is_idle x t (Creation key target session) can = go (outcome_of (stage_of x.agree.opened key)) can
  where
    go : (o : Option Outcome) → is_done o ≡ true → (thread_at (answers_creation x t key target session o).state t).waits ≡ Nothing
    go None e = absurd (cc (e))
    go (Some o) e = idle_in x.threads t (thread_at x t).calls
answered_is_idle x t (Uncoloured key target session) can = idle_in x.threads t (thread_at x t).calls
answered_is_idle x t (Freeing serial) can = idle_in x.threads t (thread_at x t).calls
answered_is_idle x t (Ending session) can = idle_in x.threads t (thread_at x t).calls
answered_is_idle x t (Receiving n) can = go (n == 0) (receive_of x.receives n) can
  where
    by_taken : (room : ℕ) (o : Option Msg) → is_some o ≡ true → (thread_at (answers_taken x t n room o).state t).waits ≡ Nothing
    by_taken room None e = absurd (cc (e))
    by_taken room (Some m) e = idle_in x.threads t (thread_at x t).calls

    by_row : (o : Option ReceiveRow) → is_some (taken_of o) ≡ true → (thread_at (answers_row x t n o).state t).waits ≡ Nothing
    by_row None e = absurd (cc (e))
    by_row (Some w) e = by_taken w.room w.taken e

    go : (b : Bool) (o : Option ReceiveRow) → (b || is_some (taken_of o)) ≡ true → (thread_at (if b then answers x t from_nobody else answers_row x t n o).state t).waits ≡ Nothing
    go true o e = idle_in x.threads t (thread_at x t).calls
    go false o e = by_row o e
answered_is_idle x t (Awaiting name) can = idle_in x.threads t (thread_at x t).calls

second : (a b : Bool) → (a && b) ≡ true → b ≡ true
second true b h = h
second false b h = absurd (cc (h))

-- so no thread is answered twice to one call
pub no_second_answer : (x : Rank) (t : ℕ) (p : Option Packet) → is_enabled x (Answer t) ≡ true → is_enabled (step x (Answer t) p).state (Answer t) ≡ false
unfolding is_enabled step
no_second_answer x t p can =
    no_answer_to_an_idle_thread (step x (Answer t) p).state t
    (answered_is_idle x t (thread_at x t).waits (second (nat_lt t THREADS) (is_answerable x (thread_at x t).waits) can))
