-- What the registry never allows, in any state: each lemma says which event may not come, and what stands in its way. Sections are
-- those of MPI 4.0.
use Rattle.std.proofs.Common.{◌≡◌, ◌≢◌, ℕ, zero, suc, ◌<◌, ◌≤◌, ◌==◌, ◌&&◌, ◌||◌, not, if◌then◌else◌, nat_lt, Bool, true, false, List, [], ◌∷◌, filter, get_or, set, replicate, slice_get, Option, Some, None, refl, sym, subst, arith, ℤ, int_lt}
use Rattle.std.specs.List.{list_all, list_any}
use Rattle.std.proofs.lemmas.Bool.Decides.{nat_tests}
use Rattle.mpi_base.specs.MemberLists.{has_rank}
use Rattle.mpi_base.specs.declared.shares.Shared1.{Shared1}
use Rattle.mpi_base.specs.declared.keys.Key.{Key}
use Rattle.mpi_base.specs.declared.ops.Op.{Op}
use Rattle.mpi_base.specs.declared.replies.Reply.{Reply}
use Rattle.mpi_law.specs.declared.setting.Setting.{Setting}
use Rattle.mpi_law.specs.Splits.{has_colour, put_in, by_key, split_class}
use Rattle.mpi_law.specs.Registry.State.{Registry, RankPart, ThreadPart, Creation, Outcome, Message, Receive, Idle, Creating, Freeing, Ending, Receiving, idle_thread, blank_part, part_of, thread_of, comm_at, creation_at, is_idle_wait, with_wait}
use Rattle.mpi_law.specs.Registry.Creations.{has_called, all_called, is_uncoloured, is_split, share_of, class_by, class_of, outcome_for, has_open_under}
use Rattle.mpi_law.specs.Registry.Contexts.{in_use, comm_of, is_exchange, key_place}
use Rattle.mpi_law.specs.Registry.Messages.{fits, is_unmatched, is_waiting, is_overtaken, is_preceded, may_match, receive_of, message_of, has_waiting}
use Rattle.mpi_law.specs.Registry.Replies.{is_left_of, answers}
use Rattle.mpi_law.specs.Registry.Events.{Calls, Picks, Matches, Backs, Replies, registry_next}
use Rattle.mpi_law.specs.Registry.Runs.{Allowed, MayPick}

-- Lists

-- what holds of each member of a list holds of one, what holds of none does not
each_member : (f : ℕ → Bool) (ms : List ℕ) (r : ℕ) → list_all f ms ≡ true → has_rank ms r ≡ true → f r ≡ true
each_member f [] r h m = absurd (cc (m))
each_member f (x ∷ xs) r h m = go (x == r) refl (each_member f xs r)
  where
    go : (b : Bool) → (x == r) ≡ b → (list_all f xs ≡ true → has_rank xs r ≡ true → f r ≡ true) → f r ≡ true
    go true e ih = let is : x ≡ r = grind (arith, nat_tests, e) in subst (λ (i : ℕ). f i ≡ true) is (grind (arith, h))
    go false e ih = ih (grind (arith, h)) (grind (arith, m, e))

no_member : (f : ℕ → Bool) (ms : List ℕ) (r : ℕ) → list_any f ms ≡ false → has_rank ms r ≡ true → f r ≡ false
no_member f [] r h m = absurd (cc (m))
no_member f (x ∷ xs) r h m = go (x == r) refl (no_member f xs r)
  where
    go : (b : Bool) → (x == r) ≡ b → (list_any f xs ≡ false → has_rank xs r ≡ true → f r ≡ false) → f r ≡ false
    go true e ih = let is : x ≡ r = grind (arith, nat_tests, e) in subst (λ (i : ℕ). f i ≡ false) is (grind (arith, h))
    go false e ih = ih (grind (arith, h)) (grind (arith, m, e))

-- where each member fails a test, none passes it
all_fail : (f : ℕ → Bool) (ms : List ℕ) → ((m : ℕ) → has_rank ms m ≡ true → f m ≡ false) → list_any f ms ≡ false
all_fail f [] h = refl
all_fail f (x ∷ xs) h =
    let here : f x ≡ false = h x (grind (arith, nat_tests)) in
    let ih = all_fail f xs (λ m e. h m (grind (arith, e))) in
    grind (arith, here, ih)

none_passes : {A : Type 0} (f : A → Bool) (xs : List A) (i : ℕ) (x : A) → list_any f xs ≡ false → slice_get xs i ≡ Some x → f x ≡ false
none_passes f [] i x h e = absurd (cc (e))
none_passes f (y ∷ ys) zero x h e = grind (arith, h, e)
none_passes f (y ∷ ys) (suc i) x h e = none_passes f ys i x (grind (arith, h)) e

-- Picks

-- the members of a class are members of the communicator that is split
in_put : (share : ℕ → Shared1) (member : ℕ) (ms : List ℕ) (r : ℕ) → has_rank (put_in share member ms) r ≡ ((member == r) || has_rank ms r)
in_put share member [] r = refl
in_put share member (m ∷ ms) r = go (int_lt (share m).key (share member).key) (in_put share member ms r)
  where
    go : (b : Bool) → has_rank (put_in share member ms) r ≡ ((member == r) || has_rank ms r) → has_rank (if b then m ∷ put_in share member ms else member ∷ m ∷ ms) r ≡ ((member == r) || ((m == r) || has_rank ms r))
    go true ih = grind (arith, nat_tests, ih)
    go false ih = refl

in_order : (share : ℕ → Shared1) (ms : List ℕ) (r : ℕ) → has_rank (by_key share ms) r ≡ has_rank ms r
in_order share [] r = refl
in_order share (m ∷ ms) r = let ih = in_order share ms r in let e = in_put share m (by_key share ms) r in grind (arith, nat_tests, ih, e)

in_filter : (p : ℕ → Bool) (ms : List ℕ) (r : ℕ) → has_rank (filter p ms) r ≡ true → has_rank ms r ≡ true
in_filter p [] r h = h
in_filter p (m ∷ ms) r h = go (p m) h (in_filter p ms r)
  where
    go : (b : Bool) → has_rank (if b then m ∷ filter p ms else filter p ms) r ≡ true → (has_rank (filter p ms) r ≡ true → has_rank ms r ≡ true) → ((m == r) || has_rank ms r) ≡ true
    go true k ih = here (m == r) k ih
      where
        here : (b : Bool) → (b || has_rank (filter p ms) r) ≡ true → (has_rank (filter p ms) r ≡ true → has_rank ms r ≡ true) → (b || has_rank ms r) ≡ true
        here true k ih = refl
        here false k ih = ih k
    go false k ih = let there = ih k in grind (arith, nat_tests, there)

in_class : (share : ℕ → Shared1) (ms : List ℕ) (colour : ℤ) (r : ℕ) → has_rank (split_class share ms colour) r ≡ true → has_rank ms r ≡ true
unfolding split_class
in_class share ms colour r h =
    let kept = filter (λ m. has_colour colour (share m).colour) ms in
    in_filter (λ m. has_colour colour (share m).colour) ms r (rw (sym (in_order share kept r)) h)

in_group : (c : Creation) (r m : ℕ) → has_rank (class_of c r) m ≡ true → has_rank c.group m ≡ true
in_group c r m h = go (is_split c.name) h
  where
    by : (colour : Option ℤ) → has_rank (class_by c colour) m ≡ true → has_rank c.group m ≡ true
    by None k = absurd (cc (k))
    by (Some colour) k = in_class (share_of c) c.group colour m k

    go : (b : Bool) → has_rank (if b then class_by c (share_of c r).colour else c.group) m ≡ true → has_rank c.group m ≡ true
    go true k = by (share_of c r).colour k
    go false k = k

-- whatever is picked, the pick may come
may_pick : (s : Setting) (g : Registry) (r : ℕ) (key : Key) (pick : Option ℕ) → Allowed s g (Picks r key pick) → MayPick g r key
may_pick s g r key None may = may.0
may_pick s g r key (Some c) may = may.0

-- nothing is picked before all have called (7.4.2): not while one of those that are to call has not
pub no_pick_before_all_have_called : (s : Setting) (g : Registry) (r : ℕ) (key : Key) (pick : Option ℕ) (m : ℕ)
    → has_rank (creation_at g (key_place g r key)).group m ≡ true → has_called (creation_at g (key_place g r key)) m ≡ false
    → Allowed s g (Picks r key pick) → ⊥
no_pick_before_all_have_called s g r key pick m there silent may =
    let c = creation_at g (key_place g r key) in
    let called = each_member (has_called c) c.group m (may_pick s g r key pick may).all there in
    cc (called, silent)

-- so not while a member of the communicator to be has not called
pub no_pick_without_a_member : (s : Setting) (g : Registry) (r : ℕ) (key : Key) (pick : Option ℕ) (m : ℕ)
    → has_rank key.members m ≡ true → has_called (creation_at g (key_place g r key)) m ≡ false
    → Allowed s g (Picks r key pick) → ⊥
no_pick_without_a_member s g r key pick m there silent may =
    let members = (may_pick s g r key pick may).members in
    no_pick_before_all_have_called s g r key pick m (in_group (creation_at g (key_place g r key)) r m (rw members there)) silent may

-- what is picked for a rank is picked once
pub no_second_pick : (s : Setting) (g : Registry) (r : ℕ) (key : Key) (pick : Option ℕ) (o : Outcome)
    → outcome_for (creation_at g (key_place g r key)) r ≡ Some o
    → Allowed s g (Picks r key pick) → ⊥
no_second_pick s g r key pick o is may = let un = (may_pick s g r key pick may).unpicked in cc (is, un)

-- nothing is picked by a rank that is no member, nor under the key of an exchange
pub no_pick_by_a_stranger : (s : Setting) (g : Registry) (r : ℕ) (key : Key) (pick : Option ℕ)
    → has_rank key.members r ≡ false
    → Allowed s g (Picks r key pick) → ⊥
no_pick_by_a_stranger s g r key pick is may = let member = (may_pick s g r key pick may).member in cc (is, member)

pub no_pick_of_an_exchange : (s : Setting) (g : Registry) (r : ℕ) (key : Key) (pick : Option ℕ)
    → is_exchange key.kind ≡ true
    → Allowed s g (Picks r key pick) → ⊥
no_pick_of_an_exchange s g r key pick is may = let proper = (may_pick s g r key pick may).proper in cc (is, proper)

-- a context that is in use at a member is not picked, be it one member alone
pub no_pick_of_a_used_context : (s : Setting) (g : Registry) (r : ℕ) (key : Key) (c m : ℕ)
    → has_rank key.members m ≡ true → in_use g.comms m c ≡ true
    → Allowed s g (Picks r key (Some c)) → ⊥
no_pick_of_a_used_context s g r key c m there used may =
    let unused = no_member (λ m. in_use g.comms m c) key.members m may.1.unused there in
    cc (used, unused)

-- a creation is not exhausted while a context is free at all members
pub no_exhaustion_with_a_free_context : (s : Setting) (g : Registry) (r : ℕ) (key : Key) (c : ℕ)
    → 1 ≤ c → c ≤ s.contexts → ((m : ℕ) → has_rank key.members m ≡ true → in_use g.comms m c ≡ false)
    → Allowed s g (Picks r key None) → ⊥
no_exhaustion_with_a_free_context s g r key c above below unused may =
    let used = may.1 c above below in
    let free = all_fail (λ m. in_use g.comms m c) key.members unused in
    cc (used, free)

-- Give-backs

-- the communicator that a give-back speaks of
same_place : (o : Option ℕ) (p q : ℕ) → o ≡ Some p → o ≡ Some q → p ≡ q
same_place None p q a b = absurd (cc (a))
same_place (Some n) p q a b = cc (a, b)

-- a communicator is not given back that one member has not freed (7.4.3)
pub no_back_before_all_have_freed : (s : Setting) (g : Registry) (r c dropped p m : ℕ)
    → comm_of g.comms r c ≡ Some p → has_rank (comm_at g p).members m ≡ true → has_rank (comm_at g p).freed m ≡ false
    → Allowed s g (Backs r c dropped) → ⊥
no_back_before_all_have_freed s g r c dropped p m is there kept may =
    let same = same_place (comm_of g.comms r c) may.place p may.here is in
    let freed = subst (λ (q : ℕ). list_all (has_rank (comm_at g q).freed) (comm_at g q).members ≡ true) same may.freed in
    let gone = each_member (has_rank (comm_at g p).freed) (comm_at g p).members m freed there in
    cc (gone, kept)

-- nor while a creation under it is open at a member
pub no_back_while_a_creation_is_open : (s : Setting) (g : Registry) (r c dropped p m : ℕ)
    → comm_of g.comms r c ≡ Some p → has_rank (comm_at g p).members m ≡ true → has_open_under g p m ≡ true
    → Allowed s g (Backs r c dropped) → ⊥
no_back_while_a_creation_is_open s g r c dropped p m is there opened may =
    let same = same_place (comm_of g.comms r c) may.place p may.here is in
    let settled = subst (λ (q : ℕ). list_any (has_open_under g q) (comm_at g q).members ≡ false) same may.settled in
    let closed = no_member (has_open_under g p) (comm_at g p).members m settled there in
    cc (opened, closed)

-- nor while a receive of the rank on it is without a message (7.4.3: pending operations complete normally)
pub no_back_with_a_posted_receive : (s : Setting) (g : Registry) (r c dropped p : ℕ)
    → comm_of g.comms r c ≡ Some p → has_waiting g p r ≡ true
    → Allowed s g (Backs r c dropped) → ⊥
no_back_with_a_posted_receive s g r c dropped p is waiting may =
    let same = same_place (comm_of g.comms r c) may.place p may.here is in
    let complete = subst (λ (q : ℕ). has_waiting g q r ≡ false) same may.complete in
    cc (waiting, complete)

-- nor twice: where no communicator with this context is live at the rank there is none to give back
pub no_back_of_nothing : (s : Setting) (g : Registry) (r c dropped : ℕ)
    → comm_of g.comms r c ≡ None
    → Allowed s g (Backs r c dropped) → ⊥
no_back_of_nothing s g r c dropped is may = let here = may.here in cc (is, here)

-- Matches

-- the receive and the message that a match speaks of
pair : (s : Setting) (g : Registry) (r number from sent : ℕ) (x : Receive) (m : Message) → receive_of g r number ≡ Some x → message_of g from sent ≡ Some m
    → Allowed s g (Matches r number from sent) → may_match g x m ≡ true
pair s g r number from sent x m posted there may = go may.receive may.message may.posted may.sent_there may.first
  where
    receive_is : (o : Option Receive) (a b : Receive) → o ≡ Some a → o ≡ Some b → a ≡ b
    receive_is None a b e f = absurd (cc (e))
    receive_is (Some n) a b e f = cc (e, f)

    message_is : (o : Option Message) (a b : Message) → o ≡ Some a → o ≡ Some b → a ≡ b
    message_is None a b e f = absurd (cc (e))
    message_is (Some n) a b e f = cc (e, f)

    go : (y : Receive) (n : Message) → receive_of g r number ≡ Some y → message_of g from sent ≡ Some n → may_match g y n ≡ true → may_match g x m ≡ true
    go y n e f h =
        subst (λ (z : Receive). may_match g z m ≡ true) (receive_is (receive_of g r number) y x e posted)
        (subst (λ (k : Message). may_match g y k ≡ true) (message_is (message_of g from sent) n m f there) h)

-- what a match needs, one by one
record Parts (g : Registry) (x : Receive) (m : Message) : Type 0 where
  waiting : is_waiting x ≡ true
  unmatched : is_unmatched m ≡ true
  fitting : fits g x m ≡ true
  foremost : list_any (is_overtaken g x m) g.messages ≡ false
  earliest : list_any (is_preceded g x m) g.receives ≡ false

parts : (g : Registry) (x : Receive) (m : Message) → may_match g x m ≡ true → Parts g x m
unfolding may_match
parts g x m h = go (is_waiting x) (is_unmatched m) (fits g x m) (list_any (is_overtaken g x m) g.messages) (list_any (is_preceded g x m) g.receives) refl refl refl refl refl h
  where
    go : (a b c d e : Bool) → is_waiting x ≡ a → is_unmatched m ≡ b → fits g x m ≡ c → list_any (is_overtaken g x m) g.messages ≡ d → list_any (is_preceded g x m) g.receives ≡ e
        → (a && (b && (c && (not d && not e)))) ≡ true → Parts g x m
    go false b c d e ea eb ec ed ee h = absurd (cc (h))
    go true false c d e ea eb ec ed ee h = absurd (cc (h))
    go true true false d e ea eb ec ed ee h = absurd (cc (h))
    go true true true true e ea eb ec ed ee h = absurd (cc (h))
    go true true true false true ea eb ec ed ee h = absurd (cc (h))
    go true true true false false ea eb ec ed ee h = record { waiting = ea; unmatched = eb; fitting = ec; foremost = ed; earliest = ee }

-- the parts of an allowed match
met : (s : Setting) (g : Registry) (r number from sent : ℕ) (x : Receive) (m : Message) → receive_of g r number ≡ Some x → message_of g from sent ≡ Some m
    → Allowed s g (Matches r number from sent) → Parts g x m
met s g r number from sent x m posted there may = parts g x m (pair s g r number from sent x m posted there may)

both : (a b : Bool) → a ≡ true → b ≡ true → (a && b) ≡ true
both true b h k = k
both false b h k = absurd (cc (h))

same : (a b : ℕ) → a ≡ b → (a == b) ≡ true
same a b e = grind (arith, nat_tests, e)

below : (a b : ℕ) → a < b → nat_lt a b ≡ true
below a b e = grind (arith, nat_tests, e)

-- a message does not overtake an earlier one of its sender (3.5): not one that is still unmatched and fits the receive too
pub no_match_past_an_earlier_message : (s : Setting) (g : Registry) (r number from sent : ℕ) (x : Receive) (m n : Message) (i : ℕ)
    → receive_of g r number ≡ Some x → message_of g from sent ≡ Some m
    → slice_get g.messages i ≡ Some n → is_unmatched n ≡ true → n.from ≡ m.from → n.comm ≡ m.comm → n.lane ≡ m.lane → n.number < m.number → fits g x n ≡ true
    → Allowed s g (Matches r number from sent) → ⊥
no_match_past_an_earlier_message s g r number from sent x m n i posted there listed unmatched from_is comm_is lane_is earlier fitting may =
    let no = none_passes (is_overtaken g x m) g.messages i n (met s g r number from sent x m posted there may).foremost listed in
    let yes : is_overtaken g x m n ≡ true =
    both (is_unmatched n) ((n.from == m.from) && ((n.comm == m.comm) && ((n.lane == m.lane) && (nat_lt n.number m.number && fits g x n)))) unmatched
    (both (n.from == m.from) ((n.comm == m.comm) && ((n.lane == m.lane) && (nat_lt n.number m.number && fits g x n))) (same n.from m.from from_is)
    (both (n.comm == m.comm) ((n.lane == m.lane) && (nat_lt n.number m.number && fits g x n)) (same n.comm m.comm comm_is)
    (both (n.lane == m.lane) (nat_lt n.number m.number && fits g x n) (same n.lane m.lane lane_is) (both (nat_lt n.number m.number) (fits g x n) (below n.number m.number earlier) fitting)))) in
    cc (yes, no)

-- of two posted receives that fit, the earlier takes the message (3.5)
pub no_match_past_an_earlier_receive : (s : Setting) (g : Registry) (r number from sent : ℕ) (x y : Receive) (m : Message) (i : ℕ)
    → receive_of g r number ≡ Some x → message_of g from sent ≡ Some m
    → slice_get g.receives i ≡ Some y → is_waiting y ≡ true → y.rank ≡ x.rank → y.number < x.number → fits g y m ≡ true
    → Allowed s g (Matches r number from sent) → ⊥
no_match_past_an_earlier_receive s g r number from sent x y m i posted there listed waiting rank_is earlier fitting may =
    let no = none_passes (is_preceded g x m) g.receives i y (met s g r number from sent x m posted there may).earliest listed in
    let yes : is_preceded g x m y ≡ true =
    both (is_waiting y) ((y.rank == x.rank) && (nat_lt y.number x.number && fits g y m)) waiting
    (both (y.rank == x.rank) (nat_lt y.number x.number && fits g y m) (same y.rank x.rank rank_is) (both (nat_lt y.number x.number) (fits g y m) (below y.number x.number earlier) fitting)) in
    cc (yes, no)

-- a message is taken once, and one that was dropped is not taken; a receive takes one message
pub no_match_of_a_spent_message : (s : Setting) (g : Registry) (r number from sent : ℕ) (x : Receive) (m : Message)
    → receive_of g r number ≡ Some x → message_of g from sent ≡ Some m → is_unmatched m ≡ false
    → Allowed s g (Matches r number from sent) → ⊥
no_match_of_a_spent_message s g r number from sent x m posted there spent may = let un = (met s g r number from sent x m posted there may).unmatched in cc (un, spent)

pub no_match_of_a_full_receive : (s : Setting) (g : Registry) (r number from sent : ℕ) (x : Receive) (m : Message)
    → receive_of g r number ≡ Some x → message_of g from sent ≡ Some m → is_waiting x ≡ false
    → Allowed s g (Matches r number from sent) → ⊥
no_match_of_a_full_receive s g r number from sent x m posted there full may = let waiting = (met s g r number from sent x m posted there may).waiting in cc (waiting, full)

-- a message stays on its communicator (3.2.4)
pub no_match_across_communicators : (s : Setting) (g : Registry) (r number from sent : ℕ) (x : Receive) (m : Message)
    → receive_of g r number ≡ Some x → message_of g from sent ≡ Some m → x.comm ≢ m.comm
    → Allowed s g (Matches r number from sent) → ⊥
no_match_across_communicators s g r number from sent x m posted there apart may =
    let fitting = (met s g r number from sent x m posted there may).fitting in
    let not_same : (x.comm == m.comm) ≡ false = grind (arith, nat_tests, apart) in
    grind (arith, fitting, not_same)

-- Calls and answers

-- a thread that waits for something calls nothing
pub no_call_while_waiting : (s : Setting) (g : Registry) (r t : ℕ) (op : Op) (now : Bool)
    → is_idle_wait (thread_of g r t).wait ≡ false
    → Allowed s g (Calls r t op now) → ⊥
no_call_while_waiting s g r t op now busy may = let idle = may.idle in cc (idle, busy)

-- a thread that waits for nothing is not answered
pub no_answer_to_an_idle_thread : (s : Setting) (g : Registry) (r t : ℕ) (said : Reply)
    → (thread_of g r t).wait ≡ Idle
    → Allowed s g (Replies r t said) → ⊥
no_answer_to_an_idle_thread s g r t said idle may = let none = rw idle at may in absurd (cc (none))

-- a creation is not answered before it is picked, nor one with an undefined colour before all have called (7.4.2)
pub no_answer_before_the_pick : (s : Setting) (g : Registry) (r t : ℕ) (said : Reply) (n : ℕ)
    → (thread_of g r t).wait ≡ Creating n → is_uncoloured (creation_at g n) r ≡ false → outcome_for (creation_at g n) r ≡ None
    → Allowed s g (Replies r t said) → ⊥
no_answer_before_the_pick s g r t said n waits coloured unpicked may = let none = rw (waits, coloured, unpicked) at may in absurd (cc (none))

pub no_answer_before_all_have_called : (s : Setting) (g : Registry) (r t : ℕ) (said : Reply) (n : ℕ)
    → (thread_of g r t).wait ≡ Creating n → is_uncoloured (creation_at g n) r ≡ true → all_called (creation_at g n) ≡ false
    → Allowed s g (Replies r t said) → ⊥
no_answer_before_all_have_called s g r t said n waits uncoloured short may = let none = rw (waits, uncoloured, short) at may in absurd (cc (none))

-- a free is not answered before the rank has given the communicator back, the end of a session not while one of it is left
pub no_answer_before_the_give_back : (s : Setting) (g : Registry) (r t : ℕ) (said : Reply) (p : ℕ)
    → (thread_of g r t).wait ≡ Freeing p → has_rank (comm_at g p).returned r ≡ false
    → Allowed s g (Replies r t said) → ⊥
no_answer_before_the_give_back s g r t said p waits kept may = let none = rw (waits, kept) at may in absurd (cc (none))

pub no_answer_while_one_is_left : (s : Setting) (g : Registry) (r t : ℕ) (said : Reply) (session : ℕ)
    → (thread_of g r t).wait ≡ Ending session → list_any (is_left_of r session) g.comms ≡ true
    → Allowed s g (Replies r t said) → ⊥
no_answer_while_one_is_left s g r t said session waits left may = let none = rw (waits, left) at may in absurd (cc (none))

-- a receive is not answered before it has taken a message
pub no_answer_before_the_match : (s : Setting) (g : Registry) (r t : ℕ) (said : Reply) (n : ℕ) (x : Receive)
    → (thread_of g r t).wait ≡ Receiving n → n ≢ 0 → receive_of g r n ≡ Some x → x.taken ≡ None
    → Allowed s g (Replies r t said) → ⊥
no_answer_before_the_match s g r t said n x waits numbered is untaken may =
    let numbered' : (n == 0) ≡ false = grind (arith, nat_tests, numbered) in
    let none = rw (waits, numbered', is, untaken) at may in
    absurd (cc (none))

idle_in : (n t : ℕ) → (get_or (replicate n idle_thread) t idle_thread).wait ≡ Idle
idle_in zero t = refl
idle_in (suc n) zero = refl
idle_in (suc n) (suc t) = idle_in n t

idle_thread_in : (xs : List ThreadPart) (t calls : ℕ) → (get_or (set xs t (record { calls = calls; wait = Idle })) t idle_thread).wait ≡ Idle
idle_thread_in [] t calls = refl
idle_thread_in (x ∷ xs) zero calls = refl
idle_thread_in (x ∷ xs) (suc t) calls = idle_thread_in xs t calls

idle_rank_in : (xs : List RankPart) (r t : ℕ) (p : RankPart) → (get_or p.threads t idle_thread).wait ≡ Idle → (get_or (get_or (set xs r p) r blank_part).threads t idle_thread).wait ≡ Idle
idle_rank_in [] r t p idle = idle_in 8 t
idle_rank_in (x ∷ xs) zero t p idle = idle
idle_rank_in (x ∷ xs) (suc r) t p idle = idle_rank_in xs r t p idle

-- an answer ends what the thread waits for
answered_is_idle : (s : Setting) (g : Registry) (r t : ℕ) (said : Reply) → (thread_of (registry_next s g (Replies r t said)) r t).wait ≡ Idle
unfolding registry_next
answered_is_idle s g r t said =
    let h = answers g r (thread_of g r t).wait in
    let p = part_of h r in
    idle_rank_in h.ranks r t (with_wait p t Idle) (idle_thread_in p.threads t (get_or p.threads t idle_thread).calls)

-- so no thread is answered twice to one call
pub no_second_answer : (s : Setting) (g : Registry) (r t : ℕ) (said again : Reply) → Allowed s (registry_next s g (Replies r t said)) (Replies r t again) → ⊥
no_second_answer s g r t said again may = no_answer_to_an_idle_thread s (registry_next s g (Replies r t said)) r t again (answered_is_idle s g r t said) may
