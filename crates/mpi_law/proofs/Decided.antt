-- Whether an event is allowed, as a test, and that the test is right both ways, of a reply together with what is owed
-- (`owed_by`): so a run of events may be shown by computing.
use Rattle.std.proofs.Common.{◌≡◌, ◌≢◌, ℕ, ◌+◌, ◌<◌, ◌≤◌, ◌==◌, ◌&&◌, not, nat_lt, nat_le, Bool, true, false, List, [], ◌∷◌, ◌++◌, length, suc, zero, Option, Some, None, is_none, is_some, get_or, drop, refl, ap, subst, arith}
use Rattle.std.specs.Prelude.{bytes_eq}
use Rattle.std.specs.List.{list_all, list_any, range_with_len, flat_map}
use Rattle.std.proofs.lemmas.Bool.Decides.{nat_tests}
use Rattle.std.proofs.lemmas.Slice.Eq.{bytes_eq-Decides}
use Rattle.mpi_base.specs.MemberLists.{has_rank}
use Rattle.mpi_base.specs.ClassNumbers.{number_of}
use Rattle.mpi_base.specs.declared.groups.RankOut.{RankOut}
use Rattle.mpi_base.specs.declared.groups.RankOut.TheVariants as rank_out
use Rattle.mpi_base.specs.declared.groups.Likeness.{Likeness}
use Rattle.mpi_base.specs.declared.groups.Likeness.TheVariants.{Ident, Congruent, Similar, Unequal}
use Rattle.mpi_base.specs.declared.keys.Key.{Key}
use Rattle.mpi_base.specs.declared.ops.Op.{Op}
use Rattle.mpi_base.specs.declared.replies.Reply.{Reply}
use Rattle.mpi_base.specs.declared.replies.Reply.TheVariants as reply
use Rattle.mpi_law.specs.declared.setting.Setting.{Setting}
use Rattle.mpi_law.specs.declared.setting.TheConstants.{THREADS}
use Rattle.mpi_law.specs.Local.Effects.{is_said}
use Rattle.mpi_law.specs.Registry.State.{Registry, Message, Receive, Outcome, thread_of, comm_at, creation_at, is_idle_wait, is_between_calls}
use Rattle.mpi_law.specs.Registry.Creations.{all_called, class_of, outcome_for, has_open_under}
use Rattle.mpi_law.specs.Registry.Contexts.{in_use, comm_of, is_exchange, key_place}
use Rattle.mpi_law.specs.Registry.Messages.{may_match, receive_of, message_of, left_on, has_waiting}
use Rattle.mpi_law.specs.Registry.Tests.{can_take, can_pick, is_taken, can_return}
use Rattle.mpi_law.specs.Registry.Calls.{effect_at, to_send, to_post}
use Rattle.mpi_law.specs.Registry.Replies.{owed}
use Rattle.mpi_law.specs.Registry.Events.{Event, Calls, Sends, Posts, Picks, Matches, Backs, Replies, registry_next}
use Rattle.mpi_law.specs.Registry.Runs.{Allowed, MayCall, MayPick, MayMatch, MayBack, IsRegistryRun}

-- Replies as numbers: where these differ, the replies do

abbrev out_numbers : RankOut → List ℕ
out_numbers rank_out.Null = 0 ∷ []
out_numbers rank_out.Undefined = 1 ∷ []
out_numbers (rank_out.At n) = 2 ∷ n ∷ []

abbrev like_number : Likeness → ℕ
like_number Ident = 0
like_number Congruent = 1
like_number Similar = 2
like_number Unequal = 3

abbrev of_number : Option ℕ → List ℕ
of_number None = 0 ∷ []
of_number (Some n) = 1 ∷ n ∷ []

abbrev reply_numbers : Reply → List ℕ
reply_numbers reply.Fine = 0 ∷ []
reply_numbers (reply.Refused c) = 1 ∷ number_of c ∷ []
reply_numbers reply.Null = 2 ∷ []
reply_numbers (reply.Psets n) = 3 ∷ n ∷ []
reply_numbers (reply.NthName name) = 4 ∷ name
reply_numbers (reply.Size0 n) = 5 ∷ n ∷ []
reply_numbers (reply.Group members) = 6 ∷ members
reply_numbers (reply.Ranks outs) = 7 ∷ flat_map out_numbers outs
reply_numbers (reply.Like l) = 8 ∷ like_number l ∷ []
reply_numbers (reply.Size n) = 9 ∷ n ∷ []
reply_numbers (reply.Rank n) = 10 ∷ of_number n
reply_numbers (reply.Comm c r n) = 11 ∷ c ∷ r ∷ n ∷ []
reply_numbers (reply.Received source tag payload) = 12 ∷ of_number source ++ of_number tag ++ payload

abbrev numbers_of : Option Reply → List ℕ
numbers_of None = []
numbers_of (Some said) = reply_numbers said

-- The test

abbrev same_truth : Bool → Bool → Bool
same_truth true b = b
same_truth false b = not b

abbrev may_pick : Registry → ℕ → Key → Bool
may_pick g r key = is_between_calls g && can_pick g r key

abbrev may_back : Registry → ℕ → ℕ → Option ℕ → Bool
may_back g r dropped None = false
may_back g r dropped (Some p) = is_between_calls g && can_return g r dropped (Some p)

abbrev pub is_allowed : Setting → Registry → Event → Bool
is_allowed s g (Calls r t op now) =
    is_between_calls g
    && (nat_lt r s.ranks && (nat_lt t THREADS && (is_idle_wait (thread_of g r t).wait && same_truth now (is_said (effect_at s g r op)))))
is_allowed s g (Sends r t) = is_some (to_send (thread_of g r t).wait)
is_allowed s g (Posts r t) = is_some (to_post (thread_of g r t).wait)
is_allowed s g (Picks r key (Some c)) = may_pick g r key && (nat_le 1 c && (nat_le c s.contexts && not (is_taken g key c)))
is_allowed s g (Picks r key None) = may_pick g r key && list_all (is_taken g key) (range_with_len 1 s.contexts)
is_allowed s g (Matches r number from sent) = can_take g (receive_of g r number) (message_of g from sent)
is_allowed s g (Backs r c dropped) = may_back g r dropped (comm_of g.comms r c)
is_allowed s g (Replies r t said) = bytes_eq (numbers_of (owed g r t)) (reply_numbers said)

-- of a reply what is owed in its place
abbrev pub owed_by : Registry → Event → Option Reply
owed_by g (Calls r t op now) = None
owed_by g (Sends r t) = None
owed_by g (Posts r t) = None
owed_by g (Picks r key pick) = None
owed_by g (Matches r number from sent) = None
owed_by g (Backs r c dropped) = None
owed_by g (Replies r t said) = owed g r t

abbrev pub said_by : Event → Option Reply
said_by (Calls r t op now) = None
said_by (Sends r t) = None
said_by (Posts r t) = None
said_by (Picks r key pick) = None
said_by (Matches r number from sent) = None
said_by (Backs r c dropped) = None
said_by (Replies r t said) = Some said

-- That it is right

first : (a b : Bool) → (a && b) ≡ true → a ≡ true
first true b h = refl
first false b h = absurd (cc (h))

rest : (a b : Bool) → (a && b) ≡ true → b ≡ true
rest true b h = h
rest false b h = absurd (cc (h))

both : (a b : Bool) → a ≡ true → b ≡ true → (a && b) ≡ true
both true b h k = k
both false b h k = absurd (cc (h))

same_truth_is : (a b : Bool) → same_truth a b ≡ true → a ≡ b
same_truth_is true true h = refl
same_truth_is true false h = absurd (cc (h))
same_truth_is false true h = absurd (cc (h))
same_truth_is false false h = refl

is_same_truth : (a b : Bool) → a ≡ b → same_truth a b ≡ true
is_same_truth true true h = refl
is_same_truth true false h = absurd (cc (h))
is_same_truth false true h = absurd (cc (h))
is_same_truth false false h = refl

not_true : (a : Bool) → not a ≡ true → a ≡ false
not_true true h = absurd (cc (h))
not_true false h = refl

not_false : (a : Bool) → a ≡ false → not a ≡ true
not_false true h = absurd (cc (h))
not_false false h = refl

below : (a b : ℕ) → nat_lt a b ≡ true → a < b
below a b h = grind (arith, nat_tests, h)

is_below : (a b : ℕ) → a < b → nat_lt a b ≡ true
is_below a b h = grind (arith, nat_tests, h)

up_to : (a b : ℕ) → nat_le a b ≡ true → a ≤ b
up_to a b h = grind (arith, nat_tests, h)

is_up_to : (a b : ℕ) → a ≤ b → nat_le a b ≡ true
is_up_to a b h = grind (arith, nat_tests, h)

all_in : (p : ℕ → Bool) (a n c : ℕ) → list_all p (range_with_len a n) ≡ true → a ≤ c → c < a + n → p c ≡ true
all_in p a zero c e lo hi = absurd (omega arith)
all_in p a (suc n) c e lo hi = go (a == c) refl (first (p a) (list_all p (range_with_len (a + 1) n)) e) (all_in p (a + 1) n c (rest (p a) (list_all p (range_with_len (a + 1) n)) e))
  where
    go : (t : Bool) → (a == c) ≡ t → p a ≡ true → (a + 1 ≤ c → c < a + 1 + n → p c ≡ true) → p c ≡ true
    go true eq here more = let is : a ≡ c = grind (arith, nat_tests, eq) in subst (λ (i : ℕ). p i ≡ true) is here
    go false eq here more = let ne : a ≢ c = grind (arith, nat_tests, eq) in more (omega arith) (omega arith)

in_all : (p : ℕ → Bool) (a n : ℕ) → ((c : ℕ) → a ≤ c → c < a + n → p c ≡ true) → list_all p (range_with_len a n) ≡ true
in_all p a zero f = refl
in_all p a (suc n) f = both (p a) (list_all p (range_with_len (a + 1) n)) (f a (omega arith) (omega arith)) (in_all p (a + 1) n (λ c lo hi. f c (omega (arith, lo)) (omega (arith, hi))))

none_of : (o : Option Outcome) → is_none o ≡ true → o ≡ None
none_of None h = refl
none_of (Some k) h = absurd (cc (h))

is_none_of : (o : Option Outcome) → o ≡ None → is_none o ≡ true
is_none_of None h = refl
is_none_of (Some k) h = absurd (cc (h))

may_pick_when : (g : Registry) (r : ℕ) (key : Key) → may_pick g r key ≡ true → MayPick g r key
may_pick_when g r key h =
    let c = creation_at g (key_place g r key) in
    let x = is_exchange key.kind in
    let a = nat_lt (key_place g r key) (length g.creations) in
    let b = all_called c in
    let d = has_rank key.members r in
    let e = bytes_eq (class_of c r) key.members in
    let f = is_none (outcome_for c r) in
    let u = is_between_calls g in
    let k = rest u (not x && (a && (b && (d && (e && f))))) h in
    let h0 = rest (not x) (a && (b && (d && (e && f)))) k in
    let h1 = rest a (b && (d && (e && f))) h0 in
    let h2 = rest b (d && (e && f)) h1 in
    let h3 = rest d (e && f) h2 in
    record {
      between = first u (not x && (a && (b && (d && (e && f))))) h;
      proper = not_true x (first (not x) (a && (b && (d && (e && f)))) k);
      there = below (key_place g r key) (length g.creations) (first a (b && (d && (e && f))) h0);
      all = first b (d && (e && f)) h1;
      member = first d (e && f) h2;
      members = (bytes_eq-Decides (class_of c r) key.members).0 (first e f h3);
      unpicked = none_of (outcome_for c r) (rest e f h3);
    }

when_may_pick : (g : Registry) (r : ℕ) (key : Key) → MayPick g r key → may_pick g r key ≡ true
when_may_pick g r key m =
    let c = creation_at g (key_place g r key) in
    let x = is_exchange key.kind in
    let a = nat_lt (key_place g r key) (length g.creations) in
    let b = all_called c in
    let d = has_rank key.members r in
    let e = bytes_eq (class_of c r) key.members in
    let f = is_none (outcome_for c r) in
    let u = is_between_calls g in
    both u (not x && (a && (b && (d && (e && f))))) m.between
    (both (not x) (a && (b && (d && (e && f)))) (not_false x m.proper)
    (both a (b && (d && (e && f))) (is_below (key_place g r key) (length g.creations) m.there)
    (both b (d && (e && f)) m.all
    (both d (e && f) m.member (both e f ((bytes_eq-Decides (class_of c r) key.members).1 m.members) (is_none_of (outcome_for c r) m.unpicked))))))

may_back_when : (g : Registry) (r c dropped : ℕ) (o : Option ℕ) → comm_of g.comms r c ≡ o → may_back g r dropped o ≡ true → MayBack g r c dropped
may_back_when g r c dropped None e h = absurd (cc (h))
may_back_when g r c dropped (Some p) e h =
    let a = list_all (has_rank (comm_at g p).freed) (comm_at g p).members in
    let b = list_any (has_open_under g p) (comm_at g p).members in
    let w = has_waiting g p r in
    let d = dropped == left_on g p r in
    let u = is_between_calls g in
    let k = rest u (a && (not b && (not w && d))) h in
    let h1 = rest a (not b && (not w && d)) k in
    let h2 = rest (not b) (not w && d) h1 in
    let z : d ≡ true = rest (not w) d h2 in
    record {
      between = first u (a && (not b && (not w && d))) h;
      place = p;
      here = e;
      freed = first a (not b && (not w && d)) k;
      settled = not_true b (first (not b) (not w && d) h1);
      complete = not_true w (first (not w) d h2);
      left = grind (arith, nat_tests, z);
    }

when_may_back : (g : Registry) (r c dropped : ℕ) → MayBack g r c dropped → may_back g r dropped (comm_of g.comms r c) ≡ true
when_may_back g r c dropped m =
    let p = m.place in
    let n = m.left in
    let a = list_all (has_rank (comm_at g p).freed) (comm_at g p).members in
    let b = list_any (has_open_under g p) (comm_at g p).members in
    let w = has_waiting g p r in
    let d = dropped == left_on g p r in
    rw m.here (both (is_between_calls g) (a && (not b && (not w && d))) m.between
    (both a (not b && (not w && d)) m.freed
    (both (not b) (not w && d) (not_false b m.settled) (both (not w) d (not_false w m.complete) (grind (arith, nat_tests, n))))))

may_take_when : (g : Registry) (r number from sent : ℕ) (x : Option Receive) (m : Option Message) → receive_of g r number ≡ x → message_of g from sent ≡ m → can_take g x m ≡ true → MayMatch g r number from sent
may_take_when g r number from sent None m e f h = absurd (cc (h))
may_take_when g r number from sent (Some x) None e f h = absurd (cc (h))
may_take_when g r number from sent (Some x) (Some m) e f h = record { receive = x; message = m; posted = e; sent_there = f; first = h }

when_may_take : (g : Registry) (r number from sent : ℕ) → MayMatch g r number from sent → can_take g (receive_of g r number) (message_of g from sent) ≡ true
when_may_take g r number from sent m = rw (m.posted, m.sent_there) m.first

due_when : {A : Type 0} → (o : Option A) → is_some o ≡ true → (x : A) × (o ≡ Some x)
due_when None h = absurd (cc (h))
due_when (Some x) h = (x, refl)

when_due : {A : Type 0} → (o : Option A) (x : A) → o ≡ Some x → is_some o ≡ true
when_due None x h = absurd (cc (h))
when_due (Some y) x h = refl

may_call_when : (s : Setting) (g : Registry) (r t : ℕ) (op : Op) (now : Bool) → is_allowed s g (Calls r t op now) ≡ true → MayCall s g r t op now
may_call_when s g r t op now h =
    let a = nat_lt r s.ranks in
    let b = nat_lt t THREADS in
    let e = is_idle_wait (thread_of g r t).wait in
    let f = same_truth now (is_said (effect_at s g r op)) in
    let u = is_between_calls g in
    let k = rest u (a && (b && (e && f))) h in
    let after = rest a (b && (e && f)) k in
    let idle = rest b (e && f) after in
    record {
      between = first u (a && (b && (e && f))) h;
      rank = below r s.ranks (first a (b && (e && f)) k);
      thread = below t THREADS (first b (e && f) after);
      idle = first e f idle;
      reply = same_truth_is now (is_said (effect_at s g r op)) (rest e f idle);
    }

when_may_call : (s : Setting) (g : Registry) (r t : ℕ) (op : Op) (now : Bool) → MayCall s g r t op now → is_allowed s g (Calls r t op now) ≡ true
when_may_call s g r t op now m =
    let a = nat_lt r s.ranks in
    let b = nat_lt t THREADS in
    let e = is_idle_wait (thread_of g r t).wait in
    let f = same_truth now (is_said (effect_at s g r op)) in
    both (is_between_calls g) (a && (b && (e && f))) m.between
    (both a (b && (e && f)) (is_below r s.ranks m.rank)
    (both b (e && f) (is_below t THREADS m.thread) (both e f m.idle (is_same_truth now (is_said (effect_at s g r op)) m.reply))))

pub allowed_when : (s : Setting) (g : Registry) (e : Event) → is_allowed s g e ≡ true → owed_by g e ≡ said_by e → Allowed s g e
allowed_when s g (Calls r t op now) h o = may_call_when s g r t op now h
allowed_when s g (Sends r t) h o = let due = due_when (to_send (thread_of g r t).wait) h in record { message = due.0; due = due.1 }
allowed_when s g (Posts r t) h o = let due = due_when (to_post (thread_of g r t).wait) h in record { receive = due.0; due = due.1 }
allowed_when s g (Picks r key (Some c)) h o =
    let a = may_pick g r key in
    let after = rest a (nat_le 1 c && (nat_le c s.contexts && not (is_taken g key c))) h in
    let below = rest (nat_le 1 c) (nat_le c s.contexts && not (is_taken g key c)) after in (
      may_pick_when g r key (first a (nat_le 1 c && (nat_le c s.contexts && not (is_taken g key c))) h),
      record {
        above = up_to 1 c (first (nat_le 1 c) (nat_le c s.contexts && not (is_taken g key c)) after);
        below = up_to c s.contexts (first (nat_le c s.contexts) (not (is_taken g key c)) below);
        unused = not_true (is_taken g key c) (rest (nat_le c s.contexts) (not (is_taken g key c)) below);
      },
    )
allowed_when s g (Picks r key None) h o =
    let a = may_pick g r key in
    let each = rest a (list_all (is_taken g key) (range_with_len 1 s.contexts)) h in (
      may_pick_when g r key (first a (list_all (is_taken g key) (range_with_len 1 s.contexts)) h),
      λ c lo hi. all_in (is_taken g key) 1 s.contexts c each lo (omega (arith, hi)),
    )
allowed_when s g (Matches r number from sent) h o = may_take_when g r number from sent (receive_of g r number) (message_of g from sent) refl refl h
allowed_when s g (Backs r c dropped) h o = may_back_when g r c dropped (comm_of g.comms r c) refl h
allowed_when s g (Replies r t said) h o = o

pub when_allowed : (s : Setting) (g : Registry) (e : Event) → Allowed s g e → is_allowed s g e ≡ true
when_allowed s g (Calls r t op now) m = when_may_call s g r t op now m
when_allowed s g (Sends r t) m = when_due (to_send (thread_of g r t).wait) m.message m.due
when_allowed s g (Posts r t) m = when_due (to_post (thread_of g r t).wait) m.receive m.due
when_allowed s g (Picks r key (Some c)) m =
    both (may_pick g r key) (nat_le 1 c && (nat_le c s.contexts && not (is_taken g key c))) (when_may_pick g r key m.0)
    (both (nat_le 1 c) (nat_le c s.contexts && not (is_taken g key c)) (is_up_to 1 c m.1.above)
    (both (nat_le c s.contexts) (not (is_taken g key c)) (is_up_to c s.contexts m.1.below) (not_false (is_taken g key c) m.1.unused)))
when_allowed s g (Picks r key None) m =
    both (may_pick g r key) (list_all (is_taken g key) (range_with_len 1 s.contexts)) (when_may_pick g r key m.0)
    (in_all (is_taken g key) 1 s.contexts (λ c lo hi. m.1 c lo (omega (arith, hi))))
when_allowed s g (Matches r number from sent) m = when_may_take g r number from sent m
when_allowed s g (Backs r c dropped) m = when_may_back g r c dropped m
when_allowed s g (Replies r t said) m = (bytes_eq-Decides (numbers_of (owed g r t)) (reply_numbers said)).1 (ap numbers_of m)

-- where the test says no, the event is not allowed
pub refused_when : (s : Setting) (g : Registry) (e : Event) → is_allowed s g e ≡ false → Allowed s g e → ⊥
refused_when s g e h m = let t = when_allowed s g e m in absurd (cc (h, t))

-- Runs

-- of each event whether the test allows it, and of a reply what is owed
unfoldable pub judged : Setting → Registry → List Event → List (Bool × Option Reply)
judged s g [] = []
judged s g (e ∷ es) = (is_allowed s g e, owed_by g e) ∷ judged s (registry_next s g e) es

abbrev pub all_right : List Event → List (Bool × Option Reply)
all_right [] = []
all_right (e ∷ es) = (true, said_by e) ∷ all_right es

-- events that are all judged right are a registry run
pub run_of : (s : Setting) (g : Registry) (es : List Event) → judged s g es ≡ all_right es → IsRegistryRun s g es
unfolding judged
run_of s g [] h = tt
run_of s g (e ∷ es) h = (
  allowed_when s g e (ap (λ (l : List (Bool × Option Reply)). (get_or l 0 (false, None)).0) h) (ap (λ (l : List (Bool × Option Reply)). (get_or l 0 (false, None)).1) h),
  run_of s (registry_next s g e) es (ap (drop 1) h),
)
