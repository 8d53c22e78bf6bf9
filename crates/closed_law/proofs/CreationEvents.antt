-- What an event of the registry does to who waits for a creation and to who has called it: no event but a call does anything.
use Rattle.std.proofs.Common.{◌≡◌, ◌≢◌, ◌⊎◌, ◌<◌, ◌≤◌, ◌==◌, ◌||◌, not, ℕ, Bool, true, false, List, [], ◌∷◌, length, get_or, set, Option, Some, None, refl, sym, ap, ◌∙◌, inl, inr, arith}
use Rattle.std.specs.List.{list_any, list_all}
use Rattle.std.proofs.lemmas.Bool.Decides.{nat_tests}
use Rattle.mpi_base.specs.declared.keys.Key.{Key}
use Rattle.mpi_law.specs.declared.setting.Setting.{Setting}
use Rattle.mpi_law.specs.declared.effects.Effect.{Effect}
use Rattle.mpi_law.specs.declared.effects.Effect.TheVariants.{Says, Opens, Groups, Ungroups, Joins, Frees, Ends, Sends as SendsMessage, Receives, Posts as PostsReceive, NullPosts, Completes, Awaits}
use Rattle.mpi_law.specs.declared.effects.Asked.{Asked}
use Rattle.mpi_law.specs.Local.Objects.{Local}
use Rattle.mpi_law.specs.Registry.State as reg
use Rattle.mpi_law.specs.Registry.State.{Registry, RankPart, ThreadPart, Caller, Creation, CreationName, Message, Receive, Wait, Creating, blank_part, blank_creation, idle_thread, part_of, thread_of, creation_at}
use Rattle.mpi_law.specs.Registry.Creations.{is_split, is_picked, has_called, all_called, name_of, group_of, share_in, join, is_joinable, place_where, with_caller, with_pick, with_answer}
use Rattle.mpi_law.specs.Registry.Calls.{carried_out, to_send, to_post, once_sent}
use Rattle.mpi_law.specs.Registry.Contexts.{comm_of, key_place}
use Rattle.mpi_law.specs.Registry.Replies.{answers, idles}
use Rattle.mpi_law.specs.Registry.Events.{Event, Calls, Sends, Posts, Picks, Matches, Backs, Replies, after_send, after_post, after_pick, give_back, registry_next}
use Rattle.mpi_law.specs.Registry.Runs.{registry_after}
use Rattle.agree_law.proofs.Lists.{AllOf}
use Rattle.run_law.proofs.Lists.{set_place}
use Rattle.run_law.proofs.Creations.{creation_in}
use Rattle.run_law.proofs.JoinRows.{JoinedRow, joined_old, opened_new, joining, any-snoc}
use Rattle.closed_law.proofs.ThreadGoes.{goes_thread, here_set}

-- who waits for a creation afterwards did so before, and the same have called
pub record Later (g new : Registry) : Type 0 where
  pub waits : (r t n : ℕ) → (thread_of new r t).wait ≡ Creating n → (thread_of g r t).wait ≡ Creating n
  pub callers : (n : ℕ) → (creation_at new n).callers ≡ (creation_at g n).callers
  pub group : (n : ℕ) → (creation_at new n).group ≡ (creation_at g n).group

same : (g new : Registry) → new.ranks ≡ g.ranks → new.creations ≡ g.creations → Later g new
same g new e f = record {
  waits = λ r t n h. ap (λ (ps : List RankPart). (get_or (get_or ps r blank_part).threads t idle_thread).wait) (sym e) ∙ h;
  callers = λ n. ap (λ (cs : List Creation). (creation_in cs n).callers) f;
  group = λ n. ap (λ (cs : List Creation). (creation_in cs n).group) f;
}

pub then : (g h new : Registry) → Later g h → Later h new → Later g new
then g h new a b = record {
  waits = λ r t n e. a.waits r t n (b.waits r t n e);
  callers = λ n. b.callers n ∙ a.callers n;
  group = λ n. b.group n ∙ a.group n;
}

-- the threads of a rank are set
parts_back : (g new : Registry) (r : ℕ) (p : RankPart) → new.ranks ≡ set g.ranks r p → ((u n : ℕ) → (get_or p.threads u idle_thread).wait ≡ Creating n → (thread_of g r u).wait ≡ Creating n) → (q u n : ℕ) → (thread_of new q u).wait ≡ Creating n → (thread_of g q u).wait ≡ Creating n
parts_back g new r p e back q u n h = go (set_place g.ranks r p blank_part q) (ap (λ (ps : List RankPart). (get_or (get_or ps q blank_part).threads u idle_thread).wait) (sym e) ∙ h)
  where
    go : ((q ≡ r) × (r < length g.ranks) × (get_or (set g.ranks r p) q blank_part ≡ p)) ⊎ (((q ≢ r) ⊎ (length g.ranks ≤ r)) × (get_or (set g.ranks r p) q blank_part ≡ get_or g.ranks q blank_part)) → (get_or (get_or (set g.ranks r p) q blank_part).threads u idle_thread).wait ≡ Creating n → (thread_of g q u).wait ≡ Creating n
    go (inl a) f = rw a.0 (back u n (sym (ap (λ (z : RankPart). (get_or z.threads u idle_thread).wait) a.2) ∙ f))
    go (inr a) f = sym (ap (λ (z : RankPart). (get_or z.threads u idle_thread).wait) a.1) ∙ f

-- one of them
thread_back : (g : Registry) (r t : ℕ) (row : ThreadPart) → ((n : ℕ) → row.wait ≡ Creating n → (thread_of g r t).wait ≡ Creating n) → (u n : ℕ) → (get_or (set (part_of g r).threads t row) u idle_thread).wait ≡ Creating n → (thread_of g r u).wait ≡ Creating n
thread_back g r t row back u n h = go (set_place (part_of g r).threads t row idle_thread u)
  where
    new : List ThreadPart
    new = set (part_of g r).threads t row

    go : ((u ≡ t) × (t < length (part_of g r).threads) × (get_or new u idle_thread ≡ row)) ⊎ (((u ≢ t) ⊎ (length (part_of g r).threads ≤ t)) × (get_or new u idle_thread ≡ get_or (part_of g r).threads u idle_thread)) → (thread_of g r u).wait ≡ Creating n
    go (inl a) = rw a.0 (back n (sym (ap (λ (z : ThreadPart). z.wait) a.2) ∙ h))
    go (inr a) = sym (ap (λ (z : ThreadPart). z.wait) a.1) ∙ h

once_back : (w : Wait) (n : ℕ) → once_sent w ≡ Creating n → w ≡ Creating n
once_back reg.Idle n e = absurd (cc (e))
once_back (reg.Reply_now x) n e = absurd (cc (e))
once_back (reg.Sending m) n e = absurd (cc (e))
once_back (reg.Posting x) n e = absurd (cc (e))
once_back (reg.Requesting x) n e = absurd (cc (e))
once_back (Creating m) n e = e
once_back (reg.Freeing p) n e = absurd (cc (e))
once_back (reg.Ending q) n e = absurd (cc (e))
once_back (reg.Receiving x) n e = absurd (cc (e))
once_back (reg.Awaiting name) n e = absurd (cc (e))

-- a creation gets a pick, or an answer
rows_keep : (g new : Registry) (n : ℕ) (c : Creation) → new.ranks ≡ g.ranks → new.creations ≡ set g.creations n c → c.callers ≡ (creation_at g n).callers → c.group ≡ (creation_at g n).group → Later g new
rows_keep g new n c e f ec eg = record {
  waits = λ r t m h. ap (λ (ps : List RankPart). (get_or (get_or ps r blank_part).threads t idle_thread).wait) (sym e) ∙ h;
  callers = λ m. ap (λ (cs : List Creation). (creation_in cs m).callers) f ∙ go (λ (z : Creation). z.callers) ec m;
  group = λ m. ap (λ (cs : List Creation). (creation_in cs m).group) f ∙ go (λ (z : Creation). z.group) eg m;
}
  where
    go : {A : Type 0} (of : Creation → A) → of c ≡ of (creation_at g n) → (m : ℕ) → of (creation_in (set g.creations n c) m) ≡ of (creation_at g m)
    go of same m = by (set_place g.creations n c blank_creation m)
      where
        by : ((m ≡ n) × (n < length g.creations) × (creation_in (set g.creations n c) m ≡ c)) ⊎ (((m ≢ n) ⊎ (length g.creations ≤ n)) × (creation_in (set g.creations n c) m ≡ creation_in g.creations m)) → of (creation_in (set g.creations n c) m) ≡ of (creation_at g m)
        by (inl a) = rw (a.2, a.0) same
        by (inr a) = ap of a.1

-- Events

abbrev pub is_calling : Event → Bool
is_calling (Calls r t op now) = true
is_calling (Sends r t) = false
is_calling (Posts r t) = false
is_calling (Picks r key pick) = false
is_calling (Matches r number from sent) = false
is_calling (Backs r c dropped) = false
is_calling (Replies r t said) = false

within : (g new : Registry) (r t : ℕ) → new.ranks ≡ set g.ranks r (reg.with_wait (part_of g r) t (once_sent (thread_of g r t).wait)) → new.creations ≡ g.creations → Later g new
within g new r t e f = record {
  waits = parts_back g new r _ e (thread_back g r t _ (once_back (thread_of g r t).wait));
  callers = λ n. ap (λ (cs : List Creation). (creation_in cs n).callers) f;
  group = λ n. ap (λ (cs : List Creation). (creation_in cs n).group) f;
}

sends_later : (g : Registry) (r t : ℕ) (o : Option Message) → Later g (after_send g r t o)
sends_later g r t None = same g g refl refl
sends_later g r t (Some m) = within g _ r t refl refl

posts_later : (g : Registry) (r t : ℕ) (o : Option Receive) → Later g (after_post g r t o)
posts_later g r t None = same g g refl refl
posts_later g r t (Some x) = within g _ r t refl refl

picks_later : (g : Registry) (n : ℕ) (key : Key) (pick : Option ℕ) → Later g (after_pick g n key pick)
picks_later g n key None = rows_keep g _ n (with_pick (creation_at g n) _) refl refl refl refl
picks_later g n key (Some c) = rows_keep g _ n (with_pick (creation_at g n) _) refl refl refl refl

backs_later : (g : Registry) (r : ℕ) (o : Option ℕ) → Later g (give_back g r o)
backs_later g r None = same g g refl refl
backs_later g r (Some p) = same g _ refl refl

answers_later : (g : Registry) (r : ℕ) (w : Wait) → Later g (answers g r w)
answers_later g r reg.Idle = same g g refl refl
answers_later g r (reg.Reply_now x) = same g g refl refl
answers_later g r (reg.Sending m) = same g g refl refl
answers_later g r (reg.Posting x) = same g g refl refl
answers_later g r (reg.Requesting x) = same g g refl refl
answers_later g r (Creating n) = record { waits = parts_back g (answers g r (Creating n)) r _ refl (λ u m h. h); callers = noted.callers; group = noted.group }
  where
    noted : Later g (record g { creations = set g.creations n (with_answer (creation_at g n) r) })
    noted = rows_keep g _ n (with_answer (creation_at g n) r) refl refl refl refl
answers_later g r (reg.Freeing p) = same g g refl refl
answers_later g r (reg.Ending q) = same g g refl refl
answers_later g r (reg.Receiving x) = same g g refl refl
answers_later g r (reg.Awaiting name) = same g g refl refl

idles_later : (g : Registry) (r t : ℕ) → Later g (idles g r t)
idles_later g r t = record { waits = parts_back g (idles g r t) r _ refl (thread_back g r t _ (λ n e. absurd (cc (e)))); callers = λ n. refl; group = λ n. refl }

later : (s : Setting) (g : Registry) (e : Event) → is_calling e ≡ false → Later g (registry_next s g e)
unfolding registry_next
later s g (Calls r t op now) e = absurd (cc (e))
later s g (Sends r t) e = sends_later g r t (to_send (thread_of g r t).wait)
later s g (Posts r t) e = posts_later g r t (to_post (thread_of g r t).wait)
later s g (Picks r key pick) e = picks_later g (key_place g r key) key pick
later s g (Matches r number from sent) e = same g _ refl refl
later s g (Backs r c dropped) e = backs_later g r (comm_of g.comms r c)
later s g (Replies r t said) e = then g (answers g r (thread_of g r t).wait) _ (answers_later g r (thread_of g r t).wait) (idles_later (answers g r (thread_of g r t).wait) r t)

pub all_later : (s : Setting) (g : Registry) (es : List Event) → AllOf (λ (e : Event). is_calling e ≡ false) es → Later g (registry_after s g es)
all_later s g [] h = same g g refl refl
all_later s g (e ∷ es) h = then g (registry_next s g e) _ (later s g e h.0) (all_later s (registry_next s g e) es h.1)

-- A call

abbrev pub is_join : Effect ℕ → Bool
is_join (Says said) = false
is_join (Opens target) = false
is_join (Groups target members session) = false
is_join (Ungroups name) = false
is_join (Joins a) = true
is_join (Frees name c) = false
is_join (Ends name q) = false
is_join (SendsMessage m) = false
is_join (Receives x) = false
is_join (PostsReceive target x) = false
is_join (NullPosts target) = false
is_join (Completes name n) = false
is_join (Awaits name) = false

-- one that joins no creation
module _ (g : Registry) (r t : ℕ) where
  plain : (new : Registry) (p : RankPart) (row : ThreadPart) → new.ranks ≡ set g.ranks r p → p.threads ≡ set (part_of g r).threads t row → ((n : ℕ) → row.wait ≡ Creating n → ⊥) → new.creations ≡ g.creations → Later g new
  plain new p row e is none f = record {
    waits = parts_back g new r p e (λ u n h. thread_back g r t row (λ m k. absurd (none m k)) u n (ap (λ (ts : List ThreadPart). (get_or ts u idle_thread).wait) (sym is) ∙ h));
    callers = λ n. ap (λ (cs : List Creation). (creation_in cs n).callers) f;
    group = λ n. ap (λ (cs : List Creation). (creation_in cs n).group) f;
  }

  pub call_later : (l : Local) (e : Effect ℕ) → is_join e ≡ false → Later g (carried_out g r t l e)
  call_later l (Says said) j = plain _ _ _ refl refl (λ n k. cc (k)) refl
  call_later l (Opens target) j = plain _ _ _ refl refl (λ n k. cc (k)) refl
  call_later l (Groups target members session) j = plain _ _ _ refl refl (λ n k. cc (k)) refl
  call_later l (Ungroups name) j = plain _ _ _ refl refl (λ n k. cc (k)) refl
  call_later l (Joins a) j = absurd (cc (j))
  call_later l (Frees name c) j = plain _ _ _ refl refl (λ n k. cc (k)) refl
  call_later l (Ends name q) j = plain _ _ _ refl refl (λ n k. cc (k)) refl
  call_later l (SendsMessage m) j = plain _ _ _ refl refl (λ n k. cc (k)) refl
  call_later l (Receives x) j = plain _ _ _ refl refl (λ n k. cc (k)) refl
  call_later l (PostsReceive target x) j = plain _ _ _ refl refl (λ n k. cc (k)) refl
  call_later l (NullPosts target) j = plain _ _ _ refl refl (λ n k. cc (k)) refl
  call_later l (Completes name n) j = plain _ _ _ refl refl (λ n k. cc (k)) refl
  call_later l (Awaits name) j = plain _ _ _ refl refl (λ n k. cc (k)) refl

all_more : (f h : ℕ → Bool) (ms : List ℕ) → ((q : ℕ) → f q ≡ true → h q ≡ true) → list_all f ms ≡ true → list_all h ms ≡ true
all_more f h [] more e = refl
all_more f h (m ∷ ms) more e = let a = more m (grind (arith, e)) in let ih = all_more f h ms more (grind (arith, e)) in grind (arith, a, ih)

-- the creation that a call has joined, where it was there before
pub record OneMore (old new : Creation) (r : ℕ) : Type 0 where
  pub name : new.name ≡ old.name
  pub called : (q : ℕ) → has_called new q ≡ true → (q ≡ r) ⊎ (has_called old q ≡ true)
  pub fewer : all_called new ≡ false → all_called old ≡ false
  pub short : is_split old.name ≡ true → all_called old ≡ false

-- one that joins a creation, or opens it
pub record Joining (g new : Registry) (r t : ℕ) : Type 0 where
  pub place : ℕ
  pub waits : (thread_of new r t).wait ≡ Creating place
  pub others : (q u : ℕ) → ((q ≡ r) → (u ≡ t) → ⊥) → thread_of new q u ≡ thread_of g q u
  pub same : (n : ℕ) → n ≢ place → creation_at new n ≡ creation_at g n
  pub first : length g.creations ≤ place → (q : ℕ) → has_called (creation_at new place) q ≡ true → q ≡ r
  pub more : place < length g.creations → OneMore (creation_at g place) (creation_at new place) r

not_picked : (name : CreationName) (c : Creation) → is_joinable name c ≡ true → is_split c.name ≡ true → all_called c ≡ false
not_picked name c j e = go (all_called c) (let z : not (is_picked c) ≡ true = grind (arith, j) in rw e at z)
  where
    go : (b : Bool) → not b ≡ true → b ≡ false
    go true h = absurd (cc (h))
    go false h = refl

one_more : (c : Creation) (k : Caller) (name : CreationName) → is_joinable name c ≡ true → OneMore c (with_caller c k) k.rank
one_more c k name j = record { name = refl; called = called; fewer = fewer; short = not_picked name c j }
  where
    called : (q : ℕ) → has_called (with_caller c k) q ≡ true → (q ≡ k.rank) ⊎ (has_called c q ≡ true)
    called q h = by (has_called c q) refl (sym (any-snoc c.callers k q) ∙ h)
      where
        by : (b : Bool) → has_called c q ≡ b → (has_called c q || (k.rank == q)) ≡ true → (q ≡ k.rank) ⊎ (has_called c q ≡ true)
        by true e f = inr e
        by false e f = let is : k.rank ≡ q = grind (arith, nat_tests, e, f) in inl (sym is)

    more : (q : ℕ) → has_called c q ≡ true → has_called (with_caller c k) q ≡ true
    more q e = any-snoc c.callers k q ∙ (rw e refl)

    fewer : all_called (with_caller c k) ≡ false → all_called c ≡ false
    fewer h = by (all_called c) refl
      where
        by : (b : Bool) → all_called c ≡ b → b ≡ false
        by false e = refl
        by true e = absurd (let z = all_more (has_called c) (has_called (with_caller c k)) c.group more e in cc (z, h))

module _ (g : Registry) (r t : ℕ) (lr : r < length g.ranks) (lt : t < length (part_of g r).threads) (l : Local) (a : Asked ℕ) where
  abbrev caller : Caller
  caller = record { rank = r; thread = t; target = a.target; session = a.session; share = share_in a.origin }

  abbrev name : CreationName
  name = name_of g.creations r a.origin

  abbrev at : ℕ
  at = place_where (is_joinable name) g.creations

  abbrev rows : List Creation
  rows = join g.creations name (group_of g a.origin) caller

  joining_one : JoinedRow g.creations rows name (group_of g a.origin) caller at → ((length g.creations ≤ at → (q : ℕ) → has_called (creation_in rows at) q ≡ true → q ≡ r) × (at < length g.creations → OneMore (creation_in g.creations at) (creation_in rows at) r))
  joining_one (joined_old lp ok row long) = (λ far. absurd (omega (arith, far, lp)), λ near. rw row (one_more (creation_in g.creations at) caller name ok))
  joining_one (opened_new lp row long none) = (λ far q h. first q (sym (ap (λ (c : Creation). has_called c q) row) ∙ h), λ near. absurd (omega (arith, near, lp)))
    where
      first : (q : ℕ) → list_any (λ (z : Caller). z.rank == q) (caller ∷ []) ≡ true → q ≡ r
      first q h = let is : r ≡ q = grind (arith, nat_tests, h) in sym is

  pub call_joins : Joining g (carried_out g r t l (Joins a)) r t
  call_joins =
      let new = carried_out g r t l (Joins a) in
      let goes = goes_thread g new r t _ _ refl refl in
      let j = joining g.creations name (group_of g a.origin) caller in
      let one = joining_one j.row in
      record { place = at; waits = ap (λ (z : ThreadPart). z.wait) (here_set g new r t _ _ refl refl lr lt); others = goes.others; same = j.same; first = one.0; more = one.1 }
