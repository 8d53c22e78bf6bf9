-- What an event changes of the communicators, the names and the creations.
use Rattle.std.proofs.Common.{◌≡◌, ◌≢◌, ◌⊎◌, ℕ, Bool, ◌+◌, ◌<◌, ◌≤◌, true, false, List, [], ◌∷◌, ◌++◌, length, set, Option, Some, None, refl, sym, ap, ◌∙◌, inl, inr, arith}
use Rattle.std.specs.List.{list_any}
use Rattle.mpi_base.proofs.MemberFacts.{has_rank-append}
use Rattle.mpi_base.specs.declared.keys.Key.{Key}
use Rattle.mpi_base.specs.declared.ops.Op.{Op}
use Rattle.mpi_law.specs.declared.setting.Setting.{Setting}
use Rattle.mpi_law.specs.declared.effects.Asked.{Asked}
use Rattle.mpi_law.specs.declared.effects.Origin.{Origin}
use Rattle.mpi_law.specs.declared.effects.Effect.{Effect}
use Rattle.mpi_law.specs.declared.effects.Effect.TheVariants.{Says, Opens, Groups, Ungroups, Joins, Frees, Ends, Sends as SendsMessage, Receives, Posts as PostsReceive, NullPosts, Completes, Awaits}
use Rattle.mpi_law.specs.Local.Objects.{Local}
use Rattle.mpi_law.specs.Local.Effects.{local_after}
use Rattle.mpi_law.specs.Registry.State as reg
use Rattle.mpi_law.specs.Registry.State.{Registry, Communicator, Caller, Outcome, Made, NoneFree, Pick, Creation, CreationName, Message, Receive, Wait, Creating, RankPart, blank_part, blank_comm, blank_creation, part_of, thread_of, comm_at, creation_at, with_wait}
use Rattle.mpi_law.specs.Registry.Creations.{caller_of, outcome_for, is_joinable, with_caller, with_pick, with_answer, name_of, group_of, share_in, join}
use Rattle.mpi_law.specs.Registry.Contexts.{is_live_at, in_use, comm_of, key_place}
use Rattle.mpi_law.specs.Registry.Calls.{effect_at, around, carried_out, with_freed, to_send, to_post}
use Rattle.mpi_law.specs.Registry.Replies.{answers, answered, idles}
use Rattle.mpi_law.specs.Registry.Events.{Event, Calls, Sends, Posts, Picks, Matches, Backs, Replies, registry_next, after_send, after_post, give_back, with_returned}
use Rattle.mpi_law.specs.Registry.Runs.{MayPick, Allowed}
use Rattle.answer_law.proofs.Lists.{set_place, all_any, at_last, length-snoc}
use Rattle.answer_law.proofs.Comms.{Grows, Keeps, keeps_grow, keeps_same, keeps_set, keeps_freed, grows_more, Apart, apart_keeps, apart_more}
use Rattle.answer_law.proofs.Names.{IsMember, AreKnown, Named, named_set, known_bound, known_after, known_answered}
use Rattle.answer_law.proofs.Asks.{comm_of_origin, asks_on, asked}
use Rattle.answer_law.proofs.Joins.{row, opened_row, JoinedAt, joined_at, stays, joined, opened}
use Rattle.answer_law.proofs.Creations.{IsMade, context_of, Fits, pick_of}

-- Communicators

-- they stay, or there is one more whose context is in use at none of its members
pub data CommsChange (old new : List Communicator) : Type 0 where
  kept : Keeps old new → CommsChange old new
  more : (m : Communicator) → new ≡ old ++ m ∷ [] → list_any (λ q. in_use old q m.ctx) m.members ≡ false → CommsChange old new

called_comms : (g : Registry) (r t : ℕ) (l : Local) (e : Effect ℕ) → Keeps g.comms (carried_out g r t l e).comms
called_comms g r t l (Says said) = keeps_same g.comms
called_comms g r t l (Opens target) = keeps_same g.comms
called_comms g r t l (Groups target members session) = keeps_same g.comms
called_comms g r t l (Ungroups name) = keeps_same g.comms
called_comms g r t l (Joins a) = keeps_same g.comms
called_comms g r t l (Frees name p) = keeps_set g.comms p (with_freed r (comm_at g p)) refl refl (λ q h. h)
called_comms g r t l (Ends name s) = keeps_freed g.comms r s
called_comms g r t l (SendsMessage m) = keeps_same g.comms
called_comms g r t l (Receives x) = keeps_same g.comms
called_comms g r t l (PostsReceive target x) = keeps_same g.comms
called_comms g r t l (NullPosts target) = keeps_same g.comms
called_comms g r t l (Completes name number) = keeps_same g.comms
called_comms g r t l (Awaits name) = keeps_same g.comms

pub comms_change : (s : Setting) (g : Registry) (e : Event) → Allowed s g e → CommsChange g.comms (registry_next s g e).comms
unfolding registry_next
comms_change s g (Calls r t op now) a = kept (called_comms g r t _ (effect_at s g r op))
comms_change s g (Sends r t) a = go (to_send (thread_of g r t).wait)
  where
    go : (o : Option Message) → CommsChange g.comms (after_send g r t o).comms
    go None = kept (keeps_same g.comms)
    go (Some m) = kept (keeps_same g.comms)
comms_change s g (Posts r t) a = go (to_post (thread_of g r t).wait)
  where
    go : (o : Option Receive) → CommsChange g.comms (after_post g r t o).comms
    go None = kept (keeps_same g.comms)
    go (Some x) = kept (keeps_same g.comms)
comms_change s g (Picks r key None) a = kept (keeps_same g.comms)
comms_change s g (Picks r key (Some c)) a = more _ refl a.1.unused
comms_change s g (Matches r number from sent) a = kept (keeps_same g.comms)
comms_change s g (Backs r c dropped) a = go (comm_of g.comms r c)
  where
    less : (m : Communicator) (q : ℕ) → is_live_at (with_returned r m) q ≡ true → is_live_at m q ≡ true
    less m q h = let e = has_rank-append m.returned r q in grind (arith, h, e)

    go : (o : Option ℕ) → CommsChange g.comms (give_back g r o).comms
    go None = kept (keeps_same g.comms)
    go (Some p) = kept (keeps_set g.comms p (with_returned r (comm_at g p)) refl refl (less (comm_at g p)))
comms_change s g (Replies r t said) a = go (thread_of g r t).wait
  where
    go : (w : Wait) → CommsChange g.comms (idles (answers g r w) r t).comms
    go reg.Idle = kept (keeps_same g.comms)
    go (reg.Reply_now x) = kept (keeps_same g.comms)
    go (reg.Sending m) = kept (keeps_same g.comms)
    go (reg.Posting x) = kept (keeps_same g.comms)
    go (reg.Requesting x) = kept (keeps_same g.comms)
    go (Creating n) = kept (keeps_same g.comms)
    go (reg.Freeing p) = kept (keeps_same g.comms)
    go (reg.Ending z) = kept (keeps_same g.comms)
    go (reg.Receiving n) = kept (keeps_same g.comms)
    go (reg.Awaiting name) = kept (keeps_same g.comms)

change_grows : (old new : List Communicator) → CommsChange old new → Grows old new
change_grows old new (kept k) = keeps_grow old new k
change_grows old new (more m e u) = rw e (grows_more old m)

pub comms_grow : (s : Setting) (g : Registry) (e : Event) → Allowed s g e → Grows g.comms (registry_next s g e).comms
comms_grow s g e a = change_grows _ _ (comms_change s g e a)

pub apart_next : (s : Setting) (g : Registry) (e : Event) → Allowed s g e → Apart g.comms → Apart (registry_next s g e).comms
apart_next s g e a h = go (comms_change s g e a)
  where
    go : CommsChange g.comms (registry_next s g e).comms → Apart (registry_next s g e).comms
    go (kept k) = apart_keeps _ _ k h
    go (more m is u) = rw is (apart_more g.comms m u h)

-- Names

called_named : (comms : List Communicator) (g : Registry) (r t n : ℕ) (e : Effect ℕ) → Named comms g.ranks → Named comms (carried_out g r t (local_after n (part_of g r).local e) e).ranks
called_named comms g r t n e h = by e (known_after comms r n (part_of g r).local e (h r))
  where
    by : (e : Effect ℕ) → AreKnown comms r (local_after n (part_of g r).local e).names → Named comms (carried_out g r t (local_after n (part_of g r).local e) e).ranks
    by (Says said) k = named_set comms g.ranks r _ k h
    by (Opens target) k = named_set comms g.ranks r _ k h
    by (Groups target members session) k = named_set comms g.ranks r _ k h
    by (Ungroups name) k = named_set comms g.ranks r _ k h
    by (Joins a) k = named_set comms g.ranks r _ k h
    by (Frees name p) k = named_set comms g.ranks r _ k h
    by (Ends name s) k = named_set comms g.ranks r _ k h
    by (SendsMessage m) k = named_set comms g.ranks r _ k h
    by (Receives x) k = named_set comms g.ranks r _ k h
    by (PostsReceive target x) k = named_set comms g.ranks r _ k h
    by (NullPosts target) k = named_set comms g.ranks r _ k h
    by (Completes name number) k = named_set comms g.ranks r _ k h
    by (Awaits name) k = named_set comms g.ranks r _ k h

-- what a rank is answered, it is a member of
pub made_member : (comms : List Communicator) (c : Creation) (r p : ℕ) → Fits comms c → outcome_for c r ≡ Some (Made p) → IsMember comms r p
made_member comms c r p f e = let k = pick_of comms c r (Made p) (λ (z : Pick). Unit {0}) f (all_any c.picks) e in record { inside = k.made.0; member = rw k.made.1 k.member }

pub named_after : (s : Setting) (g : Registry) (e : Event) (comms : List Communicator) → Allowed s g e → ((n r p : ℕ) → outcome_for (creation_at g n) r ≡ Some (Made p) → IsMember comms r p) → Named comms g.ranks → Named comms (registry_next s g e).ranks
unfolding registry_next
named_after s g (Calls r t op now) comms a made h = called_named comms g r t (part_of g r).receives (effect_at s g r op) h
named_after s g (Sends r t) comms a made h = go (to_send (thread_of g r t).wait)
  where
    go : (o : Option Message) → Named comms (after_send g r t o).ranks
    go None = h
    go (Some m) = named_set comms g.ranks r _ (h r) h
named_after s g (Posts r t) comms a made h = go (to_post (thread_of g r t).wait)
  where
    go : (o : Option Receive) → Named comms (after_post g r t o).ranks
    go None = h
    go (Some x) = named_set comms g.ranks r _ (h r) h
named_after s g (Picks r key None) comms a made h = h
named_after s g (Picks r key (Some c)) comms a made h = h
named_after s g (Matches r number from sent) comms a made h = h
named_after s g (Backs r c dropped) comms a made h = go (comm_of g.comms r c)
  where
    go : (o : Option ℕ) → Named comms (give_back g r o).ranks
    go None = h
    go (Some p) = h
named_after s g (Replies r t said) comms a made h = go (thread_of g r t).wait
  where
    idle : (new : Registry) → Named comms new.ranks → Named comms (idles new r t).ranks
    idle new k = named_set comms new.ranks r _ (k r) k

    go : (w : Wait) → Named comms (idles (answers g r w) r t).ranks
    go reg.Idle = idle g h
    go (reg.Reply_now x) = idle g h
    go (reg.Sending m) = idle g h
    go (reg.Posting x) = idle g h
    go (reg.Requesting x) = idle g h
    go (Creating n) =
        let c = creation_at g n in
        idle (answered g r n c) (named_set comms g.ranks r _ (known_answered comms r (part_of g r).local (caller_of c.callers r) (outcome_for c r) (λ p e. made n r p e) (h r)) h)
    go (reg.Freeing p) = idle g h
    go (reg.Ending z) = idle g h
    go (reg.Receiving n) = idle g h
    go (reg.Awaiting name) = idle g h

-- Creations

-- the event is a call that joins a creation of this name, as this caller
pub record JoinCall (s : Setting) (g : Registry) (e : Event) (name : CreationName) (k : Caller) : Type 0 where
  pub op : Op
  pub now : Bool
  pub asked : Asked ℕ
  pub event : e ≡ Calls k.rank k.thread op now
  pub effect : effect_at s g k.rank op ≡ Joins asked
  pub name_is : name ≡ name_of g.creations k.rank asked.origin
  pub share_is : k.share ≡ share_in asked.origin

-- what becomes of the creation at a place
pub data Change (s : Setting) (g : Registry) (e : Event) (comms : List Communicator) (n : ℕ) (new : Creation) : Type 0 where
  same : new ≡ creation_at g n → Change s g e comms n new
  joins : (name : CreationName) (k : Caller) → is_joinable name (creation_at g n) ≡ true → new ≡ with_caller (creation_at g n) k → JoinCall s g e name k → Change s g e comms n new
  opens : (r : ℕ) (o : Origin ℕ) (k : Caller) → creation_at g n ≡ blank_creation → ((p : ℕ) → comm_of_origin o ≡ Some p → p < length g.comms) → new ≡ opened_row (name_of g.creations r o) (group_of g o) k → JoinCall s g e (name_of g.creations r o) k → Change s g e comms n new
  picks : (r : ℕ) (key : Key) (o : Outcome) → e ≡ Picks r key (context_of comms o) → MayPick g r key → key_place g r key ≡ n → IsMade comms key.members o → new ≡ with_pick (creation_at g n) (record { members = key.members; outcome = o }) → Change s g e comms n new
  notes : (r : ℕ) → new ≡ with_answer (creation_at g n) r → Change s g e comms n new

-- one creation is set
set_change : (s : Setting) (g : Registry) (e : Event) (comms : List Communicator) (n m : ℕ) (c : Creation) → (n ≡ m → Change s g e comms n c) → Change s g e comms n (row (set g.creations m c) n)
set_change s g e comms n m c f = go (set_place g.creations m c blank_creation n)
  where
    go : ((n ≡ m) × (m < length g.creations) × (row (set g.creations m c) n ≡ c)) ⊎ (((n ≢ m) ⊎ (length g.creations ≤ m)) × (row (set g.creations m c) n ≡ row g.creations n)) → Change s g e comms n (row (set g.creations m c) n)
    go (inl a) = rw a.2 (f a.0)
    go (inr a) = same a.1

module _ (s : Setting) (g : Registry) (named : Named g.comms g.ranks) (n : ℕ) where
  called : (event : Event) (comms : List Communicator) (r t : ℕ) (op : Op) (now : Bool) (l : Local) (e : Effect ℕ) → event ≡ Calls r t op now → effect_at s g r op ≡ e → Change s g event comms n (creation_at (carried_out g r t l e) n)
  called event comms r t op now l (Joins a) ev is = go (joined_at g.creations name (group_of g a.origin) caller n)
    where
      name : CreationName
      name = name_of g.creations r a.origin

      caller : Caller
      caller = record { rank = r; thread = t; target = a.target; session = a.session; share = share_in a.origin }

      by : JoinCall s g event name caller
      by = record { op = op; now = now; asked = a; event = ev; effect = is; name_is = refl; share_is = refl }

      inside : (p : ℕ) → comm_of_origin a.origin ≡ Some p → p < length g.comms
      inside p e =
          let found = asked s r (around g r) (part_of g r).local op p (ap asks_on is ∙ e) in
          (known_bound g.comms r (part_of g r).local.names found.name _ found.there (named r)).inside

      go : JoinedAt g.creations (join g.creations name (group_of g a.origin) caller) name (group_of g a.origin) caller n
          → Change s g event comms n (row (join g.creations name (group_of g a.origin) caller) n)
      go (stays e) = same e
      go (joined j e) = joins name caller j e by
      go (opened b e) = opens r a.origin caller b inside e by
  called event comms r t op now l (Says said) ev is = same refl
  called event comms r t op now l (Opens target) ev is = same refl
  called event comms r t op now l (Groups target members session) ev is = same refl
  called event comms r t op now l (Ungroups name) ev is = same refl
  called event comms r t op now l (Frees name p) ev is = same refl
  called event comms r t op now l (Ends name z) ev is = same refl
  called event comms r t op now l (SendsMessage m) ev is = same refl
  called event comms r t op now l (Receives x) ev is = same refl
  called event comms r t op now l (PostsReceive target x) ev is = same refl
  called event comms r t op now l (NullPosts target) ev is = same refl
  called event comms r t op now l (Completes name number) ev is = same refl
  called event comms r t op now l (Awaits name) ev is = same refl

  pub change : (e : Event) → Allowed s g e → Change s g e (registry_next s g e).comms n (creation_at (registry_next s g e) n)
  unfolding registry_next
  change (Calls r t op now) a = called _ _ r t op now _ (effect_at s g r op) refl refl
  change (Sends r t) a = go (to_send (thread_of g r t).wait)
    where
      go : (o : Option Message) → Change s g (Sends r t) (after_send g r t o).comms n (creation_at (after_send g r t o) n)
      go None = same refl
      go (Some m) = same refl
  change (Posts r t) a = go (to_post (thread_of g r t).wait)
    where
      go : (o : Option Receive) → Change s g (Posts r t) (after_post g r t o).comms n (creation_at (after_post g r t o) n)
      go None = same refl
      go (Some x) = same refl
  change (Picks r key None) a = set_change s g _ _ n (key_place g r key) _ (λ is. rw is (picks r key NoneFree refl a.0 refl tt refl))
  change (Picks r key (Some c)) a =
      set_change s g _ _ n (key_place g r key) _ (λ is. rw is (picks r key (Made (length g.comms)) context a.0 refl made refl))
    where
      made : IsMade (registry_next s g (Picks r key (Some c))).comms key.members (Made (length g.comms))
      made = let l : length (registry_next s g (Picks r key (Some c))).comms ≡ length g.comms + 1 = length-snoc g.comms _ in (omega (arith, l), ap (λ (m : Communicator). m.members) (at_last g.comms _ blank_comm))

      context : Picks r key (Some c) ≡ Picks r key (context_of (registry_next s g (Picks r key (Some c))).comms (Made (length g.comms)))
      context = ap (λ (m : Communicator). Picks r key (Some m.ctx)) (sym (at_last g.comms _ blank_comm))
  change (Matches r number from sent) a = same refl
  change (Backs r c dropped) a = go (comm_of g.comms r c)
    where
      go : (o : Option ℕ) → Change s g (Backs r c dropped) (give_back g r o).comms n (creation_at (give_back g r o) n)
      go None = same refl
      go (Some p) = same refl
  change (Replies r t said) a = go (thread_of g r t).wait
    where
      go : (w : Wait) → Change s g (Replies r t said) (idles (answers g r w) r t).comms n (creation_at (idles (answers g r w) r t) n)
      go reg.Idle = same refl
      go (reg.Reply_now x) = same refl
      go (reg.Sending m) = same refl
      go (reg.Posting x) = same refl
      go (reg.Requesting x) = same refl
      go (Creating m) = set_change s g _ _ n m _ (λ is. notes r (ap (λ (i : ℕ). with_answer (creation_at g i) r) (sym is)))
      go (reg.Freeing p) = same refl
      go (reg.Ending z) = same refl
      go (reg.Receiving x) = same refl
      go (reg.Awaiting name) = same refl
