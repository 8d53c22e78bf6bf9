-- The topic of members: those of each communicator of the registry are distinct ranks of the job. Only a pick adds a
-- communicator, with the members of its key; no other event changes the members of one.
use Rattle.std.proofs.Common.{◌≡◌, ◌≢◌, ◌⊎◌, ◌<◌, ◌≤◌, ℕ, zero, suc, if◌then◌else◌, Bool, true, false, List, [], ◌∷◌, ◌++◌, length, get_or, set, Option, Some, None, refl, sym, ap, ◌∙◌, inl, inr}
use Rattle.mpi_law.specs.declared.setting.Setting.{Setting}
use Rattle.mpi_law.specs.declared.effects.Effect.{Effect}
use Rattle.mpi_law.specs.declared.effects.Effect.TheVariants.{Says, Opens, Groups, Ungroups, Joins, Frees, Ends, Sends as SendsMessage, Receives, Posts as PostsReceive, NullPosts, Completes, Awaits}
use Rattle.mpi_law.specs.Local.Objects.{Local}
use Rattle.mpi_law.specs.Local.Effects.{local_after}
use Rattle.mpi_law.specs.Registry.State as reg
use Rattle.mpi_law.specs.Registry.State.{Registry, Communicator, Message, Receive, Wait, blank_comm, comm_at, part_of, thread_of}
use Rattle.mpi_law.specs.Registry.Contexts.{comm_of}
use Rattle.mpi_law.specs.Registry.Calls.{effect_at, with_freed, is_kept, freed_all, carried_out, to_send, to_post}
use Rattle.mpi_law.specs.Registry.Replies.{answers}
use Rattle.mpi_law.specs.Registry.Events.{Event, Calls, Sends, Posts, Picks, Matches, Backs, Replies, after_send, after_post, with_returned, give_back, registry_next}
use Rattle.mpi_law.specs.Registry.Runs.{registry_after}
use Rattle.agree_law.proofs.Lists.{AllOf}
use Rattle.projection_law.specs.Premises.{are_distinct_ranks}
use Rattle.run_law.proofs.Lists.{set_place, get_or-map}

abbrev pub Members : ℕ → Registry → Type 0
Members n g = (p : ℕ) → are_distinct_ranks n (comm_at g p).members ≡ true

abbrev SameMembers : Registry → Registry → Type 0
SameMembers g new = (p : ℕ) → (comm_at new p).members ≡ (comm_at g p).members

-- one communicator changes, not in its members
set_members : (comms : List Communicator) (p : ℕ) (m : Communicator) → m.members ≡ (get_or comms p blank_comm).members → (q : ℕ) → (get_or (set comms p m) q blank_comm).members ≡ (get_or comms q blank_comm).members
set_members comms p m e q = go (set_place comms p m blank_comm q)
  where
    go : ((q ≡ p) × (p < length comms) × (get_or (set comms p m) q blank_comm ≡ m)) ⊎ (((q ≢ p) ⊎ (length comms ≤ p)) × (get_or (set comms p m) q blank_comm ≡ get_or comms q blank_comm)) → (get_or (set comms p m) q blank_comm).members ≡ (get_or comms q blank_comm).members
    go (inl a) = ap (λ (z : Communicator). z.members) a.2 ∙ (e ∙ ap (λ (i : ℕ). (get_or comms i blank_comm).members) (sym a.0))
    go (inr a) = ap (λ (z : Communicator). z.members) a.1

freed_members : (comms : List Communicator) (r s q : ℕ) → (get_or (freed_all comms r s) q blank_comm).members ≡ (get_or comms q blank_comm).members
freed_members comms r s q = ap (λ (z : Communicator). z.members) (get_or-map (λ (m : Communicator). if is_kept r s m then with_freed r m else m) comms blank_comm q) ∙ by (is_kept r s (get_or comms q blank_comm))
  where
    by : (b : Bool) → (if b then with_freed r (get_or comms q blank_comm) else get_or comms q blank_comm).members ≡ (get_or comms q blank_comm).members
    by true = refl
    by false = refl

-- what holds of each communicator and of one more
each_more : (P : Communicator → Type 0) (comms : List Communicator) (m : Communicator) → P blank_comm → P m → ((p : ℕ) → P (get_or comms p blank_comm)) → (p : ℕ) → P (get_or (comms ++ m ∷ []) p blank_comm)
each_more P [] m none more each zero = more
each_more P [] m none more each (suc p) = none
each_more P (x ∷ xs) m none more each zero = each 0
each_more P (x ∷ xs) m none more each (suc p) = each_more P xs m none more (λ q. each (suc q)) p

-- Events

called_members : (g : Registry) (r t : ℕ) (l : Local) (e : Effect ℕ) → SameMembers g (carried_out g r t l e)
called_members g r t l (Says said) p = refl
called_members g r t l (Opens target) p = refl
called_members g r t l (Groups target members session) p = refl
called_members g r t l (Ungroups name) p = refl
called_members g r t l (Joins a) p = refl
called_members g r t l (Frees name c) p = set_members g.comms c (with_freed r (comm_at g c)) refl p
called_members g r t l (Ends name s) p = freed_members g.comms r s p
called_members g r t l (SendsMessage m) p = refl
called_members g r t l (Receives x) p = refl
called_members g r t l (PostsReceive target x) p = refl
called_members g r t l (NullPosts target) p = refl
called_members g r t l (Completes name n) p = refl
called_members g r t l (Awaits name) p = refl

sent_members : (g : Registry) (r t : ℕ) (o : Option Message) → SameMembers g (after_send g r t o)
sent_members g r t None p = refl
sent_members g r t (Some m) p = refl

posted_members : (g : Registry) (r t : ℕ) (o : Option Receive) → SameMembers g (after_post g r t o)
posted_members g r t None p = refl
posted_members g r t (Some x) p = refl

answered_members : (g : Registry) (r : ℕ) (w : Wait) → SameMembers g (answers g r w)
answered_members g r reg.Idle p = refl
answered_members g r (reg.Reply_now said) p = refl
answered_members g r (reg.Sending m) p = refl
answered_members g r (reg.Posting x) p = refl
answered_members g r (reg.Requesting x) p = refl
answered_members g r (reg.Creating n) p = refl
answered_members g r (reg.Freeing i) p = refl
answered_members g r (reg.Ending s) p = refl
answered_members g r (reg.Receiving n) p = refl
answered_members g r (reg.Awaiting name) p = refl

returned_members : (g : Registry) (r : ℕ) (o : Option ℕ) → SameMembers g (give_back g r o)
returned_members g r None p = refl
returned_members g r (Some i) p = set_members g.comms i (with_returned r (comm_at g i)) refl p

-- a pick is of a key of distinct ranks
abbrev pub IsOfRanks : ℕ → Event → Type 0
IsOfRanks n (Calls r t op now) = Unit {0}
IsOfRanks n (Sends r t) = Unit {0}
IsOfRanks n (Posts r t) = Unit {0}
IsOfRanks n (Picks r key pick) = are_distinct_ranks n key.members ≡ true
IsOfRanks n (Matches r number from sent) = Unit {0}
IsOfRanks n (Backs r c dropped) = Unit {0}
IsOfRanks n (Replies r t said) = Unit {0}

pub members_next : (s : Setting) (n : ℕ) (g : Registry) (e : Event) → IsOfRanks n e → Members n g → Members n (registry_next s g e)
unfolding registry_next
members_next s n g (Calls r t op now) f h p = ap (are_distinct_ranks n) (called_members g r t (local_after (part_of g r).receives (part_of g r).local (effect_at s g r op)) (effect_at s g r op) p) ∙ h p
members_next s n g (Sends r t) f h p = ap (are_distinct_ranks n) (sent_members g r t (to_send (thread_of g r t).wait) p) ∙ h p
members_next s n g (Posts r t) f h p = ap (are_distinct_ranks n) (posted_members g r t (to_post (thread_of g r t).wait) p) ∙ h p
members_next s n g (Picks r key None) f h p = h p
members_next s n g (Picks r key (Some c)) f h p = each_more (λ (m : Communicator). are_distinct_ranks n m.members ≡ true) g.comms _ refl f h p
members_next s n g (Matches r number from sent) f h p = h p
members_next s n g (Backs r c dropped) f h p = ap (are_distinct_ranks n) (returned_members g r (comm_of g.comms r c) p) ∙ h p
members_next s n g (Replies r t said) f h p = ap (are_distinct_ranks n) (answered_members g r (thread_of g r t).wait p) ∙ h p

pub members_after : (s : Setting) (n : ℕ) (g : Registry) (es : List Event) → AllOf (IsOfRanks n) es → Members n g → Members n (registry_after s g es)
members_after s n g [] f h = h
members_after s n g (e ∷ es) f h = members_after s n (registry_next s g e) es f.1 (members_next s n g e f.0 h)
