-- A name that is bound to a communicator is bound to one that is there, and its rank is a member of it.
use Rattle.std.proofs.Common.{◌≡◌, ℕ, ◌<◌, if◌then◌else◌, Bool, true, false, List, length, get_or, set, find, Option, Some, None, option_map, bytes_eq, refl, sym, subst, arith}
use Rattle.std.specs.List.{AllByRecursion}
use Rattle.mpi_base.specs.MemberLists.{has_rank}
use Rattle.local_law.specs.Names.{bound_of}
use Rattle.local_law.specs.Objects as objects
use Rattle.mpi_law.specs.declared.effects.Effect.{Effect}
use Rattle.mpi_law.specs.declared.effects.Effect.TheVariants.{Says, Opens, Groups, Ungroups, Joins, Frees, Ends, Sends, Receives, Posts, NullPosts, Completes, Awaits}
use Rattle.mpi_law.specs.Local.Objects.{Bound, NameRow, Local}
use Rattle.mpi_law.specs.Local.Effects.{local_after}
use Rattle.mpi_law.specs.Registry.State.{Communicator, Caller, Outcome, Made, NoneFree, RankPart, blank_part}
use Rattle.mpi_law.specs.Registry.Replies.{bind_outcome}
use Rattle.answer_law.proofs.Lists.{at_set, all_map, all_snoc, all_filter, all_changed, found}
use Rattle.answer_law.proofs.Comms.{at, Grows}

-- the communicator at a place is there, and a rank is a member of it
pub record IsMember (comms : List Communicator) (r p : ℕ) : Type 0 where
  pub inside : p < length comms
  pub member : has_rank (at comms p).members r ≡ true

abbrev pub Known : List Communicator → ℕ → Bound → Type 0
Known comms r objects.Reserved = Unit {0}
Known comms r (objects.Session s) = Unit {0}
Known comms r (objects.Group members s) = Unit {0}
Known comms r (objects.Comm p s) = IsMember comms r p
Known comms r (objects.Request number) = Unit {0}

abbrev pub AreKnown : List Communicator → ℕ → List NameRow → Type 0
AreKnown comms r rows = AllByRecursion (λ row. Known comms r row.1) rows

abbrev pub Named : List Communicator → List RankPart → Type 0
Named comms ranks = (q : ℕ) → AreKnown comms q (get_or ranks q blank_part).local.names

pub member_grows : (old new : List Communicator) (r p : ℕ) → Grows old new → IsMember old r p → IsMember new r p
member_grows old new r p g m =
    let l = g.longer in
    let i = m.inside in
    record { inside = omega (arith, l, i); member = rw (g.members p i) m.member }

pub known_grows : (old new : List Communicator) (r : ℕ) → Grows old new → (b : Bound) → Known old r b → Known new r b
known_grows old new r g objects.Reserved h = tt
known_grows old new r g (objects.Session s) h = tt
known_grows old new r g (objects.Group members s) h = tt
known_grows old new r g (objects.Comm p s) h = member_grows old new r p g h
known_grows old new r g (objects.Request number) h = tt

pub named_grows : (old new : List Communicator) (ranks : List RankPart) → Grows old new → Named old ranks → Named new ranks
named_grows old new ranks g h q = all_map (λ (row : NameRow). Known old q row.1) (λ (row : NameRow). Known new q row.1) _ (λ row k. known_grows old new q g row.1 k) (h q)

pub named_set : (comms : List Communicator) (ranks : List RankPart) (r : ℕ) (p : RankPart) → AreKnown comms r p.local.names → Named comms ranks → Named comms (set ranks r p)
named_set comms ranks r p k h q = at_set (λ (x : RankPart). AreKnown comms q x.local.names) ranks r p blank_part q (λ is lt. subst (λ (i : ℕ). AreKnown comms i p.local.names) (sym is) k) (h q)

-- what a name is bound to
pub known_bound : (comms : List Communicator) (r : ℕ) (rows : List NameRow) (name : List ℕ) (b : Bound) → bound_of rows name ≡ Some b → AreKnown comms r rows → Known comms r b
known_bound comms r rows name b e h = go (find (λ row. bytes_eq row.0 name) rows) refl e
  where
    go : (o : Option NameRow) → find (λ row. bytes_eq row.0 name) rows ≡ o → option_map (λ row. row.1) o ≡ Some b → Known comms r b
    go None f e = absurd (cc (e))
    go (Some row) f e =
        let is : row.1 ≡ b = cc (e) in
        subst (λ (x : Bound). Known comms r x) is (found (λ (row : NameRow). Known comms r row.1) (λ row. bytes_eq row.0 name) rows row f h).1

module _ (comms : List Communicator) (r : ℕ) where
  abbrev One : NameRow → Type 0
  One row = Known comms r row.1

  -- a call
  pub known_after : (receives : ℕ) (l : Local) (e : Effect ℕ) → AreKnown comms r l.names → AreKnown comms r (local_after receives l e).names
  known_after receives l (Says said) h = h
  known_after receives l (Opens target) h = all_snoc One l.names _ h tt
  known_after receives l (Groups target members session) h = all_snoc One l.names _ h tt
  known_after receives l (Ungroups name) h = all_filter One _ l.names h
  known_after receives l (Joins a) h = all_snoc One l.names _ h tt
  known_after receives l (Frees name c) h = all_filter One _ l.names h
  known_after receives l (Ends name session) h = all_filter One _ l.names h
  known_after receives l (Sends m) h = h
  known_after receives l (Receives x) h = h
  known_after receives l (Posts target x) h = all_snoc One l.names _ h tt
  known_after receives l (NullPosts target) h = all_snoc One l.names _ h tt
  known_after receives l (Completes name number) h = all_filter One _ l.names h
  known_after receives l (Awaits name) h = h

  -- an answer
  pub known_answered : (l : Local) (k : Caller) (o : Option Outcome) → ((p : ℕ) → o ≡ Some (Made p) → IsMember comms r p) → AreKnown comms r l.names → AreKnown comms r (bind_outcome l k o).names
  known_answered l k None f h = all_filter One _ l.names h
  known_answered l k (Some NoneFree) f h = all_filter One _ l.names h
  known_answered l k (Some (Made p)) f h = all_changed One _ l.names (λ row m. each row m (bytes_eq row.0 k.target)) h
    where
      each : (row : NameRow) → One row → (b : Bool) → One (if b then (row.0, objects.Comm p k.session) else row)
      each row m true = f p refl
      each row m false = m
