-- The topic of what is told of an exchange and not taken yet: for a rank and the key of an exchange the list that the first
-- member has told, while the rank has not taken it. It is no part of the world, like what is due. The list is the shares of all
-- callers of the split that the key stands for. It reads the registry's communicators and creations, and each event keeps it.
use Rattle.std.proofs.Common.{◌≡◌, ◌≢◌, ◌⊎◌, ◌<◌, ◌≤◌, ℕ, ◌==◌, ◌&&◌, if◌then◌else◌, Bool, true, false, List, [], ◌∷◌, length, set, Option, Some, None, refl, sym, ap, ◌∙◌, subst, inl, inr, arith, length-set}
use Rattle.std.specs.List.{AllByRecursion}
use Rattle.std.proofs.lemmas.Bool.Decides.{nat_tests}
use Rattle.mpi_base.specs.declared.keys.Key.{Key}
use Rattle.mpi_base.specs.declared.shares.Shared1.{Shared1}
use Rattle.mpi_base.specs.Keys.{same_key}
use Rattle.mpi_base.specs.MemberLists.{has_rank}
use Rattle.mpi_base.proofs.KeyFacts.{same_key_is}
use Rattle.mpi_law.specs.declared.setting.Setting.{Setting}
use Rattle.mpi_law.specs.declared.effects.Effect.{Effect}
use Rattle.mpi_law.specs.declared.effects.Effect.TheVariants.{Says, Opens, Groups, Ungroups, Joins, Frees, Ends, Sends, Receives, Posts, NullPosts, Completes, Awaits}
use Rattle.mpi_law.specs.Local.Objects.{Local}
use Rattle.mpi_law.specs.Local.Effects.{local_after}
use Rattle.mpi_law.specs.Registry.State as reg
use Rattle.mpi_law.specs.Registry.State.{Registry, Communicator, Caller, Creation, CreationName, Message, Receive, Wait, Pick, blank_comm, blank_creation, comm_at, creation_at, part_of, thread_of, session_at}
use Rattle.mpi_law.specs.Registry.Creations.{is_split, place_where, is_joinable, join, with_answer, name_of, group_of, share_in}
use Rattle.mpi_law.specs.Registry.Contexts.{is_live_at, stands_for, key_place}
use Rattle.mpi_law.specs.Registry.Calls.{effect_at, carried_out, with_freed, freed_all, is_kept, to_send, to_post}
use Rattle.mpi_law.specs.Registry.Events as event
use Rattle.mpi_law.specs.Registry.Events.{Event, registry_next, after_send, after_post, after_pick}
use Rattle.mpi_law.specs.Registry.Replies.{answers}
use Rattle.mpi_law.specs.Registry.Runs.{registry_after}
use Rattle.run_law.proofs.Lists.{set_place, get_or-map, length-map}
use Rattle.run_law.proofs.Contexts.{Stay, stay_more}
use Rattle.run_law.proofs.Creations.{comm_in, creation_in}
use Rattle.run_law.proofs.Names.{stands_on}
use Rattle.run_law.proofs.JoinRows.{JoinedRow, joined_old, opened_new, joining}
use Rattle.run_law.proofs.ChangedComms.{position_same}
use Rattle.run_law.proofs.ShareClasses.{SharesOf}

abbrev pub Tells : Type 0
Tells = ℕ → Key → Option (List Shared1)

abbrev pub none_told : Tells
none_told q k = None

-- a list is told to each member, and a rank takes it
abbrev pub told_said : Tells → Key → List Shared1 → Tells
told_said told key list q k = if same_key key k && has_rank key.members q then Some list else told q k

abbrev pub told_taken : Tells → ℕ → Key → Tells
told_taken told r key q k = if same_key key k && (q == r) then None else told q k

pub record ToldFits (comms : List Communicator) (creations : List Creation) (r : ℕ) (key : Key) (list : List Shared1) : Type 0 where
  pub place : ℕ
  pub there : place < length creations
  pub stands : stands_for comms r key ≡ Some (creation_in creations place).name
  pub split : is_split (creation_in creations place).name ≡ true
  pub shares : SharesOf (creation_in creations place) list

abbrev pub Tolds : Registry → Tells → Type 0
Tolds g told = (r : ℕ) (key : Key) (list : List Shared1) → told r key ≡ Some list → ToldFits g.comms g.creations r key list

-- Creations

-- a creation goes on, with the shares of its callers
record RowGoes (rows : List Creation) (old : Creation) (n : ℕ) (list : List Shared1) : Type 0 where
  pub there : n < length rows
  pub name : (creation_in rows n).name ≡ old.name
  pub shares : SharesOf (creation_in rows n) list

told_on : (comms more : List Communicator) (creations rows : List Creation) (r : ℕ) (key : Key) (list : List Shared1) → Stay comms more r → (h : ToldFits comms creations r key list) → RowGoes rows (creation_in creations h.place) h.place list → ToldFits more rows r key list
told_on comms more creations rows r key list stay h go = record {
  place = h.place;
  there = go.there;
  stands = stands_on comms more r key (creation_in creations h.place).name stay h.stands ∙ ap (λ (name : CreationName). Some name) (sym go.name);
  split = ap is_split go.name ∙ h.split;
  shares = go.shares;
}

same_shares : (c d : Creation) (list : List Shared1) → d.group ≡ c.group → d.callers ≡ c.callers → SharesOf c list → SharesOf d list
same_shares c d list e f h = record { all = rw (e, f) h.all; are = rw (e, f) h.are }

-- one creation changes, but not its name, its group and its callers
row_set : (creations : List Creation) (n : ℕ) (d : Creation) (i : ℕ) (list : List Shared1) → d.name ≡ (creation_in creations n).name → d.group ≡ (creation_in creations n).group → d.callers ≡ (creation_in creations n).callers
    → i < length creations → SharesOf (creation_in creations i) list → RowGoes (set creations n d) (creation_in creations i) i list
row_set creations n d i list en eg ec li h = go (set_place creations n d blank_creation i)
  where
    long : i < length (set creations n d)
    long = let l = length-set creations n d in omega (arith, l, li)

    go : ((i ≡ n) × (n < length creations) × (creation_in (set creations n d) i ≡ d)) ⊎ (((i ≢ n) ⊎ (length creations ≤ n)) × (creation_in (set creations n d) i ≡ creation_in creations i)) → RowGoes (set creations n d) (creation_in creations i) i list
    go (inr a) = record { there = long; name = ap (λ (c : Creation). c.name) a.1; shares = subst (λ (c : Creation). SharesOf c list) (sym a.1) h }
    go (inl a) =
        let is = a.0 in
        let at = subst (λ (k : ℕ). SharesOf (creation_in creations k) list) is h in
        record {
          there = long;
          name = ap (λ (c : Creation). c.name) a.2 ∙ (en ∙ ap (λ (k : ℕ). (creation_in creations k).name) (sym is));
          shares = subst (λ (c : Creation). SharesOf c list) (sym a.2) (same_shares (creation_in creations n) d list eg ec at);
        }

-- a call joins none that all have called
row_joined : (creations : List Creation) (name : CreationName) (group : List ℕ) (k : Caller) (i : ℕ) (list : List Shared1) → i < length creations → is_split (creation_in creations i).name ≡ true → SharesOf (creation_in creations i) list → RowGoes (join creations name group k) (creation_in creations i) i list
row_joined creations name group k i list li split h = go (i == place_where (is_joinable name) creations) refl (joining creations name group k).row
  where
    go : (b : Bool) → (i == place_where (is_joinable name) creations) ≡ b → JoinedRow creations (join creations name group k) name group k (place_where (is_joinable name) creations) → RowGoes (join creations name group k) (creation_in creations i) i list
    go true e (opened_new at is long none) = absurd (let z : i ≡ place_where (is_joinable name) creations = grind (arith, nat_tests, e) in omega (arith, z, at, li))
    go true e (joined_old lt ok is long) =
        let z : i ≡ place_where (is_joinable name) creations = grind (arith, nat_tests, e) in
        let ok_i : is_joinable name (creation_in creations i) ≡ true = ap (λ (n : ℕ). is_joinable name (creation_in creations n)) z ∙ ok in
        let all = h.all in
        absurd (grind (arith, ok_i, split, all))
    go false e row =
        let same = (joining creations name group k).same i (grind (arith, nat_tests, e)) in
        record { there = longer row; name = ap (λ (c : Creation). c.name) same; shares = subst (λ (c : Creation). SharesOf c list) (sym same) h }
      where
        longer : JoinedRow creations (join creations name group k) name group k (place_where (is_joinable name) creations) → i < length (join creations name group k)
        longer (opened_new at is long none) = omega (arith, long, li)
        longer (joined_old lt ok is long) = omega (arith, long, li)

-- Communicators

-- a rank frees some
stay_set : (comms : List Communicator) (p q r : ℕ) → Stay comms (set comms p (with_freed r (comm_in comms p))) q
stay_set comms p q r c i e = position_same (λ m. (m.ctx == c) && is_live_at m q) (set comms p (with_freed r (comm_in comms p))) comms (length-set comms p (with_freed r (comm_in comms p))) (λ n. at n (set_place comms p (with_freed r (comm_in comms p)) blank_comm n)) ∙ e
  where
    at : (n : ℕ) → ((n ≡ p) × (p < length comms) × (comm_in (set comms p (with_freed r (comm_in comms p))) n ≡ with_freed r (comm_in comms p))) ⊎ (((n ≢ p) ⊎ (length comms ≤ p)) × (comm_in (set comms p (with_freed r (comm_in comms p))) n ≡ comm_in comms n))
        → (((comm_in (set comms p (with_freed r (comm_in comms p))) n).ctx == c) && is_live_at (comm_in (set comms p (with_freed r (comm_in comms p))) n) q) ≡ (((comm_in comms n).ctx == c) && is_live_at (comm_in comms n) q)
    at n (inl a) = ap (λ (m : Communicator). (m.ctx == c) && is_live_at m q) a.2 ∙ ap (λ (k : ℕ). ((comm_in comms k).ctx == c) && is_live_at (comm_in comms k) q) (sym a.0)
    at n (inr a) = ap (λ (m : Communicator). (m.ctx == c) && is_live_at m q) a.1

stay_all : (comms : List Communicator) (session q r : ℕ) → Stay comms (freed_all comms r session) q
stay_all comms session q r c i e = position_same (λ m. (m.ctx == c) && is_live_at m q) (freed_all comms r session) comms (length-map (λ m. if is_kept r session m then with_freed r m else m) comms) at ∙ e
  where
    freed : (n : ℕ) (b : Bool) → (((if b then with_freed r (comm_in comms n) else comm_in comms n).ctx == c) && is_live_at (if b then with_freed r (comm_in comms n) else comm_in comms n) q) ≡ (((comm_in comms n).ctx == c) && is_live_at (comm_in comms n) q)
    freed n true = refl
    freed n false = refl

    at : (n : ℕ) → (((comm_in (freed_all comms r session) n).ctx == c) && is_live_at (comm_in (freed_all comms r session) n) q) ≡ (((comm_in comms n).ctx == c) && is_live_at (comm_in comms n) q)
    at n = ap (λ (m : Communicator). (m.ctx == c) && is_live_at m q) (get_or-map (λ m. if is_kept r session m then with_freed r m else m) comms blank_comm n) ∙ freed n (is_kept r session (comm_in comms n))

-- Events

row_stays : (creations : List Creation) (i : ℕ) (list : List Shared1) → i < length creations → SharesOf (creation_in creations i) list → RowGoes creations (creation_in creations i) i list
row_stays creations i list li h = record { there = li; name = refl; shares = h }

-- an event that gives nothing back
abbrev pub is_back : Event → Bool
is_back (event.Calls r t op now) = false
is_back (event.Sends r t) = false
is_back (event.Posts r t) = false
is_back (event.Picks r key pick) = false
is_back (event.Matches r number from sent) = false
is_back (event.Backs r c dropped) = true
is_back (event.Replies r t said) = false

module _ (told : Tells) (g : Registry) (h : Tolds g told) where
  -- where communicators go on to stand, and creations go on
  creations_go : (cs : List Communicator) → ((q : ℕ) → Stay g.comms cs q) → (rows : List Creation) → ((n : ℕ) (list : List Shared1) → n < length g.creations → is_split (creation_in g.creations n).name ≡ true → SharesOf (creation_in g.creations n) list → RowGoes rows (creation_in g.creations n) n list)
      → (q : ℕ) (key : Key) (list : List Shared1) → told q key ≡ Some list → ToldFits cs rows q key list
  creations_go cs stay rows goes q key list e = let f = h q key list e in told_on g.comms cs g.creations rows q key list (stay q) f (goes f.place list f.there f.split f.shares)

  called_goes : (r t : ℕ) (l : Local) (e : Effect ℕ) → Tolds (carried_out g r t l e) told
  called_goes r t l (Says said) = h
  called_goes r t l (Opens target) = h
  called_goes r t l (Groups target members session) = h
  called_goes r t l (Ungroups name) = h
  called_goes r t l (Joins a) = creations_go g.comms (λ q c p e. e) (join g.creations (name_of g.creations r a.origin) (group_of g a.origin) (record { rank = r; thread = t; target = a.target; session = a.session; share = share_in a.origin })) (row_joined g.creations (name_of g.creations r a.origin) (group_of g a.origin) _)
  called_goes r t l (Frees name p) = creations_go (set g.comms p (with_freed r (comm_in g.comms p))) (λ q. stay_set g.comms p q r) g.creations (λ n list li split k. row_stays g.creations n list li k)
  called_goes r t l (Ends name session) = creations_go (freed_all g.comms r session) (λ q. stay_all g.comms session q r) g.creations (λ n list li split k. row_stays g.creations n list li k)
  called_goes r t l (Sends m) = h
  called_goes r t l (Receives x) = h
  called_goes r t l (Posts target x) = h
  called_goes r t l (NullPosts target) = h
  called_goes r t l (Completes name n) = h
  called_goes r t l (Awaits name) = h

  sent_goes : (r t : ℕ) (o : Option Message) → Tolds (after_send g r t o) told
  sent_goes r t None = h
  sent_goes r t (Some m) = h

  posted_goes : (r t : ℕ) (o : Option Receive) → Tolds (after_post g r t o) told
  posted_goes r t None = h
  posted_goes r t (Some x) = h

  picked_goes : (n : ℕ) (key : Key) (pick : Option ℕ) → Tolds (after_pick g n key pick) told
  picked_goes n key None = creations_go g.comms (λ q c p e. e) _ (λ i list li split k. row_set g.creations n _ i list refl refl refl li k)
  picked_goes n key (Some c) = creations_go _ (λ q. stay_more g.comms _ q) _ (λ i list li split k. row_set g.creations n _ i list refl refl refl li k)

  answered_goes : (r : ℕ) (w : Wait) → Tolds (answers g r w) told
  answered_goes r reg.Idle = h
  answered_goes r (reg.Reply_now said) = h
  answered_goes r (reg.Sending m) = h
  answered_goes r (reg.Posting x) = h
  answered_goes r (reg.Requesting x) = h
  answered_goes r (reg.Creating n) = creations_go g.comms (λ q c p e. e) (set g.creations n (with_answer (creation_in g.creations n) r)) (λ i list li split k. row_set g.creations n (with_answer (creation_in g.creations n) r) i list refl refl refl li k)
  answered_goes r (reg.Freeing p) = h
  answered_goes r (reg.Ending s) = h
  answered_goes r (reg.Receiving n) = h
  answered_goes r (reg.Awaiting name) = h

  next_goes : (s : Setting) (e : Event) → is_back e ≡ false → Tolds (registry_next s g e) told
  unfolding registry_next
  next_goes s (event.Calls r t op now) b = called_goes r t (local_after (part_of g r).receives (part_of g r).local (effect_at s g r op)) (effect_at s g r op)
  next_goes s (event.Sends r t) b = sent_goes r t (to_send (thread_of g r t).wait)
  next_goes s (event.Posts r t) b = posted_goes r t (to_post (thread_of g r t).wait)
  next_goes s (event.Picks r key pick) b = picked_goes (key_place g r key) key pick
  next_goes s (event.Matches r number from sent) b = h
  next_goes s (event.Backs r c dropped) b = absurd (cc (b))
  next_goes s (event.Replies r t said) b = answered_goes r (thread_of g r t).wait

-- events keep it, but for a give-back
abbrev pub AllKept : List Event → Type 0
AllKept es = AllByRecursion (λ (e : Event). is_back e ≡ false) es

pub tolds_after : (told : Tells) (s : Setting) (g : Registry) (es : List Event) → AllKept es → Tolds g told → Tolds (registry_after s g es) told
tolds_after told s g [] k h = h
tolds_after told s g (e ∷ es) k h = tolds_after told s (registry_next s g e) es k.1 (next_goes told g h s e k.0)

-- What is said and taken

pub tolds_none : (g : Registry) → Tolds g none_told
tolds_none g r key list e = absurd (cc (e))

pub tolds_taken : (told : Tells) (g : Registry) (r : ℕ) (key : Key) → Tolds g told → Tolds g (told_taken told r key)
tolds_taken told g r key h q k list e = h q k list (go (same_key key k && (q == r)) e)
  where
    go : (b : Bool) → (if b then None else told q k) ≡ Some list → told q k ≡ Some list
    go true z = absurd (cc (z))
    go false z = z

pub tolds_said : (told : Tells) (g : Registry) (key : Key) (list : List Shared1) → ((q : ℕ) → has_rank key.members q ≡ true → ToldFits g.comms g.creations q key list) → Tolds g told → Tolds g (told_said told key list)
tolds_said told g key list f h q k ss e = go (same_key key k) refl (has_rank key.members q) refl e
  where
    go : (b : Bool) → same_key key k ≡ b → (m : Bool) → has_rank key.members q ≡ m → (if b && m then Some list else told q k) ≡ Some ss → ToldFits g.comms g.creations q k ss
    go false eb m em z = h q k ss z
    go true eb false em z = h q k ss z
    go true eb true em z =
        let is = same_key_is key k eb in
        let ls : list ≡ ss = cc (z) in
        subst (λ (i : Key). ToldFits g.comms g.creations q i ss) is (subst (λ (l : List Shared1). ToldFits g.comms g.creations q key l) ls (f q em))
