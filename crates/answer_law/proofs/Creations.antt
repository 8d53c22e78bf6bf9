-- What every creation of a registry run fits: its group is the one that its name stands for, what is picked is picked for whole
-- classes, once all have called, and a communicator that was made has just these members.
use Rattle.std.proofs.Common.{◌≡◌, ℕ, ◌<◌, not, Bool, true, false, List, [], ◌∷◌, length, find, Option, Some, None, option_map, refl, sym, ap, ◌∙◌, subst, arith}
use Rattle.std.specs.List.{AllByRecursion}
use Rattle.mpi_base.specs.MemberLists.{has_rank}
use Rattle.mpi_law.specs.declared.effects.Origin.{Origin}
use Rattle.mpi_law.specs.declared.effects.Origin.TheVariants.{Grouped, Duplicated, Divided, GroupedOn}
use Rattle.mpi_law.specs.Registry.State.{Registry, Communicator, Caller, Outcome, Made, NoneFree, Pick, Creation, CreationName, Group_and_tag, Nth_dup, Nth_split, Group_on, blank_creation}
use Rattle.mpi_law.specs.Registry.Creations.{is_split, is_nil, is_picked, all_called, class_of, outcome_for, is_joinable, with_caller, with_pick, with_answer, name_of, group_of}
use Rattle.answer_law.proofs.Lists.{all_map, all_any, all_snoc, found, found_same}
use Rattle.answer_law.proofs.Comms.{at, Grows}
use Rattle.answer_law.proofs.Asks.{comm_of_origin}
use Rattle.answer_law.proofs.Classes.{same_class}

-- the group that a name stands for, and that its communicator is there
abbrev pub group_by : List Communicator → CreationName → List ℕ
group_by comms (Group_and_tag group tag) = group
group_by comms (Nth_dup p number) = (at comms p).members
group_by comms (Nth_split p number) = (at comms p).members
group_by comms (Group_on p tag group) = group

abbrev pub IsParentIn : List Communicator → CreationName → Type 0
IsParentIn comms (Group_and_tag group tag) = Unit {0}
IsParentIn comms (Nth_dup p number) = p < length comms
IsParentIn comms (Nth_split p number) = p < length comms
IsParentIn comms (Group_on p tag group) = p < length comms

-- a communicator that was made is there, with these members
abbrev pub IsMade : List Communicator → List ℕ → Outcome → Type 0
IsMade comms members (Made p) = (p < length comms) × ((at comms p).members ≡ members)
IsMade comms members NoneFree = Unit {0}

-- the context that was picked
abbrev pub context_of : List Communicator → Outcome → Option ℕ
context_of comms (Made p) = Some (at comms p).ctx
context_of comms NoneFree = None

pub record PickFits (comms : List Communicator) (c : Creation) (k : Pick) : Type 0 where
  pub whole : (q : ℕ) → has_rank k.members q ≡ true → class_of c q ≡ k.members
  pub made : IsMade comms k.members k.outcome

pub record Fits (comms : List Communicator) (c : Creation) : Type 0 where
  pub group : c.group ≡ group_by comms c.name
  pub parent : IsParentIn comms c.name
  pub late : all_called c ≡ false → c.picks ≡ []
  pub picks : AllByRecursion (PickFits comms c) c.picks

-- Communicators grow

group_grows : (old new : List Communicator) → Grows old new → (name : CreationName) → IsParentIn old name → group_by new name ≡ group_by old name
group_grows old new g (Group_and_tag group tag) h = refl
group_grows old new g (Nth_dup p number) h = g.members p h
group_grows old new g (Nth_split p number) h = g.members p h
group_grows old new g (Group_on p tag group) h = refl

parent_grows : (old new : List Communicator) → Grows old new → (name : CreationName) → IsParentIn old name → IsParentIn new name
parent_grows old new g (Group_and_tag group tag) h = tt
parent_grows old new g (Nth_dup p number) h = let l = g.longer in omega (arith, l, h)
parent_grows old new g (Nth_split p number) h = let l = g.longer in omega (arith, l, h)
parent_grows old new g (Group_on p tag group) h = let l = g.longer in omega (arith, l, h)

pub made_grows : (old new : List Communicator) → Grows old new → (members : List ℕ) (o : Outcome) → IsMade old members o → IsMade new members o
made_grows old new g members (Made p) h = let l = g.longer in let i = h.0 in (omega (arith, l, i), g.members p h.0 ∙ h.1)
made_grows old new g members NoneFree h = tt

pub context_grows : (old new : List Communicator) → Grows old new → (members : List ℕ) (o : Outcome) → IsMade old members o → context_of new o ≡ context_of old o
context_grows old new g members (Made p) h = ap (λ (c : ℕ). Some c) (g.ctx p h.0)
context_grows old new g members NoneFree h = refl

pub fits_grows : (old new : List Communicator) (c : Creation) → Grows old new → Fits old c → Fits new c
fits_grows old new c g f = record {
  group = f.group ∙ sym (group_grows old new g c.name f.parent);
  parent = parent_grows old new g c.name f.parent;
  late = f.late;
  picks = all_map (PickFits old c) (PickFits new c) c.picks (λ k h. record { whole = h.whole; made = made_grows old new g k.members k.outcome h.made }) f.picks;
}

-- Changes

pub fits_blank : (comms : List Communicator) → Fits comms blank_creation
fits_blank comms = record { group = refl; parent = tt; late = λ b. refl; picks = tt }

not_all : (b : Bool) → not b ≡ true → b ≡ false
not_all true h = absurd (cc (h))
not_all false h = refl

nil_is : (ks : List Pick) → is_nil ks ≡ true → ks ≡ []
nil_is [] h = refl
nil_is (k ∷ ks) h = absurd (cc (h))

-- nothing is picked of a creation that may be joined, and not all have called it where it is a split
pub joinable_is : (comms : List Communicator) (name : CreationName) (c : Creation) → is_joinable name c ≡ true → Fits comms c → (c.picks ≡ []) × (is_split c.name ≡ true → all_called c ≡ false)
joinable_is comms name c j f = go (is_split c.name) refl
  where
    unpicked : is_picked c ≡ false
    unpicked = not_all (is_picked c) (grind (arith, j))

    nil : (b : Bool) → not b ≡ false → b ≡ true
    nil true e = refl
    nil false e = absurd (cc (e))

    go : (b : Bool) → is_split c.name ≡ b → (c.picks ≡ []) × (is_split c.name ≡ true → all_called c ≡ false)
    go true e = let few : all_called c ≡ false = (let z = unpicked in rw e at z) in (f.late few, λ a. few)
    go false e = (nil_is c.picks (nil (is_nil c.picks) (let z = unpicked in rw e at z)), λ a. absurd (cc (a, e)))

pub fits_joined : (comms : List Communicator) (c : Creation) (k : Caller) → c.picks ≡ [] → Fits comms c → Fits comms (with_caller c k)
fits_joined comms c k nil f = record { group = f.group; parent = f.parent; late = λ b. nil; picks = rw nil tt }

pub fits_answered : (comms : List Communicator) (c : Creation) (r : ℕ) → Fits comms c → Fits comms (with_answer c r)
fits_answered comms c r f = record {
  group = f.group;
  parent = f.parent;
  late = f.late;
  picks = all_map (PickFits comms c) (PickFits comms (with_answer c r)) c.picks (λ k h. record { whole = h.whole; made = h.made }) f.picks;
}

pub fits_picked : (comms : List Communicator) (c : Creation) (r : ℕ) (k : Pick) → all_called c ≡ true → class_of c r ≡ k.members → IsMade comms k.members k.outcome → Fits comms c → Fits comms (with_pick c k)
fits_picked comms c r k all class made f = record {
  group = f.group;
  parent = f.parent;
  late = λ b. absurd (cc (all, b));
  picks = all_snoc (PickFits comms (with_pick c k)) c.picks k (all_map (PickFits comms c) (PickFits comms (with_pick c k)) c.picks (λ z h. record { whole = h.whole; made = h.made }) f.picks) (record {
    whole = λ q h. same_class c r q (rw class h) ∙ class;
    made = made;
  });
}

pub fits_opened : (g : Registry) (r : ℕ) (o : Origin ℕ) (k : Caller) → ((p : ℕ) → comm_of_origin o ≡ Some p → p < length g.comms)
    → Fits g.comms (record { name = name_of g.creations r o; group = group_of g o; callers = k ∷ []; picks = []; answered = [] })
fits_opened g r (Grouped group tag) k inside = record { group = refl; parent = tt; late = λ b. refl; picks = tt }
fits_opened g r (Duplicated p) k inside = record { group = refl; parent = inside p refl; late = λ b. refl; picks = tt }
fits_opened g r (Divided p share) k inside = record { group = refl; parent = inside p refl; late = λ b. refl; picks = tt }
fits_opened g r (GroupedOn p tag group) k inside = record { group = refl; parent = inside p refl; late = λ b. refl; picks = tt }

-- Outcomes

-- the pick that a rank's outcome is of
pub record PickOf (comms : List Communicator) (c : Creation) (r : ℕ) (o : Outcome) (More : Pick → Type 0) : Type 0 where
  pub pick : Pick
  pub member : has_rank pick.members r ≡ true
  pub outcome : pick.outcome ≡ o
  pub class : class_of c r ≡ pick.members
  pub made : IsMade comms pick.members o
  pub more : More pick

pub pick_of : (comms : List Communicator) (c : Creation) (r : ℕ) (o : Outcome) (More : Pick → Type 0) → Fits comms c → AllByRecursion More c.picks → outcome_for c r ≡ Some o → PickOf comms c r o More
pick_of comms c r o More f more e = go (find (λ k. has_rank k.members r) c.picks) refl e
  where
    go : (x : Option Pick) → find (λ k. has_rank k.members r) c.picks ≡ x → option_map (λ k. k.outcome) x ≡ Some o → PickOf comms c r o More
    go None t e = absurd (cc (e))
    go (Some k) t e =
        let is : k.outcome ≡ o = cc (e) in
        let fit = found (PickFits comms c) (λ z. has_rank z.members r) c.picks k t f.picks in
        record {
          pick = k;
          member = fit.0;
          outcome = is;
          class = fit.1.whole r fit.0;
          made = subst (IsMade comms k.members) is fit.1.made;
          more = (found More (λ z. has_rank z.members r) c.picks k t more).1;
        }

-- all of one class have one outcome
pub same_outcome : (comms : List Communicator) (c : Creation) (r q : ℕ) (o : Outcome) → Fits comms c → outcome_for c r ≡ Some o → has_rank (class_of c r) q ≡ true → outcome_for c q ≡ Some o
same_outcome comms c r q o f e h =
    ap (option_map (λ (k : Pick). k.outcome)) (sym (found_same (λ (k : Pick). has_rank k.members r) (λ k. has_rank k.members q) c.picks (all_map (PickFits comms c) (λ k. has_rank k.members r ≡ has_rank k.members q) c.picks alike f.picks))) ∙ e
  where
    one : class_of c q ≡ class_of c r
    one = same_class c r q h

    mine : has_rank (class_of c r) r ≡ true
    mine = let p = pick_of comms c r o (λ k. Unit {0}) f (all_any c.picks) e in rw p.class p.member

    alike : (k : Pick) → PickFits comms c k → has_rank k.members r ≡ has_rank k.members q
    alike k fit = go (has_rank k.members r) refl (has_rank k.members q) refl
      where
        go : (a : Bool) → has_rank k.members r ≡ a → (b : Bool) → has_rank k.members q ≡ b → has_rank k.members r ≡ has_rank k.members q
        go true s true t = s ∙ sym t
        go false s false t = s ∙ sym t
        go true s false t = let z : has_rank k.members q ≡ true = rw (sym (fit.whole r s)) h in absurd (cc (z, t))
        go false s true t = let z : has_rank k.members r ≡ true = rw (sym (fit.whole q t), one) mine in absurd (cc (z, s))

-- where something is picked, all have called
pub all_if_picked : (comms : List Communicator) (c : Creation) (r : ℕ) (o : Outcome) → Fits comms c → outcome_for c r ≡ Some o → all_called c ≡ true
all_if_picked comms c r o f e = go (all_called c) refl
  where
    go : (b : Bool) → all_called c ≡ b → all_called c ≡ true
    go true t = t
    go false t = let z = ap (λ (ks : List Pick). option_map (λ (k : Pick). k.outcome) (find (λ k. has_rank k.members r) ks)) (f.late t) in absurd (cc (z, e))
