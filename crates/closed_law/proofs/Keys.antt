-- Two keys of one rank that stand for one creation, and are both of exchanges or both not, are one.
use Rattle.std.proofs.Common.{◌≡◌, ℕ, true, List, [], Some, refl, sym, ap, ◌∙◌}
use Rattle.mpi_base.specs.declared.keys.Kind.{Kind}
use Rattle.mpi_base.specs.declared.keys.Kind.TheVariants as kind
use Rattle.mpi_base.specs.declared.keys.Key.{Key}
use Rattle.mpi_law.specs.Registry.State.{Communicator, CreationName, Group_and_tag, Nth_dup, Nth_split, Group_on}
use Rattle.mpi_law.specs.Registry.Contexts.{stands_for, is_exchange}
use Rattle.run_law.proofs.Contexts.{comm_of_is}
use Rattle.run_law.proofs.Creations.{comm_in}
use Rattle.run_law.proofs.Names.{Standing, by_group, by_parent, standing, name_on, has_parent}

-- which of the four a name is, with a number
abbrev which : CreationName → ℕ
which (Group_and_tag group tag) = 0
which (Group_on p tag group) = 1
which (Nth_dup p n) = 2
which (Nth_split p n) = 3

abbrev number_of : CreationName → ℕ
number_of (Group_and_tag group tag) = 0
number_of (Group_on p tag group) = tag
number_of (Nth_dup p n) = n
number_of (Nth_split p n) = n

abbrev place_of : CreationName → ℕ
place_of (Group_and_tag group tag) = 0
place_of (Group_on p tag group) = p
place_of (Nth_dup p n) = p
place_of (Nth_split p n) = p

same_kind : (a b : Key) (k l : Kind) (p q : ℕ) → has_parent k ≡ true → has_parent l ≡ true → is_exchange k ≡ is_exchange l → which (name_on a k p) ≡ which (name_on b l q) → k ≡ l
same_kind a b kind.From l p q u v x e = absurd (cc (u))
same_kind a b kind.Group kind.From p q u v x e = absurd (cc (v))
same_kind a b kind.Dup kind.From p q u v x e = absurd (cc (v))
same_kind a b kind.Split kind.From p q u v x e = absurd (cc (v))
same_kind a b kind.Share kind.From p q u v x e = absurd (cc (v))
same_kind a b kind.Group kind.Group p q u v x e = refl
same_kind a b kind.Dup kind.Dup p q u v x e = refl
same_kind a b kind.Split kind.Split p q u v x e = refl
same_kind a b kind.Share kind.Share p q u v x e = refl
same_kind a b kind.Split kind.Share p q u v x e = absurd (cc (x))
same_kind a b kind.Share kind.Split p q u v x e = absurd (cc (x))
same_kind a b kind.Group kind.Dup p q u v x e = absurd (cc (e))
same_kind a b kind.Group kind.Split p q u v x e = absurd (cc (e))
same_kind a b kind.Group kind.Share p q u v x e = absurd (cc (e))
same_kind a b kind.Dup kind.Group p q u v x e = absurd (cc (e))
same_kind a b kind.Dup kind.Split p q u v x e = absurd (cc (e))
same_kind a b kind.Dup kind.Share p q u v x e = absurd (cc (e))
same_kind a b kind.Split kind.Group p q u v x e = absurd (cc (e))
same_kind a b kind.Split kind.Dup p q u v x e = absurd (cc (e))
same_kind a b kind.Share kind.Group p q u v x e = absurd (cc (e))
same_kind a b kind.Share kind.Dup p q u v x e = absurd (cc (e))

which_parent : (a : Key) (k : Kind) (p : ℕ) → has_parent k ≡ true → which (name_on a k p) ≡ 0 → ⊥
which_parent a kind.From p u e = cc (u)
which_parent a kind.Group p u e = cc (e)
which_parent a kind.Dup p u e = cc (e)
which_parent a kind.Split p u e = cc (e)
which_parent a kind.Share p u e = cc (e)

number_on : (a : Key) (k : Kind) (p : ℕ) → has_parent k ≡ true → number_of (name_on a k p) ≡ a.number
number_on a kind.From p u = absurd (cc (u))
number_on a kind.Group p u = refl
number_on a kind.Dup p u = refl
number_on a kind.Split p u = refl
number_on a kind.Share p u = refl

place_on : (a : Key) (k : Kind) (p : ℕ) → has_parent k ≡ true → place_of (name_on a k p) ≡ p
place_on a kind.From p u = absurd (cc (u))
place_on a kind.Group p u = refl
place_on a kind.Dup p u = refl
place_on a kind.Split p u = refl
place_on a kind.Share p u = refl

abbrev key_by : ℕ → Kind → ℕ → List ℕ → List ℕ → Key
key_by p k n t ms = record { parent = p; kind = k; number = n; tag = t; members = ms }

of_fields : (p q : ℕ) (k l : Kind) (m n : ℕ) (t u : List ℕ) (xs ys : List ℕ) → p ≡ q → k ≡ l → m ≡ n → t ≡ u → xs ≡ ys → key_by p k m t xs ≡ key_by q l n u ys
of_fields p q k l m n t u xs ys a b c d e = rw (a, b, c, d, e) refl

abbrev tag_of : CreationName → List ℕ
tag_of (Group_and_tag group tag) = tag
tag_of (Group_on p tag group) = []
tag_of (Nth_dup p n) = []
tag_of (Nth_split p n) = []

pub one_key : (comms : List Communicator) (r : ℕ) (a b : Key) (name : CreationName) → stands_for comms r a ≡ Some name → stands_for comms r b ≡ Some name → is_exchange a.kind ≡ is_exchange b.kind → a.members ≡ b.members → a ≡ b
one_key comms r a b name ea eb x ms = go (standing comms r a name ea) (standing comms r b name eb)
  where
    go : Standing comms r a name → Standing comms r b name → a ≡ b
    go (by_group ka pa na ia) (by_group kb pb nb ib) = of_fields a.parent b.parent a.kind b.kind a.number b.number a.tag b.tag a.members b.members (pa ∙ sym pb) (ka ∙ sym kb) (na ∙ sym nb) (ap tag_of (sym ia ∙ ib)) ms
    go (by_group ka pa na ia) (by_parent q ub tb cb ib) = absurd (which_parent b b.kind q ub (ap which (sym ib ∙ ia)))
    go (by_parent p ua ta ca ia) (by_group kb pb nb ib) = absurd (which_parent a a.kind p ua (ap which (sym ia ∙ ib)))
    go (by_parent p ua ta ca ia) (by_parent q ub tb cb ib) =
        let same : name_on a a.kind p ≡ name_on b b.kind q = sym ia ∙ ib in
        let place : p ≡ q = sym (place_on a a.kind p ua) ∙ (ap place_of same ∙ place_on b b.kind q ub) in
        let ctx : a.parent ≡ b.parent = sym (comm_of_is comms r a.parent p ca).context ∙ (ap (λ (i : ℕ). (comm_in comms i).ctx) place ∙ (comm_of_is comms r b.parent q cb).context) in
        let number : a.number ≡ b.number = sym (number_on a a.kind p ua) ∙ (ap number_of same ∙ number_on b b.kind q ub) in
        of_fields a.parent b.parent a.kind b.kind a.number b.number a.tag b.tag a.members b.members ctx (same_kind a b a.kind b.kind p q ua ub x (ap which same)) number (ta ∙ sym tb) ms
