-- Sets that a job lists.
use Rattle.std.proofs.Common.{◌≡◌, ℕ, ◌<◌, ◌+◌, Bool, true, false, if◌then◌else◌, List, [], ◌∷◌, ◌++◌, append_assoc, is_none, is_some, not, codes, bytes_eq, ◌||◌, ◌==◌, drop, length, get_or, Option, Some, None, String, Global, Less, string_bytes, string_cmp, nat_cmp, is_eq, refl, sym, ap, ◌∙◌, subst}
use Rattle.std.specs.List.{starts_with, AllByRecursion}
use Rattle.std.specs.List.Sorted.{IsStrictlySortedBy}
use Rattle.std.specs.Map.{keys_of}
use Rattle.std.specs.Cmp.Lexicographic.{slice_cmp}
use Rattle.std.proofs.lemmas.Bool.{and_parts}
use Rattle.std.proofs.lemmas.List.{append-nil}
use Rattle.std.proofs.lemmas.Map.Text.{is_eq-slice_cmp}
use Rattle.std.proofs.lemmas.Slice.Eq.{bytes_eq-Decides}
use Rattle.toml.specs.Data.{Data, Items, no_items, item, Members, no_members, member}
use Rattle.toml.specs.View.{view, items_view, members_view}
use Rattle.toml.specs.declared.value.Value.{Value}
use Rattle.toml.proofs.Views.{Entry, items_view-drop}
use Rattle.pset_reg.specs.Sets.{NamedSet, ProcessSets, first_sets, world_name, self_name, names}
use Rattle.pset_reg.specs.HeldSets.{has_set}
use Rattle.token_text.specs.declared.faults.TokenFault.{TokenFault}
use Rattle.token_text.specs.Forms.{fault_of}
use Rattle.token_text.specs.Texts.{pset_name_form}
use Rattle.job_file.specs.Keys.{first_failing}
use Rattle.job_file.specs.ConfiguredSets.{one_more, number_in, ranks_behind, ranks_in, set_in_front, sets_in, is_set_name, is_set, AscendByBytes}
use Rattle.job_file.specs.AddingSets.{AddsSet}

-- nothing follows a fault
pub ranks_none : (ranks : ℕ) (ds : Items) → ranks_behind ranks None ds ≡ None
ranks_none ranks no_items = refl
ranks_none ranks (item d ds) = ranks_none ranks ds

-- the item at this place is no rank, or is there
pub ranks_stop : (ranks : ℕ) (found : List ℕ) (vs : List Value) (i : ℕ) (d : Value) → i < length vs → one_more ranks found (number_in (view (get_or vs i d))) ≡ None
    → ranks_behind ranks (Some found) (items_view (drop i vs)) ≡ None
ranks_stop ranks found vs i d l h =
    let at : ranks_behind ranks (one_more ranks found (number_in (view (get_or vs i d)))) (items_view (drop (i + 1) vs)) ≡ None =
    subst (λ (o : Option (List ℕ)). ranks_behind ranks o (items_view (drop (i + 1) vs)) ≡ None) (sym h) (ranks_none ranks (items_view (drop (i + 1) vs))) in
    subst (λ (ds : Items). ranks_behind ranks (Some found) ds ≡ None) (sym (items_view-drop vs i d l)) at

-- a set at the end of some, before those that follow
in_front : (k : List ℕ) (r : Option (List ℕ)) (old rest : List NamedSet) → (old ++ set_in_front k r []) ++ rest ≡ old ++ set_in_front k r rest
in_front k None old rest = append_assoc old [] rest
in_front k (Some r) old rest = append_assoc old (record { name = k; members = r } ∷ []) rest

-- one set more was added
pub set_more : (k : List ℕ) (d : Data) (ms : Members) (old new : ProcessSets) → AddsSet k d old new → new.sets ++ sets_in old.ranks ms ≡ old.sets ++ sets_in old.ranks (member k d ms)
set_more k d ms old new a = rw a (in_front k (ranks_in old.ranks d) old.sets (sets_in old.ranks ms))

form_of : (o : Option TokenFault) → is_none o ≡ true → o ≡ None
form_of None e = refl
form_of (Some f) e = absurd (cc (e))

-- the first entry passes, and so do the others
pub failing_none : (passes : List ℕ → Data → Bool) (k : List ℕ) (d : Data) (ms : Members) → first_failing passes (member k d ms) ≡ None → (passes k d ≡ true) × (first_failing passes ms ≡ None)
failing_none passes k d ms e = go (passes k d) refl e
  where
    go : (t : Bool) → passes k d ≡ t → (if t then first_failing passes ms else Some k) ≡ None → (passes k d ≡ true) × (first_failing passes ms ≡ None)
    go true h e = (h, e)
    go false h e = absurd (cc (e))

-- a set has a good name, which is none of the two that are always there
pub good_name : (ranks : ℕ) (k : List ℕ) (d : Data) → is_set ranks k d ≡ true → (fault_of pset_name_form k ≡ None) × (starts_with (λ a b. a == b) k (codes "mpi://") ≡ false)
good_name ranks k d e =
    let (name, some) = and_parts (is_set_name k) (is_some (ranks_in ranks d)) e in
    let (form, free) = and_parts (is_none (fault_of pset_name_form k)) (not (starts_with (λ a b. a == b) k (codes "mpi://"))) name in
    (form_of _ form, not_true _ free)
  where
    not_true : (t : Bool) → not t ≡ true → t ≡ false
    not_true true h = absurd (cc (h))
    not_true false h = refl

-- Names that are new

-- no set has one of these keys as its name
abbrev pub AllNew : List NamedSet → List Entry → Type 0
AllNew sets es = AllByRecursion (λ (e : Entry). has_set sets (string_bytes e.0) ≡ false) es

other_name : (k l : List ℕ) → slice_cmp nat_cmp k l ≡ Less → bytes_eq l k ≡ false
other_name k l h = go (bytes_eq l k) refl
  where
    go : (t : Bool) → bytes_eq l k ≡ t → bytes_eq l k ≡ false
    go false e = e
    go true e =
        let same : l ≡ k = (bytes_eq-Decides l k).0 e in
        let equal : bytes_eq k l ≡ true = (bytes_eq-Decides k l).1 (sym same) in
        let less : bytes_eq k l ≡ false = sym (is_eq-slice_cmp k l) ∙ ap is_eq h in
        absurd (cc (equal, less))

still_new : (sets : List NamedSet) (x : NamedSet) (l : List ℕ) → has_set sets l ≡ false → bytes_eq l x.name ≡ false → has_set (sets ++ x ∷ []) l ≡ false
still_new [] x l a b = rw b refl
still_new (s ∷ sets) x l a b =
    let (here, more) = or_parts (bytes_eq l s.name) (has_set sets l) a in
    rw (here, still_new sets x l more b) refl
  where
    or_parts : (t u : Bool) → (t || u) ≡ false → (t ≡ false) × (u ≡ false)
    or_parts true u e = absurd (cc (e))
    or_parts false u e = (refl, e)

-- one set more leaves the names new that come after its own
pub new_more : (sets : List NamedSet) (k : List ℕ) (r : Option (List ℕ)) (es : List Entry) → AllNew sets es → AllByRecursion (λ (y : String Global). slice_cmp nat_cmp k (string_bytes y) ≡ Less) (keys_of es)
    → AllNew (sets ++ set_in_front k r []) es
new_more sets k r [] new above = tt
new_more sets k None (e ∷ es) new above = (subst (λ (ss : List NamedSet). has_set ss (string_bytes e.0) ≡ false) (sym (append-nil sets)) new.0, new_more sets k None es new.1 above.1)
new_more sets k (Some r) (e ∷ es) new above =
    (still_new sets (record { name = k; members = r }) (string_bytes e.0) new.0 (other_name k (string_bytes e.0) above.0), new_more sets k (Some r) es new.1 above.1)

free_name : (ranks : ℕ) (k : List ℕ) → starts_with (λ a b. a == b) k (codes "mpi://") ≡ false → has_set (first_sets ranks) k ≡ false
free_name ranks k free = go (bytes_eq k world_name) (bytes_eq k self_name) refl refl
  where
    taken : (n : List ℕ) → starts_with (λ a b. a == b) n (codes "mpi://") ≡ true → k ≡ n → ⊥
    taken n h e = let f = subst (λ (l : List ℕ). starts_with (λ a b. a == b) l (codes "mpi://") ≡ false) e free in cc (h, f)

    go : (t u : Bool) → bytes_eq k world_name ≡ t → bytes_eq k self_name ≡ u → has_set (first_sets ranks) k ≡ false
    go true u a b = absurd (taken world_name refl ((bytes_eq-Decides k world_name).0 a))
    go false true a b = absurd (taken self_name refl ((bytes_eq-Decides k self_name).0 b))
    go false false a b = rw (a, b) refl

-- the names of a table of sets are new at the start
pub new_at_start : (ranks n : ℕ) (es : List Entry) → first_failing (is_set ranks) (members_view es) ≡ None → AllNew (first_sets n) es
new_at_start ranks n [] good = tt
new_at_start ranks n (e ∷ es) good =
    let (here, more) = failing_none (is_set ranks) (string_bytes e.0) (view e.1) (members_view es) good in
    (free_name n (string_bytes e.0) (good_name ranks (string_bytes e.0) (view e.1) here).1, new_at_start ranks n es more)

-- The order of the sets

below_all : (ranks : ℕ) (k : List ℕ) (es : List Entry) → AllByRecursion (λ (y : String Global). slice_cmp nat_cmp k (string_bytes y) ≡ Less) (keys_of es)
    → AllByRecursion (λ (l : List ℕ). slice_cmp nat_cmp k l ≡ Less) (names (sets_in ranks (members_view es)))
below_all ranks k [] above = tt
below_all ranks k (e ∷ es) above = go (ranks_in ranks (view e.1)) (below_all ranks k es above.1)
  where
    go : (r : Option (List ℕ)) → AllByRecursion (λ (l : List ℕ). slice_cmp nat_cmp k l ≡ Less) (names (sets_in ranks (members_view es)))
        → AllByRecursion (λ (l : List ℕ). slice_cmp nat_cmp k l ≡ Less) (names (set_in_front (string_bytes e.0) r (sets_in ranks (members_view es))))
    go None more = more
    go (Some r) more = (above.0, more)

-- the sets of a table whose keys ascend
pub sets_ascend : (ranks : ℕ) (es : List Entry) → IsStrictlySortedBy string_cmp (keys_of es) → AscendByBytes (sets_in ranks (members_view es))
unfolding IsStrictlySortedBy
sets_ascend ranks [] h = tt
sets_ascend ranks (e ∷ es) h = go (ranks_in ranks (view e.1)) (sets_ascend ranks es h.1)
  where
    go : (r : Option (List ℕ)) → AscendByBytes (sets_in ranks (members_view es)) → AscendByBytes (set_in_front (string_bytes e.0) r (sets_in ranks (members_view es)))
    go None more = more
    go (Some r) more = (below_all ranks (string_bytes e.0) es h.0, more)

-- no set is in order
pub none_ascend : (ranks : ℕ) → AscendByBytes (sets_in ranks no_members)
unfolding IsStrictlySortedBy
none_ascend ranks = tt

-- the first key of those that ascend is before the others, which ascend
pub ascend_parts : (e : Entry) (es : List Entry) → IsStrictlySortedBy string_cmp (keys_of (e ∷ es))
    → AllByRecursion (λ (y : String Global). slice_cmp nat_cmp (string_bytes e.0) (string_bytes y) ≡ Less) (keys_of es) × IsStrictlySortedBy string_cmp (keys_of es)
unfolding IsStrictlySortedBy
ascend_parts e es h = (h.0, h.1)
