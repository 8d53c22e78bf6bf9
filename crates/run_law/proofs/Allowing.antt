-- A pick under a key that all members have offered is allowed.
use Rattle.std.proofs.Common.{◌≡◌, ◌<◌, ◌≤◌, ℕ, zero, suc, if◌then◌else◌, Bool, true, false, List, [], ◌∷◌, length, get_or, Option, Some, None, refl, sym, ap, ◌∙◌, subst, arith}
use Rattle.std.specs.Option.{is_some, is_none}
use Rattle.std.specs.List.{list_any}
use Rattle.std.proofs.lemmas.Bool.Decides.{nat_tests}
use Rattle.mpi_base.specs.declared.keys.Key.{Key}
use Rattle.mpi_base.specs.MemberLists.{has_rank}
use Rattle.mpi_base.proofs.KeyFacts.{same_bytes, bytes_eq-refl, same_key_is}
use Rattle.mpi_law.specs.declared.setting.Setting.{Setting}
use Rattle.mpi_law.specs.Registry.State.{Registry, Creation, CreationName, Group_and_tag, Nth_dup, Nth_split, Group_on, blank_creation}
use Rattle.mpi_law.specs.Registry.Creations.{same_name, place_where, is_pickable}
use Rattle.mpi_law.specs.Registry.Contexts.{comm_of, in_use, key_place, place_of_name}
use Rattle.mpi_law.specs.Registry.Runs.{MayPick, IsFree}
use Rattle.agree_law.specs.declared.rows.Verdict.TheVariants.{Context}
use Rattle.agree_law.specs.Rule.{is_key}
use Rattle.comm_law.specs.declared.rows.CommRow.{CommRow}
use Rattle.mpi_protocol.specs.Rank.{Rank}
use Rattle.run_law.proofs.Rows.{row_in}
use Rattle.run_law.proofs.Contexts.{in_use_is}
use Rattle.due_law.specs.Dues.{Dues}
use Rattle.run_law.proofs.Creations.{creation_in}
use Rattle.run_law.proofs.Comms.{CommFits}
use Rattle.run_law.proofs.Wholes.{is_open_row}
use Rattle.run_law.proofs.Classes.{no_member, some_member}
use Rattle.run_law.proofs.Joined.{rank_in, Joined}
use Rattle.run_law.proofs.Between.{between_calls}
use Rattle.run_law.proofs.Deciding.{Deciding}
use Rattle.due_law.specs.Agreed.{AllOffered}

-- Names

pub same_name_is : (a b : CreationName) → same_name a b ≡ true → a ≡ b
same_name_is (Group_and_tag g t) (Group_and_tag h u) e = let x = same_bytes g h (grind (arith, e)) in let y = same_bytes t u (grind (arith, e)) in cc (x, y)
same_name_is (Nth_dup p n) (Nth_dup q m) e = let x : p ≡ q = grind (arith, nat_tests, e) in let y : n ≡ m = grind (arith, nat_tests, e) in cc (x, y)
same_name_is (Nth_split p n) (Nth_split q m) e = let x : p ≡ q = grind (arith, nat_tests, e) in let y : n ≡ m = grind (arith, nat_tests, e) in cc (x, y)
same_name_is (Group_on p t g) (Group_on q u h) e =
    let x : p ≡ q = grind (arith, nat_tests, e) in
    let y : t ≡ u = grind (arith, nat_tests, e) in
    let z = same_bytes g h (grind (arith, e)) in
    cc (x, y, z)
same_name_is (Group_and_tag g t) (Nth_dup q m) e = absurd (cc (e))
same_name_is (Group_and_tag g t) (Nth_split q m) e = absurd (cc (e))
same_name_is (Group_and_tag g t) (Group_on q u h) e = absurd (cc (e))
same_name_is (Nth_dup p n) (Group_and_tag g t) e = absurd (cc (e))
same_name_is (Nth_dup p n) (Nth_split q m) e = absurd (cc (e))
same_name_is (Nth_dup p n) (Group_on q u h) e = absurd (cc (e))
same_name_is (Nth_split p n) (Group_and_tag g t) e = absurd (cc (e))
same_name_is (Nth_split p n) (Nth_dup q m) e = absurd (cc (e))
same_name_is (Nth_split p n) (Group_on q u h) e = absurd (cc (e))
same_name_is (Group_on p t g) (Group_and_tag h u) e = absurd (cc (e))
same_name_is (Group_on p t g) (Nth_dup q m) e = absurd (cc (e))
same_name_is (Group_on p t g) (Nth_split q m) e = absurd (cc (e))

pub same_name-refl : (a : CreationName) → same_name a a ≡ true
same_name-refl (Group_and_tag g t) = let x = bytes_eq-refl g in let y = bytes_eq-refl t in rw (x, y) refl
same_name-refl (Nth_dup p n) = grind (arith, nat_tests)
same_name-refl (Nth_split p n) = grind (arith, nat_tests)
same_name-refl (Group_on p t g) = let y = bytes_eq-refl g in grind (arith, nat_tests, y)

-- The first creation that passes a test

pub where_le : (test : Creation → Bool) (cs : List Creation) (n : ℕ) → n < length cs → test (creation_in cs n) ≡ true → place_where test cs ≤ n
where_le test [] n lt h = absurd (omega arith)
where_le test (c ∷ cs) zero lt h = rw h (omega arith)
where_le test (c ∷ cs) (suc n) lt h = go (test c) (where_le test cs n (omega arith) h)
  where
    go : (b : Bool) → place_where test cs ≤ n → (if b then 0 else suc (place_where test cs)) ≤ suc n
    go true ih = omega arith
    go false ih = omega (arith, ih)

pub where_is : (test : Creation → Bool) (cs : List Creation) → place_where test cs < length cs → test (creation_in cs (place_where test cs)) ≡ true
where_is test [] lt = absurd (omega arith)
where_is test (c ∷ cs) lt = go (test c) refl lt (where_is test cs)
  where
    go : (b : Bool) → test c ≡ b → (if b then 0 else suc (place_where test cs)) < suc (length cs) → (place_where test cs < length cs → test (creation_in cs (place_where test cs)) ≡ true) → test (get_or (c ∷ cs) (if b then 0 else suc (place_where test cs)) blank_creation) ≡ true
    go true e lt ih = e
    go false e lt ih = ih (omega (arith, lt))

module _ (s : Setting) (ranks : List Rank) (due : Dues) (g : Registry) (key : Key) (j : Joined s ranks due g) (a : AllOffered s ranks due key) (d : Deciding s ranks due g key j a) where
  -- the creation that the key stands for
  pub place_is : (r : ℕ) → has_rank key.members r ≡ true → key_place g r key ≡ d.place
  place_is r m = ap (place_of_name g.creations) (d.name r m) ∙ first
    where
      here : is_pickable (creation_in g.creations d.place).name (creation_in g.creations d.place) ≡ true
      here = let x = same_name-refl (creation_in g.creations d.place).name in let y = d.open_row in grind (arith, x, y)

      le : place_where (is_pickable (creation_in g.creations d.place).name) g.creations ≤ d.place
      le = where_le (is_pickable (creation_in g.creations d.place).name) g.creations d.place d.there here

      inside : place_where (is_pickable (creation_in g.creations d.place).name) g.creations < length g.creations
      inside = let x = le in let y = d.there in omega (arith, x, y)

      first : place_where (is_pickable (creation_in g.creations d.place).name) g.creations ≡ d.place
      first =
          let p = where_is (is_pickable (creation_in g.creations d.place).name) g.creations inside in
          let n = same_name_is (creation_in g.creations (place_where (is_pickable (creation_in g.creations d.place).name) g.creations)).name (creation_in g.creations d.place).name (grind (arith, p)) in
          let o : is_open_row (creation_in g.creations (place_where (is_pickable (creation_in g.creations d.place).name) g.creations)) ≡ true = rw n (grind (arith, p)) in
          j.whole.one_open (place_where (is_pickable (creation_in g.creations d.place).name) g.creations) d.place inside d.there n o d.open_row

  pub may_pick : (r : ℕ) → has_rank key.members r ≡ true → MayPick g r key
  may_pick r m =
      let p = place_is r m in
      record {
        between = between_calls s ranks due g j;
        proper = a.proper;
        there = rw p d.there;
        all = rw p d.all;
        member = m;
        members = rw p (d.class r m);
        unpicked = rw p (d.none r m);
      }

  -- a context that is free in a member's mask is not in use there
  unused_at : (q c : ℕ) → has_rank key.members q ≡ true → get_or (rank_in ranks q).agree.mask c false ≡ true → comm_of g.comms q c ≡ None
  unused_at q c m bit = go (row_in (rank_in ranks q).comms.rows c) refl (comm_of g.comms q c) refl ((j.comms q).each c)
    where
      go : (o : Option CommRow) → row_in (rank_in ranks q).comms.rows c ≡ o → (p : Option ℕ) → comm_of g.comms q c ≡ p → CommFits g.comms g.creations q (rank_in ranks q).agree.owner (due q) c o p → comm_of g.comms q c ≡ None
      go None er None ep h = ep
      go (Some m') er p ep h = absurd (let b = (j.masks q (a.inside q m)).bits c in let n : is_none (row_in (rank_in ranks q).comms.rows c) ≡ false = rw er refl in grind (arith, b, bit, n))
      go None er (Some p) ep h =
          let o = a.each q m in
          let same : h.key ≡ key = owner_is (rank_in ranks q).agree.owner h.key h.owns o.owns in
          let said : due q key ≡ Some (Context c) = subst (λ (k : Key). due q k ≡ Some (Context c)) same h.said in
          let none = o.none in
          absurd (cc (said, none))
        where
          owner_is : (w : Option Key) (k : Key) → is_key w k ≡ true → is_key w key ≡ true → k ≡ key
          owner_is None k x y = absurd (cc (x))
          owner_is (Some z) k x y = sym (same_key_is z k x) ∙ same_key_is z key y

  pub free_context : (r c : ℕ) → has_rank key.members r ≡ true → ((q : ℕ) → has_rank key.members q ≡ true → get_or (rank_in ranks q).agree.mask c false ≡ true) → IsFree s g key c
  free_context r c m free =
      let b = (j.masks r (a.inside r m)).bits c in
      let f = free r m in
      record {
        above = grind (arith, nat_tests, b, f);
        below = grind (arith, nat_tests, b, f);
        unused = no_member (λ q. in_use g.comms q c) key.members (λ q n. in_use_is g.comms q c ∙ ap is_some (unused_at q c n (free q n)));
      }

  pub none_picked : (q c : ℕ) → has_rank key.members q ≡ true → get_or (rank_in ranks q).agree.mask c false ≡ true → comm_of g.comms q c ≡ None
  none_picked = unused_at

-- a context that some member's mask lacks is in use there
pub taken_context : (s : Setting) (ranks : List Rank) (due : Dues) (g : Registry) (key : Key) (q c : ℕ) → Joined s ranks due g → q < s.ranks → has_rank key.members q ≡ true → 1 ≤ c → c ≤ s.contexts → get_or (rank_in ranks q).agree.mask c false ≡ false
    → list_any (λ m. in_use g.comms m c) key.members ≡ true
taken_context s ranks due g key q c j lt m lo hi bit = some_member (λ z. in_use g.comms z c) key.members q m (in_use_is g.comms q c ∙ go (row_in (rank_in ranks q).comms.rows c) refl (comm_of g.comms q c) ((j.comms q).each c))
  where
    go : (o : Option CommRow) → row_in (rank_in ranks q).comms.rows c ≡ o → (p : Option ℕ) → CommFits g.comms g.creations q (rank_in ranks q).agree.owner (due q) c o p → is_some p ≡ true
    go (Some x) er (Some p) h = refl
    go (Some x) er None h = absurd h
    go None er p h = absurd (let b = (j.masks q lt).bits c in let n : is_none (row_in (rank_in ranks q).comms.rows c) ≡ true = rw er refl in grind (arith, nat_tests, b, bit, n, lo, hi))
