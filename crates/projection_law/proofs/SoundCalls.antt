-- What a call needs follows from what its rank keeps.
use Rattle.std.proofs.Common.{◌≡◌, ◌<◌, ◌≤◌, ◌&&◌, ◌||◌, ◌==◌, not, ℕ, Bool, true, false, List, [], ◌∷◌, Option, Some, None, refl, sym, subst, ap, arith}
use Rattle.std.specs.Prelude.{nat_lt, is_none, is_some}
use Rattle.std.specs.List.{list_all}
use Rattle.std.proofs.lemmas.Bool.Decides.{nat_tests}
use Rattle.mpi_base.specs.MemberLists.{has_rank}
use Rattle.mpi_base.specs.declared.keys.Key.{Key}
use Rattle.mpi_base.specs.declared.keys.Kind.{Kind}
use Rattle.mpi_base.specs.declared.keys.Kind.TheVariants as kind
use Rattle.mpi_base.proofs.KeyFacts.{same_key-refl}
use Rattle.mpi_base.specs.declared.ops.Op.{Op}
use Rattle.local_law.specs.Names.{bound_of}
use Rattle.local_law.specs.Objects as bound
use Rattle.mpi_group.proofs.MemberListFacts.{list_all_get}
use Rattle.mpi_law.specs.declared.setting.Setting.{Setting}
use Rattle.mpi_law.specs.Local.{effect_of}
use Rattle.mpi_law.specs.declared.effects.Origin.{Origin}
use Rattle.mpi_law.specs.declared.effects.Origin.TheVariants.{Grouped, Duplicated, Divided, GroupedOn}
use Rattle.mpi_law.specs.declared.effects.Effect.{Effect}
use Rattle.mpi_law.specs.declared.effects.Effect.TheVariants.{Says, Opens, Groups, Ungroups, Joins, Frees, Ends, Sends, Receives, Posts, NullPosts, Completes, Awaits}
use Rattle.agree_law.specs.declared.rows.CreationRow.{CreationRow}
use Rattle.agree_law.specs.declared.rows.Stage.{Stage}
use Rattle.agree_law.specs.Part.{stage_of}
use Rattle.agree_law.specs.Kinds.{is_share}
use Rattle.agree_law.specs.SplitKeys.{is_split}
use Rattle.agree_law.specs.World.{is_key_of, may_begin, is_apart, has_no_split}
use Rattle.comm_law.specs.declared.rows.CommRow.{CommRow}
use Rattle.comm_law.specs.Comms.{row_at, comm_at}
use Rattle.mpi_protocol.specs.Rank.{Rank}
use Rattle.mpi_protocol.specs.OpenHere.{is_open_here}
use Rattle.mpi_protocol.specs.Calls.{key_from, key_on, key_under, around_here}
use Rattle.projection_law.specs.Facts.{is_counted}
use Rattle.projection_law.specs.Premises.{are_distinct_ranks, SetsAreOfRanks}
use Rattle.projection_law.specs.KnownNames.{is_known, NamesAreKnown}
use Rattle.projection_law.proofs.Events.{may_open}
use Rattle.projection_law.proofs.Calls.{CallFits}
use Rattle.projection_law.proofs.Operations.{OriginFits, EffectFits, effect_fits}
use Rattle.projection_law.proofs.Rows.{RowFits, found_fits, members_are_ranks, row_has}
use Rattle.projection_law.proofs.Threads.{waited_is_open, waited_stands}
use Rattle.projection_law.proofs.Parts.{is_open}
use Rattle.projection_law.proofs.Sound.{Sound}

-- the row of a communicator that is named
pub record NamedRow (s : Setting) (r : ℕ) (x : Rank) (c : ℕ) : Type 0 where
  pub row : CommRow
  pub there : row_at x.comms c ≡ Some row
  pub known : is_known (Some row) ≡ true
  pub fits : RowFits s.ranks s.contexts r row
  pub ctx : row.ctx ≡ c

module _ (s : Setting) (r : ℕ) (x : Rank) (number : x.rank ≡ r) (setting : x.setting ≡ s) (lt : r < s.ranks) (sets : SetsAreOfRanks s) (h : Sound s r x) (known : NamesAreKnown x) where
  pub named_row : (name : List ℕ) (c q : ℕ) → bound_of x.local.names name ≡ Some (bound.Comm c q) → NamedRow s r x c
  named_row name c q e = go (row_at x.comms c) refl (known name c q e)
    where
      go : (o : Option CommRow) → row_at x.comms c ≡ o → is_known o ≡ true → NamedRow s r x c
      go None u l = absurd (cc (l))
      go (Some m) u l = let f = found_fits (RowFits s.ranks s.contexts r) x.comms.rows c m h.rows u in record { row = m; there = u; known = l; fits = f.0; ctx = f.1 }

  -- a key is not open: no thread waits for it, or its communicator has not counted it

  not_open : (key : Key) → (is_open x.agree key ≡ true → ⊥) → is_none (stage_of x.agree.opened key) ≡ true
  not_open key f = go (stage_of x.agree.opened key) refl
    where
      go : (o : Option Stage) → stage_of x.agree.opened key ≡ o → is_none o ≡ true
      go None e = refl
      go (Some z) e = absurd (f (rw e refl))

  not_busy : (key : Key) → is_open_here x key ≡ false → is_open x.agree key ≡ true → ⊥
  not_busy key busy e = let o = waited_is_open x.threads key (h.waited key e) in absurd (cc (o, busy))

  not_counted : (key : Key) (m : CommRow) → row_at x.comms key.parent ≡ Some m → is_counted key.kind ≡ true → m.calls ≤ key.number → is_open x.agree key ≡ true → ⊥
  not_counted key m there counted le e =
      let t = waited_stands x.comms x.threads key (h.waited key e) h.standing in
      let has : row_has key.number (row_at x.comms key.parent) ≡ true = grind (arith, t, counted) in
      let now : row_has key.number (Some m) ≡ true = subst (λ o. row_has key.number o ≡ true) there has in
      absurd (grind (arith, nat_tests, now, le))

  -- no split of the communicator's count is open

  split_apart : (key : Key) (m : CommRow) → row_at x.comms key.parent ≡ Some m → m.calls ≡ key.number → has_no_split x.agree.opened key ≡ true
  unfolding has_no_split
  split_apart key m there count = go x.agree.opened (λ k e. e)
    where
      counted : (k : Kind) → (is_share k || is_split k) ≡ true → is_counted k ≡ true
      counted kind.From e = absurd (cc (e))
      counted kind.Group e = absurd (cc (e))
      counted kind.Dup e = refl
      counted kind.Split e = refl
      counted kind.Share e = refl

      one : (k : Key) → is_open x.agree k ≡ true → (not (is_share k.kind || is_split k.kind) || not ((k.parent == key.parent) && (k.number == key.number))) ≡ true
      one k e = by (is_share k.kind || is_split k.kind) refl ((k.parent == key.parent) && (k.number == key.number)) refl
        where
          by : (b : Bool) → (is_share k.kind || is_split k.kind) ≡ b → (d : Bool) → ((k.parent == key.parent) && (k.number == key.number)) ≡ d → (not b || not d) ≡ true
          by false u d v = refl
          by true u false v = refl
          by true u true v =
              let p : k.parent ≡ key.parent = grind (arith, nat_tests, v) in
              let n : k.number ≡ key.number = grind (arith, nat_tests, v) in
              absurd (not_counted k m (rw p there) (counted k.kind u) (omega (arith, n, count)) e)

      go : (os : List CreationRow) → ((k : Key) → is_some (stage_of os k) ≡ true → is_open x.agree k ≡ true) → list_all (is_apart key) os ≡ true
      go [] f = refl
      go (o ∷ os) f =
          let here = one o.key (f o.key (rw (same_key-refl o.key) refl)) in
          let rest = go os (λ k e. f k (more o os k e)) in
          rw (here, rest) refl
        where
          more : (o : CreationRow) (os : List CreationRow) (k : Key) → is_some (stage_of os k) ≡ true → is_some (stage_of (o ∷ os) k) ≡ true
          more o os k e = grind (arith, e)

  -- A creation may be opened in the agreement

  begins : (key : Key) → is_share key.kind ≡ false → is_split key.kind ≡ false → are_distinct_ranks s.ranks key.members ≡ true → has_rank key.members r ≡ true → (is_open x.agree key ≡ true → ⊥) → may_begin s.ranks x.rank x.agree key ≡ true
  unfolding is_key_of
  begins key a b good here new =
      let none = not_open key new in
      let me : has_rank key.members x.rank ≡ true = rw number here in
      rw (a, b, good, me, none) refl

  pub may_open_here : (o : Origin ℕ) → OriginFits s.ranks r (around_here x) x.local.names o → may_open s.ranks x o ≡ true
  unfolding is_key_of
  may_open_here (Grouped group tag) f = begins (key_from group tag) refl refl f.0 f.1 (not_busy (key_from group tag) f.2)
  may_open_here (GroupedOn c tag group) f = begins (key_under c tag group) refl refl f.0 f.1 (not_busy (key_under c tag group) f.2)
  may_open_here (Duplicated c) f =
      let n = named_row f.0 c f.1 f.2 in
      let key = key_on x.comms c kind.Dup in
      let is : comm_at x.comms c ≡ n.row = rw n.there refl in
      let good : are_distinct_ranks s.ranks key.members ≡ true = subst (λ (m : CommRow). are_distinct_ranks s.ranks m.members ≡ true) (sym is) n.fits.ranks in
      let here : has_rank key.members r ≡ true = subst (λ (m : CommRow). has_rank m.members r ≡ true) (sym is) n.fits.here in
      let count : n.row.calls ≤ key.number = (let e = ap (λ (m : CommRow). m.calls) is in omega (arith, e)) in
      begins key refl refl good here (not_counted key n.row n.there refl count)
  may_open_here (Divided c share) f =
      let n = named_row f.0 c f.1 f.2 in
      let key = key_on x.comms c kind.Share in
      let is : comm_at x.comms c ≡ n.row = rw n.there refl in
      let good : are_distinct_ranks s.ranks key.members ≡ true = subst (λ (m : CommRow). are_distinct_ranks s.ranks m.members ≡ true) (sym is) n.fits.ranks in
      let here : has_rank key.members x.rank ≡ true = rw number (subst (λ (m : CommRow). has_rank m.members r ≡ true) (sym is) n.fits.here) in
      let apart = split_apart key n.row n.there (sym (ap (λ (m : CommRow). m.calls) is)) in
      rw (good, here, apart) refl

  effect_so : (e : Effect ℕ) → EffectFits s.ranks r (around_here x) x.local.names e → CallFits s.ranks x e
  effect_so (Says said) f = tt
  effect_so (Opens target) f = tt
  effect_so (Groups target members session) f = tt
  effect_so (Ungroups name) f = tt
  effect_so (Joins a) f = may_open_here a.origin f
  effect_so (Frees name c) f = tt
  effect_so (Ends name q) f = tt
  effect_so (Sends m) f =
      let g = members_are_ranks s.ranks s.contexts r x.comms m.comm h.rows in
      let low = list_all_get (λ z. nat_lt z s.ranks) (comm_at x.comms m.comm).members m.to (grind (arith, g)) f in
      grind (arith, nat_tests, low)
  effect_so (Receives a) f = tt
  effect_so (Posts target a) f = tt
  effect_so (NullPosts target) f = tt
  effect_so (Completes name k) f = tt
  effect_so (Awaits name) f = tt

  -- the effect of a call
  pub effect_here : (op : Op) → EffectFits s.ranks r (around_here x) x.local.names (effect_of x.setting x.rank (around_here x) x.local op)
  effect_here op =
      let f = effect_fits s r (around_here x) x.local lt sets h.groups (λ c. members_are_ranks s.ranks s.contexts r x.comms c h.rows) op in
      let E : Setting → ℕ → Type 0 = λ q z. EffectFits s.ranks r (around_here x) x.local.names (effect_of q z (around_here x) x.local op) in
      subst (λ q. E q x.rank) (sym setting) (subst (λ z. E s z) (sym number) f)

  pub call_fits_here : (op : Op) → CallFits s.ranks x (effect_of x.setting x.rank (around_here x) x.local op)
  call_fits_here op = effect_so (effect_of x.setting x.rank (around_here x) x.local op) (effect_here op)
