-- A rank takes a context, or exhausted: ranks and registry go on to belong together.
use Rattle.std.proofs.Common.{◌≡◌, ◌<◌, ◌≤◌, ℕ, ◌+◌, ◌==◌, nat_le, if◌then◌else◌, Bool, true, false, List, [], ◌∷◌, ◌++◌, get_or, set, Option, Some, None, refl, sym, ◌∙◌, subst, arith}
use Rattle.std.specs.Option.{is_some, is_none}
use Rattle.std.specs.List.{list_any}
use Rattle.std.proofs.lemmas.Bool.Decides.{nat_tests}
use Rattle.mpi_base.specs.declared.keys.Key.{Key}
use Rattle.mpi_base.specs.Keys.{same_key}
use Rattle.mpi_base.proofs.KeyFacts.{same_key_is}
use Rattle.mpi_law.specs.declared.setting.Setting.{Setting}
use Rattle.mpi_law.specs.Registry.State.{Registry, blank_part}
use Rattle.mpi_law.specs.Registry.Contexts.{comm_of, is_exchange}
use Rattle.agree_law.specs.declared.rows.Outcome.TheVariants as ended
use Rattle.agree_law.specs.declared.rows.Stage.TheVariants.{Done}
use Rattle.agree_law.specs.declared.rows.Verdict.{Verdict}
use Rattle.agree_law.specs.declared.rows.Verdict.TheVariants.{Context, Exhausted}
use Rattle.agree_law.specs.Part.{Agree, set_stage}
use Rattle.agree_law.specs.Rule.{is_key, let_go}
use Rattle.comm_law.specs.declared.rows.CommRow.{CommRow}
use Rattle.comm_law.specs.Comms.{Comms as Known, add}
use Rattle.mpi_protocol.specs.Rank.{Rank, session_of}
use Rattle.run_law.proofs.Rows.{or_else, row_in, row_in-append, added_row}
use Rattle.due_law.specs.Dues.{Dues, due_taken}
use Rattle.run_law.proofs.Creations.{comm_in}
use Rattle.run_law.proofs.Comms.{DueComm, KnownComm, CommFits, FreeFits, CommsFit, is_numbered, is_other}
use Rattle.run_law.proofs.Lists.{tally, one}
use Rattle.run_law.proofs.Bindings.{tally-snoc}
use Rattle.run_law.proofs.Joined.{rank_in, Joined}
use Rattle.run_law.proofs.Waiters.{Waiter, waiter_of}
use Rattle.run_law.proofs.Taking.{with_end, taken_joined}
use Rattle.due_law.specs.Agreed.{TakesFinal}
use Rattle.run_law.proofs.TakingEnds.{mask_more, unbound, session_is, Picked, picked_of, exhausted_of}

pub owner_is : (w : Option Key) (k l : Key) → is_key w k ≡ true → is_key w l ≡ true → k ≡ l
owner_is None k l x y = absurd (cc (x))
owner_is (Some z) k l x y = sym (same_key_is z k x) ∙ same_key_is z l y

let_go_keeps : (w : Option Key) (key k : Key) → is_key w k ≡ true → same_key k key ≡ false → is_key (let_go w key) k ≡ true
let_go_keeps None key k x ne = absurd (cc (x))
let_go_keeps (Some z) key k x ne = go (same_key z key) refl
  where
    go : (b : Bool) → same_key z key ≡ b → is_key (if b then None else Some z) k ≡ true
    go false e = x
    go true e = let is = same_key_is z k x in absurd (let y : same_key k key ≡ true = subst (λ (i : Key). same_key i key ≡ true) is e in cc (y, ne))

-- one row more that fails a test
any_more : (rows : List CommRow) (m : CommRow) (q : CommRow → Bool) → q m ≡ false → list_any q (rows ++ m ∷ []) ≡ list_any q rows
any_more [] m q e = grind (arith, e)
any_more (x ∷ xs) m q e = let ih = any_more xs m q e in grind (arith, ih)

-- the next serial is no row's yet
more_serial : (k n t : ℕ) → t ≤ one (nat_le n k) → t + one (k + 1 == n) ≤ one (nat_le n (k + 1))
more_serial k n t h = go (nat_le n k) refl (k + 1 == n) refl (nat_le n (k + 1)) refl h
  where
    go : (a : Bool) → nat_le n k ≡ a → (b : Bool) → (k + 1 == n) ≡ b → (c : Bool) → nat_le n (k + 1) ≡ c → t ≤ one a → t + one b ≤ one c
    go true e true f c i h = absurd (grind (arith, nat_tests, e, f))
    go true e false f true i h = omega (arith, h)
    go true e false f false i h = absurd (grind (arith, nat_tests, e, i))
    go false e true f true i h = omega (arith, h)
    go false e true f false i h = absurd (grind (arith, nat_tests, f, i))
    go false e false f c i h = let z : t ≤ 0 = h in at c (omega (arith, z))
      where
        at : (c : Bool) → t ≡ 0 → t + 0 ≤ one c
        at true z = omega (arith, z)
        at false z = omega (arith, z)

module _ (s : Setting) (ranks : List Rank) (due : Dues) (g : Registry) (r : ℕ) (key : Key) (a : Agree) (j : Joined s ranks due g) (lt : r < s.ranks) (proper : is_exchange key.kind ≡ false) (owner : a.owner ≡ let_go (rank_in ranks r).agree.owner key) where
  abbrev x : Rank
  x = rank_in ranks r

  waiter : (v : Verdict) → TakesFinal (rank_in ranks r) (due r key) key v → Waiter s ranks due g j r key
  waiter v t = waiter_of s ranks due g j r key (rw t.stage refl)

  -- Exhausted

  pub exhausted_taken : TakesFinal (rank_in ranks r) (due r key) key Exhausted → a.mask ≡ (rank_in ranks r).agree.mask → a.opened ≡ set_stage (rank_in ranks r).agree.opened key (Done ended.Exhausted) → Joined s (set ranks r (with_end x a x.comms)) (due_taken due r key) g
  exhausted_taken t mask opened =
      taken_joined s ranks due g r key Exhausted ended.Exhausted a x.comms j lt proper t opened (λ b h. h) (rw mask (j.masks r lt))
      (λ w. rw (exhausted_of s ranks due g r key j lt proper t w) tt)
      (record { each = λ b. go b (row_in x.comms.rows b) (comm_of g.comms r b) ((j.comms r).each b); range = (j.comms r).range; freeing = (j.comms r).freeing; serials = (j.comms r).serials })
    where
      go : (b : ℕ) (o : Option CommRow) (p : Option ℕ) → CommFits g.comms g.creations r x.agree.owner (due r) b o p → CommFits g.comms g.creations r a.owner (due_taken due r key r) b o p
      go b None None h = tt
      go b (Some m) None h = h
      go b (Some m) (Some p) h = h
      go b None (Some p) h =
          let is = owner_is x.agree.owner h.key key h.owns t.owns in
          let one : due r key ≡ Some (Context b) = subst (λ (k : Key). due r k ≡ Some (Context b)) is h.said in
          let two = t.said in
          absurd (cc (one, two))

  -- A context

  module _ (c : ℕ) (t : TakesFinal (rank_in ranks r) (due r key) key (Context c)) (bit : get_or (rank_in ranks r).agree.mask c false ≡ true) where
    abbrev known : Known
    known = add x.comms c key.members (session_of x.threads key)

    abbrev row : CommRow
    row = added_row x.comms c key.members (session_of x.threads key)

    w : Waiter s ranks due g j r key
    w = waiter (Context c) t

    got : Picked s ranks due g r key j lt proper w c
    got = picked_of s ranks due g r key j lt proper c t w

    unknown : row_in x.comms.rows c ≡ None
    unknown = go (row_in x.comms.rows c) refl
      where
        go : (o : Option CommRow) → row_in x.comms.rows c ≡ o → row_in x.comms.rows c ≡ None
        go None e = e
        go (Some m) e = absurd (let b = (j.masks r lt).bits c in let n : is_none (row_in x.comms.rows c) ≡ false = rw e refl in grind (arith, b, bit, n))

    more : (b : ℕ) → is_some (row_in x.comms.rows b) ≡ true → is_some (row_in known.rows b) ≡ true
    more b h = rw (row_in-append x.comms.rows row b) (go (row_in x.comms.rows b) h)
      where
        go : (o : Option CommRow) → is_some o ≡ true → is_some (or_else o (if c == b then Some row else None)) ≡ true
        go None h = absurd (cc (h))
        go (Some m) h = refl

    new_known : is_some (row_in known.rows c) ≡ true
    new_known = let self : (c == c) ≡ true = grind (arith, nat_tests) in rw (row_in-append x.comms.rows row c, unknown, self) refl

    -- the communicator that was picked is the one that is due
    fresh : (p : ℕ) → comm_of g.comms r c ≡ Some p → DueComm g.creations r x.agree.owner (due r) c p → KnownComm g.comms g.creations r row p
    fresh p e h =
        let stands = got.made.stands in
        let is : got.place ≡ p = cc (stands, e) in
        record {
          members = rw (← is) (sym got.made.members);
          session = session_is s ranks due g r key j lt proper w ∙ (rw (← is) (sym got.made.session_is));
          calls = sym h.calls;
          stage = let k = got.made.kept in rw (← is, k) refl;
        }

    each_after : (b : ℕ) (o : Option CommRow) (p : Option ℕ) → row_in x.comms.rows b ≡ o → comm_of g.comms r b ≡ p → CommFits g.comms g.creations r x.agree.owner (due r) b o p
        → CommFits g.comms g.creations r a.owner (due_taken due r key r) b (or_else o (if c == b then Some row else None)) p
    each_after b (Some m) (Some p) eo ep h = h
    each_after b (Some m) None eo ep h = h
    each_after b None None eo ep h = go (c == b) refl
      where
        go : (z : Bool) → (c == b) ≡ z → CommFits g.comms g.creations r a.owner (due_taken due r key r) b (if z then Some row else None) None
        go false e = tt
        go true e = absurd (let is : c ≡ b = grind (arith, nat_tests, e) in let y : comm_of g.comms r b ≡ Some got.place = subst (λ (i : ℕ). comm_of g.comms r i ≡ Some got.place) is got.made.stands in cc (y, ep))
    each_after b None (Some p) eo ep h = go (c == b) refl
      where
        go : (z : Bool) → (c == b) ≡ z → CommFits g.comms g.creations r a.owner (due_taken due r key r) b (if z then Some row else None) (Some p)
        go true e =
            let is : b ≡ c = grind (arith, nat_tests, e) in
            fresh p (subst (λ (i : ℕ). comm_of g.comms r i ≡ Some p) is ep) (subst (λ (i : ℕ). DueComm g.creations r x.agree.owner (due r) i p) is h)
        go false e =
            let is = owner_is x.agree.owner h.key key h.owns t.owns in
            let one : due r key ≡ Some (Context b) = subst (λ (k : Key). due r k ≡ Some (Context b)) is h.said in
            let two = t.said in
            let same : c ≡ b = cc (one, two) in
            absurd (grind (arith, nat_tests, e, same))

    comms_after : CommsFit s.contexts g.comms g.creations (get_or g.ranks r blank_part).threads r known.rows known.added a.owner (due_taken due r key r) x.threads
    comms_after = record {
      each = λ b. rw (row_in-append x.comms.rows row b) (each_after b (row_in x.comms.rows b) (comm_of g.comms r b) refl refl ((j.comms r).each b));
      range = (j.comms r).range;
      serials = λ n. (let t = tally-snoc (is_numbered n) x.comms.rows (added_row x.comms c key.members (session_of x.threads key)) in let m = more_serial x.comms.added n (tally (is_numbered n) x.comms.rows) ((j.comms r).serials n) in omega (arith, t, m));
      freeing = λ u serial p ew ep. free u serial p ((j.comms r).freeing u serial p ew ep);
    }
      where
        free : (u serial p : ℕ) → FreeFits g.comms x.comms.rows x.comms.added r serial p → FreeFits g.comms known.rows known.added r serial p
        free u serial p h =
            let l = h.below in
            let off : (row.serial == serial) ≡ false = grind (arith, nat_tests, l) in
            record {
              inside = h.inside;
              member = h.member;
              below = omega (arith, l);
              own = any_more x.comms.rows row (is_other serial (comm_in g.comms p).ctx) (grind (arith, off)) ∙ h.own;
              gone = any_more x.comms.rows row (is_numbered serial) off ∙ h.gone;
            }

    pub context_taken : a.mask ≡ set (rank_in ranks r).agree.mask c false → a.opened ≡ set_stage (rank_in ranks r).agree.opened key (Done (ended.Context c)) → Joined s (set ranks r (with_end x a (add x.comms c key.members (session_of x.threads key)))) (due_taken due r key) g
    context_taken mask opened =
        let in_range = (j.comms r).range c (rw got.made.stands refl) in
        taken_joined s ranks due g r key (Context c) (ended.Context c) a known j lt proper t opened more
        (rw mask (mask_more s.contexts x.agree.mask x.comms.rows row in_range.0 in_range.1 (j.masks r lt)))
        (λ v. let p = picked_of s ranks due g r key j lt proper c t v in rw p.outcome (p.made, unbound g.comms x.comms.rows r c x.local.names _ unknown (j.locals r).names, new_known))
        comms_after
