-- A rank takes a verdict, final or not, and hands it on: what is kept of what is due stays.
use Rattle.std.proofs.Common.{◌≡◌, ◌<◌, ◌≤◌, ◌+◌, ◌==◌, ◌&&◌, ℕ, Bool, true, false, if◌then◌else◌, List, [], ◌∷◌, ◌++◌, map, length, Option, Some, None, refl, sym, subst, ap, ◌∙◌, arith}
use Rattle.std.specs.Prelude.{nat_lt}
use Rattle.std.proofs.lemmas.Bool.Decides.{nat_tests}
use Rattle.mpi_base.specs.declared.keys.Key.{Key}
use Rattle.mpi_base.specs.Keys.{same_key}
use Rattle.mpi_base.proofs.KeyFacts.{same_key_is, same_key-refl}
use Rattle.agree_law.specs.declared.rows.Verdict.{Verdict}
use Rattle.agree_law.specs.declared.rows.Verdict.TheVariants.{Ready, Retry, Context, Exhausted}
use Rattle.agree_law.specs.Tree.{place_in, member_at, parent_of, is_child, children_of}
use Rattle.agree_law.specs.Packets.{Packet, Up, Down, Share, Shares, Moved}
use Rattle.agree_law.specs.Rule.{is_key, let_go}
use Rattle.agree_law.specs.Verdicts.{pass_down, decide}
use Rattle.agree_law.specs.World.{Flight, World, part_at, flights_of, moved}
use Rattle.agree_law.proofs.Lists.{AllOf, AllOf-append, AllOf_both, AllOf_each, AllOf_from_none, tally, one, tally-append}
use Rattle.agree_law.proofs.TreeFacts.{parent_below, place_of_member, tally_children, AllOf_children}
use Rattle.agree_law.proofs.Kept.{is_good, distinct_of, Distinct_of, with_links}
use Rattle.agree_law.proofs.ShareSteps.{moved_size}
use Rattle.agree_law.proofs.Decided.{owner_after, after}
use Rattle.due_law.specs.Dues.{Dues, final_of, due_down}
use Rattle.due_law.proofs.Downs.{other_key, is_down_to}
use Rattle.due_law.proofs.Dued.{Brings, BringsAt, Keeps, due_at, downs_at, Dued}
use Rattle.due_law.proofs.QuietSteps.{keeps_stay, owner_stays, MasksStayAt}

-- What is due after the taking

-- the rank under the key
abbrev pub is_here : Key → ℕ → Key → ℕ → Bool
is_here key r k q = same_key key k && (q == r)

-- nothing is due there, and all else is as it was
pub record Took (due new : Dues) (r : ℕ) (key : Key) : Type 0 where
  pub gone : new r key ≡ None
  pub rest : (q : ℕ) (k : Key) → is_here key r k q ≡ false → new q k ≡ due q k

pub took : (due : Dues) (r : ℕ) (key : Key) (v : Verdict) → due r key ≡ final_of v → Took due (due_down due r key (final_of v)) r key
took due r key Ready e = record { gone = e; rest = λ q k f. refl }
took due r key Retry e = record { gone = e; rest = λ q k f. refl }
took due r key (Context c) e = record { gone = (let s = same_key-refl key in let t : (r == r) ≡ true = grind (arith, nat_tests) in rw (s, t) refl); rest = λ q k f. rw f refl }
took due r key Exhausted e = record { gone = (let s = same_key-refl key in let t : (r == r) ≡ true = grind (arith, nat_tests) in rw (s, t) refl); rest = λ q k f. rw f refl }

gone_at : (due new : Dues) (r : ℕ) (key : Key) → Took due new r key → (q : ℕ) (k : Key) → is_here key r k q ≡ true → new q k ≡ None
gone_at due new r key t q k e =
    let same : same_key key k ≡ true = grind (arith, e) in
    let is : q ≡ r = grind (arith, nat_tests, e) in
    subst (λ z. new z k ≡ None) (sym is) (subst (λ z. new r z ≡ None) (same_key_is key k same) t.gone)

-- Before the taking

-- a verdict is at its rank, off the links: it is what is due there, and to each child; nothing is due above
pub record Before (w : World) (links : List Flight) (r : ℕ) (key : Key) (v : Verdict) (due : Dues) : Type 0 where
  pub good : is_good (length w.parts) key ≡ true
  pub place : member_at key.members (place_in key.members r) ≡ r
  pub inside : place_in key.members r < length key.members
  pub flown : AllOf (BringsAt due) links
  pub level : (k : Key) (q : ℕ) → is_good (length w.parts) k ≡ true → 0 < q → q < length k.members → downs_at links k q ≡ 0 → is_here key r k (member_at k.members q) ≡ false → due_at due k q ≡ due_at due k (parent_of q)
  pub first : (k : Key) → is_good (length w.parts) k ≡ true → 0 < length k.members → is_here key r k (member_at k.members 0) ≡ false → due_at due k 0 ≡ None
  pub held : (q : ℕ) (k : Key) (u : Verdict) → due q k ≡ Some u → Keeps (part_at w q) k u
  pub here : due r key ≡ final_of v
  pub above : 0 < place_in key.members r → due_at due key (parent_of (place_in key.members r)) ≡ None
  pub gone : tally (is_down_to key r) links ≡ 0
  pub below : (q : ℕ) → 0 < q → q < length key.members → parent_of q ≡ place_in key.members r → downs_at links key q ≡ 0

-- The packets that hand it on

down_count : (r : ℕ) (key : Key) (i : ℕ) (v : Verdict) (qs : List ℕ) (q : ℕ) → tally (λ z. z == q) qs ≤ tally (is_down_to key (member_at key.members q)) (flights_of r (map (λ z. record { to = member_at key.members z; packet = Down key i v }) qs))
down_count r key i v [] q = omega arith
down_count r key i v (z ∷ zs) q =
    let ih = down_count r key i v zs q in
    let s = same_key-refl key in
    let one_at : one (z == q) ≤ one (same_key key key && (member_at key.members z == member_at key.members q)) = rw s (go (z == q) refl) in
    omega (arith, ih, one_at)
  where
    go : (b : Bool) → (z == q) ≡ b → one b ≤ one (member_at key.members z == member_at key.members q)
    go true e =
        let is : z ≡ q = grind (arith, nat_tests, e) in
        let t : (member_at key.members z == member_at key.members q) ≡ true = rw is (grind (arith, nat_tests)) in
        rw t (omega arith)
    go false e = omega arith

downs_bring : (new : Dues) (r : ℕ) (key : Key) (i : ℕ) (v : Verdict) (qs : List ℕ) → new r key ≡ None → AllOf (λ q. due_at new key q ≡ final_of v) qs → AllOf (BringsAt new) (flights_of r (map (λ z. record { to = member_at key.members z; packet = Down key i v }) qs))
downs_bring new r key i v [] gone h = tt
downs_bring new r key i v (q ∷ qs) gone h = ((h.0, gone), downs_bring new r key i v qs gone h.1)

-- The taking

owner_let_go : (o : Option Key) (key k : Key) → same_key key k ≡ false → is_key o k ≡ true → is_key (let_go o key) k ≡ true
owner_let_go None key k ne o = absurd (cc (o))
owner_let_go (Some z) key k ne o = go (same_key z key) refl
  where
    go : (b : Bool) → same_key z key ≡ b → is_key (if b then None else Some z) k ≡ true
    go false e = o
    go true e = absurd (let y : same_key key k ≡ true = subst (λ (i : Key). same_key i k ≡ true) (same_key_is z key e) o in cc (y, ne))

owner_other : (o : Option Key) (key k : Key) (v : Verdict) → same_key key k ≡ false → is_key o k ≡ true → is_key (owner_after o key v) k ≡ true
owner_other o key k Ready ne e = e
owner_other o key k Retry ne e = owner_let_go o key k ne e
owner_other o key k (Context c) ne e = owner_let_go o key k ne e
owner_other o key k Exhausted ne e = owner_let_go o key k ne e

module _ (w : World) (links : List Flight) (r : ℕ) (key : Key) (i : ℕ) (v : Verdict) (due new : Dues) (b : Before w links r key v due) (t : Took due new r key) where
  abbrev place : ℕ
  place = place_in key.members r

  abbrev m : Moved
  m = decide r (part_at w r) key i v

  abbrev sent : List Flight
  sent = flights_of r (pass_down key place i v)

  -- a child of the place is another member, and what is due to it is the verdict
  below_due : (q : ℕ) → is_child place q ≡ true → q < length key.members → due_at new key q ≡ final_of v
  below_due q c lt =
      let pos : 0 < q = grind (arith, nat_tests, c) in
      let up : parent_of q ≡ place = grind (arith, nat_tests, c) in
      let less = parent_below q pos in
      let inside = b.inside in
      let apart = Distinct_of (length w.parts) key b.good q place lt b.inside in
      let far : (q == place) ≡ false = grind (arith, nat_tests, up, less) in
      let other : (member_at key.members q == r) ≡ false = ap (λ z. member_at key.members q == z) (sym b.place) ∙ (apart ∙ far) in
      let away : is_here key r key (member_at key.members q) ≡ false = grind (arith, other) in
      t.rest (member_at key.members q) key away
      ∙ (b.level key q b.good pos lt (b.below q pos lt up) away
      ∙ (ap (due_at due key) up ∙ (ap (λ z. due z key) b.place ∙ b.here)))

  sent_bring : AllOf (BringsAt new) sent
  unfolding pass_down
  sent_bring = downs_bring new r key i v (children_of place (length key.members)) t.gone
      (AllOf_each (λ q. (is_child place q ≡ true) × (q < length key.members)) (λ q. due_at new key q ≡ final_of v) (children_of place (length key.members)) (λ q h. below_due q h.0 h.1) (AllOf_children place (length key.members)))

  sent_below : (q : ℕ) → 0 < q → q < length key.members → parent_of q ≡ place → 1 ≤ downs_at sent key q
  unfolding pass_down
  sent_below q pos lt up =
      let c = tally_children place (length key.members) q in
      let is : (is_child place q && nat_lt q (length key.members)) ≡ true = grind (arith, nat_tests, pos, lt, up) in
      let n : one (is_child place q && nat_lt q (length key.members)) ≡ 1 = rw is refl in
      let d = down_count r key i v (children_of place (length key.members)) q in
      omega (arith, c, n, d)

  -- a verdict that is still on its way goes elsewhere
  still_brings : (f : Flight) → BringsAt due f → is_down_to key r f ≡ false → BringsAt new f
  still_brings f h away = go f.from f.to f.packet h away
    where
      sender : (from : ℕ) (k : Key) → due from k ≡ None → (c : Bool) → is_here key r k from ≡ c → new from k ≡ None
      sender from k e true c = gone_at due new r key t from k c
      sender from k e false c = t.rest from k c ∙ e

      go : (from to : ℕ) (p : Packet) → Brings due from to p → is_down_to key r (record { from = from; to = to; packet = p }) ≡ false → Brings new from to p
      go from to (Up k j own mask) h away = tt
      go from to (Down k j u) h away = (t.rest to k (elsewhere k to away) ∙ h.0, sender from k h.1 (is_here key r k from) refl)
        where
          elsewhere : (k : Key) (to : ℕ) → (same_key k key && (to == r)) ≡ false → is_here key r k to ≡ false
          elsewhere k to e = by (same_key k key) refl
            where
              by : (c : Bool) → same_key k key ≡ c → is_here key r k to ≡ false
              by false s = let z = other_key k key s in rw z refl
              by true s = let z : (to == r) ≡ false = grind (arith, e, s) in grind (arith, z)
      go from to (Share k s) h away = tt
      go from to (Shares k list) h away = tt

  level_after : (k : Key) (q : ℕ) → is_good (length w.parts) k ≡ true → 0 < q → q < length k.members → downs_at (links ++ sent) k q ≡ 0 → due_at new k q ≡ due_at new k (parent_of q)
  level_after k q good pos lt none = go (is_here key r k (member_at k.members q)) refl (is_here key r k (member_at k.members (parent_of q))) refl
    where
      less : parent_of q < q
      less = parent_below q pos

      count : downs_at links k q + downs_at sent k q ≡ 0
      count = let a = tally-append (is_down_to k (member_at k.members q)) links sent in omega (arith, a, none)

      -- the place of the rank
      at_place : (p : ℕ) → p < length k.members → is_here key r k (member_at k.members p) ≡ true → (key ≡ k) × (p ≡ place)
      at_place p lp e =
          let same : same_key key k ≡ true = grind (arith, e) in
          let is = same_key_is key k same in
          let rank : member_at k.members p ≡ r = grind (arith, nat_tests, e) in
          (is, sym (place_of_member k.members p (distinct_of (length w.parts) k good) lp) ∙ (ap (place_in k.members) rank ∙ ap (λ (z : Key). place_in z.members r) (sym is)))

      go : (a : Bool) → is_here key r k (member_at k.members q) ≡ a → (c : Bool) → is_here key r k (member_at k.members (parent_of q)) ≡ c → due_at new k q ≡ due_at new k (parent_of q)
      go true e true f =
          let x = at_place q lt e in
          let y = at_place (parent_of q) (omega (arith, less, lt)) f in
          let x1 = x.1 in
          let y1 = y.1 in
          absurd (omega (arith, less, x1, y1))
      go true e false f =
          let x = at_place q lt e in
          let x1 = x.1 in
          let above : due_at due key (parent_of q) ≡ None = subst (λ z. due_at due key (parent_of z) ≡ None) (sym x.1) (b.above (omega (arith, pos, x1))) in
          gone_at due new r key t (member_at k.members q) k e ∙ sym (t.rest (member_at k.members (parent_of q)) k f ∙ subst (λ z. due_at due z (parent_of q) ≡ None) x.0 above)
      go false e true f =
          let y = at_place (parent_of q) (omega (arith, less, lt)) f in
          let s = subst (λ (z : Key). q < length z.members → 1 ≤ downs_at sent z q) y.0 (λ l. sent_below q pos l y.1) lt in
          absurd (omega (arith, count, s))
      go false e false f = t.rest (member_at k.members q) k e ∙ (b.level k q good pos lt (omega (arith, count)) e ∙ sym (t.rest (member_at k.members (parent_of q)) k f))

  first_after : (k : Key) → is_good (length w.parts) k ≡ true → 0 < length k.members → due_at new k 0 ≡ None
  first_after k good some = go (is_here key r k (member_at k.members 0)) refl
    where
      go : (a : Bool) → is_here key r k (member_at k.members 0) ≡ a → due_at new k 0 ≡ None
      go true e = gone_at due new r key t (member_at k.members 0) k e
      go false e = t.rest (member_at k.members 0) k e ∙ b.first k good some e

  held_after : ((q : ℕ) (k : Key) → is_here key r k q ≡ false → MasksStayAt w (moved (with_links w links) r m) q k) → (q : ℕ) (k : Key) (u : Verdict) → new q k ≡ Some u → Keeps (part_at (moved (with_links w links) r m) q) k u
  unfolding decide
  held_after masks q k u e = go (is_here key r k q) refl
    where
      owners : is_here key r k q ≡ false → q ≡ r → is_key (part_at w r).owner k ≡ true → is_key m.part.owner k ≡ true
      owners f is o =
          let here : (q == r) ≡ true = grind (arith, nat_tests, is) in
          let ne : same_key key k ≡ false = grind (arith, f, here) in
          subst (λ (z : Option Key). is_key z k ≡ true) (sym (after (part_at w r) key i v).owner) (owner_other (part_at w r).owner key k v ne o)

      go : (a : Bool) → is_here key r k q ≡ a → Keeps (part_at (moved (with_links w links) r m) q) k u
      go true f = absurd (let z = gone_at due new r key t q k f in cc (z, e))
      go false f =
          let h = b.held q k u (sym (t.rest q k f) ∙ e) in
          keeps_stay (part_at w q) _ k u (owner_stays w links r m q k (owners f) h.owns) (masks q k f h.owns) h

  pub taken_dued : ((q : ℕ) (k : Key) → is_here key r k q ≡ false → MasksStayAt w (moved (with_links w links) r m) q k) → Dued (moved (with_links w links) r m) new
  unfolding moved decide
  taken_dued masks =
      let size = moved_size w links r m in
      record {
        flown = AllOf-append (BringsAt new) links sent (AllOf_both (BringsAt due) (λ f. is_down_to key r f ≡ false) (BringsAt new) links still_brings b.flown (AllOf_from_none (is_down_to key r) links b.gone)) sent_bring;
        level = λ k q good pos lt none. level_after k q (subst (λ n. is_good n k ≡ true) size good) pos lt none;
        first = λ k good some. first_after k (subst (λ n. is_good n k ≡ true) size good) some;
        held = held_after masks;
      }
