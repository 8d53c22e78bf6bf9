-- A verdict comes to a member and is taken there: what is kept of what is due stays.
use Rattle.std.proofs.Common.{◌≡◌, ◌<◌, ◌+◌, ◌==◌, ◌&&◌, ℕ, Bool, true, false, List, length, Some, None, refl, sym, subst, ap, ◌∙◌, arith}
use Rattle.std.proofs.lemmas.Bool.Decides.{nat_tests}
use Rattle.mpi_base.specs.declared.keys.Key.{Key}
use Rattle.mpi_base.specs.Keys.{same_key}
use Rattle.mpi_base.proofs.KeyFacts.{same_key-refl}
use Rattle.agree_law.specs.declared.rows.Verdict.{Verdict}
use Rattle.agree_law.specs.Tree.{place_in, member_at, parent_of}
use Rattle.agree_law.specs.Part.{Agree}
use Rattle.agree_law.specs.Packets.{Down, Moved}
use Rattle.agree_law.specs.Verdicts.{decide, takes_down, take_down}
use Rattle.agree_law.specs.World.{Flight, World, part_at, head_of, popped, moved}
use Rattle.agree_law.proofs.Lists.{tally, one}
use Rattle.agree_law.proofs.RowFacts.{is_whole}
use Rattle.agree_law.proofs.KeyKept.{View, view_of}
use Rattle.agree_law.proofs.Links.{of_links, popped_all}
use Rattle.agree_law.proofs.Kept.{is_good, distinct_of, seat, Kept, with_links}
use Rattle.agree_law.proofs.UpSteps.{came, ends_of}
use Rattle.agree_law.proofs.DownSteps.{DownThere, down_there, down_is_taken}
use Rattle.agree_law.proofs.Subtrees.{gathered}
use Rattle.due_law.specs.Dues.{Dues, final_of, due_down}
use Rattle.due_law.proofs.Lists.{head_at, tally-popped}
use Rattle.due_law.proofs.Downs.{is_down_to, downs_of_key}
use Rattle.due_law.proofs.Dued.{BringsAt, downs_at, Dued}
use Rattle.due_law.proofs.QuietSteps.{MasksStayAt}
use Rattle.due_law.proofs.Taking.{is_here, took, Before, taken_dued}

take_is : (r : ℕ) (a : Agree) (from : ℕ) (key : Key) (i : ℕ) (v : Verdict) → takes_down r a from key i v ≡ true → take_down r a from key i v ≡ decide r a key i v
unfolding take_down
take_is r a from key i v t = rw t refl

-- Where the packet is from

-- it comes down an edge to the place of the rank
record Edged (key : Key) (from r : ℕ) : Type 0 where
  low : r ≡ member_at key.members (place_in key.members r)
  high : from ≡ member_at key.members (parent_of (place_in key.members r))
  pos : 0 < place_in key.members r
  inside : place_in key.members r < length key.members

module _ (top : ℕ) (w : World) (from r : ℕ) (key : Key) (i : ℕ) (v : Verdict) (due : Dues) (h : Kept top w) (d : Dued w due) (head : head_of w.links from r ≡ Some (Down key i v)) where
  abbrev links : List Flight
  links = popped w.links from r

  there : DownThere top w from r key i v
  there = down_there top w from r key i v (came top w from r key (Down key i v) head refl (λ e. e) h) h

  good : is_good (length w.parts) key ≡ true
  good = (came top w from r key (Down key i v) head refl (λ e. e) h).good

  edged : Edged key from r
  edged =
      let c = came top w from r key (Down key i v) head refl (λ e. e) h in
      let e = c.flies.1 in
      let x = ends_of key.members c.flies.0 r from (distinct_of (length w.parts) key c.good) e in
      record {
        low = there.low;
        high = e.high ∙ ap (λ p. member_at key.members (parent_of p)) (sym x.low_place);
        pos = there.pos;
        inside = there.inside;
      }

  pub down_taken : takes_down r (part_at w r) from key i v ≡ true
  down_taken = down_is_taken top w from r key i v there h

  -- what it brings is due
  pub down_brings : (due r key ≡ final_of v) × (due from key ≡ None)
  down_brings = head_at (BringsAt due) w.links from r (Down key i v) head d.flown

  -- a count of the links without it
  abbrev comes_to : Key → ℕ → Bool
  comes_to k q = same_key key k && (r == q)

  without : (k : Key) (q : ℕ) → tally (is_down_to k q) w.links ≡ tally (is_down_to k q) links + one (comes_to k q)
  without k q = tally-popped (is_down_to k q) w.links from r (Down key i v) head

  gone : tally (is_down_to key r) links ≡ 0
  gone =
      let e = edged in
      let p = place_in key.members r in
      let t = (h.each key good).token p e.pos e.inside in
      let a = downs_of_key w.links key r in
      let b = without key r in
      let s = same_key-refl key in
      let self : (r == r) ≡ true = grind (arith, nat_tests) in
      let n : one (comes_to key r) ≡ 1 = rw (s, self) refl in
      let m = ap (λ z. tally (is_down_to key z) w.links) e.low in
      let c = downs_of_key w.links key (member_at key.members p) in
      omega (arith, t, b, n, m, c)

  below : (q : ℕ) → 0 < q → q < length key.members → parent_of q ≡ place_in key.members r → downs_at links key q ≡ 0
  below q pos lt up =
      let e = edged in
      let n = length key.members in
      let m = member_at key.members in
      let V : ℕ → View = seat w.parts key in
      let here : V (place_in key.members r) ≡ view_of (part_at w r) key = ap (λ z. view_of (part_at w z) key) (sym e.low) in
      let whole : is_whole (V (place_in key.members r)).offers (place_in key.members r) n ≡ true = subst (λ (y : View). is_whole y.offers (place_in key.members r) n ≡ true) (sym here) there.whole in
      let g = gathered top n m V (of_links w.links key) (h.each key good) q pos lt (subst (λ p. is_whole (V p).offers p n ≡ true) (sym up) whole) in
      let a = downs_of_key w.links key (m q) in
      let b = without key (m q) in
      let z = g.downs in
      omega (arith, a, b, z)

  -- elsewhere no verdict is taken off the links
  same_elsewhere : (k : Key) (q : ℕ) → is_here key r k q ≡ false → tally (is_down_to k q) w.links ≡ tally (is_down_to k q) links
  same_elsewhere k q away =
      let b = without k q in
      let f : comes_to k q ≡ false = grind (arith, nat_tests, away) in
      let n = ap one f in
      omega (arith, b, n)

  coming : Before w links r key v due
  coming =
      let e = edged in
      record {
        good = good;
        place = sym e.low;
        inside = e.inside;
        flown = popped_all (BringsAt due) w.links from r d.flown;
        level = λ k q fits pos lt none away. (let s = same_elsewhere k (member_at k.members q) away in d.level k q fits pos lt (omega (arith, s, none)));
        first = λ k fits some away. d.first k fits some;
        held = d.held;
        here = down_brings.0;
        above = λ pos. ap (λ z. due z key) (sym e.high) ∙ down_brings.1;
        gone = gone;
        below = below;
      }

  pub come_dued : ((q : ℕ) (k : Key) → is_here key r k q ≡ false → MasksStayAt w (moved (with_links w links) r (take_down r (part_at w r) from key i v)) q k) → Dued (moved (with_links w links) r (take_down r (part_at w r) from key i v)) (due_down due r key (final_of v))
  come_dued masks =
      let is = take_is r (part_at w r) from key i v down_taken in
      let P : Moved → Type 0 = λ m. ((q : ℕ) (k : Key) → is_here key r k q ≡ false → MasksStayAt w (moved (with_links w links) r m) q k) → Dued (moved (with_links w links) r m) (due_down due r key (final_of v)) in
      subst P (sym is) (taken_dued w links r key i v due (due_down due r key (final_of v)) coming (took due r key v coming.here)) masks
