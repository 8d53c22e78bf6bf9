-- The first member says a verdict and takes it: what is kept of what is due stays.
use Rattle.std.proofs.Common.{◌≡◌, ◌<◌, ℕ, Bool, true, false, length, get_or, Option, Some, None, refl, sym, subst, ◌∙◌, arith}
use Rattle.std.proofs.lemmas.Bool.Decides.{nat_tests}
use Rattle.mpi_base.specs.declared.keys.Key.{Key}
use Rattle.mpi_base.specs.Keys.{same_key}
use Rattle.mpi_base.specs.MemberLists.{has_rank}
use Rattle.mpi_base.proofs.KeyFacts.{same_key_is, same_key-refl}
use Rattle.agree_law.specs.declared.rows.Verdict.{Verdict}
use Rattle.agree_law.specs.declared.rows.Verdict.TheVariants.{Ready, Retry, Context, Exhausted}
use Rattle.agree_law.specs.Tree.{place_in, member_at, parent_of}
use Rattle.agree_law.specs.Part.{round_of}
use Rattle.agree_law.specs.Packets.{Packet, Up, Down, Share, Shares}
use Rattle.agree_law.specs.Gather.{verdict_of}
use Rattle.agree_law.specs.Verdicts.{may_settle_offers, settle_offers}
use Rattle.agree_law.specs.World.{Flight, World, part_at, moved}
use Rattle.agree_law.specs.Facts.{is_down_of}
use Rattle.agree_law.proofs.Lists.{AllOf_both}
use Rattle.agree_law.proofs.TreeFacts.{parent_below, member_place, place_member}
use Rattle.agree_law.proofs.Kept.{is_good, Kept}
use Rattle.agree_law.proofs.DownSteps.{Settling, settling}
use Rattle.agree_law.proofs.WorldFacts.{picks_are_free}
use Rattle.due_law.specs.Dues.{Dues, final_of, due_said, due_settled, due_down}
use Rattle.due_law.proofs.Downs.{other_key}
use Rattle.due_law.proofs.Dued.{Brings, BringsAt, Keeps, due_at, downs_at, Dued}
use Rattle.due_law.proofs.QuietSteps.{MasksStayAt}
use Rattle.due_law.proofs.Taking.{is_here, took, Before, taken_dued}
use Rattle.due_law.proofs.AllOwn.{settle_owns}
use Rattle.due_law.proofs.Undue.{none_down_at, none_down, none_down_to, none_due_here}

-- What is due once a verdict is said

abbrev pub said_to_all : Dues → Key → Option Verdict → Dues
said_to_all due key None = due
said_to_all due key (Some v) = due_said due key v

-- the verdict at each member, and nothing new elsewhere
record Said (due new : Dues) (key : Key) (v : Verdict) : Type 0 where
  rest : (q : ℕ) (k : Key) → same_key key k ≡ false → new q k ≡ due q k
  mine : (q : ℕ) → has_rank key.members q ≡ true → new q key ≡ final_of v
  outside : (q : ℕ) → has_rank key.members q ≡ false → new q key ≡ None

said : (due : Dues) (key : Key) (v : Verdict) → ((q : ℕ) → due q key ≡ None) → Said due (said_to_all due key (final_of v)) key v
said due key v none = go v
  where
    said_final : (u : Verdict) → final_of u ≡ Some u → Said due (due_said due key u) key u
    said_final u f = record {
      rest = λ q k e. rw e refl;
      mine = λ q e. (let s = same_key-refl key in rw (s, e) (sym f));
      outside = λ q e. (let s = same_key-refl key in rw (s, e) (none q));
    }

    go : (v : Verdict) → Said due (said_to_all due key (final_of v)) key v
    go Ready = record { rest = λ q k e. refl; mine = λ q e. none q; outside = λ q e. none q }
    go Retry = record { rest = λ q k e. refl; mine = λ q e. none q; outside = λ q e. none q }
    go (Context c) = said_final (Context c) refl
    go Exhausted = said_final Exhausted refl

settled_is : (due : Dues) (r : ℕ) (key : Key) (v : Verdict) → due_down (said_to_all due key (final_of v)) r key (final_of v) ≡ due_settled due r key (final_of v)
settled_is due r key Ready = refl
settled_is due r key Retry = refl
settled_is due r key (Context c) = refl
settled_is due r key Exhausted = refl

-- a verdict that is final is itself
pub final_is : (v u : Verdict) → final_of v ≡ Some u → (v ≡ u) × (final_of u ≡ Some u)
final_is Ready u e = absurd (cc (e))
final_is Retry u e = absurd (cc (e))
final_is (Context c) u e = let is : Context c ≡ u = cc (e) in (is, subst (λ z. final_of z ≡ Some z) is refl)
final_is Exhausted u e = let is : Exhausted ≡ u = cc (e) in (is, subst (λ z. final_of z ≡ Some z) is refl)

module _ (top : ℕ) (w : World) (r : ℕ) (key : Key) (due : Dues) (h : Kept top w) (d : Dued w due) (may : may_settle_offers r (part_at w r) key ≡ true) where
  abbrev v : Verdict
  v = verdict_of top (part_at w r).gathered key (round_of (part_at w r).rounds key)

  abbrev new : Dues
  new = said_to_all due key (final_of v)

  at : Settling top w r key
  at = settling top w r key may h

  told : Said due new key v
  told = said due key v (none_due_here top w r key h may due d)

  -- each member keeps its mask for the verdict
  pub members_keep : (u : Verdict) → final_of v ≡ Some u → (q : ℕ) → has_rank key.members q ≡ true → Keeps (part_at w q) key u
  members_keep u e q member =
      let f = final_is v u e in
      let p = member_place key.members q member in
      record {
        final = f.1;
        owns = settle_owns top w r key u h may e q member;
        free = λ c is. subst (λ z. get_or (part_at w z).mask c false ≡ true) p.1 (picks_are_free top w h r key c (place_in key.members q) may (f.0 ∙ is) p.0).free;
      }

  held_said : (q : ℕ) (k : Key) (u : Verdict) → new q k ≡ Some u → Keeps (part_at w q) k u
  held_said q k u e = go (same_key key k) refl
    where
      mine : (b : Bool) → has_rank key.members q ≡ b → new q key ≡ Some u → Keeps (part_at w q) key u
      mine true m f = members_keep u (sym (told.mine q m) ∙ f) q m
      mine false m f = absurd (let z = told.outside q m in cc (z, f))

      go : (b : Bool) → same_key key k ≡ b → Keeps (part_at w q) k u
      go false s = d.held q k u (sym (told.rest q k s) ∙ e)
      go true s = let is = same_key_is key k s in subst (λ z. Keeps (part_at w q) z u) is (mine (has_rank key.members q) refl (subst (λ z. new q z ≡ Some u) (sym is) e))

  still_brings : (f : Flight) → BringsAt due f → is_down_of key f.packet ≡ false → BringsAt new f
  still_brings f b e = go f.from f.to f.packet b e
    where
      go : (from to : ℕ) (p : Packet) → Brings due from to p → is_down_of key p ≡ false → Brings new from to p
      go from to (Up k i own mask) b e = tt
      go from to (Down k i u) b e = let s = other_key k key e in (told.rest to k s ∙ b.0, told.rest from k s ∙ b.1)
      go from to (Share k s) b e = tt
      go from to (Shares k list) b e = tt

  level_said : (k : Key) (q : ℕ) → is_good (length w.parts) k ≡ true → 0 < q → q < length k.members → downs_at w.links k q ≡ 0 → due_at new k q ≡ due_at new k (parent_of q)
  level_said k q good pos lt none = go (same_key key k) refl
    where
      mine : q < length key.members → due_at new key q ≡ due_at new key (parent_of q)
      mine lt =
          let less = parent_below q pos in
          told.mine (member_at key.members q) (place_member key.members q lt) ∙ sym (told.mine (member_at key.members (parent_of q)) (place_member key.members (parent_of q) (omega (arith, less, lt))))

      go : (b : Bool) → same_key key k ≡ b → due_at new k q ≡ due_at new k (parent_of q)
      go true s = subst (λ (z : Key). q < length z.members → due_at new z q ≡ due_at new z (parent_of q)) (same_key_is key k s) mine lt
      go false s = told.rest (member_at k.members q) k s ∙ (d.level k q good pos lt none ∙ sym (told.rest (member_at k.members (parent_of q)) k s))

  -- the first member is the rank
  first_is : has_rank key.members r ≡ true → member_at key.members 0 ≡ r
  first_is member = subst (λ p. member_at key.members p ≡ r) at.first (member_place key.members r member).1

  before : has_rank key.members r ≡ true → Before w w.links r key v new
  before member =
      let z = at.first in
      record {
        good = let g = at.good in grind (arith, g);
        place = (member_place key.members r member).1;
        inside = (member_place key.members r member).0;
        flown = AllOf_both (BringsAt due) (λ (f : Flight). is_down_of key f.packet ≡ false) (BringsAt new) w.links still_brings d.flown (none_down top w r key h may);
        level = λ k q good pos lt none other. level_said k q good pos lt none;
        first = first_said;
        held = held_said;
        here = told.mine r member;
        above = λ pos. absurd (omega (arith, pos, z));
        gone = none_down_to top w r key h may r;
        below = λ q pos lt up. none_down_at top w r key h may q pos lt;
      }
    where
      first_said : (k : Key) → is_good (length w.parts) k ≡ true → 0 < length k.members → is_here key r k (member_at k.members 0) ≡ false → due_at new k 0 ≡ None
      first_said k good some other = go (same_key key k) refl
        where
          go : (b : Bool) → same_key key k ≡ b → due_at new k 0 ≡ None
          go false s = told.rest (member_at k.members 0) k s ∙ d.first k good some
          go true s =
              let is : member_at k.members 0 ≡ r = subst (λ (x : Key). member_at x.members 0 ≡ r) (same_key_is key k s) (first_is member) in
              absurd (let f : is_here key r k (member_at k.members 0) ≡ true = grind (arith, nat_tests, s, is) in cc (f, other))

  pub settled_dued : ((q : ℕ) (k : Key) → is_here key r k q ≡ false → MasksStayAt w (moved w r (settle_offers r top (part_at w r) key)) q k) → Dued (moved w r (settle_offers r top (part_at w r) key)) (due_settled due r key (final_of v))
  unfolding settle_offers
  settled_dued masks =
      let g = at.good in
      let b = before (grind (arith, g)) in
      subst (Dued (moved w r (settle_offers r top (part_at w r) key))) (settled_is due r key v)
      (taken_dued w w.links r key (round_of (part_at w r).rounds key) v new (due_down new r key (final_of v)) b (took new r key v b.here) masks)
