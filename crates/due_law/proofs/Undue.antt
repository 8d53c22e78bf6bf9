-- Where a key may be settled no verdict on it is on its way, and nothing is due for it.
use Rattle.std.proofs.Common.{◌≡◌, ◌<◌, ◌≤◌, ℕ, zero, suc, Bool, true, false, length, slice_get, Option, Some, None, refl, subst, ◌∙◌, arith}
use Rattle.std.proofs.lemmas.Bool.Decides.{nat_tests}
use Rattle.mpi_base.specs.declared.keys.Key.{Key}
use Rattle.mpi_base.specs.Keys.{same_key}
use Rattle.mpi_base.specs.MemberLists.{has_rank}
use Rattle.mpi_base.proofs.KeyFacts.{same_key_is, same_key-refl}
use Rattle.agree_law.specs.declared.rows.Verdict.{Verdict}
use Rattle.agree_law.specs.Tree.{place_in, member_at, parent_of}
use Rattle.agree_law.specs.Packets.{Packet, Up, Down, Share, Shares}
use Rattle.agree_law.specs.Rule.{is_key}
use Rattle.agree_law.specs.Verdicts.{may_settle_offers}
use Rattle.agree_law.specs.World.{Flight, World, part_at}
use Rattle.agree_law.specs.Facts.{is_down_of}
use Rattle.agree_law.proofs.Lists.{AllOf, AllOf_each, tally, none_from_AllOf}
use Rattle.agree_law.proofs.TreeFacts.{parent_below, member_place}
use Rattle.agree_law.proofs.Links.{of_links}
use Rattle.agree_law.proofs.Kept.{seat, Kept}
use Rattle.agree_law.proofs.Subtrees.{gathered, below_at, under_first}
use Rattle.agree_law.proofs.WorldFacts.{FirstWhole, first_whole}
use Rattle.agree_law.proofs.EdgeFacts.{downs_fit}
use Rattle.due_law.specs.Dues.{Dues}
use Rattle.due_law.proofs.Lists.{AllOf_from_at, tally_at}
use Rattle.due_law.proofs.Downs.{is_down_to, downs_of_key}
use Rattle.due_law.proofs.Dued.{due_at, downs_at, Dued}

-- an owner of the mask has the rank among its members
pub owner_member : (top : ℕ) (w : World) (r : ℕ) (key : Key) → Kept top w → is_key (part_at w r).owner key ≡ true → has_rank key.members r ≡ true
owner_member top w r key h o = let g = h.owner r key o in grind (arith, g)

module _ (top : ℕ) (w : World) (r : ℕ) (key : Key) (h : Kept top w) (may : may_settle_offers r (part_at w r) key ≡ true) where
  first : FirstWhole w r key
  first = first_whole top w r key may h

  pub none_down_at : (q : ℕ) → 0 < q → q < length key.members → downs_at w.links key q ≡ 0
  none_down_at q pos lt =
      let n = length key.members in
      let m = member_at key.members in
      let k = h.each key first.good in
      let less = parent_below q pos in
      let up = below_at top n m (seat w.parts key) (of_links w.links key) k 0 (parent_of q) (under_first (parent_of q)) (omega (arith, less, lt)) first.whole in
      downs_of_key w.links key (m q) ∙ (gathered top n m (seat w.parts key) (of_links w.links key) k q pos lt up.whole).downs

  pub none_down : AllOf (λ (f : Flight). is_down_of key f.packet ≡ false) w.links
  none_down = AllOf_from_at (λ (f : Flight). is_down_of key f.packet ≡ false) w.links (λ k f e. go k f.from f.to f.packet e)
    where
      go : (k from to : ℕ) (p : Packet) → slice_get w.links k ≡ Some (record { from = from; to = to; packet = p }) → is_down_of key p ≡ false
      go k from to (Up j i own mask) e = refl
      go k from to (Down j i v) e = by (same_key j key) refl
        where
          by : (b : Bool) → same_key j key ≡ b → same_key j key ≡ false
          by false s = s
          by true s =
              let f = downs_fit top w h key i v from to k first.good (subst (λ x. slice_get w.links k ≡ Some (record { from = from; to = to; packet = Down x i v })) (same_key_is j key s) e) in
              let low = f.edge.low in
              let self = same_key-refl key in
              let passes : is_down_to key (member_at key.members f.edge.place) (record { from = from; to = to; packet = Down j i v }) ≡ true = grind (arith, nat_tests, s, low) in
              let some = tally_at (is_down_to key (member_at key.members f.edge.place)) w.links k (record { from = from; to = to; packet = Down j i v }) e passes in
              let none = none_down_at f.edge.place f.edge.above f.edge.inside in
              absurd (omega (arith, some, none))
      go k from to (Share j s) e = refl
      go k from to (Shares j ss) e = refl

  pub none_down_to : (q : ℕ) → tally (is_down_to key q) w.links ≡ 0
  none_down_to q = none_from_AllOf (is_down_to key q) w.links (AllOf_each (λ (f : Flight). is_down_of key f.packet ≡ false) (λ f. is_down_to key q f ≡ false) w.links (λ f e. rw e refl) none_down)

  none_from : (due : Dues) → Dued w due → (k q : ℕ) → q ≤ k → q < length key.members → due_at due key q ≡ None
  none_from due d k zero le lt = d.first key first.good lt
  none_from due d zero (suc q) le lt = absurd (omega (arith, le))
  none_from due d (suc k) (suc q) le lt =
      let less = parent_below (suc q) (omega arith) in
      d.level key (suc q) first.good (omega arith) lt (none_down_at (suc q) (omega arith) lt) ∙ none_from due d k (parent_of (suc q)) (omega (arith, less, le)) (omega (arith, less, lt))

  pub none_due_here : (due : Dues) → Dued w due → (q : ℕ) → due q key ≡ None
  none_due_here due d q = go (due q key) refl
    where
      go : (o : Option Verdict) → due q key ≡ o → due q key ≡ None
      go None e = e
      go (Some v) e =
          let p = member_place key.members q (owner_member top w q key h (d.held q key v e).owns) in
          subst (λ z. due z key ≡ None) p.1 (none_from due d (place_in key.members q) (place_in key.members q) (omega arith) p.0)
