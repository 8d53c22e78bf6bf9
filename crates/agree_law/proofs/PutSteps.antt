-- Calls, offers and packets up: a rank puts an offer into its gather.
use Rattle.std.proofs.Common.{◌≡◌, ◌<◌, ◌&&◌, ℕ, Bool, true, false, if◌then◌else◌, List, [], ◌∷◌, ◌++◌, length, set, refl, sym, subst, ap, ◌∙◌, arith}
use Rattle.std.specs.Prelude.{nat_lt}
use Rattle.mpi_base.specs.declared.keys.Key.{Key}
use Rattle.mpi_base.specs.Keys.{same_key}
use Rattle.mpi_base.specs.MemberLists.{has_rank}
use Rattle.mpi_base.proofs.KeyFacts.{same_key-refl}
use Rattle.agree_law.specs.Tree.{place_in, member_at, parent_of}
use Rattle.agree_law.specs.Part.{Agree, stage_of, round_of}
use Rattle.agree_law.specs.Packets.{Up}
use Rattle.agree_law.specs.Rule.{is_key}
use Rattle.agree_law.specs.Gather.{is_ready}
use Rattle.agree_law.specs.Offers.{up_from, put_offer}
use Rattle.agree_law.specs.World.{Flight, World, part_at, flights_of, moved}
use Rattle.agree_law.proofs.Lists.{AllOf, AllOf-append, AllOf_each}
use Rattle.agree_law.proofs.TreeFacts.{member_place}
use Rattle.agree_law.proofs.RowFacts.{of_key, of_key-append, is_whole, own_of, mask_of, is_ready_is, all_own_is, common_is}
use Rattle.agree_law.proofs.KeyKept.{View, view_of, owned_mask, KeyKept}
use Rattle.agree_law.proofs.Put.{ups_of, Puts, put}
use Rattle.agree_law.proofs.Links.{key_of, of_links, of_links-append, of_links-all, of_links-none}
use Rattle.agree_law.proofs.Kept.{is_good, is_good_at, RowFits, OfferFits, PacketFits, seat, Kept, Distinct_of, seat_here, with_links, kept-moved}

-- what an offer's `Up` is
ups_is : (top : ℕ) (key : Key) (p : ℕ) (b : Agree)
    → flights_of (member_at key.members p) (up_from top b key p) ≡ ups_of top (member_at key.members) p key (view_of b key) (nat_lt 0 p && is_whole (of_key b.gathered key) p (length key.members))
unfolding up_from is_ready
ups_is top key p b =
    rw (is_ready_is b.gathered key p (length key.members), all_own_is b.gathered key, common_is top b.gathered key) (go (nat_lt 0 p && is_whole (of_key b.gathered key) p (length key.members)))
  where
    go : (c : Bool) → flights_of (member_at key.members p) (if c then record { to = member_at key.members (parent_of p); packet = Up key (round_of b.rounds key) (own_of (of_key b.gathered key)) (mask_of top (of_key b.gathered key)) } ∷ [] else [])
        ≡ ups_of top (member_at key.members) p key (view_of b key) c
    go true = refl
    go false = refl

ups_key : (top : ℕ) (m : ℕ → ℕ) (p : ℕ) (key : Key) (v : View) (c : Bool) → AllOf (λ f. key_of f.packet ≡ key) (ups_of top m p key v c)
ups_key top m p key v true = (refl, tt)
ups_key top m p key v false = tt

ups_fit : (n top : ℕ) (m : ℕ → ℕ) (p : ℕ) (key : Key) (v : View) (c : Bool) → is_good n key ≡ true → AllOf (λ f. PacketFits n f.packet) (ups_of top m p key v c)
ups_fit n top m p key v true e = (e, tt)
ups_fit n top m p key v false e = tt

-- the part with one more offer
abbrev pub with_offer : Agree → Key → ℕ → Bool → List Bool → Agree
with_offer a key place own mask = record a { gathered = a.gathered ++ record { key = key; place = place; own = own; mask = mask } ∷ [] }

with_offer_other : (a : Agree) (key : Key) (place : ℕ) (own : Bool) (mask : List Bool) (k : Key) → same_key key k ≡ false → view_of (with_offer a key place own mask) k ≡ view_of a k
with_offer_other a key place own mask k e =
    let x = of_key-append a.gathered (record { key = key; place = place; own = own; mask = mask }) k in
    let y : of_key (a.gathered ++ record { key = key; place = place; own = own; mask = mask } ∷ []) k ≡ of_key a.gathered k = grind (arith, x, e) in
    ap (λ os. record { stage = stage_of a.opened k; round = round_of a.rounds k; offers = os; owns = is_key a.owner k; mask = owned_mask (is_key a.owner k) a.mask }) y

pub with_offer_mine : (a : Agree) (key : Key) (place : ℕ) (own : Bool) (mask : List Bool) → of_key (with_offer a key place own mask).gathered key ≡ of_key a.gathered key ++ record { key = key; place = place; own = own; mask = mask } ∷ []
with_offer_mine a key place own mask =
    let x = of_key-append a.gathered (record { key = key; place = place; own = own; mask = mask }) key in
    let y = same_key-refl key in
    grind (arith, x, y)

-- what a rank has before it puts the offer
pub record Before (top : ℕ) (w : World) (links : List Flight) (r : ℕ) (a : Agree) (key : Key) : Type 0 where
  pub inside : r < length w.parts
  pub good : is_good_at (length w.parts) r key ≡ true
  pub gathered : a.gathered ≡ (part_at w r).gathered
  pub others : (k : Key) → same_key key k ≡ false → is_good (length w.parts) k ≡ true → view_of a k ≡ view_of (part_at w r) k
  pub apart : (k : Key) → same_key key k ≡ false → of_links links k ≡ of_links w.links k
  pub rows : AllOf (RowFits (length w.parts) r) a.opened
  pub flights : AllOf (λ f. PacketFits (length w.parts) f.packet) links
  pub owner : (k : Key) → is_key a.owner k ≡ true → is_good_at (length w.parts) r k ≡ true

pub kept-put : (top : ℕ) (w : World) (links : List Flight) (r : ℕ) (a : Agree) (key : Key) (place : ℕ) (own : Bool) (mask : List Bool) → Kept top w → Before top w links r a key
    → Puts top (length key.members) (member_at key.members) (seat w.parts key) (seat (set w.parts r (with_offer a key place own mask)) key) (of_links w.links key) (of_links links key) (place_in key.members r) (record { key = key; place = place; own = own; mask = mask })
    → Kept top (moved (with_links w links) r (put_offer r top a key place own mask))
unfolding put_offer
kept-put top w links r a key place own mask h u puts =
    let n : ℕ = length w.parts in
    let good : is_good n key ≡ true = grind (arith, u.good) in
    let member : has_rank key.members r ≡ true = grind (arith, u.good) in
    let p : ℕ = place_in key.members r in
    let is : member_at key.members p ≡ r = (member_place key.members r member).1 in
    let b : Agree = with_offer a key place own mask in
    let here : seat (set w.parts r b) key p ≡ view_of b key = seat_here w.parts key r b u.inside member in
    let c : Bool = nat_lt 0 p && is_whole (of_key b.gathered key) p (length key.members) in
    let sent : flights_of r (up_from top b key p) ≡ ups_of top (member_at key.members) p key (view_of b key) c = subst (λ z. flights_of z (up_from top b key p) ≡ ups_of top (member_at key.members) p key (view_of b key) c) is (ups_is top key p b) in
    kept-moved top w links r key (record { part = b; sent = up_from top b key p }) h
    (record {
      inside = u.inside;
      others = λ k e g. with_offer_other a key place own mask k e ∙ u.others k e g;
      apart = λ k e g. rw sent
          (of_links-append links (ups_of top (member_at key.members) p key (view_of b key) c) k
          ∙ ap (λ z. of_links links k ++ z) (of_links-none (ups_of top (member_at key.members) p key (view_of b key) c) k
          (AllOf_each (λ f. key_of f.packet ≡ key) (λ f. same_key (key_of f.packet) k ≡ false) _ (λ f s. rw s e) (ups_key top (member_at key.members) p key (view_of b key) c)))
          ∙ nothing (of_links links k) ∙ u.apart k e);
      mine = λ _. rw sent
          (let all = put top (length key.members) (member_at key.members) (seat w.parts key) (seat (set w.parts r b) key) (of_links w.links key) (of_links links key) p (record { key = key; place = place; own = own; mask = mask }) key (Distinct_of n key good) (h.each key good) puts in
          let moved_all : KeyKept top (length key.members) (member_at key.members) (seat (set w.parts r b) key) (of_links links key ++ ups_of top (member_at key.members) p key (view_of b key) c) =
          subst (λ v. KeyKept top (length key.members) (member_at key.members) (seat (set w.parts r b) key) (of_links links key ++ ups_of top (member_at key.members) p key v (nat_lt 0 p && is_whole v.offers p (length key.members)))) here all in
          subst (λ z. KeyKept top (length key.members) (member_at key.members) (seat (set w.parts r b) key) z)
          (sym (of_links-append links (ups_of top (member_at key.members) p key (view_of b key) c) key
          ∙ ap (λ z. of_links links key ++ z) (of_links-all (ups_of top (member_at key.members) p key (view_of b key) c) key
          (AllOf_each (λ f. key_of f.packet ≡ key) (λ f. same_key (key_of f.packet) key ≡ true) _ (λ f s. rw s (same_key-refl key)) (ups_key top (member_at key.members) p key (view_of b key) c)))))
          moved_all);
      rows = u.rows;
      offers = AllOf-append (OfferFits n r) a.gathered (record { key = key; place = place; own = own; mask = mask } ∷ []) (subst (λ os. AllOf (OfferFits n r) os) (sym u.gathered) (h.offers r)) (u.good, tt);
      flights = rw sent (AllOf-append (λ f. PacketFits n f.packet) links (ups_of top (member_at key.members) p key (view_of b key) c) u.flights (ups_fit n top (member_at key.members) p key (view_of b key) c good));
      owner = u.owner;
    })
  where
    nothing : (xs : List Flight) → xs ++ [] ≡ xs
    nothing [] = refl
    nothing (x ∷ xs) = ap (λ z. x ∷ z) (nothing xs)
