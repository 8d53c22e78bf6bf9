-- The shares of a split come to a member: the exchange is closed and the class is called.
use Rattle.std.proofs.Common.{◌≡◌, ◌<◌, ◌&&◌, ℕ, ℤ, zero, suc, Bool, true, false, if◌then◌else◌, List, [], ◌∷◌, ◌++◌, map, length, set, slice_get, Option, Some, None, refl, sym, subst, ap, ◌∙◌, arith}
use Rattle.std.specs.Option.{is_some}
use Rattle.mpi_base.specs.declared.keys.Key.{Key}
use Rattle.mpi_base.specs.Keys.{same_key}
use Rattle.mpi_base.specs.MemberLists.{has_rank}
use Rattle.mpi_base.specs.declared.shares.Shared1.{Shared1}
use Rattle.agree_law.specs.declared.rows.Stage.{Stage}
use Rattle.agree_law.specs.declared.rows.Stage.TheVariants.{Sharing, Called, Waiting, Offered, Done}
use Rattle.agree_law.specs.Tree.{place_in}
use Rattle.agree_law.specs.Part.{Agree, fresh, stage_of, round_of, close_creation, drop_shares}
use Rattle.agree_law.specs.Packets.{Packet, Shares, Sent, Moved, stays}
use Rattle.agree_law.specs.Kinds.{is_share}
use Rattle.agree_law.specs.Rule.{is_key}
use Rattle.agree_law.specs.Offers.{begin}
use Rattle.agree_law.specs.Classes.{split_key}
use Rattle.agree_law.specs.Shares.{is_own_share, takes_shares, colour_at, divide, take_shares, share_list, to_others, after_sending, settle_share}
use Rattle.agree_law.specs.World.{Flight, World, part_at, flights_of, moved, is_key_of, head_of, popped}
use Rattle.agree_law.proofs.Lists.{AllOf, set_place, length-set}
use Rattle.agree_law.proofs.TreeFacts.{member_place}
use Rattle.agree_law.proofs.RowFacts.{stage_of-close, of_key}
use Rattle.agree_law.proofs.KeyKept.{owned_mask}
use Rattle.agree_law.proofs.Links.{key_of, of_links, of_links-other, popped_all, head_has}
use Rattle.agree_law.proofs.Kept.{is_good_at, RowFits, PacketFits, Kept, with_links}
use Rattle.agree_law.proofs.OpenRows.{rows-close}
use Rattle.agree_law.proofs.OwnSteps.{kept-begin}
use Rattle.agree_law.proofs.Decided.{view_eq}
use Rattle.agree_law.proofs.OtherSteps.{append_nil, kept-quiet}
use Rattle.agree_law.proofs.Classes.{class_good}
use Rattle.agree_law.proofs.Apart.{Apart, none_after}

-- Two moves of a rank in one step

set-set : {A : Type 0} (xs : List A) (i : ℕ) (x y : A) → set (set xs i x) i y ≡ set xs i y
set-set [] i x y = refl
set-set (z ∷ xs) zero x y = refl
set-set (z ∷ xs) (suc i) x y = ap (λ w. z ∷ w) (set-set xs i x y)

pub flights_of-append : (r : ℕ) (xs ys : List Sent) → flights_of r (xs ++ ys) ≡ flights_of r xs ++ flights_of r ys
flights_of-append r [] ys = refl
flights_of-append r (x ∷ xs) ys = ap (λ w. record { from = r; to = x.to; packet = x.packet } ∷ w) (flights_of-append r xs ys)

append_three : {A : Type 0} (xs ys zs : List A) → (xs ++ ys) ++ zs ≡ xs ++ (ys ++ zs)
append_three [] ys zs = refl
append_three (x ∷ xs) ys zs = ap (λ w. x ∷ w) (append_three xs ys zs)

pub part_here : (w : World) (links : List Flight) (r : ℕ) (m : Moved) → r < length w.parts → part_at (moved (with_links w links) r m) r ≡ m.part
unfolding moved
part_here w links r m lt = let at = set_place w.parts r m.part (fresh 0) r in grind (arith, at, lt)

abbrev world_of : List Agree → List Flight → World
world_of parts links = record { parts = parts; links = links }

pub moved_twice : (w : World) (links : List Flight) (r : ℕ) (a : Agree) (xs : List Sent) (m : Moved) → moved (moved (with_links w links) r (record { part = a; sent = xs })) r m ≡ moved (with_links w links) r (after_sending xs m)
unfolding moved
moved_twice w links r a xs m =
    let p = set-set w.parts r a m.part in
    let q = append_three links (flights_of r xs) (flights_of r m.sent) ∙ ap (λ z. links ++ z) (sym (flights_of-append r xs m.sent)) in
    ap (λ z. world_of z ((links ++ flights_of r xs) ++ flights_of r m.sent)) p ∙ ap (λ z. world_of (set w.parts r m.part) z) q

pub moved_size : (w : World) (links : List Flight) (r : ℕ) (m : Moved) → length (moved (with_links w links) r m).parts ≡ length w.parts
unfolding moved
moved_size w links r m = length-set w.parts r m.part

-- what a member has when the shares come
pub record Dividing (top : ℕ) (w : World) (links : List Flight) (r : ℕ) (a : Agree) (key : Key) (list : List Shared1) (xs : List Sent) : Type 0 where
  pub inside : r < length w.parts
  pub share : is_share key.kind ≡ true
  pub member : (is_key_of (length w.parts) key && has_rank key.members r) ≡ true
  pub opened : a.opened ≡ (part_at w r).opened
  pub rounds : a.rounds ≡ (part_at w r).rounds
  pub gathered : a.gathered ≡ (part_at w r).gathered
  pub owner : a.owner ≡ (part_at w r).owner
  pub mask : a.mask ≡ (part_at w r).mask
  pub sharing : is_some (stage_of a.opened key) ≡ true
  pub apart : (k : Key) → same_key key k ≡ false → of_links links k ≡ of_links w.links k
  pub flights : AllOf (λ f. PacketFits (length w.parts) f.packet) links
  pub sent : AllOf (λ (f : Flight). key_of f.packet ≡ key) (flights_of r xs)
  pub news : AllOf (λ (f : Flight). PacketFits (length w.parts) f.packet) (flights_of r xs)

-- the rank's rows change at the exchange alone
quiet_rows : (top : ℕ) (w : World) (links : List Flight) (r : ℕ) (a b : Agree) (key : Key) (list : List Shared1) (xs : List Sent) → Kept top w → Dividing top w links r a key list xs → AllOf (RowFits (length w.parts) r) b.opened → ((k : Key) → same_key key k ≡ false → stage_of b.opened k ≡ stage_of a.opened k)
    → b.rounds ≡ a.rounds → b.gathered ≡ a.gathered → b.owner ≡ a.owner → b.mask ≡ a.mask → Kept top (moved (with_links w links) r (record { part = b; sent = xs }))
quiet_rows top w links r a b key list xs h d rows stages p q o m =
    kept-quiet top w links r key (record { part = b; sent = xs }) h
    (record {
      inside = d.inside;
      share = d.share;
      others = λ k e g. view_eq (part_at w r) b k (stages k e ∙ ap (λ z. stage_of z k) d.opened) (ap (λ z. round_of z k) (p ∙ d.rounds)) (ap (λ z. of_key z k) (q ∙ d.gathered)) (ap (λ z. is_key z k) (o ∙ d.owner))
          (ap (λ z. owned_mask (is_key z k) b.mask) (o ∙ d.owner) ∙ ap (λ z. owned_mask (is_key (part_at w r).owner k) z) (m ∙ d.mask));
      apart = d.apart;
      sent = d.sent;
      rows = rows;
      offers = q ∙ d.gathered;
      flights = d.flights;
      news = d.news;
      owner = o ∙ d.owner;
    })

pub kept-divide : (top : ℕ) (w : World) (links : List Flight) (r : ℕ) (a : Agree) (key : Key) (list : List Shared1) (xs : List Sent) → Kept top w → Apart (part_at w r).opened → Dividing top w links r a key list xs → (s : Shared1) → slice_get list (place_in key.members r) ≡ Some s
    → Kept top (moved (with_links w links) r (after_sending xs (divide r top a key s.colour list)))
unfolding divide
kept-divide top w links r a key list xs h apart_rows d s there = go s.colour refl
  where
    rows : AllOf (RowFits (length w.parts) r) a.opened
    rows = subst (λ z. AllOf (RowFits (length w.parts) r) z) (sym d.opened) (h.rows r)

    go : (c : Option ℤ) → s.colour ≡ c → Kept top (moved (with_links w links) r (after_sending xs (divide r top a key c list)))
    go None e =
        subst (λ z. Kept top (moved (with_links w links) r (record { part = record a { opened = close_creation a.opened key }; sent = z }))) (sym (append_nil xs))
        (quiet_rows top w links r a (record a { opened = close_creation a.opened key }) key list xs h d (rows-close (length w.parts) r a.opened key rows)
        (λ k f. stage_of-close a.opened key k ∙ (rw f refl)) refl refl refl refl)
    go (Some c) e =
        let b : Agree = record a { opened = close_creation a.opened key } in
        let w1 : World = moved (with_links w links) r (record { part = b; sent = xs }) in
        let kept1 : Kept top w1 = quiet_rows top w links r a b key list xs h d (rows-close (length w.parts) r a.opened key rows) (λ k f. stage_of-close a.opened key k ∙ (rw f refl)) refl refl refl refl in
        let here : part_at w1 r ≡ b = part_here w links r (record { part = b; sent = xs }) d.inside in
        let size : length w1.parts ≡ length w.parts = moved_size w links r (record { part = b; sent = xs }) in
        let m = d.member in
        let at = member_place key.members r (grind (arith, m)) in
        let good_class = class_good (length w.parts) r (place_in key.members r) key list s (grind (arith, m)) at.1 at.0 there in
        let k : Key = split_key key (Some c) list in
        let good : (is_key_of (length w.parts) k ≡ true) × (has_rank k.members r ≡ true) = subst (λ z. (is_key_of (length w.parts) (split_key key z list) ≡ true) × (has_rank (split_key key z list).members r ≡ true)) e good_class in
        let g0 = good.0 in
        let g1 = good.1 in
        let good_at : is_good_at (length w1.parts) r k ≡ true = rw size (grind (arith, g0, g1)) in
        let sh = d.share in
        let none : stage_of (part_at w1 r).opened k ≡ None = rw here (is_none_of (stage_of b.opened k) (none_after a.opened key (grind (arith, sh)) d.sharing (subst Apart (sym d.opened) apart_rows) k refl refl refl)) in
        let inside1 : r < length w1.parts = rw size d.inside in
        let all : Kept top (moved w1 r (begin r top (part_at w1 r) k)) = kept-begin top w1 r k inside1 good_at none kept1 in
        subst (Kept top) (moved_twice w links r b xs (begin r top b k)) (subst (λ z. Kept top (moved w1 r (begin r top z k))) here all)
      where
        is_none_of : (o : Option Stage) → is_some o ≡ false → o ≡ None
        is_none_of None e = refl
        is_none_of (Some x) e = absurd (cc)

-- the shares of an exchange that is open here
sharing_some : (o : Option Stage) (t : Option Shared1) → is_own_share o t ≡ true → (is_some o ≡ true) × ((s : Shared1) × (t ≡ Some s))
sharing_some None t e = absurd (cc)
sharing_some (Some (Sharing s)) None e = absurd (cc)
sharing_some (Some (Sharing s)) (Some t) e = (refl, (t, refl))
sharing_some (Some Called) t e = absurd (cc)
sharing_some (Some (Waiting i)) t e = absurd (cc)
sharing_some (Some (Offered i own)) t e = absurd (cc)
sharing_some (Some (Done c)) t e = absurd (cc)

pub record Taking (r : ℕ) (a : Agree) (key : Key) (list : List Shared1) : Type 0 where
  pub member : has_rank key.members r ≡ true
  pub sharing : is_some (stage_of a.opened key) ≡ true
  pub share : Shared1
  pub there : slice_get list (place_in key.members r) ≡ Some share

pub taking : (r : ℕ) (a : Agree) (from : ℕ) (key : Key) (list : List Shared1) → takes_shares r a from key list ≡ true → Taking r a key list
unfolding takes_shares
taking r a from key list e =
    let x = sharing_some (stage_of a.opened key) (slice_get list (place_in key.members r)) (grind (arith, e)) in
    record { member = grind (arith, e); sharing = x.0; share = x.1.0; there = x.1.1 }

pub kept-shares : (top : ℕ) (w : World) (from r : ℕ) (key : Key) (list : List Shared1) → r < length w.parts → head_of w.links from r ≡ Some (Shares key list) → Kept top w → Apart (part_at w r).opened
    → Kept top (moved (with_links w (popped w.links from r)) r (take_shares r top (part_at w r) from key list))
unfolding take_shares
kept-shares top w from r key list lt head h apart_rows = go (takes_shares r (part_at w r) from key list) refl
  where
    fit : (is_key_of (length w.parts) key && is_share key.kind) ≡ true
    fit = head_has (PacketFits (length w.parts)) w.links from r (Shares key list) head h.flights

    go : (c : Bool) → takes_shares r (part_at w r) from key list ≡ c → Kept top (moved (with_links w (popped w.links from r)) r (if c then divide r top (part_at w r) key (colour_at (slice_get list (place_in key.members r))) list else stays (part_at w r)))
    go true e =
        let t = taking r (part_at w r) from key list e in
        let f = fit in
        let member = t.member in
        let there = t.there in
        let all : Kept top (moved (with_links w (popped w.links from r)) r (divide r top (part_at w r) key t.share.colour list)) =
        kept-divide top w (popped w.links from r) r (part_at w r) key list [] h apart_rows
        (record {
          inside = lt;
          share = grind (arith, f);
          member = grind (arith, f, member);
          opened = refl;
          rounds = refl;
          gathered = refl;
          owner = refl;
          mask = refl;
          sharing = t.sharing;
          apart = λ k g. of_links-other w.links from r (Shares key list) k head g;
          flights = popped_all (λ f. PacketFits (length w.parts) f.packet) w.links from r h.flights;
          sent = tt;
          news = tt;
        }) t.share there in
        subst (λ o. Kept top (moved (with_links w (popped w.links from r)) r (divide r top (part_at w r) key (colour_at o) list))) (sym there) all
    go false e =
        let f = fit in
        kept-quiet top w (popped w.links from r) r key (stays (part_at w r)) h
        (record {
          inside = lt;
          share = grind (arith, f);
          others = λ k g x. refl;
          apart = λ k g. of_links-other w.links from r (Shares key list) k head g;
          sent = tt;
          rows = h.rows r;
          offers = refl;
          flights = popped_all (λ f. PacketFits (length w.parts) f.packet) w.links from r h.flights;
          news = tt;
          owner = refl;
        })

-- The first member has all shares

others_all : (P : Flight → Type 0) (r : ℕ) (ms : List ℕ) (p : Packet) → ((q : ℕ) → P (record { from = r; to = q; packet = p })) → AllOf P (flights_of r (to_others ms p))
others_all P r [] p f = tt
others_all P r (m ∷ ms) p f = go ms
  where
    go : (ms : List ℕ) → AllOf P (flights_of r (map (λ q. record { to = q; packet = p }) ms))
    go [] = tt
    go (m ∷ ms) = (f m, go ms)

-- an exchange that is settled has open rows, or nothing of it is taken
pub kept-settle_share : (top : ℕ) (w : World) (r : ℕ) (key : Key) → r < length w.parts → is_share key.kind ≡ true → is_key_of (length w.parts) key ≡ true → Kept top w → Apart (part_at w r).opened
    → Kept top (moved w r (settle_share r top (part_at w r) key))
unfolding settle_share take_shares
kept-settle_share top w r key lt share good h apart_rows = go (takes_shares r a r key list) refl
  where
    list : List Shared1
    list = share_list (part_at w r).shares key

    a : Agree
    a = record (part_at w r) { shares = drop_shares (part_at w r).shares key }

    xs : List Sent
    xs = to_others key.members (Shares key list)

    go : (c : Bool) → takes_shares r a r key list ≡ c → Kept top (moved w r (after_sending xs (if c then divide r top a key (colour_at (slice_get list (place_in key.members r))) list else stays a)))
    go true e =
        let t = taking r a r key list e in
        let member = t.member in
        let there = t.there in
        let all : Kept top (moved w r (after_sending xs (divide r top a key t.share.colour list))) =
        kept-divide top w w.links r a key list xs h apart_rows
        (record {
          inside = lt;
          share = share;
          member = grind (arith, good, member);
          opened = refl;
          rounds = refl;
          gathered = refl;
          owner = refl;
          mask = refl;
          sharing = t.sharing;
          apart = λ k g. refl;
          flights = h.flights;
          sent = others_all (λ f. key_of f.packet ≡ key) r key.members (Shares key list) (λ q. refl);
          news = others_all (λ f. PacketFits (length w.parts) f.packet) r key.members (Shares key list) (λ q. grind (arith, good, share));
        }) t.share there in
        subst (λ o. Kept top (moved w r (after_sending xs (divide r top a key (colour_at o) list)))) (sym there) all
    go false e =
        subst (λ z. Kept top (moved w r (record { part = a; sent = z }))) (sym (append_nil xs))
        (kept-quiet top w w.links r key (record { part = a; sent = xs }) h
        (record {
          inside = lt;
          share = share;
          others = λ k g x. refl;
          apart = λ k g. refl;
          sent = others_all (λ f. key_of f.packet ≡ key) r key.members (Shares key list) (λ q. refl);
          rows = h.rows r;
          offers = refl;
          flights = h.flights;
          news = others_all (λ f. PacketFits (length w.parts) f.packet) r key.members (Shares key list) (λ q. grind (arith, good, share));
          owner = refl;
        }))
