-- Answers, contexts given back, and shares on their way keep what is kept.
use Rattle.std.proofs.Common.{◌≡◌, ◌<◌, ◌==◌, ◌&&◌, not, ℕ, Bool, true, false, if◌then◌else◌, List, [], ◌∷◌, ◌++◌, length, set, Option, Some, None, refl, sym, subst, ap, ◌∙◌, arith}
use Rattle.std.specs.Prelude.{is_none}
use Rattle.std.proofs.lemmas.Bool.Decides.{nat_tests}
use Rattle.mpi_base.specs.declared.keys.Key.{Key}
use Rattle.mpi_base.specs.declared.keys.Kind.TheVariants.{Share as Sharing_kind}
use Rattle.mpi_base.specs.Keys.{same_key}
use Rattle.mpi_base.specs.MemberLists.{has_rank}
use Rattle.mpi_base.proofs.KeyFacts.{same_key-refl}
use Rattle.agree_law.specs.declared.rows.Outcome.{Outcome}
use Rattle.mpi_base.specs.declared.shares.Shared1.{Shared1}
use Rattle.agree_law.specs.declared.rows.Stage.{Stage}
use Rattle.agree_law.specs.declared.rows.Stage.TheVariants.{Sharing, Called, Waiting, Offered, Done}
use Rattle.agree_law.specs.Tree.{place_in, member_at, is_first}
use Rattle.agree_law.specs.Part.{Agree, stage_of, round_of, open_creation}
use Rattle.agree_law.specs.Packets.{Share, Moved, stays}
use Rattle.agree_law.specs.Kinds.{is_share}
use Rattle.agree_law.specs.Rule.{is_key}
use Rattle.agree_law.specs.Shares.{put_share, begin_share, takes_share, take_share}
use Rattle.agree_law.specs.Moves.{give_back, close}
use Rattle.agree_law.specs.World.{Flight, World, part_at, flights_of, moved, is_key_of, head_of, popped, is_done, may_close}
use Rattle.agree_law.proofs.Lists.{AllOf, AllOf-append, tally}
use Rattle.agree_law.proofs.TreeFacts.{member_place}
use Rattle.agree_law.proofs.RowFacts.{or_else, stage_of-open, stage_of-close, of_key, at_place}
use Rattle.agree_law.proofs.KeyKept.{View, view_of, owned_mask, stage_fits, Local, KeyKept}
use Rattle.agree_law.proofs.Alike.{Alike, alike, alike_same}
use Rattle.agree_law.proofs.Links.{key_of, of_links, of_links-append, of_links-none, of_links-other, popped_all, head_has}
use Rattle.agree_law.proofs.Kept.{is_good, RowFits, OfferFits, PacketFits, seat, Kept, seat_here, seat_others, with_links, kept-moved}
use Rattle.agree_law.proofs.OpenRows.{row_at, rows-open, rows-close}
use Rattle.agree_law.proofs.OwnSteps.{fits_at}
use Rattle.agree_law.proofs.Decided.{view_eq}

pub append_nil : {A : Type 0} (xs : List A) → xs ++ [] ≡ xs
append_nil [] = refl
append_nil (x ∷ xs) = ap (λ z. x ∷ z) (append_nil xs)

-- a share key is not good
pub share_bad : (n : ℕ) (key : Key) → is_share key.kind ≡ true → is_good n key ≡ true → ⊥
share_bad n key e g = (let z : not (is_share key.kind) ≡ true = grind (arith, g) in absurd (grind (arith, z, e)))

-- a move that no good key sees
pub record Quiet (top : ℕ) (w : World) (links : List Flight) (r : ℕ) (key : Key) (m : Moved) : Type 0 where
  pub inside : r < length w.parts
  pub share : is_share key.kind ≡ true
  pub others : (k : Key) → same_key key k ≡ false → is_good (length w.parts) k ≡ true → view_of m.part k ≡ view_of (part_at w r) k
  pub apart : (k : Key) → same_key key k ≡ false → of_links links k ≡ of_links w.links k
  pub sent : AllOf (λ (f : Flight). key_of f.packet ≡ key) (flights_of r m.sent)
  pub rows : AllOf (RowFits (length w.parts) r) m.part.opened
  pub offers : m.part.gathered ≡ (part_at w r).gathered
  pub flights : AllOf (λ f. PacketFits (length w.parts) f.packet) links
  pub news : AllOf (λ (f : Flight). PacketFits (length w.parts) f.packet) (flights_of r m.sent)
  pub owner : m.part.owner ≡ (part_at w r).owner

pub kept-quiet : (top : ℕ) (w : World) (links : List Flight) (r : ℕ) (key : Key) (m : Moved) → Kept top w → Quiet top w links r key m → Kept top (moved (with_links w links) r m)
kept-quiet top w links r key m h u =
    kept-moved top w links r key m h
    (record {
      inside = u.inside;
      others = u.others;
      apart = λ k e g.
          of_links-append links (flights_of r m.sent) k
          ∙ ap (λ z. of_links links k ++ z) (of_links-none (flights_of r m.sent) k (each k e (flights_of r m.sent) u.sent))
          ∙ append_nil (of_links links k) ∙ u.apart k e;
      mine = λ g. absurd (share_bad (length w.parts) key u.share g);
      rows = u.rows;
      offers = subst (λ z. AllOf (OfferFits (length w.parts) r) z) (sym u.offers) (h.offers r);
      flights = AllOf-append (λ f. PacketFits (length w.parts) f.packet) links (flights_of r m.sent) u.flights u.news;
      owner = λ k e. h.owner r k (subst (λ o. is_key o k ≡ true) u.owner e);
    })
  where
    each : (k : Key) → same_key key k ≡ false → (fs : List Flight) → AllOf (λ (f : Flight). key_of f.packet ≡ key) fs → AllOf (λ (f : Flight). same_key (key_of f.packet) k ≡ false) fs
    each k e [] a = tt
    each k e (f ∷ fs) a = (ap (λ z. same_key z k) a.0 ∙ e, each k e fs a.1)

-- A context that is given back

abbrev pub dummy : Key
dummy = record { parent = 0; kind = Sharing_kind; number = 0; tag = []; members = [] }

pub kept-back : (top : ℕ) (w : World) (r c : ℕ) → r < length w.parts → is_none (part_at w r).owner ≡ true → Kept top w → Kept top (moved w r (record { part = give_back (part_at w r) c; sent = [] }))
unfolding give_back
kept-back top w r c lt free h =
    kept-quiet top w w.links r dummy (record { part = give_back (part_at w r) c; sent = [] }) h
    (record {
      inside = lt;
      share = refl;
      others = λ k e g. view_eq (part_at w r) (give_back (part_at w r) c) k refl refl refl refl (go (part_at w r).owner k free);
      apart = λ k e. refl;
      sent = tt;
      rows = h.rows r;
      offers = refl;
      flights = h.flights;
      news = tt;
      owner = refl;
    })
  where
    go : (o : Option Key) (k : Key) → is_none o ≡ true → owned_mask (is_key o k) (set (part_at w r).mask c true) ≡ owned_mask (is_key o k) (part_at w r).mask
    go None k e = refl
    go (Some x) k e = absurd (cc)

-- A creation that is answered

fits_done : (c : Outcome) (g n : ℕ) (b : Bool) → stage_fits (Some (Done c)) g n b ≡ true → stage_fits None g n b ≡ true
fits_done c g n b e = e

done_is : (s : Option Stage) → is_done s ≡ true → (c : Outcome) × (s ≡ Some (Done c))
done_is None e = absurd (cc)
done_is (Some (Sharing s)) e = absurd (cc)
done_is (Some Called) e = absurd (cc)
done_is (Some (Waiting i)) e = absurd (cc)
done_is (Some (Offered i own)) e = absurd (cc)
done_is (Some (Done c)) e = (c, refl)

pub kept-close : (top : ℕ) (w : World) (r : ℕ) (key : Key) → r < length w.parts → may_close (part_at w r) key ≡ true → Kept top w → Kept top (moved w r (record { part = close (part_at w r) key; sent = [] }))
unfolding close
kept-close top w r key lt may h =
    let n : ℕ = length w.parts in
    let a : Agree = part_at w r in
    let b : Agree = close a key in
    let d = done_is (stage_of a.opened key) may in
    let row = row_at n r a.opened key (Done d.0) d.1 (h.rows r) in
    let row0 = row.0 in
    let member : has_rank key.members r ≡ true = grind (arith, row0) in
    let V : ℕ → View = seat w.parts key in
    let W : ℕ → View = seat (set w.parts r b) key in
    let p : ℕ = place_in key.members r in
    let at = member_place key.members r member in
    kept-moved top w w.links r key (record { part = b; sent = [] }) h
    (record {
      inside = lt;
      others = λ k e g. view_eq a b k (stage_of-close a.opened key k ∙ (rw e refl)) refl refl refl refl;
      apart = λ k e g. ap (λ z. of_links z k) (append_nil w.links);
      mine = λ g. subst (λ l. KeyKept top (length key.members) (member_at key.members) W (of_links l key)) (sym (append_nil w.links)) (mine g member at.0 at.1 d.0 d.1);
      rows = rows-close n r a.opened key (h.rows r);
      offers = h.offers r;
      flights = subst (λ l. AllOf (λ f. PacketFits n f.packet) l) (sym (append_nil w.links)) h.flights;
      owner = h.owner r;
    })
  where
    mine : is_good (length w.parts) key ≡ true → has_rank key.members r ≡ true → place_in key.members r < length key.members → member_at key.members (place_in key.members r) ≡ r → (c : Outcome) → stage_of (part_at w r).opened key ≡ Some (Done c)
        → KeyKept top (length key.members) (member_at key.members) (seat (set w.parts r (close (part_at w r) key)) key) (of_links w.links key)
    mine g member inside is c e =
        let a : Agree = part_at w r in
        let b : Agree = close a key in
        let V : ℕ → View = seat w.parts key in
        let W : ℕ → View = seat (set w.parts r b) key in
        let p : ℕ = place_in key.members r in
        let here : W p ≡ view_of b key = seat_here w.parts key r b lt member in
        let old : V p ≡ view_of a key = ap (λ z. view_of (part_at w z) key) is in
        let others = seat_others (length w.parts) w.parts key r b g member in
        let k = h.each key g in
        let none : stage_of b.opened key ≡ None = stage_of-close a.opened key key ∙ (rw (same_key-refl key) refl) in
        let f : stage_fits None (round_of a.rounds key) (tally (at_place p) (of_key a.gathered key)) (is_key a.owner key) ≡ true = fits_done c (round_of a.rounds key) (tally (at_place p) (of_key a.gathered key)) (is_key a.owner key) (subst (λ s. stage_fits s (round_of a.rounds key) (tally (at_place p) (of_key a.gathered key)) (is_key a.owner key) ≡ true) e (fits_at top w r key (grind (arith, g, member)) h)) in
        let near : Alike (V p) (W p) = subst (λ v. Alike v (W p)) (sym old) (subst (λ v. Alike (view_of a key) v) (sym here) (record { round = refl; offers = refl; owns = refl; mask = refl })) in
        let mine_fits : Local (W p) p = subst (λ v. Local v p) (sym here) (subst (λ s. stage_fits s (round_of a.rounds key) (tally (at_place p) (of_key a.gathered key)) (is_key a.owner key) ≡ true) (sym none) f) in
        alike top (length key.members) (member_at key.members) V W (of_links w.links key)
        (λ q l. by q l (q == p) refl near)
        (λ q l. by_fits q l (q == p) refl mine_fits)
        k
      where
        by : (q : ℕ) → q < length key.members → (x : Bool) → (q == place_in key.members r) ≡ x → Alike (seat w.parts key (place_in key.members r)) (seat (set w.parts r (close (part_at w r) key)) key (place_in key.members r)) → Alike (seat w.parts key q) (seat (set w.parts r (close (part_at w r) key)) key q)
        by q l true s near = let is : place_in key.members r ≡ q = grind (arith, nat_tests, s) in subst (λ z. Alike (seat w.parts key z) (seat (set w.parts r (close (part_at w r) key)) key z)) is near
        by q l false s near = alike_same (seat w.parts key q) (seat (set w.parts r (close (part_at w r) key)) key q) (seat_others (length w.parts) w.parts key r (close (part_at w r) key) g member q l (grind (arith, nat_tests, s)))

        by_fits : (q : ℕ) → q < length key.members → (x : Bool) → (q == place_in key.members r) ≡ x → Local (seat (set w.parts r (close (part_at w r) key)) key (place_in key.members r)) (place_in key.members r) → Local (seat (set w.parts r (close (part_at w r) key)) key q) q
        by_fits q l true s f = let is : place_in key.members r ≡ q = grind (arith, nat_tests, s) in subst (λ z. Local (seat (set w.parts r (close (part_at w r) key)) key z) z) is f
        by_fits q l false s f = subst (λ v. Local v q) (sym (seat_others (length w.parts) w.parts key r (close (part_at w r) key) g member q l (grind (arith, nat_tests, s)))) ((h.each key g).fits q l)

-- Shares

pub kept-begin_share : (top : ℕ) (w : World) (r : ℕ) (key : Key) (s : Shared1) → r < length w.parts → is_share key.kind ≡ true → (is_key_of (length w.parts) key && has_rank key.members r) ≡ true → Kept top w → Kept top (moved w r (begin_share r (part_at w r) key s))
unfolding begin_share
kept-begin_share top w r key s lt share good h = go (is_first r key.members)
  where
    a : Agree
    a = part_at w r

    b : Agree
    b = record (part_at w r) { opened = open_creation (part_at w r).opened key (Sharing s) }

    others : (c : Agree) → c.opened ≡ open_creation a.opened key (Sharing s) → c.rounds ≡ a.rounds → c.gathered ≡ a.gathered → c.owner ≡ a.owner → c.mask ≡ a.mask → (k : Key) → same_key key k ≡ false → view_of c k ≡ view_of a k
    others c p q t o m k e =
        let x : stage_of (open_creation a.opened key (Sharing s)) k ≡ stage_of a.opened k = stage_of-open a.opened key (Sharing s) k ∙ ap (λ z. or_else (stage_of a.opened k) (if z then Some (Sharing s) else None)) e ∙ same (stage_of a.opened k) in
        view_eq a c k (ap (λ z. stage_of z k) p ∙ x) (ap (λ z. round_of z k) q) (ap (λ z. of_key z k) t) (ap (λ z. is_key z k) o) (ap (λ z. owned_mask (is_key z k) c.mask) o ∙ ap (λ z. owned_mask (is_key a.owner k) z) m)
      where
        same : (o : Option Stage) → or_else o None ≡ o
        same None = refl
        same (Some x) = refl

    rows : AllOf (RowFits (length w.parts) r) b.opened
    rows = rows-open (length w.parts) r a.opened key (Sharing s) good (rw share refl) (h.rows r)

    go : (c : Bool) → Kept top (moved w r (if c then record { part = put_share b key 0 s; sent = [] } else record { part = b; sent = record { to = member_at key.members 0; packet = Share key s } ∷ [] }))
    go true =
        kept-quiet top w w.links r key (record { part = put_share b key 0 s; sent = [] }) h
        (record { inside = lt; share = share; others = λ k e g. others (put_share b key 0 s) refl refl refl refl refl k e; apart = λ k e. refl; sent = tt; rows = rows; offers = refl; flights = h.flights; news = tt; owner = refl })
    go false =
        kept-quiet top w w.links r key (record { part = b; sent = record { to = member_at key.members 0; packet = Share key s } ∷ [] }) h
        (record { inside = lt; share = share; others = λ k e g. others b refl refl refl refl refl k e; apart = λ k e. refl; sent = (refl, tt); rows = rows; offers = refl; flights = h.flights; news = (grind (arith, good, share), tt); owner = refl })

pub kept-take_share : (top : ℕ) (w : World) (from r : ℕ) (key : Key) (s : Shared1) → r < length w.parts → head_of w.links from r ≡ Some (Share key s) → Kept top w → Kept top (moved (with_links w (popped w.links from r)) r (take_share r (part_at w r) from key s))
unfolding take_share
kept-take_share top w from r key s lt head h =
    let fit : (is_key_of (length w.parts) key && is_share key.kind) ≡ true = head_has (PacketFits (length w.parts)) w.links from r (Share key s) head h.flights in
    let share : is_share key.kind ≡ true = grind (arith, fit) in
    go (takes_share r (part_at w r) from key) share
  where
    quiet : (a : Agree) → a.opened ≡ (part_at w r).opened → a.rounds ≡ (part_at w r).rounds → a.gathered ≡ (part_at w r).gathered → a.owner ≡ (part_at w r).owner → a.mask ≡ (part_at w r).mask → is_share key.kind ≡ true
        → Kept top (moved (with_links w (popped w.links from r)) r (record { part = a; sent = [] }))
    quiet a p q t o m share =
        kept-quiet top w (popped w.links from r) r key (record { part = a; sent = [] }) h
        (record {
          inside = lt;
          share = share;
          others = λ k e g. view_eq (part_at w r) a k (ap (λ z. stage_of z k) p) (ap (λ z. round_of z k) q) (ap (λ z. of_key z k) t) (ap (λ z. is_key z k) o) (ap (λ z. owned_mask (is_key z k) a.mask) o ∙ ap (λ z. owned_mask (is_key (part_at w r).owner k) z) m);
          apart = λ k e. of_links-other w.links from r (Share key s) k head e;
          sent = tt;
          rows = subst (λ z. AllOf (RowFits (length w.parts) r) z) (sym p) (h.rows r);
          offers = t;
          flights = popped_all (λ f. PacketFits (length w.parts) f.packet) w.links from r h.flights;
          news = tt;
          owner = o;
        })

    go : (c : Bool) → is_share key.kind ≡ true → Kept top (moved (with_links w (popped w.links from r)) r (if c then record { part = put_share (part_at w r) key (place_in key.members from) s; sent = [] } else stays (part_at w r)))
    go true share = quiet (put_share (part_at w r) key (place_in key.members from) s) refl refl refl refl refl share
    go false share = quiet (part_at w r) refl refl refl refl refl share
