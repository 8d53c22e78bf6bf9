-- An offer, a settle and a delivery against the agreement's world.
use Rattle.std.proofs.Common.{◌≡◌, ◌<◌, ℕ, Bool, true, false, List, [], ◌∷◌, length, drop, slice_get, Option, Some, None, refl, sym, subst, ap, ◌∙◌, arith}
use Rattle.std.specs.Prelude.{nat_lt, is_some}
use Rattle.std.proofs.lemmas.Bool.Decides.{nat_tests}
use Rattle.mpi_base.specs.declared.keys.Key.{Key}
use Rattle.mpi_base.specs.declared.entries.Act.TheVariants.{Deliver, Offer as MakeOffer, Settle}
use Rattle.mpi_base.specs.declared.messages.Msg.{Msg}
use Rattle.agree_law.specs.Packets as agree
use Rattle.agree_law.specs.Moves as agree_moves
use Rattle.agree_law.specs.Kinds.{is_share}
use Rattle.agree_law.specs.Offers.{make_offer, may_offer}
use Rattle.agree_law.specs.Moves.{settle, deliver, may_settle}
use Rattle.agree_law.specs.World as agreement
use Rattle.agree_law.specs.World.{Event, part_at, may_happen, happens, run, is_done, head_of, popped, came}
use Rattle.share_law.proofs.Exchanges.{arrivers_are_taken}
use Rattle.mpi_protocol.specs.Packets.{Packet, Agreeing, Message, Marker}
use Rattle.mpi_protocol.specs.Rank.{Rank}
use Rattle.mpi_protocol.specs.Moves.{Move}
use Rattle.mpi_protocol.specs.Agreeing.{offers, settles_as, settles}
use Rattle.mpi_protocol.specs.Delivers.{takes_packet, agrees, taken_if, delivers}
use Rattle.mpi_protocol.specs.Step.{step}
use Rattle.mpi_protocol.specs.World.{World, rank_at, link, with_link}
use Rattle.projection_law.specs.Facts.{EachMayHappen}
use Rattle.projection_law.proofs.Projected.{Projects, same_size, same_part, with_flights, Taken, agreement_taken, other_taken}
use Rattle.projection_law.proofs.Targets.{goes-offer, goes-settle, goes-deliver}
use Rattle.projection_law.proofs.Moved.{Ruled, after_put, quiet_projects}
use Rattle.projection_law.specs.Events.{packet_events}
use Rattle.projection_law.proofs.Events.{Mirrors}
use Rattle.projection_law.proofs.OneEvent.{IsMove, one_event}
use Rattle.projection_law.proofs.Calls.{arrives_agree}

module _ (top : ℕ) (w : World) (a : agreement.World) (r : ℕ) (p : Projects w a) (h : Ruled top a) (lt : r < length w.ranks) (num : (rank_at w r).rank ≡ r) (tops : (rank_at w r).setting.contexts ≡ top) where
  -- the events of a move may happen, and the worlds belong together after both
  abbrev Both : Move → List Event → Type 0
  Both m es = EachMayHappen top a es × Projects (after_put w r m.state m.sent) (run top es a)

  inside : nat_lt r (length a.parts) ≡ true
  inside = let n = same_size w a p in grind (arith, nat_tests, n, lt)

  here : part_at a r ≡ (rank_at w r).agree
  here = same_part w a r p lt

  -- Offers

  pub offer_mirrors : (key : Key) → may_offer (rank_at w r).agree key ≡ true → Mirrors top w a r (MakeOffer key)
  unfolding step offers
  offer_mirrors key may =
      let b : IsMove top a a r (agreement.Offer r key) (make_offer (rank_at w r).rank (rank_at w r).setting.contexts (rank_at w r).agree key) = record {
        may = rw (inside, here) may;
        does = ap (λ z. agreement.moved a r (make_offer r top z key)) here ∙ (ap (λ z. agreement.moved a r (make_offer z top (rank_at w r).agree key)) (sym num) ∙ ap (λ z. agreement.moved a r (make_offer (rank_at w r).rank z (rank_at w r).agree key)) (sym tops));
        goes = goes-offer (length a.parts) (rank_at w r).rank (rank_at w r).setting.contexts (rank_at w r).agree key;
      } in
      record { may = (b.may, tt); projects = one_event top w a a r (agreement.Offer r key) _ p h lt b _ refl }

  -- Settles

  settling : (key : Key) → may_settle (rank_at w r).rank (rank_at w r).agree key ≡ true → IsMove top a a r (agreement.Settle r key) (settle (rank_at w r).rank (rank_at w r).setting.contexts (rank_at w r).agree key)
  settling key may = record {
    may = rw (inside, here) (subst (λ z. may_settle z (rank_at w r).agree key ≡ true) num may);
    does = ap (λ z. agreement.moved a r (settle r top z key)) here ∙ (ap (λ z. agreement.moved a r (settle z top (rank_at w r).agree key)) (sym num) ∙ ap (λ z. agreement.moved a r (settle (rank_at w r).rank z (rank_at w r).agree key)) (sym tops));
    goes = goes-settle (length a.parts) (rank_at w r).rank (rank_at w r).setting.contexts (rank_at w r).agree key;
  }

  settled_so : (key : Key) → may_settle (rank_at w r).rank (rank_at w r).agree key ≡ true → (b : Bool) → Both (settles_as (rank_at w r) key b) (agreement.Settle r key ∷ [])
  settled_so key may true = let b = settling key may in ((b.may, tt), one_event top w a a r (agreement.Settle r key) _ p h lt b _ refl)
  settled_so key may false = let b = settling key may in ((b.may, tt), one_event top w a a r (agreement.Settle r key) _ p h lt b _ refl)

  pub settle_mirrors : (key : Key) → may_settle (rank_at w r).rank (rank_at w r).agree key ≡ true → Mirrors top w a r (Settle key)
  unfolding step settles
  settle_mirrors key may = let b = settled_so key may (is_share key.kind) in record { may = b.0; projects = b.1 }

  -- Deliveries

  -- the world without the head of a link to the rank
  abbrev popped_link : ℕ → World
  popped_link from = with_link w from r (drop 1 (link w from r))

  -- the same of a move once the head of a link is taken
  abbrev Arrived : ℕ → Move → List Event → Type 0
  Arrived from m es = EachMayHappen top a es × Projects (after_put (popped_link from) r m.state m.sent) (run top es a)

  arriving : (from : ℕ) (q : agree.Packet) → head_of a.links from r ≡ Some q
      → IsMove top a (with_flights a (popped a.links from r)) r (agreement.Deliver r from) (deliver (rank_at w r).rank (rank_at w r).setting.contexts (rank_at w r).agree from q)
  arriving from q head =
      let b = with_flights a (popped a.links from r) in
      record {
        may = rw (inside, head) refl;
        does = ap (came top a r from) head ∙ (ap (λ z. agreement.moved b r (deliver r top z from q)) here ∙ (ap (λ z. agreement.moved b r (deliver z top (rank_at w r).agree from q)) (sym num) ∙ ap (λ z. agreement.moved b r (deliver (rank_at w r).rank z (rank_at w r).agree from q)) (sym tops)));
        goes = goes-deliver (length a.parts) (rank_at w r).rank (rank_at w r).setting.contexts (rank_at w r).agree from q;
      }

  -- each packet of the agreement that is delivered is taken
  pub delivered_is_taken : (from : ℕ) (q : agree.Packet) → head_of a.links from r ≡ Some q → agree_moves.takes_packet (rank_at w r).rank (rank_at w r).agree from q ≡ true
  delivered_is_taken from q head =
      let n = same_size w a p in
      let t = arrivers_are_taken top a h.holds.kept h.exchanges r from q (omega (arith, n, lt)) head in
      subst (λ z. agree_moves.takes_packet z (rank_at w r).agree from q ≡ true) (sym num) (subst (λ b. agree_moves.takes_packet r b from q ≡ true) here t)

  arrived_so : (from : ℕ) (q : agree.Packet) → Taken w a from r q → Arrived from (agrees (rank_at w r) q (deliver (rank_at w r).rank (rank_at w r).setting.contexts (rank_at w r).agree from q)) (agreement.Deliver r from ∷ [])
  arrived_so from (agree.Up key i own mask) t =
      let b = arriving from (agree.Up key i own mask) t.head in
      ((b.may, tt), one_event top (popped_link from) a _ r (agreement.Deliver r from) _ t.rest h lt b _ refl)
  arrived_so from (agree.Down key i v) t =
      let b = arriving from (agree.Down key i v) t.head in
      ((b.may, tt), one_event top (popped_link from) a _ r (agreement.Deliver r from) _ t.rest h lt b _ refl)
  arrived_so from (agree.Share key s) t =
      let b = arriving from (agree.Share key s) t.head in
      ((b.may, tt), one_event top (popped_link from) a _ r (agreement.Deliver r from) _ t.rest h lt b _ refl)
  arrived_so from (agree.Shares key list) t =
      let b = arriving from (agree.Shares key list) t.head in
      ((b.may, tt), one_event top (popped_link from) a _ r (agreement.Deliver r from) _ t.rest h lt b _ refl)

  -- any other packet changes nothing in the agreement
  other_so : (from : ℕ) (q : Packet) → Projects (popped_link from) a → (y : Rank) → y.agree ≡ (rank_at w r).agree → Projects (after_put (popped_link from) r y []) a
  other_so from q rest y is = quiet_projects (popped_link from) a r y [] rest lt is refl tt

  message_so : (from : ℕ) (m : Msg) (b : Bool) → Projects (popped_link from) a → Arrived from (taken_if b (rank_at w r) from (Message m)) []
  message_so from m true rest = (tt, other_so from (Message m) rest _ (arrives_agree (rank_at w r) m))
  message_so from m false rest = (tt, other_so from (Message m) rest _ refl)

  marker_so : (from c : ℕ) (b : Bool) → Projects (popped_link from) a → Arrived from (taken_if b (rank_at w r) from (Marker c)) []
  marker_so from c true rest = (tt, other_so from (Marker c) rest _ refl)
  marker_so from c false rest = (tt, other_so from (Marker c) rest _ refl)

  delivered_so : (from : ℕ) (o : Option Packet) → from < length w.ranks → slice_get (link w from r) 0 ≡ o → is_some o ≡ true → Arrived from (delivers (rank_at w r) from o) (packet_events r from o)
  unfolding delivers takes_packet
  delivered_so from None lf e some = absurd (cc (some))
  delivered_so from (Some (Agreeing q)) lf e some =
      let t = agreement_taken w a from r q p lf lt e in
      let takes = delivered_is_taken from q t.head in
      rw takes (arrived_so from q t)
  delivered_so from (Some (Message m)) lf e some = message_so from m _ (other_taken w a from r (Message m) p lf lt e refl)
  delivered_so from (Some (Marker c)) lf e some = marker_so from c _ (other_taken w a from r (Marker c) p lf lt e refl)

  pub deliver_mirrors : (from : ℕ) → from < length w.ranks → is_some (slice_get (link w from r) 0) ≡ true → Mirrors top w a r (Deliver from)
  unfolding step
  deliver_mirrors from lf some = let b = delivered_so from (slice_get (link w from r) 0) lf refl some in record { may = b.0; projects = b.1 }
