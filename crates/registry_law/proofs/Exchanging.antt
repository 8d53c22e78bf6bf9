-- A rank to which all members' shares are on their way waits for them, in the world of every protocol run.
use Rattle.std.proofs.Common.{◌≡◌, ◌<◌, if◌then◌else◌, ℕ, zero, suc, Bool, true, false, List, [], ◌∷◌, length, Option, Some, None, refl, sym, ap, ◌∙◌, subst, arith}
use Rattle.std.specs.Prelude.{slice_get}
use Rattle.std.proofs.lemmas.Bool.Decides.{nat_tests}
use Rattle.mpi_base.specs.declared.keys.Key.{Key}
use Rattle.mpi_base.specs.declared.shares.Shared1.{Shared1}
use Rattle.mpi_base.proofs.KeyFacts.{same_key-refl}
use Rattle.mpi_law.specs.declared.setting.Setting.{Setting}
use Rattle.agree_law.specs.declared.rows.Stage.{Stage}
use Rattle.agree_law.specs.declared.rows.Stage.TheVariants.{Sharing, Called, Waiting, Offered, Done}
use Rattle.agree_law.specs.Part.{Agree, stage_of}
use Rattle.agree_law.specs.Tree.{member_at}
use Rattle.agree_law.specs.Packets as agree
use Rattle.agree_law.specs.World as agreement
use Rattle.agree_law.specs.World.{Event, Flight, is_on, part_at, run}
use Rattle.agree_law.proofs.Lists.{AllOf, AllOf_at}
use Rattle.agree_law.proofs.Kept.{PacketFits}
use Rattle.agree_law.proofs.WorldFacts.{in_links}
use Rattle.share_law.specs.Facts.{is_exchange, sharing_of}
use Rattle.share_law.proofs.ShareKept.{ShareFliesAt}
use Rattle.share_law.proofs.Foreign.{said_at}
use Rattle.share_law.proofs.Exchanges.{Exchanges}
use Rattle.mpi_protocol.specs.Packets.{Packet, Agreeing, Message, Marker}
use Rattle.mpi_protocol.specs.Projection.{agreements, flights_on}
use Rattle.mpi_protocol.specs.World.{World, rank_at, link}
use Rattle.projection_law.proofs.Projected.{same_part}
use Rattle.projection_law.proofs.Runs.{Projected, ruled}

-- a rank that has told its share, and waits for those of all members
pub record IsSharing (st : Option Stage) : Type 0 where
  pub share : Shared1
  pub is : st ≡ Some (Sharing share)

pub sharing_stage : (st : Option Stage) (z : Shared1) → sharing_of st ≡ Some z → st ≡ Some (Sharing z)
sharing_stage None z e = absurd (cc (e))
sharing_stage (Some (Sharing y)) z e = let is : y ≡ z = cc (e) in ap (λ (i : Shared1). Some (Sharing i)) is
sharing_stage (Some Called) z e = absurd (cc (e))
sharing_stage (Some (Waiting i)) z e = absurd (cc (e))
sharing_stage (Some (Offered i own)) z e = absurd (cc (e))
sharing_stage (Some (Done c)) z e = absurd (cc (e))

-- an item of a list is there
pub record Item (list : List Shared1) (p : ℕ) : Type 0 where
  pub item : Shared1
  pub is : slice_get list p ≡ Some item

pub item_there : (list : List Shared1) (p : ℕ) → p < length list → Item list p
item_there [] p lt = absurd (omega (arith, lt))
item_there (z ∷ zs) zero lt = record { item = z; is = refl }
item_there (z ∷ zs) (suc p) lt = let i = item_there zs p (omega (arith, lt)) in record { item = i.item; is = i.is }

abbrev pub WaitsAt : (Key → Option Stage) → agree.Packet → Type 0
WaitsAt stage (agree.Up key i own mask) = Unit {0}
WaitsAt stage (agree.Down key i v) = Unit {0}
WaitsAt stage (agree.Share key z) = Unit {0}
WaitsAt stage (agree.Shares key list) = IsSharing (stage key)

abbrev pub WaitsFor : (Key → Option Stage) → Packet → Type 0
WaitsFor stage (Agreeing p) = WaitsAt stage p
WaitsFor stage (Message m) = Unit {0}
WaitsFor stage (Marker c) = Unit {0}

-- what holds at each place of a list
each_place : {A : Type 0} (P : A → Type 0) (xs : List A) → ((k : ℕ) (x : A) → slice_get xs k ≡ Some x → P x) → AllOf P xs
each_place P [] f = tt
each_place P (x ∷ xs) f = (f 0 x refl, each_place P xs (λ k y e. f (suc k) y e))

on_link : (P : agree.Packet → Type 0) (fs : List Flight) (from to : ℕ) → AllOf (λ (f : Flight). f.to ≡ to → P f.packet) fs → AllOf P (flights_on fs from to)
on_link P [] from to h = tt
on_link P (f ∷ fs) from to h = go (is_on from to f) refl (on_link P fs from to h.1)
  where
    go : (b : Bool) → is_on from to f ≡ b → AllOf P (flights_on fs from to) → AllOf P (if b then f.packet ∷ flights_on fs from to else flights_on fs from to)
    go true e ih = (h.0 (grind (arith, nat_tests, e)), ih)
    go false e ih = ih

of_agreements : (stage : Key → Option Stage) (ps : List Packet) → AllOf (WaitsAt stage) (agreements ps) → AllOf (WaitsFor stage) ps
of_agreements stage [] h = tt
of_agreements stage (Agreeing p ∷ ps) h = (h.0, of_agreements stage ps h.1)
of_agreements stage (Message m ∷ ps) h = (tt, of_agreements stage ps h)
of_agreements stage (Marker c ∷ ps) h = (tt, of_agreements stage ps h)

module _ (s : Setting) (w : World) (es : List Event) (h : Projected s w es) where
  abbrev a : agreement.World
  a = run s.contexts es (agreement.opening s.ranks s.contexts)

  flight_waits : (k from to : ℕ) (p : agree.Packet) → slice_get a.links k ≡ Some (record { from = from; to = to; packet = p }) → WaitsAt (λ key. stage_of (part_at a to).opened key) p
  unfolding Exchanges
  flight_waits k from to (agree.Up key i own mask) e = tt
  flight_waits k from to (agree.Down key i v) e = tt
  flight_waits k from to (agree.Share key z) e = tt
  flight_waits k from to (agree.Shares key list) e =
      let fit : is_exchange (length a.parts) key ≡ true = AllOf_at (λ (f : Flight). PacketFits (length a.parts) f.packet) a.links k (record { from = from; to = to; packet = agree.Shares key list }) e (ruled s es).holds.kept.flights in
      let x = (ruled s es).exchanges key fit in
      let y = in_links (ShareFliesAt (length key.members) (member_at key.members) (said_at a.parts key)) a.links key k (record { from = from; to = to; packet = agree.Shares key list }) e (same_key-refl key) x.flown in
      let ray = y.1 in
      let long = y.2 in
      let inside = ray.inside in
      let item = item_there list y.0 (omega (arith, long, inside)) in
      let said : said_at a.parts key y.0 ≡ Some item.item = sym y.3 ∙ item.is in
      let here : sharing_of (stage_of (part_at a to).opened key) ≡ Some item.item = ap (λ (q : ℕ). sharing_of (stage_of (part_at a q).opened key)) ray.low ∙ said in
      record { share = item.item; is = sharing_stage (stage_of (part_at a to).opened key) item.item here }

  at_rank : (to : ℕ) → to < length w.ranks → (p : agree.Packet) → WaitsAt (λ key. stage_of (part_at a to).opened key) p → WaitsAt (λ key. stage_of (rank_at w to).agree.opened key) p
  at_rank to lt p z = subst (λ (b : Agree). WaitsAt (λ key. stage_of b.opened key) p) (same_part w a to h.projects lt) z

  pub all_wait : (from to : ℕ) → from < length w.ranks → to < length w.ranks → AllOf (WaitsFor (λ key. stage_of (rank_at w to).agree.opened key)) (link w from to)
  all_wait from to lf lt =
      of_agreements (λ key. stage_of (rank_at w to).agree.opened key) (link w from to)
      (subst (λ (ps : List agree.Packet). AllOf (WaitsAt (λ key. stage_of (rank_at w to).agree.opened key)) ps) (h.projects.links from to lf lt)
      (on_link (WaitsAt (λ key. stage_of (rank_at w to).agree.opened key)) a.links from to (each_place (λ (f : Flight). f.to ≡ to → WaitsAt (λ key. stage_of (rank_at w to).agree.opened key) f.packet) a.links
      (λ k f e is. at_rank to lt f.packet (subst (λ (q : ℕ). WaitsAt (λ key. stage_of (part_at a q).opened key) f.packet) is (flight_waits k f.from f.to f.packet e))))))
