-- The acts of the agreement that the registry does not see: offers, what comes up the tree, and verdicts that decide nothing.
use Rattle.std.proofs.Common.{◌≡◌, ◌<◌, ℕ, ◌+◌, if◌then◌else◌, Bool, true, false, List, [], length, get_or, set, Option, Some, None, refl, sym, ap, subst, arith}
use Rattle.mpi_base.specs.declared.keys.Key.{Key}
use Rattle.mpi_base.specs.Keys.{same_key}
use Rattle.mpi_base.proofs.KeyFacts.{same_key_is}
use Rattle.mpi_law.specs.declared.setting.Setting.{Setting}
use Rattle.mpi_law.specs.Registry.State.{Registry, Creating, blank_part}
use Rattle.mpi_law.specs.Registry.Creations.{outcome_for}
use Rattle.agree_law.specs.declared.rows.Stage.{Stage}
use Rattle.agree_law.specs.declared.rows.Stage.TheVariants.{Called, Waiting, Offered}
use Rattle.agree_law.specs.declared.rows.Verdict.TheVariants.{Ready, Retry}
use Rattle.agree_law.specs.Packets as agree
use Rattle.agree_law.specs.Part.{Agree, stage_of, round_of, set_stage}
use Rattle.agree_law.specs.Kinds.{is_share}
use Rattle.agree_law.specs.Rule.{is_key, let_go, may_own}
use Rattle.agree_law.specs.Offers.{make_offer, put_offer, takes_up, take_up}
use Rattle.agree_law.specs.Verdicts.{takes, rounds_after, takes_down}
use Rattle.agree_law.specs.Moves.{takes_packet, deliver}
use Rattle.agree_law.proofs.OwnSteps.{own_none}
use Rattle.mpi_protocol.specs.declared.rows.Waits.TheVariants.{Creation as Creates, Uncoloured}
use Rattle.mpi_protocol.specs.Packets.{Agreeing}
use Rattle.mpi_protocol.specs.Rank.{Rank}
use Rattle.mpi_protocol.specs.Moves.{Move}
use Rattle.mpi_protocol.specs.Agreeing.{offers, settles, verdict_at}
use Rattle.mpi_protocol.specs.Delivers as ranks_deliver
use Rattle.mpi_protocol.specs.Delivers.{delivers, taken_if}
use Rattle.due_law.specs.Dues.{Dues}
use Rattle.run_law.proofs.Locals.{LocalFits}
use Rattle.run_law.proofs.Threads.{ThreadsFit, row_of, part_row}
use Rattle.run_law.proofs.Masks.{MaskFits}
use Rattle.run_law.proofs.Creations.{CreationFits, UncolouredFits, StageFits, creation_in}
use Rattle.run_law.proofs.Comms.{CommsFit}
use Rattle.run_law.proofs.Joined.{rank_in, Joined}
use Rattle.run_law.proofs.OneRank.{each_rank, sizes_set}
use Rattle.run_law.proofs.Waiters.{waiter_of}
use Rattle.run_law.proofs.Unseen.{unseen}
use Rattle.run_law.proofs.SettleSteps.{Goes, ended, settled, delivered}

other_keeps : (w : Option Key) (key k : Key) → same_key key k ≡ false → is_key w k ≡ true → is_key (let_go w key) k ≡ true
other_keeps None key k ne o = absurd (cc (o))
other_keeps (Some z) key k ne o = go (same_key z key) refl
  where
    go : (b : Bool) → same_key z key ≡ b → is_key (if b then None else Some z) k ≡ true
    go false e = o
    go true e = absurd (let y : same_key key k ≡ true = subst (λ (i : Key). same_key i k ≡ true) (same_key_is z key e) o in cc (y, ne))

own_keeps : (a : Agree) (key k : Key) (b : Bool) → may_own a key ≡ b → is_key a.owner k ≡ true → is_key (if b then Some key else a.owner) k ≡ true
own_keeps a key k false e o = o
own_keeps a key k true e o = absurd (let n = own_none a key e in let z : is_key None k ≡ true = subst (λ (w : Option Key). is_key w k ≡ true) n o in cc (z))

-- what an offer leaves of the part
record Offering (a b : Agree) (key : Key) (i : ℕ) : Type 0 where
  pub opened : b.opened ≡ set_stage a.opened key (Offered i (may_own a key))
  pub owner : b.owner ≡ (if may_own a key then Some key else a.owner)
  pub mask : b.mask ≡ a.mask

offering : (r top : ℕ) (a : Agree) (key : Key) (i : ℕ) → stage_of a.opened key ≡ Some (Waiting i) → Offering a (make_offer r top a key).part key i
unfolding make_offer put_offer
offering r top a key i e = rw e (record { opened = refl; owner = refl; mask = refl })

up_part : (r top : ℕ) (a : Agree) (from : ℕ) (key : Key) (i : ℕ) (own : Bool) (mask : List Bool) → takes_up r a from key i ≡ true
    → ((deliver r top a from (agree.Up key i own mask)).part.opened ≡ a.opened) × ((deliver r top a from (agree.Up key i own mask)).part.owner ≡ a.owner) × ((deliver r top a from (agree.Up key i own mask)).part.mask ≡ a.mask)
unfolding deliver take_up put_offer
up_part r top a from key i own mask e = rw e (refl, refl, refl)

up_as : (x : Rank) (from : ℕ) (key : Key) (i : ℕ) (own : Bool) (mask : List Bool) → takes_up x.rank x.agree from key i ≡ true → delivers x from (Some (Agreeing (agree.Up key i own mask))) ≡ taken_if true x from (Agreeing (agree.Up key i own mask))
unfolding delivers ranks_deliver.takes_packet takes_packet
up_as x from key i own mask e = ap (λ (b : Bool). taken_if b x from (Agreeing (agree.Up key i own mask))) e

module _ (s : Setting) (ranks : List Rank) (due : Dues) (g : Registry) (r : ℕ) (key : Key) (j : Joined s ranks due g) (lt : r < s.ranks) where
  abbrev x : Rank
  x = rank_in ranks r

  -- nothing is due where a creation has just been called, or waits for its offer
  called_undue : stage_of x.agree.opened key ≡ Some Called → due r key ≡ None
  called_undue e =
      let w = waiter_of s ranks due g j r key (rw e refl) in
      (subst (λ (st : Option Stage). StageFits g.comms x.comms.rows x.local.names r key w.session (due r key) st (outcome_for (creation_in g.creations w.place) r)) e w.fits.far).0

  waiting_undue : (i : ℕ) → stage_of x.agree.opened key ≡ Some (Waiting i) → due r key ≡ None
  waiting_undue i e =
      let w = waiter_of s ranks due g j r key (rw e refl) in
      (subst (λ (st : Option Stage). StageFits g.comms x.comms.rows x.local.names r key w.session (due r key) st (outcome_for (creation_in g.creations w.place) r)) e w.fits.far).0

  -- Ready, said or taken
  ready : (i : ℕ) → stage_of x.agree.opened key ≡ Some Called → Joined s (set ranks r (record x { agree = ended x.agree key i Ready })) due g
  unfolding takes rounds_after
  ready i e = unseen s ranks due g r key Called (Waiting 1) (ended x.agree key i Ready) j lt e refl refl (called_undue e) refl refl (λ k ne o. o)

  -- Retry, said or taken
  retry : (i n : ℕ) (own : Bool) → stage_of x.agree.opened key ≡ Some (Offered n own) → due r key ≡ None → Joined s (set ranks r (record x { agree = ended x.agree key i Retry })) due g
  unfolding takes rounds_after
  retry i n own e none = unseen s ranks due g r key (Offered n own) (Waiting (i + 1)) (ended x.agree key i Retry) j lt e refl refl none refl refl (λ k ne o. other_keeps x.agree.owner key k ne o)

  pub settle_ready : is_share key.kind ≡ false → verdict_at x key ≡ Ready → stage_of x.agree.opened key ≡ Some Called → Goes s g [] (set ranks r (settles x key).state) due
  settle_ready other e st = (tt, rw (settled x key Ready other e) (ready (round_of x.agree.rounds key) st))

  pub settle_retry : (n : ℕ) (own : Bool) → is_share key.kind ≡ false → verdict_at x key ≡ Retry → stage_of x.agree.opened key ≡ Some (Offered n own) → due r key ≡ None → Goes s g [] (set ranks r (settles x key).state) due
  settle_retry n own other e st none = (tt, rw (settled x key Retry other e) (retry (round_of x.agree.rounds key) n own st none))

  pub deliver_ready : (from i : ℕ) → takes_down x.rank x.agree from key i Ready ≡ true → stage_of x.agree.opened key ≡ Some Called → Goes s g [] (set ranks r (delivers x from (Some (Agreeing (agree.Down key i Ready)))).state) due
  deliver_ready from i taken st = (tt, rw (delivered x from key i Ready taken) (ready i st))

  pub deliver_retry : (from i n : ℕ) (own : Bool) → takes_down x.rank x.agree from key i Retry ≡ true → stage_of x.agree.opened key ≡ Some (Offered n own) → due r key ≡ None → Goes s g [] (set ranks r (delivers x from (Some (Agreeing (agree.Down key i Retry)))).state) due
  deliver_retry from i n own taken st none = (tt, rw (delivered x from key i Retry taken) (retry i n own st none))

  pub offer_goes : (i : ℕ) → stage_of x.agree.opened key ≡ Some (Waiting i) → Goes s g [] (set ranks r (offers x key).state) due
  unfolding offers
  offer_goes i st =
      let o = offering x.rank x.setting.contexts x.agree key i st in (
        tt,
        unseen s ranks due g r key (Waiting i) (Offered i (may_own x.agree key)) (make_offer x.rank x.setting.contexts x.agree key).part j lt st refl refl (waiting_undue i st) o.opened o.mask
            (λ k ne w. rw o.owner (own_keeps x.agree key k (may_own x.agree key) refl w)),
      )

  -- a part that differs in its gathers alone
  pub gathered : (a : Agree) → a.opened ≡ x.agree.opened → a.owner ≡ x.agree.owner → a.mask ≡ x.agree.mask → Joined s (set ranks r (record x { agree = a })) due g
  gathered a opened owner mask =
      let inside : r < length ranks = (let e = j.sizes.ranks_are in omega (arith, e, lt)) in
      let y : Rank = record x { agree = a } in
      record {
        sizes = sizes_set s g g ranks r y j.sizes lt refl refl refl;
        locals = each_rank (λ q z. LocalFits g.comms z.comms.rows q z.local (get_or g.ranks q blank_part).local) ranks r y inside (j.locals r) (λ q ne. j.locals q);
        threads = each_rank (λ q z. ThreadsFit z.threads z.agree.opened (get_or g.ranks q blank_part).threads) ranks r y inside (rw opened (j.threads r)) (λ q ne. j.threads q);
        masks = λ q lq. each_rank (λ i z. i < s.ranks → MaskFits s.contexts z.agree.mask z.comms.rows) ranks r y inside (λ l. rw mask (j.masks r lt)) (λ i ne. j.masks i) q lq;
        creations = record {
          each = each_rank (λ q z. (u : ℕ) (k : Key) (target : List ℕ) (session n : ℕ) → (row_of z.threads u).waits ≡ Creates k target session → (part_row (get_or g.ranks q blank_part).threads u).wait ≡ Creating n → CreationFits g.comms g.creations z.comms.rows z.local.names (due q k) (stage_of z.agree.opened k) q u k target session n)
              ranks r y inside (rw opened (j.creations.each r)) (λ q ne. j.creations.each q);
          uncoloured = each_rank (λ q z. (u : ℕ) (k : Key) (target : List ℕ) (session n : ℕ) → (row_of z.threads u).waits ≡ Uncoloured k target session → (part_row (get_or g.ranks q blank_part).threads u).wait ≡ Creating n → UncolouredFits g.comms g.creations q u k target session n)
              ranks r y inside (j.creations.uncoloured r) (λ q ne. j.creations.uncoloured q);
        };
        comms = each_rank (λ q z. CommsFit s.contexts g.comms g.creations (get_or g.ranks q blank_part).threads q z.comms.rows z.comms.added z.agree.owner (due q) z.threads) ranks r y inside (rw owner (j.comms r)) (λ q ne. j.comms q);
        whole = j.whole;
      }

  pub deliver_up : (from i : ℕ) (own : Bool) (mask : List Bool) → takes_up x.rank x.agree from key i ≡ true → Goes s g [] (set ranks r (delivers x from (Some (Agreeing (agree.Up key i own mask)))).state) due
  deliver_up from i own mask taken =
      let p = up_part x.rank x.setting.contexts x.agree from key i own mask taken in
      (tt, subst (λ (z : Rank). Joined s (set ranks r z) due g) (sym (ap (λ (m : Move). m.state) (up_as x from key i own mask taken))) (gathered (deliver x.rank x.setting.contexts x.agree from (agree.Up key i own mask)).part p.0 p.1 p.2))
