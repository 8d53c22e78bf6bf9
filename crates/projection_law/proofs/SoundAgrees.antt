-- An offer, a settle and a delivery keep what a rank keeps.
use Rattle.std.proofs.Common.{◌≡◌, ◌⊎◌, inl, inr, ◌<◌, ◌≤◌, ◌&&◌, not, ℕ, ℤ, Bool, true, false, List, length, get_or, Option, Some, None, refl, sym, subst, ap, ◌∙◌, arith}
use Rattle.mpi_base.specs.declared.keys.Key.{Key}
use Rattle.mpi_base.specs.declared.keys.Kind.{Kind}
use Rattle.mpi_base.specs.declared.keys.Kind.TheVariants as kind
use Rattle.mpi_base.specs.Keys.{same_key}
use Rattle.mpi_base.specs.MemberLists.{has_rank}
use Rattle.mpi_law.specs.declared.setting.Setting.{Setting}
use Rattle.mpi_law.specs.Local.Objects.{Local}
use Rattle.mpi_base.specs.declared.shares.Shared1.{Shared1}
use Rattle.agree_law.specs.declared.rows.Stage.{Stage}
use Rattle.agree_law.specs.declared.rows.Verdict.{Verdict}
use Rattle.agree_law.specs.declared.rows.Verdict.TheVariants.{Ready, Retry, Context, Exhausted}
use Rattle.agree_law.specs.Tree.{member_at, is_first, is_below}
use Rattle.agree_law.specs.Part.{Agree, stage_of, drop_shares}
use Rattle.agree_law.specs.Packets as agree
use Rattle.agree_law.specs.Moves as agree_moves
use Rattle.agree_law.specs.Kinds.{is_share}
use Rattle.agree_law.specs.Rule.{is_key}
use Rattle.agree_law.specs.Offers.{make_offer, take_up}
use Rattle.agree_law.specs.Classes.{split_key}
use Rattle.agree_law.specs.Verdicts.{settle_offers, may_settle_offers, takes_down, awaits_round}
use Rattle.agree_law.specs.Shares.{settle_share, may_settle_share, share_list, takes_shares, take_shares}
use Rattle.agree_law.specs.Moves.{settle, deliver, may_settle}
use Rattle.agree_law.specs.World as agreement
use Rattle.agree_law.specs.World.{Event, part_at, run, is_key_of}
use Rattle.agree_law.proofs.Lists.{AllOf, AllOf-append}
use Rattle.agree_law.proofs.TreeFacts.{member_place, first_place}
use Rattle.agree_law.proofs.Kept.{RowFits as OpenFits}
use Rattle.agree_law.proofs.OpenRows.{row_at as open_row}
use Rattle.comm_law.specs.Comms.{Comms, row_at, add}
use Rattle.mpi_protocol.specs.Packets.{Packet, Agreeing, Message, Marker}
use Rattle.mpi_protocol.specs.Rank.{Rank, session_of, with_key}
use Rattle.mpi_protocol.specs.Agreeing.{with_verdict, offers, colour_here, next_key, shares_out, settles_as, settles, verdict_at}
use Rattle.mpi_protocol.specs.Delivers.{takes_packet, agrees, taken_if, delivers}
use Rattle.mpi_protocol.specs.World.{World, rank_at}
use Rattle.projection_law.proofs.BothTests.{left_of, right_of}
use Rattle.projection_law.specs.Facts.{is_counted, MaySettle}
use Rattle.projection_law.specs.Premises.{are_distinct_ranks}
use Rattle.projection_law.proofs.Projected.{same_part, same_size}
use Rattle.projection_law.proofs.Exchanged.{settled_is_taken}
use Rattle.projection_law.proofs.Operations.{GroupsFit}
use Rattle.projection_law.proofs.Rows.{RowFits, row_has, stands, stands_on, goes-add}
use Rattle.projection_law.proofs.Threads.{Standing, standing_each}
use Rattle.projection_law.proofs.Parts.{MaskFits, free_context, is_open, OpensNone, Turns, opens-offer, opens-up, opens-down, opens-settle_offers, opens-take_share, turns-take_shares}
use Rattle.projection_law.proofs.Sound.{Sound, sound_alike, sound_still, sound_turned}
use Rattle.projection_law.proofs.SoundSteps.{alike_arrives}
use Rattle.projection_law.proofs.Runs.{Projected, ruled}
use Rattle.projection_law.proofs.Laws.{settled_key, picks_are_free_there}

-- what a verdict with a context needs
pub record VerdictFits (s : Setting) (r : ℕ) (key : Key) (c : ℕ) : Type 0 where
  pub above : 0 < c
  pub below : c ≤ s.contexts
  pub ranks : are_distinct_ranks s.ranks key.members ≡ true
  pub here : has_rank key.members r ≡ true

share_counted : (k : Kind) → is_share k ≡ true → is_counted k ≡ true
share_counted kind.From e = absurd (cc (e))
share_counted kind.Group e = absurd (cc (e))
share_counted kind.Dup e = absurd (cc (e))
share_counted kind.Split e = absurd (cc (e))
share_counted kind.Share e = refl

awaited_some : (o : Option Stage) (i : ℕ) → awaits_round o i ≡ true → (z : Stage) × (o ≡ Some z)
awaited_some None i e = absurd (cc (e))
awaited_some (Some z) i e = (z, refl)

module _ (s : Setting) (w : World) (es : List Event) (p : Projected s w es) (r : ℕ) (lt : r < length w.ranks) (h : Sound s r (rank_at w r)) where
  number : (rank_at w r).rank ≡ r
  number = p.numbers r lt

  setting : (rank_at w r).setting ≡ s
  setting = p.settings r lt

  here : part_at (run s.contexts es (agreement.opening s.ranks s.contexts)) r ≡ (rank_at w r).agree
  here = same_part w (run s.contexts es (agreement.opening s.ranks s.contexts)) r p.projects lt

  -- the agreement moves, and opens nothing
  quiet : (y : Rank) → y.threads ≡ (rank_at w r).threads → y.local ≡ (rank_at w r).local → y.comms ≡ (rank_at w r).comms → OpensNone s.contexts (rank_at w r).agree y.agree → Sound s r y
  quiet y threads local comms none =
      sound_still s r (rank_at w r) y
      (record {
        threads = threads;
        groups = subst (λ (l : Local). GroupsFit s.ranks l.names) (sym local) h.groups;
        rows = subst (λ (t : Comms). AllOf (RowFits s.ranks s.contexts r) t.rows) (sym comms) h.rows;
        mask = none.mask h.mask;
        old = none.old;
        standing = subst (λ t. Standing t (rank_at w r).threads) (sym comms) h.standing;
      }) h

  pub sound_offers : (key : Key) → Sound s r (offers (rank_at w r) key).state
  unfolding offers
  sound_offers key =
      quiet _ refl refl refl
      (subst (λ (z : Setting). OpensNone z.contexts (rank_at w r).agree (make_offer (rank_at w r).rank (rank_at w r).setting.contexts (rank_at w r).agree key).part) setting
      (opens-offer (rank_at w r).rank (rank_at w r).setting.contexts (rank_at w r).agree key))

  -- a verdict

  sound_verdict : (y : Rank) (key : Key) (v : Verdict) → y.threads ≡ (rank_at w r).threads → y.local ≡ (rank_at w r).local → y.comms ≡ (with_verdict (rank_at w r) key v).comms → OpensNone s.contexts (rank_at w r).agree y.agree
      → ((c : ℕ) → v ≡ Context c → VerdictFits s r key c) → Sound s r y
  sound_verdict y key Ready threads local comms none fits = quiet y threads local comms none
  sound_verdict y key Retry threads local comms none fits = quiet y threads local comms none
  sound_verdict y key Exhausted threads local comms none fits = quiet y threads local comms none
  sound_verdict y key (Context c) threads local comms none fits =
      let f = fits c refl in
      let session = session_of (rank_at w r).threads key in
      let more = add (rank_at w r).comms c key.members session in
      sound_still s r (rank_at w r) y
      (record {
        threads = threads;
        groups = subst (λ (l : Local). GroupsFit s.ranks l.names) (sym local) h.groups;
        rows = subst (λ (t : Comms). AllOf (RowFits s.ranks s.contexts r) t.rows) (sym comms) (AllOf-append (RowFits s.ranks s.contexts r) (rank_at w r).comms.rows _ h.rows (record { above = f.above; below = f.below; ranks = f.ranks; here = f.here }, tt));
        mask = none.mask h.mask;
        old = none.old;
        standing = subst (λ t. Standing t (rank_at w r).threads) (sym comms) (standing_each (rank_at w r).comms more (rank_at w r).threads (λ k e. stands_on (rank_at w r).comms more k (goes-add (rank_at w r).comms c key.members session) e) h.standing);
      }) h

  threads_of : (key : Key) (v : Verdict) → (with_verdict (rank_at w r) key v).threads ≡ (rank_at w r).threads
  threads_of key Ready = refl
  threads_of key Retry = refl
  threads_of key (Context c) = refl
  threads_of key Exhausted = refl

  local_of : (key : Key) (v : Verdict) → (with_verdict (rank_at w r) key v).local ≡ (rank_at w r).local
  local_of key Ready = refl
  local_of key Retry = refl
  local_of key (Context c) = refl
  local_of key Exhausted = refl

  -- Settles

  settle_fits : (key : Key) → may_settle_offers (rank_at w r).rank (rank_at w r).agree key ≡ true → (c : ℕ) → verdict_at (rank_at w r) key ≡ Context c → VerdictFits s r key c
  unfolding is_key_of
  settle_fits key may c e =
      let m : MaySettle w r key = record { inside = lt; may = may } in
      let good = settled_key s w es p r key m in
      let first : is_first r key.members ≡ true = subst (λ z. is_first z key.members ≡ true) number (grind (arith, may)) in
      let f = first_place key.members r first in
      let free = (picks_are_free_there s w es p r key c 0 m e f.2).free in
      let me : member_at key.members 0 ≡ r = sym (ap (member_at key.members) f.0) ∙ (member_place key.members r f.1).1 in
      let range = free_context s.contexts (rank_at w r).agree.mask c h.mask (subst (λ z. get_or (rank_at w z).agree.mask c false ≡ true) me free) in
      record { above = range.0; below = range.1; ranks = subst (λ n. are_distinct_ranks n key.members ≡ true) p.count good; here = f.1 }

  turned : (y : Rank) (key : Key) (c : Option ℤ) (list : List Shared1) → is_share key.kind ≡ true → y.threads ≡ with_key (rank_at w r).threads key (next_key key c list) → y.local ≡ (rank_at w r).local → y.comms ≡ (rank_at w r).comms
      → Turns s.contexts (rank_at w r).agree y.agree key (next_key key c list) → Sound s r y
  turned y key c list share threads local comms turns =
      sound_turned s r (rank_at w r) y key (next_key key c list) (record { threads = threads; local = local; comms = comms; turns = turns; next_stands = goes c }) h
    where
      goes : (c : Option ℤ) (k : Key) → next_key key c list ≡ Some k → stands (rank_at w r).comms key ≡ true → stands (rank_at w r).comms k ≡ true
      goes None k e st = absurd (cc (e))
      goes (Some z) k e st =
          let is : split_key key (Some z) list ≡ k = cc (e) in
          let counted = share_counted key.kind share in
          let has : row_has key.number (row_at (rank_at w r).comms key.parent) ≡ true = grind (arith, st, counted) in
          subst (λ q. stands (rank_at w r).comms q ≡ true) is has

  settle_takes : (key : Key) → may_settle_share (rank_at w r).rank (rank_at w r).agree key ≡ true
      → takes_shares (rank_at w r).rank (record (rank_at w r).agree { shares = drop_shares (rank_at w r).agree.shares key }) (rank_at w r).rank key (share_list (rank_at w r).agree.shares key) ≡ true
  settle_takes key may =
      let a = run s.contexts es (agreement.opening s.ranks s.contexts) in
      let at : may_settle_share r (part_at a r) key ≡ true = subst (λ b. may_settle_share r b key ≡ true) (sym here) (subst (λ z. may_settle_share z (rank_at w r).agree key ≡ true) number may) in
      let t = settled_is_taken s.contexts a r key (ruled s es) at in
      let takes : Agree → ℕ → Type 0 = λ b z. takes_shares z (record b { shares = drop_shares b.shares key }) z key (share_list b.shares key) ≡ true in
      subst (λ z. takes (rank_at w r).agree z) (sym number) (subst (λ b. takes b r) here t)

  shares_so : (key : Key) (list : List Shared1) (from : ℕ) (b : Agree) (m : agree.Moved) → is_share key.kind ≡ true → ((k : Key) → is_open b k ≡ is_open (rank_at w r).agree k) → b.mask ≡ (rank_at w r).agree.mask
      → takes_shares (rank_at w r).rank b from key list ≡ true → m.part ≡ (take_shares (rank_at w r).rank (rank_at w r).setting.contexts b from key list).part → Sound s r (shares_out (rank_at w r) key list m).state
  shares_so key list from b m share opened mask takes part =
      let c = colour_here (rank_at w r) key list in
      let t = turns-take_shares (rank_at w r).rank (rank_at w r).setting.contexts b from key list takes in
      let u = subst (λ (z : Setting). Turns z.contexts b (take_shares (rank_at w r).rank (rank_at w r).setting.contexts b from key list).part key (next_key key c list)) setting t in
      let v : Turns s.contexts b m.part key (next_key key c list) = subst (λ z. Turns s.contexts b z key (next_key key c list)) (sym part) u in
      turned _ key c list share refl refl refl
      (record {
        was = sym (opened key) ∙ v.was;
        old = λ k e. either k (v.old k e);
        mask = λ g. v.mask (subst (MaskFits s.contexts) (sym mask) g);
      })
    where
      either : {Z : Type 0} (k : Key) → ((same_key key k ≡ false) × (is_open b k ≡ true)) ⊎ Z → ((same_key key k ≡ false) × (is_open (rank_at w r).agree k ≡ true)) ⊎ Z
      either k (inl e) = inl (e.0, sym (opened k) ∙ e.1)
      either k (inr e) = inr e

  settled_so : (key : Key) → may_settle (rank_at w r).rank (rank_at w r).agree key ≡ true → (b : Bool) → is_share key.kind ≡ b → Sound s r (settles_as (rank_at w r) key b).state
  unfolding may_settle settle settle_share
  settled_so key may true e =
      let m : may_settle_share (rank_at w r).rank (rank_at w r).agree key ≡ true = grind (arith, may, e) in
      shares_so key (share_list (rank_at w r).agree.shares key) (rank_at w r).rank (record (rank_at w r).agree { shares = drop_shares (rank_at w r).agree.shares key }) (settle (rank_at w r).rank (rank_at w r).setting.contexts (rank_at w r).agree key) e (λ k. refl) refl (settle_takes key m) (rw e refl)
  settled_so key may false e =
      let m : may_settle_offers (rank_at w r).rank (rank_at w r).agree key ≡ true = grind (arith, may, e) in
      let o = opens-settle_offers (rank_at w r).rank (rank_at w r).setting.contexts (rank_at w r).agree key in
      let is : settle (rank_at w r).rank (rank_at w r).setting.contexts (rank_at w r).agree key ≡ settle_offers (rank_at w r).rank (rank_at w r).setting.contexts (rank_at w r).agree key = rw e refl in
      let u = subst (λ (z : Setting). OpensNone z.contexts (rank_at w r).agree (settle_offers (rank_at w r).rank (rank_at w r).setting.contexts (rank_at w r).agree key).part) setting o in
      sound_verdict _ key (verdict_at (rank_at w r) key) (threads_of key (verdict_at (rank_at w r) key)) (local_of key (verdict_at (rank_at w r) key)) refl
      (subst (λ (z : agree.Moved). OpensNone s.contexts (rank_at w r).agree z.part) (sym is) u) (settle_fits key m)

  pub sound_settles : (key : Key) → may_settle (rank_at w r).rank (rank_at w r).agree key ≡ true → Sound s r (settles (rank_at w r) key).state
  unfolding settles
  sound_settles key may = settled_so key may (is_share key.kind) refl

  -- Deliveries

  down_fits : (from : ℕ) (key : Key) (i : ℕ) (v : Verdict) → takes_down (rank_at w r).rank (rank_at w r).agree from key i v ≡ true → (c : ℕ) → v ≡ Context c → VerdictFits s r key c
  unfolding takes_down is_key_of
  down_fits from key i v takes c is =
      let t : takes_down (rank_at w r).rank (rank_at w r).agree from key i (Context c) ≡ true = subst (λ z. takes_down (rank_at w r).rank (rank_at w r).agree from key i z ≡ true) is takes in
      let b = (rank_at w r).agree in
      let awaited : (awaits_round (stage_of b.opened key) i && (is_key b.owner key && get_or b.mask c false)) ≡ true = right_of (is_below from (rank_at w r).rank key.members) _ (right_of (not (is_share key.kind)) _ t) in
      let some = awaited_some (stage_of b.opened key) i (left_of (awaits_round (stage_of b.opened key) i) _ awaited) in
      let free : get_or b.mask c false ≡ true = right_of (is_key b.owner key) _ (right_of (awaits_round (stage_of b.opened key) i) _ awaited) in
      let range = free_context s.contexts b.mask c h.mask free in
      let n = same_size w (run s.contexts es (agreement.opening s.ranks s.contexts)) p.projects ∙ p.count in
      let rows = subst (λ (b : Agree). AllOf (OpenFits (length (run s.contexts es (agreement.opening s.ranks s.contexts)).parts) r) b.opened) here ((ruled s es).holds.kept.rows r) in
      let good = (open_row s.ranks r (rank_at w r).agree.opened key some.0 some.1 (subst (λ z. AllOf (OpenFits z r) (rank_at w r).agree.opened) n rows)).0 in
      record { above = range.0; below = range.1; ranks = left_of (are_distinct_ranks s.ranks key.members) _ good; here = right_of (are_distinct_ranks s.ranks key.members) _ good }

  agreed_so : (from : ℕ) (q : agree.Packet) → agree_moves.takes_packet (rank_at w r).rank (rank_at w r).agree from q ≡ true
      → Sound s r (agrees (rank_at w r) q (deliver (rank_at w r).rank (rank_at w r).setting.contexts (rank_at w r).agree from q)).state
  unfolding agree_moves.takes_packet deliver takes_shares
  agreed_so from (agree.Up key i own mask) takes =
      quiet _ refl refl refl
      (subst (λ (z : Setting). OpensNone z.contexts (rank_at w r).agree (take_up (rank_at w r).rank (rank_at w r).setting.contexts (rank_at w r).agree from key i own mask).part) setting
      (opens-up (rank_at w r).setting.contexts (rank_at w r).rank (rank_at w r).agree from key i own mask))
  agreed_so from (agree.Down key i v) takes =
      sound_verdict _ key v (threads_of key v) (local_of key v) refl (opens-down s.contexts (rank_at w r).rank (rank_at w r).agree from key i v) (down_fits from key i v takes)
  agreed_so from (agree.Share key x) takes = quiet _ refl refl refl (opens-take_share s.contexts (rank_at w r).rank (rank_at w r).agree from key x)
  agreed_so from (agree.Shares key list) takes = shares_so key list from (rank_at w r).agree (deliver (rank_at w r).rank (rank_at w r).setting.contexts (rank_at w r).agree from (agree.Shares key list)) (grind (arith, takes)) (λ k. refl) refl takes refl

  taken_so : (from : ℕ) (q : Packet) (b : Bool) → takes_packet (rank_at w r) from q ≡ b → Sound s r (taken_if b (rank_at w r) from q).state
  unfolding takes_packet
  taken_so from q false e = h
  taken_so from (Agreeing q) true e = agreed_so from q e
  taken_so from (Message m) true e = sound_alike s r (rank_at w r) _ (alike_arrives (rank_at w r) m) h
  taken_so from (Marker c) true e = sound_still s r (rank_at w r) _ (record { threads = refl; groups = h.groups; rows = h.rows; mask = h.mask; old = λ k u. u; standing = h.standing }) h

  pub sound_delivers : (from : ℕ) (o : Option Packet) → Sound s r (delivers (rank_at w r) from o).state
  unfolding delivers
  sound_delivers from None = h
  sound_delivers from (Some q) = taken_so from q (takes_packet (rank_at w r) from q) refl
