-- Every run of the agreement keeps what is kept of what is due.
use Rattle.std.proofs.Common.{◌≡◌, ⊎_elim, ◌==◌, ℕ, Bool, true, false, if◌then◌else◌, List, [], ◌∷◌, Option, Some, None, refl, subst, arith}
use Rattle.std.proofs.lemmas.Bool.Decides.{nat_tests}
use Rattle.mpi_base.specs.declared.keys.Key.{Key}
use Rattle.mpi_base.proofs.KeyFacts.{same_key_is}
use Rattle.agree_law.specs.Part.{round_of}
use Rattle.agree_law.specs.Packets.{Packet, Up, Down, Share, Shares, Moved}
use Rattle.agree_law.specs.Kinds.{is_share}
use Rattle.agree_law.specs.Rule.{is_key}
use Rattle.agree_law.specs.Gather.{verdict_of}
use Rattle.agree_law.specs.Verdicts.{settle_offers}
use Rattle.agree_law.specs.Offers.{begin, make_offer}
use Rattle.agree_law.specs.Shares.{begin_share, settle_share}
use Rattle.agree_law.specs.Moves.{may_settle, settle, give_back, close, deliver}
use Rattle.agree_law.specs.World.{World, Event, Begin, Begin_share, Offer, Settle, Deliver, Back, Close, part_at, head_of, popped, moved, may_happen, came, happened, happens, run, opening}
use Rattle.agree_law.specs.Facts.{verdict_at, key_down}
use Rattle.agree_law.proofs.Kept.{Kept, with_links}
use Rattle.agree_law.proofs.Law.{Holds, holds-happens, holds-opening}
use Rattle.agree_law.proofs.MaskSteps.{masks_stay}
use Rattle.projection_law.proofs.Moved.{happens_so}
use Rattle.due_law.specs.Dues.{Dues, none_due, final_of, due_settled, dues_settled, dues_came, dues_happened, dues_happen, dues_run, dues_after}
use Rattle.due_law.proofs.Dued.{Dued}
use Rattle.due_law.proofs.Quiet.{is_no_down, Quiet, quiet_begin, quiet_offer, quiet_up, quiet_begin_share, quiet_take_share, quiet_take_shares, quiet_settle_share}
use Rattle.due_law.proofs.QuietSteps.{MasksStayAt, same_links, popped_links, quiet_dued}
use Rattle.due_law.proofs.Taking.{is_here}
use Rattle.due_law.proofs.Settles.{settled_dued}
use Rattle.due_law.proofs.Comes.{down_taken, come_dued}

-- Masks

-- an event leaves the mask of each owner that it brings no verdict on
masks_unless : (top : ℕ) (w : World) (e : Event) (q : ℕ) (key : Key) → Kept top w → may_happen top w e ≡ true → (is_key (part_at w q).owner key ≡ true → is_key (verdict_at w e q) key ≡ true → ⊥) → MasksStayAt w (happened top w e) q key
masks_unless top w e q key h may none o =
    ⊎_elim
    (λ (m : (part_at (happens top w e) q).mask ≡ (part_at w q).mask). subst (λ z. (part_at z q).mask ≡ (part_at w q).mask) (happens_so top w e may) m)
    (λ (v : is_key (verdict_at w e q) key ≡ true). absurd (none o v))
    (masks_stay top w h e q key o)

-- the verdict of an event at a rank is at that rank
verdict_here : (r q : ℕ) (o : Option Key) (k : Key) → is_key (if r == q then o else None) k ≡ true → ((q == r) ≡ true) × (is_key o k ≡ true)
verdict_here r q o k e = go (r == q) refl e
  where
    go : (b : Bool) → (r == q) ≡ b → is_key (if b then o else None) k ≡ true → ((q == r) ≡ true) × (is_key o k ≡ true)
    go true f e = (grind (arith, nat_tests, f), e)
    go false f e = absurd (cc (e))

-- One event

module _ (top : ℕ) (w : World) (due : Dues) (h : Kept top w) (d : Dued w due) where
  -- a settle of shares brings no verdict to an owner, whose key is no exchange
  shares_masks : (r : ℕ) (key : Key) (q : ℕ) (k : Key) → is_share key.kind ≡ true → is_key (part_at w q).owner k ≡ true → is_key (verdict_at w (Settle r key) q) k ≡ true → ⊥
  shares_masks r key q k share o e =
      let v = verdict_here r q (Some key) k e in
      let is = same_key_is key k v.1 in
      let good = h.owner q k o in
      let other : is_share k.kind ≡ true = subst (λ (z : Key). is_share z.kind ≡ true) is share in
      absurd (grind (arith, good, other))

  dued_settle : (r : ℕ) (key : Key) → may_happen top w (Settle r key) ≡ true → Dued (moved w r (settle r top (part_at w r) key)) (dues_settled top (part_at w r) due r key)
  unfolding settle may_settle
  dued_settle r key may = go (is_share key.kind) refl (λ q k. masks_unless top w (Settle r key) q k h may)
    where
      result : Bool → Moved
      result b = if b then settle_share r top (part_at w r) key else settle_offers r top (part_at w r) key

      go : (b : Bool) → is_share key.kind ≡ b → ((q : ℕ) (k : Key) → (is_key (part_at w q).owner k ≡ true → is_key (verdict_at w (Settle r key) q) k ≡ true → ⊥) → MasksStayAt w (moved w r (result b)) q k)
          → Dued (moved w r (result b)) (if b then due else due_settled due r key (final_of (verdict_of top (part_at w r).gathered key (round_of (part_at w r).rounds key))))
      go true s masks = quiet_dued w w.links r (settle_share r top (part_at w r) key) due d (same_links w) (quiet_settle_share r top (part_at w r) key) (λ q k. masks q k (shares_masks r key q k s))
      go false s masks =
          settled_dued top w r key due h d (grind (arith, may, s))
          (λ q k away. masks q k (λ o e. (let v = verdict_here r q (Some key) k e in let v0 = v.0 in let v1 = v.1 in absurd (let f : is_here key r k q ≡ true = grind (arith, v0, v1) in cc (f, away)))))

  -- the masks after a delivery, with the packet that comes
  abbrev MasksFor : ℕ → ℕ → Option Packet → Type 0
  MasksFor r from p = (q : ℕ) (k : Key) → (is_key (part_at w q).owner k ≡ true → is_key (if r == q then key_down p else None) k ≡ true → ⊥) → MasksStayAt w (came top w r from p) q k

  -- a packet that is no verdict comes
  quiet_came : (r from : ℕ) (p : Packet) → may_happen top w (Deliver r from) ≡ true → head_of w.links from r ≡ Some p → is_no_down p ≡ true → key_down (Some p) ≡ None → Quiet (part_at w r) (deliver r top (part_at w r) from p)
      → MasksFor r from (Some p) → Dued (moved (with_links w (popped w.links from r)) r (deliver r top (part_at w r) from p)) due
  quiet_came r from p may e none key quiet masks =
      quiet_dued w (popped w.links from r) r (deliver r top (part_at w r) from p) due d (popped_links w from r p e none) quiet
      (λ q k. masks q k (λ o v. (let x = (verdict_here r q (key_down (Some p)) k v).1 in absurd (let z : is_key None k ≡ true = subst (λ y. is_key y k ≡ true) key x in cc (z)))))

  dued_came : (r from : ℕ) (p : Option Packet) → may_happen top w (Deliver r from) ≡ true → head_of w.links from r ≡ p → MasksFor r from p → Dued (came top w r from p) (dues_came (part_at w r) due r from p)
  unfolding deliver
  dued_came r from None may e masks = d
  dued_came r from (Some (Up key i own mask)) may e masks = quiet_came r from (Up key i own mask) may e refl refl (quiet_up r top (part_at w r) from key i own mask) masks
  dued_came r from (Some (Share key s)) may e masks = quiet_came r from (Share key s) may e refl refl (quiet_take_share r (part_at w r) from key s) masks
  dued_came r from (Some (Shares key list)) may e masks = quiet_came r from (Shares key list) may e refl refl (quiet_take_shares r top (part_at w r) from key list) masks
  dued_came r from (Some (Down key i v)) may e masks =
      let t = down_taken top w from r key i v due h d e in
      rw t
      (come_dued top w from r key i v due h d e
      (λ q k away. masks q k (λ o x. (let y = verdict_here r q (Some key) k x in let y0 = y.0 in let y1 = y.1 in absurd (let f : is_here key r k q ≡ true = grind (arith, y0, y1) in cc (f, away))))))

  dued_happened : (e : Event) → may_happen top w e ≡ true → Dued (happened top w e) (dues_happened top w e due)
  unfolding give_back close
  dued_happened (Begin r key) may = quiet_dued w w.links r (begin r top (part_at w r) key) due d (same_links w) (quiet_begin r top (part_at w r) key) (λ q k. masks_unless top w (Begin r key) q k h may (λ o x. absurd (cc (x))))
  dued_happened (Begin_share r key s) may = quiet_dued w w.links r (begin_share r (part_at w r) key s) due d (same_links w) (quiet_begin_share r (part_at w r) key s) (λ q k. masks_unless top w (Begin_share r key s) q k h may (λ o x. absurd (cc (x))))
  dued_happened (Offer r key) may = quiet_dued w w.links r (make_offer r top (part_at w r) key) due d (same_links w) (quiet_offer r top (part_at w r) key) (λ q k. masks_unless top w (Offer r key) q k h may (λ o x. absurd (cc (x))))
  dued_happened (Settle r key) may = dued_settle r key may
  dued_happened (Deliver r from) may = dued_came r from (head_of w.links from r) may refl (λ q k. masks_unless top w (Deliver r from) q k h may)
  dued_happened (Back r c) may = quiet_dued w w.links r (record { part = give_back (part_at w r) c; sent = [] }) due d (same_links w) (record { owners = λ k e. e; sent = tt }) (λ q k. masks_unless top w (Back r c) q k h may (λ o x. absurd (cc (x))))
  dued_happened (Close r key) may = quiet_dued w w.links r (record { part = close (part_at w r) key; sent = [] }) due d (same_links w) (record { owners = λ k e. e; sent = tt }) (λ q k. masks_unless top w (Close r key) q k h may (λ o x. absurd (cc (x))))

-- Runs

-- what holds of the agreement and of what is due
pub record Holding (top : ℕ) (w : World) (due : Dues) : Type 0 where
  pub holds : Holds top w
  pub dued : Dued w due

holding-happens : (top : ℕ) (w : World) (due : Dues) (e : Event) → Holding top w due → Holding top (happens top w e) (dues_happen top w e due)
unfolding happens dues_happen
holding-happens top w due e h = record { holds = holds-happens top w e h.holds; dued = go (may_happen top w e) refl }
  where
    go : (b : Bool) → may_happen top w e ≡ b → Dued (if b then happened top w e else w) (if b then dues_happened top w e due else due)
    go true f = dued_happened top w due h.holds.kept h.dued e f
    go false f = h.dued

pub holding-run : (top : ℕ) (es : List Event) (w : World) (due : Dues) → Holding top w due → Holding top (run top es w) (dues_run top es w due)
holding-run top [] w due h = h
holding-run top (e ∷ es) w due h = holding-run top es (happens top w e) (dues_happen top w e due) (holding-happens top w due e h)

dued-opening : (ranks top : ℕ) → Dued (opening ranks top) none_due
unfolding opening
dued-opening ranks top = record { flown = tt; level = λ key q good pos lt none. refl; first = λ key good some. refl; held = λ r key v e. absurd (cc (e)) }

pub holding_always : (ranks top : ℕ) (events : List Event) → Holding top (run top events (opening ranks top)) (dues_after ranks top events)
holding_always ranks top events = holding-run top events (opening ranks top) none_due (record { holds = holds-opening ranks top; dued = dued-opening ranks top })
