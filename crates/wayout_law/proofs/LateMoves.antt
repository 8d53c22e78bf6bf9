-- What the moves of a rank leave of a key that is alone.
use Rattle.std.proofs.Common.{◌≡◌, ℕ, Bool, true, false, List, [], ◌∷◌, ◌++◌, Option, Some, None, refl, sym, subst, ◌∙◌, arith, ⊎_elim}
use Rattle.std.specs.Prelude.{◌==◌, if◌then◌else◌}
use Rattle.mpi_base.specs.declared.keys.Key.{Key}
use Rattle.mpi_base.specs.declared.messages.Msg.{Msg}
use Rattle.mpi_law.specs.Local.Messages.{from_nobody}
use Rattle.mpi_base.specs.Keys.{same_key, key_before}
use Rattle.mpi_base.proofs.KeyFacts.{same_key_is, same_key_tells, key_before_irreflexive}
use Rattle.agree_law.specs.declared.rows.Outcome.{Outcome}
use Rattle.agree_law.specs.declared.rows.Stage.TheVariants.{Offered}
use Rattle.agree_law.specs.declared.rows.Verdict.{Verdict}
use Rattle.agree_law.specs.Tree.{place_in}
use Rattle.agree_law.specs.Part.{Offer, Agree, stage_of, set_stage}
use Rattle.agree_law.specs.Packets.{Up, Down, Moved}
use Rattle.agree_law.specs.Rule.{is_waiting}
use Rattle.agree_law.specs.Gather.{all_own}
use Rattle.agree_law.specs.Moves.{may_settle, deliver, close}
use Rattle.agree_law.specs.Offers.{put_offer, offer_of, take_up, takes_up}
use Rattle.agree_law.specs.Verdicts.{take_down, takes_down, decide}
use Rattle.mpi_protocol.specs.declared.rows.Waits.{Waits}
use Rattle.mpi_protocol.specs.declared.rows.Waits.TheVariants.{Nothing, Creation, Uncoloured, Freeing, Ending, Receiving, Awaiting}
use Rattle.mpi_protocol.specs.declared.rows.ReceiveRow.{ReceiveRow}
use Rattle.mpi_protocol.specs.Packets.{Agreeing, agreeing}
use Rattle.mpi_protocol.specs.Rank.{Rank, receive_of}
use Rattle.mpi_protocol.specs.Answers.{outcome_of, answers, answered, answers_creation, answers_row, answers_taken}
use Rattle.mpi_protocol.specs.Delivers.{taken}
use Rattle.mpi_protocol.specs.Order.{is_offered}
use Rattle.wayout_law.proofs.Frames.{Frame, decide-fewer}
use Rattle.wayout_law.proofs.RankFrames.{frame-answered}
use Rattle.wayout_law.proofs.Settling.{offer-stage}
use Rattle.wayout_law.proofs.EarlySettle.{offered_is}
use Rattle.wayout_law.proofs.Calm.{is_retry, CalmSent, own-append, calm-up, calm-downs, settle-same, ready-append-other, waits-set, waits-close, decide-own, decide-rest, decide-waits}
use Rattle.wayout_law.proofs.Late.{Leaves, offered-was}

-- what holds at a rank of a key that is alone
pub record AloneAt (key : Key) (r : ℕ) (a : Agree) : Type 0 where
  pub only : (k : Key) → is_offered (stage_of a.opened k) ≡ true → same_key k key ≡ true
  pub first : (k : Key) → is_waiting (stage_of a.opened k) ≡ true → key_before k key ≡ false
  pub own : all_own a.gathered key ≡ true
  pub rest : (k : Key) → same_key k key ≡ false → may_settle r a k ≡ false

-- the same with what is sent, of a move of the agreement
pub record LeavesPart (key : Key) (r : ℕ) (m : Moved) : Type 0 where
  pub at : AloneAt key r m.part
  pub sent : CalmSent key (agreeing m.sent)

other_way : (a b : Key) → same_key a b ≡ false → same_key b a ≡ false
other_way a b e = let s = same_key_tells a b in let t = same_key_tells b a in grind (arith, s, t, e)

same_way : (a b : Key) → same_key a b ≡ true → same_key b a ≡ true
same_way a b e = let s = same_key_tells a b in let t = same_key_tells b a in grind (arith, s, t, e)

not_before : (a b : Key) → same_key a b ≡ true → key_before b a ≡ false
not_before a b e = subst (λ z. key_before z a ≡ false) (same_key_is a b e) (key_before_irreflexive a)

-- an offer that owns comes into the gather
put-leaves : (r top : ℕ) (a : Agree) (key : Key) (place : ℕ) (mask : List Bool) → AloneAt key r a → LeavesPart key r (put_offer r top a key place true mask)
unfolding put_offer
put-leaves r top a key place mask h =
    let o : Offer = record { key = key; place = place; own = true; mask = mask } in
    let b : Agree = record a { gathered = a.gathered ++ o ∷ [] } in
    let own = own-append a.gathered o key h.own refl in
    record {
      at = record { only = h.only; first = h.first; own = own; rest = λ k far. settle-same r a b k (ready-append-other a.gathered o k 0 (other_way k key far)) refl ∙ h.rest k far };
      sent = calm-up top b key (place_in key.members r) own;
    }

-- a verdict that is not retry
pub decide-leaves : (r : ℕ) (a : Agree) (key : Key) (i : ℕ) (v : Verdict) → is_retry v ≡ false → AloneAt key r a → LeavesPart key r (decide r a key i v)
decide-leaves r a key i v calm h =
    record {
      at = record {
        only = λ k e. h.only k (offered-was (stage_of (decide r a key i v).part.opened k) (stage_of a.opened k) (λ j own z. decide-fewer r a key i v k j own z) e);
        first = λ k e. go k e (same_key key k) refl;
        own = decide-own r a key i v;
        rest = λ k far. decide-rest r a key i v k (other_way k key far) ∙ h.rest k far;
      };
      sent = calm-downs r a key i v calm;
    }
  where
    go : (k : Key) → is_waiting (stage_of (decide r a key i v).part.opened k) ≡ true → (b : Bool) → same_key key k ≡ b → key_before k key ≡ false
    go k e true s = not_before key k s
    go k e false s = h.first k (sym (decide-waits r a key i v k s) ∙ e)

-- an offer that owns is made
pub offer-leaves : (r top : ℕ) (a : Agree) (key : Key) (i : ℕ) → AloneAt key r a → LeavesPart key r (offer_of r top a key i true)
offer-leaves r top a key i h =
    let b : Agree = record a { owner = Some key; opened = set_stage a.opened key (Offered i true) } in
    put-leaves r top b key (place_in key.members r) a.mask
    (record {
      only = λ k e. offered k e (offered_is (stage_of (set_stage a.opened key (Offered i true)) k) e);
      first = λ k e. go k e (same_key key k) refl;
      own = h.own;
      rest = λ k far. settle-same r a b k refl refl ∙ h.rest k far;
    })
  where
    offered : (k : Key) → is_offered (stage_of (set_stage a.opened key (Offered i true)) k) ≡ true → (j : ℕ) × (own : Bool) × (stage_of (set_stage a.opened key (Offered i true)) k ≡ Some (Offered j own)) → same_key k key ≡ true
    offered k e o =
        ⊎_elim
        (λ (old : stage_of a.opened k ≡ Some (Offered o.0 o.1)). h.only k (rw old refl))
        (λ (new : (same_key key k ≡ true) × (o.0 ≡ i) × (o.1 ≡ true)). same_way key k new.0)
        (offer-stage a.opened key i true k o.0 o.1 o.2)

    go : (k : Key) → is_waiting (stage_of (set_stage a.opened key (Offered i true)) k) ≡ true → (b : Bool) → same_key key k ≡ b → key_before k key ≡ false
    go k e true s = not_before key k s
    go k e false s = h.first k (sym (waits-set a.opened key (Offered i true) k s) ∙ e)

-- At a rank

pub leaves-up : (x : Rank) (from : ℕ) (key : Key) (i : ℕ) (mask : List Bool) → takes_up x.rank x.agree from key i ≡ true → AloneAt key x.rank x.agree → Leaves key x.rank (taken x from (Agreeing (Up key i true mask)))
unfolding deliver take_up
leaves-up x from key i mask e h =
    let p = put-leaves x.rank x.setting.contexts x.agree key (place_in key.members from) mask h in
    rw e (record { only = p.at.only; first = p.at.first; own = p.at.own; rest = p.at.rest; sent = p.sent })

pub leaves-down : (x : Rank) (from : ℕ) (key : Key) (i : ℕ) (v : Verdict) → takes_down x.rank x.agree from key i v ≡ true → is_retry v ≡ false → AloneAt key x.rank x.agree → Leaves key x.rank (taken x from (Agreeing (Down key i v)))
unfolding deliver take_down
leaves-down x from key i v e calm h =
    let p = decide-leaves x.rank x.agree key i v calm h in
    rw e (record { only = p.at.only; first = p.at.first; own = p.at.own; rest = p.at.rest; sent = p.sent })

-- answers

close-at : (key : Key) (r : ℕ) (a : Agree) (gone : Key) → ((k : Key) → is_offered (stage_of (close a gone).opened k) ≡ true → is_offered (stage_of a.opened k) ≡ true) → AloneAt key r a → AloneAt key r (close a gone)
unfolding close
close-at key r a gone fewer h = record { only = λ k e. h.only k (fewer k e); first = λ k e. h.first k (waits-close a.opened gone k e); own = h.own; rest = λ k far. settle-same r a (close a gone) k refl refl ∙ h.rest k far }

pub leaves-answered : (key : Key) (x : Rank) (t : ℕ) (waits : Waits) → AloneAt key x.rank x.agree → Leaves key x.rank (answered x t waits)
leaves-answered key x t Nothing h = record { only = h.only; first = h.first; own = h.own; rest = h.rest; sent = tt }
leaves-answered key x t (Creation gone target session) h = go (outcome_of (stage_of x.agree.opened gone)) (frame-answered x.rank x t (Creation gone target session))
  where
    go : (o : Option Outcome) → Frame x.rank x.agree (answers_creation x t gone target session o).state.agree → Leaves key x.rank (answers_creation x t gone target session o)
    go None f = record { only = h.only; first = h.first; own = h.own; rest = h.rest; sent = tt }
    go (Some o) f =
        let c = close-at key x.rank x.agree gone (λ k e. offered-was (stage_of (close x.agree gone).opened k) (stage_of x.agree.opened k) (λ i own z. f.fewer k i own z) e) h in
        record { only = c.only; first = c.first; own = c.own; rest = c.rest; sent = tt }
leaves-answered key x t (Uncoloured k target session) h = record { only = h.only; first = h.first; own = h.own; rest = h.rest; sent = tt }
leaves-answered key x t (Freeing serial) h = record { only = h.only; first = h.first; own = h.own; rest = h.rest; sent = tt }
leaves-answered key x t (Ending session) h = record { only = h.only; first = h.first; own = h.own; rest = h.rest; sent = tt }
leaves-answered key x t (Receiving n) h = go (n == 0) (receive_of x.receives n)
  where
    taken_row : (room : ℕ) (o : Option Msg) → Leaves key x.rank (answers_taken x t n room o)
    taken_row room None = record { only = h.only; first = h.first; own = h.own; rest = h.rest; sent = tt }
    taken_row room (Some m) = record { only = h.only; first = h.first; own = h.own; rest = h.rest; sent = tt }

    go : (b : Bool) (o : Option ReceiveRow) → Leaves key x.rank (if b then answers x t from_nobody else answers_row x t n o)
    go true o = record { only = h.only; first = h.first; own = h.own; rest = h.rest; sent = tt }
    go false None = record { only = h.only; first = h.first; own = h.own; rest = h.rest; sent = tt }
    go false (Some w) = taken_row w.room w.taken
leaves-answered key x t (Awaiting name) h = record { only = h.only; first = h.first; own = h.own; rest = h.rest; sent = tt }
