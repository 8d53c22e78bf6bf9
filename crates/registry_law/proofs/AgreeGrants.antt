-- The acts of the agreement: packets that come, offers, and settles. What they ask of it due_law has found.
use Rattle.std.proofs.Common.{◌≡◌, ◌<◌, ℕ, Bool, true, false, List, [], ◌∷◌, length, set, Option, Some, None, if◌then◌else◌, refl, subst, arith}
use Rattle.std.specs.Prelude.{slice_get}
use Rattle.mpi_base.specs.declared.keys.Key.{Key}
use Rattle.mpi_base.specs.MemberLists.{has_rank}
use Rattle.mpi_base.specs.declared.entries.Said.{Said}
use Rattle.mpi_base.specs.declared.entries.Said.TheVariants as said
use Rattle.mpi_base.specs.declared.entries.Act.TheVariants.{Deliver, Offer as MakeOffer, Settle}
use Rattle.mpi_law.specs.declared.setting.Setting.{Setting}
use Rattle.mpi_law.specs.Registry.State.{Registry}
use Rattle.agree_law.specs.declared.rows.Stage.{Stage}
use Rattle.agree_law.specs.declared.rows.Stage.TheVariants.{Sharing, Called, Waiting, Offered, Done}
use Rattle.agree_law.specs.declared.rows.Verdict.{Verdict}
use Rattle.agree_law.specs.declared.rows.Verdict.TheVariants.{Ready, Retry, Context, Exhausted}
use Rattle.agree_law.specs.Packets as agree
use Rattle.agree_law.specs.Part.{stage_of}
use Rattle.agree_law.specs.Kinds.{is_share}
use Rattle.agree_law.specs.Offers.{is_due, may_offer}
use Rattle.agree_law.specs.Verdicts.{takes_down}
use Rattle.agree_law.specs.Moves.{may_settle}
use Rattle.agree_law.specs.Moves as agree_moves
use Rattle.agree_law.specs.World as agreement
use Rattle.agree_law.specs.World.{Event, run}
use Rattle.agree_law.proofs.Lists.{AllOf}
use Rattle.mpi_protocol.specs.Packets.{Packet, Agreeing, said_of}
use Rattle.mpi_protocol.specs.Rank.{Rank}
use Rattle.mpi_protocol.specs.Agreeing.{settles, verdict_at}
use Rattle.mpi_protocol.specs.Delivers.{takes_packet, delivers}
use Rattle.mpi_protocol.specs.Step.{step}
use Rattle.mpi_protocol.specs.Run.{entry_events, pick_events}
use Rattle.mpi_protocol.specs.World.{World, rank_at, link, moved, entry_at}
use Rattle.projection_law.specs.Facts.{MaySettle}
use Rattle.projection_law.proofs.Laws.{packets_are_taken_there}
use Rattle.due_law.specs.Dues.{final_of, due_settled, due_down, dues_came}
use Rattle.due_law.specs.Agreed.{SaysFinds, TakesFinds}
use Rattle.due_law.specs.Runs.{dues_chosen}
use Rattle.due_law.proofs.Finds.{Belongs, untold, due_is_free, says_finds, downs_find}
use Rattle.due_law.proofs.RunFinds.{belongs}
use Rattle.due_law.specs.Dues.{Dues}
use Rattle.due_law.specs.Agreed.{Untold, DueIsFree}
use Rattle.run_law.proofs.SettleSteps.{Goes, settle_context, settle_exhausted, deliver_context, deliver_exhausted}
use Rattle.run_law.proofs.UnseenSteps.{settle_ready, settle_retry, deliver_ready, deliver_retry, deliver_up, offer_goes}
use Rattle.run_law.proofs.SharingSteps.{deliver_share}
use Rattle.message_law.proofs.Quiets.{delivers_quietly}
use Rattle.registry_law.proofs.Telling.{TellFits}
use Rattle.registry_law.proofs.Together.{Together}
use Rattle.registry_law.proofs.Entries.{choice_of, goes_at}
use Rattle.registry_law.proofs.ShareGrants.{shares_come, shares_settle}

-- Stages

record IsWaiting (st : Option Stage) : Type 0 where
  pub round : ℕ
  pub is : st ≡ Some (Waiting round)

waiting_stage : (st : Option Stage) → is_due st ≡ true → IsWaiting st
waiting_stage None e = absurd (cc (e))
waiting_stage (Some (Sharing z)) e = absurd (cc (e))
waiting_stage (Some Called) e = absurd (cc (e))
waiting_stage (Some (Waiting k)) e = record { round = k; is = refl }
waiting_stage (Some (Offered k own)) e = absurd (cc (e))
waiting_stage (Some (Done d)) e = absurd (cc (e))

pub said_shared : (x : Rank) (key : Key) → is_share key.kind ≡ true → (settles x key).said ≡ Some said.Shared
unfolding settles
said_shared x key e = rw e refl

-- Packets that come

module _ (s : Setting) (w : World) (es : List Event) (due : Dues) (g : Registry) (z : Together s w es due g) (r : ℕ) (lt : r < s.ranks) where
  abbrev x : Rank
  x = rank_at w r

  named : x.rank ≡ r
  named = z.joined.sizes.number r lt

  lr : r < length w.ranks
  lr = let n = z.joined.sizes.ranks_are in omega (arith, n, lt)

  -- the agreement's own world, with what is due there
  abbrev pub agreed_world : agreement.World
  agreed_world = run s.contexts es (agreement.opening s.ranks s.contexts)

  in_agreement : Belongs s w agreed_world due
  in_agreement = belongs s w es due z.follows.projected z.dues

  pub none_told_of : Untold w.ranks due
  none_told_of = untold s w agreed_world due in_agreement

  pub due_free : DueIsFree w.ranks due
  due_free = due_is_free s w agreed_world due in_agreement

  abbrev Taken : ℕ → agree.Packet → Dues → Type 0
  Taken from p new = Goes s g [] (set w.ranks r (delivers x from (Some (Agreeing p))).state) new

  -- a verdict that is taken
  verdict_goes : (from : ℕ) (key : Key) (i : ℕ) (v : Verdict) → takes_down x.rank x.agree from key i v ≡ true → TakesFinds x (due r key) key v → Taken from (agree.Down key i v) (due_down due r key (final_of v))
  verdict_goes from key i Ready t h = deliver_ready s w.ranks due g r key z.joined lt from i t h.stage
  verdict_goes from key i Retry t h = deliver_retry s w.ranks due g r key z.joined lt from i h.round h.own t h.stage h.none
  verdict_goes from key i (Context k) t h = deliver_context s w.ranks due g r key z.joined lt from i k t h
  verdict_goes from key i Exhausted t h = deliver_exhausted s w.ranks due g r key z.joined lt from i t h

  come_goes : (from : ℕ) (p : agree.Packet) → from < length w.ranks → slice_get (link w from r) 0 ≡ Some (Agreeing p) → TellFits g r (Agreeing p) → takes_packet x from (Agreeing p) ≡ true → Taken from p (dues_came x.agree due r from (Some p))
  unfolding takes_packet agree_moves.takes_packet
  come_goes from (agree.Up key i own mask) lf head tells t = deliver_up s w.ranks due g r key z.joined lt from i own mask t
  come_goes from (agree.Down key i v) lf head tells t =
      let f = downs_find s w agreed_world due in_agreement r from key i v lr lf head in
      let t' : takes_down r x.agree from key i v ≡ true = subst (λ (q : ℕ). takes_down q x.agree from key i v ≡ true) named t in
      rw t' (verdict_goes from key i v t f.finds)
  come_goes from (agree.Share key share) lf head tells t = deliver_share s w.ranks due g r key z.joined lt from share t
  come_goes from (agree.Shares key list) lf head tells t = shares_come s w es due g z none_told_of r lt from key list tells t

  -- the head of a link is a packet of the agreement, which is taken
  pub packet_goes : (from : ℕ) (p : agree.Packet) (rest : List Packet) → from < length w.ranks → link w from r ≡ Agreeing p ∷ rest
      → Goes s g (entry_events (entry_at w (choice_of r (Deliver from)))) (moved w (choice_of r (Deliver from))).ranks (dues_chosen w due (choice_of r (Deliver from)))
  unfolding step
  packet_goes from p rest lf e =
      let head : slice_get (link w from r) 0 ≡ Some (Agreeing p) = rw e refl in
      let taken = packets_are_taken_there s w es z.follows.projected r from p lr lf head in
      let tells : TellFits g r (Agreeing p) = (subst (λ (ps : List Packet). AllOf (TellFits g r) ps) e (z.telling from r lf lr)).0 in
      let goes = come_goes from p lf head tells taken in
      let unmatched = (delivers_quietly x from p).matched in
      goes_at s w g (dues_chosen w due (choice_of r (Deliver from))) r (Deliver from) named (rw (e, unmatched) goes)

  -- Offers

  pub offered_goes : (key : Key) → may_offer x.agree key ≡ true → Goes s g (entry_events (entry_at w (choice_of r (MakeOffer key)))) (moved w (choice_of r (MakeOffer key))).ranks due
  unfolding step
  offered_goes key may =
      let i = waiting_stage (stage_of x.agree.opened key) may in
      goes_at s w g due r (MakeOffer key) named (offer_goes s w.ranks due g r key z.joined lt i.round i.is)

  -- Settles

  module _ (key : Key) where
    abbrev Settled : Option Said → Dues → Type 0
    Settled said new = Goes s g (pick_events r key said) (set w.ranks r (settles x key).state) new

    said_is : (v : Verdict) → is_share key.kind ≡ false → verdict_at x key ≡ v → (settles x key).said ≡ Some (said_of v)
    unfolding settles
    said_is v other e = rw (other, e) refl

    decided_goes : (v : Verdict) → is_share key.kind ≡ false → has_rank key.members r ≡ true → verdict_at x key ≡ v → SaysFinds s w.ranks due r key v → Settled (Some (said_of v)) (due_settled due r key (final_of v))
    decided_goes Ready other member e h = settle_ready s w.ranks due g r key z.joined lt other e h.stage
    decided_goes Retry other member e h = settle_retry s w.ranks due g r key z.joined lt h.round h.own other e h.stage h.none
    decided_goes (Context c) other member e h = settle_context s w.ranks due g r key z.joined lt c h.offered h.free member e
    decided_goes Exhausted other member e h = settle_exhausted s w.ranks due g r key z.joined lt h.offered h.lacking member e

    settled_by : may_settle x.rank x.agree key ≡ true → (b : Bool) → is_share key.kind ≡ b → Settled (settles x key).said (if b then due else due_settled due r key (final_of (verdict_at x key)))
    unfolding may_settle
    settled_by may false other =
        let m : MaySettle w r key = record { inside = lr; may = grind (arith, may, other) } in
        let f = says_finds s w agreed_world due in_agreement r key m in
        rw (said_is (verdict_at x key) other refl) (decided_goes (verdict_at x key) other f.member refl f.finds)
    settled_by may true other = rw (said_shared x key other) (shares_settle s w es due g z none_told_of r lt key (record { inside = lr; may = grind (arith, may, other) }))

    pub settled_goes : may_settle x.rank x.agree key ≡ true → Goes s g (entry_events (entry_at w (choice_of r (Settle key)))) (moved w (choice_of r (Settle key))).ranks (dues_chosen w due (choice_of r (Settle key)))
    unfolding step
    settled_goes may = goes_at s w g (dues_chosen w due (choice_of r (Settle key))) r (Settle key) named (settled_by may (is_share key.kind) refl)
