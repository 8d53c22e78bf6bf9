-- Packets of the agreement that come.
use Rattle.std.proofs.Common.{◌≡◌, ◌≤◌, ◌+◌, ℕ, Bool, true, false, List, [], length, refl, subst, ◌∙◌, ap, Option, Some, None}
use Rattle.mpi_base.specs.declared.entries.Act.TheVariants.{Deliver}
use Rattle.mpi_base.specs.declared.entries.Brief.{Brief}
use Rattle.mpi_base.specs.declared.entries.Entry.{Entry}
use Rattle.mpi_base.specs.declared.keys.Key.{Key}
use Rattle.mpi_base.specs.declared.messages.Matched.{Matched}
use Rattle.mpi_base.specs.declared.messages.Msg.{Msg}
use Rattle.mpi_base.specs.declared.shares.Shared1.{Shared1}
use Rattle.agree_law.specs.declared.rows.Verdict.{Verdict}
use Rattle.agree_law.specs.Moves as agree_moves
use Rattle.agree_law.specs.Offers.{take_up, takes_up}
use Rattle.agree_law.specs.Packets as agree
use Rattle.agree_law.specs.Shares.{take_share, take_shares, takes_share, takes_shares}
use Rattle.agree_law.specs.Verdicts.{take_down, takes_down}
use Rattle.agree_core.specs.Held.{Becomes, Held as AgreeHeld, Makes as AgreeMakes}
use Rattle.agree_core.specs.Mates.{class_key}
use Rattle.and_reduce.specs.declared.packets.Sent.{Sent as AgreeSent}
use Rattle.and_reduce.specs.Fronts.{front}
use Rattle.comm_law.specs.Comms.{Comms}
use Rattle.match_law.specs.declared.rows.Posted.{Posted}
use Rattle.match_law.specs.Box.{Box, arrive}
use Rattle.mpi_protocol.specs.declared.rows.ThreadRow.{ThreadRow}
use Rattle.mpi_protocol.specs.Packets.{Packet, Agreeing, Message, Marker, agreeing, brief_of}
use Rattle.mpi_protocol.specs.Rank.{Rank, with_key}
use Rattle.mpi_protocol.specs.Moves.{Move, arrives_to, moves, stays}
use Rattle.mpi_protocol.specs.Agreeing.{colour_here, next_key}
use Rattle.mpi_protocol.specs.Delivers.{delivers, taken, taken_if, takes_packet}
use Rattle.mpi_protocol.specs.Step.{step}
use Rattle.rank_core.specs.Packets.{Box as Outbox, sent_by}
use Rattle.rank_core.specs.Held.{Held, Makes, MOST_SENT}
use Rattle.rank_core.specs.Verdicts.{comms_after}
use Rattle.rank_core.proofs.ActFacts.{makes-of}
use Rattle.rank_core.proofs.AgreeFacts.{next-is, with_verdict-is}

not-taken : (x : Rank) (from : ℕ) (p : agree.Packet) → agree_moves.takes_packet x.rank x.agree from p ≡ false → stays x ≡ delivers x from (Some (Agreeing p))
unfolding delivers takes_packet
not-taken x from p out = rw out refl

is-taken : (x : Rank) (from : ℕ) (p : agree.Packet) → agree_moves.takes_packet x.rank x.agree from p ≡ true → taken x from (Agreeing p) ≡ delivers x from (Some (Agreeing p))
unfolding delivers takes_packet
is-taken x from p goes = rw goes refl

-- a packet that is not taken

module _ (h old : Held) (from : ℕ) (key : Key) (is : h ≡ old) where
  refused : (p : agree.Packet) → agree_moves.takes_packet h.state.rank h.state.agree from p ≡ false → stays h.state ≡ delivers old.state from (Some (Agreeing p))
  refused p out = subst (λ (o : Held). stays h.state ≡ delivers o.state from (Some (Agreeing p))) is (not-taken h.state from p out)

  pub refused-up : (round : ℕ) (own : Bool) (mask : List Bool) → takes_up h.state.rank h.state.agree from key round ≡ false
      → stays h.state ≡ delivers old.state from (Some (Agreeing (agree.Up key round own (front old.state.setting.contexts mask))))
  unfolding agree_moves.takes_packet
  refused-up round own mask out = refused (agree.Up key round own (front old.state.setting.contexts mask)) out

  pub refused-down : (round : ℕ) (v : Verdict) → takes_down h.state.rank h.state.agree from key round v ≡ false → stays h.state ≡ delivers old.state from (Some (Agreeing (agree.Down key round v)))
  unfolding agree_moves.takes_packet
  refused-down round v out = refused (agree.Down key round v) out

  pub refused-share : (s : Shared1) → takes_share h.state.rank h.state.agree from key ≡ false → stays h.state ≡ delivers old.state from (Some (Agreeing (agree.Share key s)))
  unfolding agree_moves.takes_packet
  refused-share s out = refused (agree.Share key s) out

  pub refused-shares : (list : List Shared1) → takes_shares h.state.rank h.state.agree from key list ≡ false → stays h.state ≡ delivers old.state from (Some (Agreeing (agree.Shares key list)))
  unfolding agree_moves.takes_packet
  refused-shares list out = refused (agree.Shares key list) out

-- a packet that is taken

module _ {w : ℕ} (h old : Held) (from : ℕ) (key : Key) (a a2 : AgreeHeld) (before after : List (AgreeSent w)) (is : h ≡ old) (rank : a.rank ≡ h.state.rank) (top : a.top ≡ h.state.setting.contexts)
    (part : a.part ≡ h.state.agree) where
  delivered : (m : Move) (p : Rank → agree.Packet) → agree_moves.takes_packet h.state.rank h.state.agree from (p h.state) ≡ true → m ≡ taken h.state from (Agreeing (p h.state))
      → m ≡ delivers old.state from (Some (Agreeing (p old.state)))
  delivered m p goes e = subst (λ (o : Held). m ≡ delivers o.state from (Some (Agreeing (p o.state)))) is (e ∙ is-taken h.state from (p h.state) goes)

  pub delivered-up : (round : ℕ) (own : Bool) (mask : List Bool) → takes_up a.rank a.part from key round ≡ true
      → AgreeMakes (take_up a.rank a.top a.part from key round own (front a.top mask)) a a2 before after
      → moves (record h.state { rank = a2.rank; agree = a2.part }) (agreeing (take_up a.rank a.top a.part from key round own (front a.top mask)).sent)
      ≡ delivers old.state from (Some (Agreeing (agree.Up key round own (front old.state.setting.contexts mask))))
  unfolding agree_moves.takes_packet agree_moves.deliver
  delivered-up round own mask goes made =
      let ranks : a2.rank ≡ h.state.rank = made.becomes.rank ∙ rank in
      let parts : a2.part ≡ (take_up h.state.rank h.state.setting.contexts h.state.agree from key round own (front h.state.setting.contexts mask)).part = rw (rank, top, part) at made.becomes.part in
      delivered _ (λ x. agree.Up key round own (front x.setting.contexts mask)) (rw (rank, part) at goes) (rw (rank, top, part, ranks, parts) refl)

  pub delivered-down : (round : ℕ) (v : Verdict) (comms : Comms) → takes_down a.rank a.part from key round v ≡ true → AgreeMakes (take_down a.rank a.part from key round v) a a2 before after
      → comms ≡ comms_after h.state.comms h.state.threads key v
      → moves (record h.state { rank = a2.rank; agree = a2.part; comms = comms }) (agreeing (take_down a.rank a.part from key round v).sent)
      ≡ delivers old.state from (Some (Agreeing (agree.Down key round v)))
  unfolding agree_moves.takes_packet agree_moves.deliver
  delivered-down round v comms goes made there =
      let ranks : a2.rank ≡ h.state.rank = made.becomes.rank ∙ rank in
      let parts : a2.part ≡ (take_down h.state.rank h.state.agree from key round v).part = rw (rank, part) at made.becomes.part in
      delivered _ (λ x. agree.Down key round v) (rw (rank, part) at goes) (rw (with_verdict-is h.state key v, rank, part, ranks, parts, there) refl)

  pub delivered-share : (s : Shared1) → takes_share a.rank a.part from key ≡ true → Becomes a a2 (take_share a.rank a.part from key s).part → (take_share a.rank a.part from key s).sent ≡ []
      → moves (record h.state { rank = a2.rank; agree = a2.part }) [] ≡ delivers old.state from (Some (Agreeing (agree.Share key s)))
  unfolding agree_moves.takes_packet agree_moves.deliver
  delivered-share s goes becomes none =
      let ranks : a2.rank ≡ h.state.rank = becomes.rank ∙ rank in
      let parts : a2.part ≡ (take_share h.state.rank h.state.agree from key s).part = rw (rank, part) at becomes.part in
      let nothing : (take_share h.state.rank h.state.agree from key s).sent ≡ [] = rw (rank, part) at none in
      delivered _ (λ x. agree.Share key s) (rw (rank, part) at goes) (rw (nothing, ranks, parts) refl)

  pub delivered-shares : (list : List Shared1) (next : Option Key) (threads : List ThreadRow) → takes_shares a.rank a.part from key list ≡ true
      → AgreeMakes (take_shares a.rank a.top a.part from key list) a a2 before after → next ≡ class_key a.rank key list → threads ≡ with_key h.state.threads key next
      → moves (record h.state { rank = a2.rank; agree = a2.part; threads = threads }) (agreeing (take_shares a.rank a.top a.part from key list).sent)
      ≡ delivers old.state from (Some (Agreeing (agree.Shares key list)))
  unfolding agree_moves.takes_packet agree_moves.deliver
  delivered-shares list next threads goes made class there =
      let ranks : a2.rank ≡ h.state.rank = made.becomes.rank ∙ rank in
      let parts : a2.part ≡ (take_shares h.state.rank h.state.setting.contexts h.state.agree from key list).part = rw (rank, top, part) at made.becomes.part in
      let same : next ≡ next_key key (colour_here h.state key list) list = (rw rank at class) ∙ next-is key list (colour_here h.state key list) in
      delivered _ (λ x. agree.Shares key list) (rw (rank, part) at goes) (rw (← same, rank, top, part, ranks, parts, there) refl)

pub take_share-sent : (r : ℕ) (a : AgreeHeld) (from : ℕ) (key : Key) (s : Shared1) → takes_share r a.part from key ≡ true → (take_share r a.part from key s).sent ≡ []
unfolding take_share
take_share-sent r a from key s goes = rw goes refl

-- A delivery

delivers-rest : (x : Rank) (from : ℕ) (p : Packet) → ((delivers x from (Some p)).state.rank ≡ x.rank) × ((delivers x from (Some p)).state.setting ≡ x.setting)
    × ((delivers x from (Some p)).said ≡ None) × ((delivers x from (Some p)).dropped ≡ None) × ((delivers x from (Some p)).reply ≡ None)
unfolding delivers
delivers-rest x from p = go (takes_packet x from p) p
  where
    message : (m : Msg) (box : Box) (o : Option Posted) → ((arrives_to x m box o).0.rank ≡ x.rank) × ((arrives_to x m box o).0.setting ≡ x.setting)
    message m box None = (refl, refl)
    message m box (Some q) = (refl, refl)

    go : (b : Bool) (q : Packet) → ((taken_if b x from q).state.rank ≡ x.rank) × ((taken_if b x from q).state.setting ≡ x.setting)
        × ((taken_if b x from q).said ≡ None) × ((taken_if b x from q).dropped ≡ None) × ((taken_if b x from q).reply ≡ None)
    go false q = (refl, refl, refl, refl, refl)
    go true (Agreeing (agree.Up key i own mask)) = (refl, refl, refl, refl, refl)
    go true (Agreeing (agree.Down key i v)) = rw (with_verdict-is x key v) (refl, refl, refl, refl, refl)
    go true (Agreeing (agree.Share key s)) = (refl, refl, refl, refl, refl)
    go true (Agreeing (agree.Shares key list)) = (refl, refl, refl, refl, refl)
    go true (Message m) = let kept = message m (arrive x.box m).0 (arrive x.box m).1 in (kept.0, kept.1, refl, refl, refl)
    go true (Marker c) = (refl, refl, refl, refl, refl)

step-deliver : (x : Rank) (from : ℕ) (p : Option Packet) → step x (Deliver from) p ≡ delivers x from p
unfolding step
step-deliver x from p = refl

pub makes-deliver : {w : ℕ} (old new : Held) (from : ℕ) (p : Packet) (brief : Brief) (matched : Option Matched) (line : Entry) (out : Outbox w) → new.state ≡ (delivers old.state from (Some p)).state
    → matched ≡ (delivers old.state from (Some p)).matched → brief ≡ brief_of p
    → line ≡ record { choice = record { rank = new.state.rank; act = Deliver from }; brief = Some brief; said = None; matched = matched; dropped = None; reply = None }
    → sent_by old.state.setting.contexts out ≡ (delivers old.state from (Some p)).sent → length (sent_by old.state.setting.contexts out) ≤ MOST_SENT → new.boxed ≤ old.boxed + 1 → old.spare ≤ new.spare + 1
    → Makes old (Deliver from) (Some p) new line out
makes-deliver old new from p brief matched line out state match is entry sent few boxed spare =
    let rest = delivers-rest old.state from p in
    let rank : new.state.rank ≡ old.state.rank = ap (λ (x : Rank). x.rank) state ∙ rest.0 in
    makes-of old old new (Deliver from) (Some p) _ line out refl (step-deliver old.state from (Some p)) state (entry ∙ rw (rank, match, is, rest.2, rest.3, rest.4) refl) sent few rank
    (ap (λ (x : Rank). x.setting) state ∙ rest.1) boxed spare

-- What a delivery neither matches nor sends

pub agreeing-matched : (x : Rank) (from : ℕ) (p : agree.Packet) → None ≡ (delivers x from (Some (Agreeing p))).matched
unfolding delivers
agreeing-matched x from p = go (takes_packet x from (Agreeing p)) p
  where
    go : (b : Bool) (q : agree.Packet) → None ≡ (taken_if b x from (Agreeing q)).matched
    go false q = refl
    go true (agree.Up key i own mask) = refl
    go true (agree.Down key i v) = refl
    go true (agree.Share key s) = refl
    go true (agree.Shares key list) = refl

pub message-sent : (x : Rank) (from : ℕ) (m : Msg) → [] ≡ (delivers x from (Some (Message m))).sent
unfolding delivers
message-sent x from m = go (takes_packet x from (Message m))
  where
    go : (b : Bool) → [] ≡ (taken_if b x from (Message m)).sent
    go false = refl
    go true = refl

pub marker-quiet : (x : Rank) (from c : ℕ) → (None ≡ (delivers x from (Some (Marker c))).matched) × ([] ≡ (delivers x from (Some (Marker c))).sent)
unfolding delivers
marker-quiet x from c = go (takes_packet x from (Marker c))
  where
    go : (b : Bool) → (None ≡ (taken_if b x from (Marker c)).matched) × ([] ≡ (taken_if b x from (Marker c)).sent)
    go false = (refl, refl)
    go true = (refl, refl)
