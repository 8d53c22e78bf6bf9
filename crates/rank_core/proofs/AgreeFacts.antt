-- Offers and settles.
use Rattle.std.proofs.Common.{◌≡◌, ◌≤◌, ◌+◌, ℕ, ℤ, Bool, true, false, if◌then◌else◌, List, option_map, length, refl, subst, ◌∙◌, ap, arith, Option, Some, None}
use Rattle.mpi_base.specs.declared.keys.Key.{Key}
use Rattle.mpi_base.specs.declared.entries.Act.TheVariants.{Offer as MakeOffer, Settle}
use Rattle.mpi_base.specs.declared.entries.Entry.{Entry}
use Rattle.mpi_base.specs.declared.entries.Said.{Said}
use Rattle.mpi_base.specs.declared.entries.Said.TheVariants as said
use Rattle.mpi_base.specs.declared.shares.Shared1.{Shared1}
use Rattle.agree_law.specs.declared.rows.Verdict.{Verdict}
use Rattle.agree_law.specs.declared.rows.Verdict.TheVariants.{Ready, Retry, Context, Exhausted}
use Rattle.agree_law.specs.Classes.{split_key}
use Rattle.agree_law.specs.Gather.{verdict_of}
use Rattle.agree_law.specs.Kinds.{is_share}
use Rattle.agree_law.specs.Moves.{may_settle, settle}
use Rattle.agree_law.specs.Offers.{make_offer}
use Rattle.agree_law.specs.Part.{round_of}
use Rattle.agree_law.specs.Rule.{may_own}
use Rattle.agree_law.specs.Shares.{may_settle_share, settle_share, share_list}
use Rattle.agree_law.specs.Verdicts.{may_settle_offers, settle_offers}
use Rattle.agree_core.specs.Held.{Held as AgreeHeld, Makes as AgreeMakes}
use Rattle.agree_core.specs.Mates.{class_key}
use Rattle.and_reduce.specs.declared.packets.Sent.{Sent as AgreeSent}
use Rattle.comm_law.specs.Comms.{Comms}
use Rattle.mpi_protocol.specs.declared.rows.ThreadRow.{ThreadRow}
use Rattle.mpi_protocol.specs.Packets.{agreeing, said_of}
use Rattle.mpi_protocol.specs.Rank.{Rank, with_key}
use Rattle.mpi_protocol.specs.Agreeing.{agreed, colour_here, next_key, offers, saying, settles, settles_as, verdict_at, with_verdict}
use Rattle.mpi_protocol.specs.Step.{is_enabled, step}
use Rattle.rank_core.specs.Packets.{Box, sent_by}
use Rattle.rank_core.specs.Held.{Held, IsReady, Makes, MOST_SENT}
use Rattle.rank_core.specs.Verdicts.{comms_after}
use Rattle.rank_core.proofs.ActFacts.{few-agreed, makes-of, sent_by-agreed}

-- Offers

step-offer : (x : Rank) (key : Key) → step x (MakeOffer key) None ≡ saying (if may_own x.agree key then said.Own else said.Zero) (agreed x (make_offer x.rank x.setting.contexts x.agree key))
unfolding step offers
step-offer x key = refl

pub makes-offer : {w : ℕ} (h old new : Held) (key : Key) (a a2 : AgreeHeld) (own : Bool) (line : Entry) (b was : Box w) (after : List (AgreeSent w)) (room : ℕ) → h ≡ old → b ≡ was → IsReady was
    → a.rank ≡ h.state.rank → a.top ≡ h.state.setting.contexts → a.part ≡ h.state.agree → AgreeMakes (make_offer a.rank a.top a.part key) a a2 b.agreed after
    → length after ≤ length b.agreed + 1 → own ≡ may_own a.part key
    → line ≡ record { choice = record { rank = h.state.rank; act = MakeOffer key }; brief = None; said = Some (if own then said.Own else said.Zero); matched = None; dropped = None; reply = None }
    → new.state ≡ record h.state { rank = a2.rank; agree = a2.part } → new.boxed ≡ h.boxed → h.spare ≤ new.spare + 1
    → Makes old (MakeOffer key) None new line (record { agreed = after; others = b.others; room = room })
makes-offer h old new key a a2 own line b was after room is out ready rank top part made few owns entry state boxed spare =
    let ranks : a2.rank ≡ h.state.rank = made.becomes.rank ∙ rank in
    let parts : a2.part ≡ (make_offer h.state.rank h.state.setting.contexts h.state.agree key).part = rw (rank, top, part) at made.becomes.part in
    let sent = rw (rank, top, part) at made.sent in
    makes-of h old new (MakeOffer key) None _ line _ is (step-offer h.state key) (state ∙ rw (ranks, parts) refl) (entry ∙ rw (owns, part) refl)
    (sent_by-agreed h.state.setting.contexts b was room out ready after _ sent)
    (few-agreed h.state.setting.contexts b was room out ready after 1 few (omega arith))
    (rw state ranks) (ap (λ (x : Rank). x.setting) state) (omega (arith, boxed)) spare

-- Settles

pub with_verdict-is : (x : Rank) (key : Key) (v : Verdict) → with_verdict x key v ≡ record x { comms = comms_after x.comms x.threads key v }
with_verdict-is x key Ready = refl
with_verdict-is x key Retry = refl
with_verdict-is x key (Context c) = refl
with_verdict-is x key Exhausted = refl

pub next-is : (key : Key) (list : List Shared1) (o : Option ℤ) → option_map (λ c. split_key key (Some c) list) o ≡ next_key key o list
next-is key list None = refl
next-is key list (Some c) = refl

pub may-settle-offers : (h old : Held) (key : Key) → h ≡ old → is_enabled old.state (Settle key) ≡ true → is_share key.kind ≡ false → may_settle_offers h.state.rank h.state.agree key ≡ true
unfolding is_enabled may_settle
may-settle-offers h old key is enabled offers = rw is (grind (arith, enabled, offers))

pub may-settle-shares : (h old : Held) (key : Key) → h ≡ old → is_enabled old.state (Settle key) ≡ true → is_share key.kind ≡ true → may_settle_share h.state.rank h.state.agree key ≡ true
unfolding is_enabled may_settle
may-settle-shares h old key is enabled shares = rw is (grind (arith, enabled, shares))

module _ {w : ℕ} (h old : Held) (key : Key) (a a2 : AgreeHeld) (before after : List (AgreeSent w)) (is : h ≡ old) (rank : a.rank ≡ h.state.rank) (top : a.top ≡ h.state.setting.contexts)
    (part : a.part ≡ h.state.agree) where
  pub settled-offers : (v : Verdict) (comms : Comms) → is_share key.kind ≡ false → AgreeMakes (settle_offers a.rank a.top a.part key) a a2 before after
      → v ≡ verdict_of a.top a.part.gathered key (round_of a.part.rounds key) → comms ≡ comms_after h.state.comms h.state.threads key v
      → record {
        state = record h.state { rank = a2.rank; agree = a2.part; comms = comms };
        said = Some (said_of v);
        matched = None;
        dropped = None;
        reply = None;
        sent = agreeing (settle_offers a.rank a.top a.part key).sent;
      }
      ≡ settles_as old.state key false
  unfolding settle
  settled-offers v comms offers made verdict there =
      let ranks : a2.rank ≡ h.state.rank = made.becomes.rank ∙ rank in
      let parts : a2.part ≡ (settle_offers h.state.rank h.state.setting.contexts h.state.agree key).part = rw (rank, top, part) at made.becomes.part in
      let same : v ≡ verdict_at h.state key = rw (top, part) at verdict in
      subst
      (λ (o : Held). record {
        state = record h.state { rank = a2.rank; agree = a2.part; comms = comms };
        said = Some (said_of v);
        matched = None;
        dropped = None;
        reply = None;
        sent = agreeing (settle_offers a.rank a.top a.part key).sent;
      } ≡ settles_as o.state key false) is
      (rw (offers, ← same, with_verdict-is h.state key v, rank, top, part, ranks, parts, there) refl)

  pub settled-shares : (next : Option Key) (threads : List ThreadRow) → is_share key.kind ≡ true → AgreeMakes (settle_share a.rank a.top a.part key) a a2 before after
      → next ≡ class_key a.rank key (share_list a.part.shares key) → threads ≡ with_key h.state.threads key next
      → record {
        state = record h.state { rank = a2.rank; agree = a2.part; threads = threads };
        said = Some said.Shared;
        matched = None;
        dropped = None;
        reply = None;
        sent = agreeing (settle_share a.rank a.top a.part key).sent;
      }
      ≡ settles_as old.state key true
  unfolding settle
  settled-shares next threads shares made goes there =
      let ranks : a2.rank ≡ h.state.rank = made.becomes.rank ∙ rank in
      let parts : a2.part ≡ (settle_share h.state.rank h.state.setting.contexts h.state.agree key).part = rw (rank, top, part) at made.becomes.part in
      let list : List Shared1 = share_list h.state.agree.shares key in
      let same : next ≡ next_key key (colour_here h.state key list) list = (rw (rank, part) at goes) ∙ next-is key list (colour_here h.state key list) in
      subst
      (λ (o : Held). record {
        state = record h.state { rank = a2.rank; agree = a2.part; threads = threads };
        said = Some said.Shared;
        matched = None;
        dropped = None;
        reply = None;
        sent = agreeing (settle_share a.rank a.top a.part key).sent;
      } ≡ settles_as o.state key true) is
      (rw (shares, ← same, rank, top, part, ranks, parts, there) refl)

step-settle : (x : Rank) (key : Key) → step x (Settle key) None ≡ settles_as x key (is_share key.kind)
unfolding step settles
step-settle x key = refl

settles-rank : (x : Rank) (key : Key) (b : Bool) → ((settles_as x key b).state.rank ≡ x.rank) × ((settles_as x key b).state.setting ≡ x.setting)
settles-rank x key true = (refl, refl)
settles-rank x key false = rw (with_verdict-is x key (verdict_at x key)) (refl, refl)

settles-rest : (x : Rank) (key : Key) (b : Bool) → ((settles_as x key b).matched ≡ None) × ((settles_as x key b).dropped ≡ None) × ((settles_as x key b).reply ≡ None)
settles-rest x key true = (refl, refl, refl)
settles-rest x key false = (refl, refl, refl)

pub makes-settle : {w : ℕ} (old new : Held) (key : Key) (s : Said) (line : Entry) (out : Box w) → new.state ≡ (settles_as old.state key (is_share key.kind)).state
    → Some s ≡ (settles_as old.state key (is_share key.kind)).said
    → line ≡ record { choice = record { rank = new.state.rank; act = Settle key }; brief = None; said = Some s; matched = None; dropped = None; reply = None }
    → sent_by old.state.setting.contexts out ≡ (settles_as old.state key (is_share key.kind)).sent → length (sent_by old.state.setting.contexts out) ≤ MOST_SENT → new.boxed ≡ old.boxed → old.spare ≤ new.spare + 1
    → Makes old (Settle key) None new line out
makes-settle old new key s line out state says entry sent few boxed spare =
    let stays = settles-rank old.state key (is_share key.kind) in
    let rest = settles-rest old.state key (is_share key.kind) in
    let rank : new.state.rank ≡ old.state.rank = ap (λ (x : Rank). x.rank) state ∙ stays.0 in
    makes-of old old new (Settle key) None _ line out refl (step-settle old.state key) state (entry ∙ rw (rank, says, rest.0, rest.1, rest.2) refl) sent few rank
    (ap (λ (x : Rank). x.setting) state ∙ stays.1) (omega (arith, boxed)) spare
