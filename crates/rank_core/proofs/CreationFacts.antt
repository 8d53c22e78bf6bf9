-- Calls of creations.
use Rattle.std.proofs.Common.{◌≡◌, ◌≤◌, ◌<◌, ◌-◌, ◌^◌, ℕ, List, refl, sym, subst, ◌∙◌, ap, arith, None}
use Rattle.std.specs.Prelude.{All}
use Rattle.std.proofs.lemmas.List.Elements.{All-weaker}
use Rattle.local_law.specs.Names.{bind}
use Rattle.local_law.specs.Objects as objects
use Rattle.mpi_base.specs.declared.keys.Key.{Key}
use Rattle.mpi_law.specs.declared.effects.Asked.{Asked}
use Rattle.mpi_law.specs.declared.effects.Effect.TheVariants.{Joins}
use Rattle.mpi_law.specs.declared.effects.Origin.{Origin}
use Rattle.mpi_law.specs.declared.effects.Origin.TheVariants.{Grouped, Duplicated, Divided, GroupedOn}
use Rattle.mpi_law.specs.declared.setting.Setting.{Setting}
use Rattle.mpi_law.specs.Local.Objects.{Local, with_names}
use Rattle.agree_law.specs.Packets.{Moved}
use Rattle.agree_core.specs.Held.{Held as AgreeHeld, Makes as AgreeMakes}
use Rattle.and_reduce.specs.declared.packets.Sent.{Sent as AgreeSent}
use Rattle.comm_law.specs.declared.rows.CommRow.{CommRow}
use Rattle.comm_law.specs.Comms.{Comms}
use Rattle.mpi_protocol.specs.declared.rows.ThreadRow.{ThreadRow}
use Rattle.mpi_protocol.specs.declared.rows.Waits.TheVariants.{Creation}
use Rattle.mpi_protocol.specs.Calls.{called, counted, key_of, opens}
use Rattle.mpi_protocol.specs.Packets.{agreeing}
use Rattle.mpi_protocol.specs.Rank.{Rank, with_call}
use Rattle.rank_core.specs.Held.{CountsAreLow, Held, IsRank, IsReady}
use Rattle.rank_core.specs.Openings.{opening}
use Rattle.rank_core.specs.Packets.{Box, sent_by}
use Rattle.rank_core.proofs.ActFacts.{sent_by-agreed}
use Rattle.rank_core.proofs.CommFacts.{rank-counted}

-- no count of calls on a communicator is at its end
pub comm-calls-low : (h old : Held) → h ≡ old → CountsAreLow old → All (λ (m : CommRow). m.calls < 2 ^ 64 - 1) h.state.comms.rows
comm-calls-low h old is low =
    rw is (All-weaker (λ (m : CommRow). m.calls ≤ 2 ^ 64 - 2) (λ (m : CommRow). m.calls < 2 ^ 64 - 1) (λ m le. omega (arith, le)) old.state.comms.rows low.state.calls)

-- what holds of a rank's fields stays
pub rank-opened : {words rank : ℕ} {s : Setting} {top told told2 : ℕ} (old new : Comms) (origin : Origin ℕ) (rank2 top2 : ℕ) → told2 ≡ told → IsRank words rank s top told old.rows → rank2 ≡ rank
    → top2 ≡ top → new ≡ counted old origin → IsRank words rank2 s top2 told2 new.rows
rank-opened old new (Grouped group tag) rank2 top2 same is r t e = rw (r, t, e, same) is
rank-opened old new (Duplicated c) rank2 top2 same is r t e = rw (r, t) (rank-counted old new same is c e)
rank-opened old new (Divided c share) rank2 top2 same is r t e = rw (r, t) (rank-counted old new same is c e)
rank-opened old new (GroupedOn c tag group) rank2 top2 same is r t e = rw (r, t, e, same) is

opens-is : (x : Rank) (origin : Origin ℕ) → opens x origin ≡ opening x.rank x.setting.contexts x.agree (key_of x.comms origin) origin
opens-is x (Grouped group tag) = refl
opens-is x (Duplicated c) = refl
opens-is x (Divided c share) = refl
opens-is x (GroupedOn c tag group) = refl

module _ {w : ℕ} (h old : Held) (t : ℕ) (asked : Asked ℕ) (key : Key) (a a2 : AgreeHeld) (comms : Comms) (local : Local) (threads : List ThreadRow) (b was : Box w) (after : List (AgreeSent w))
    (is : h ≡ old) (out : b ≡ was) (ready : IsReady was) (rank : a.rank ≡ h.state.rank) (top : a.top ≡ h.state.setting.contexts) (part : a.part ≡ h.state.agree)
    (named : key ≡ key_of h.state.comms asked.origin) (step : AgreeMakes (opening a.rank a.top a.part key asked.origin) a a2 b.agreed after) (counts : comms ≡ counted h.state.comms asked.origin)
    (held : local ≡ with_names h.state.local (bind h.state.local.names asked.target objects.Reserved)) (calls : threads ≡ with_call h.state t (Creation key asked.target asked.session)) where
  pub joined : record {
    state = record h.state { rank = a2.rank; agree = a2.part; comms = comms; local = local; threads = threads };
    said = None;
    matched = None;
    dropped = None;
    reply = None;
    sent = sent_by old.state.setting.contexts (record { agreed = after; others = b.others; room = 0 });
  } ≡ called old.state t (Joins asked)
  joined =
      let ranks : a2.rank ≡ h.state.rank = step.becomes.rank ∙ rank in
      let parts : a2.part ≡ (opens h.state asked.origin).part = (rw (rank, top, part, named) at step.becomes.part) ∙ ap (λ (m : Moved). m.part) (sym (opens-is h.state asked.origin)) in
      let sent : sent_by h.state.setting.contexts (record { agreed = after; others = b.others; room = 0 }) ≡ agreeing (opens h.state asked.origin).sent =
      sent_by-agreed h.state.setting.contexts b was 0 out ready after _ (rw (rank, top, part, named) at step.sent) ∙ ap (λ (m : Moved). agreeing m.sent) (sym (opens-is h.state asked.origin)) in
      let waits : threads ≡ with_call h.state t (Creation (key_of h.state.comms asked.origin) asked.target asked.session) = rw named at calls in
      subst
      (λ (o : Held). record {
        state = record h.state { rank = a2.rank; agree = a2.part; comms = comms; local = local; threads = threads };
        said = None;
        matched = None;
        dropped = None;
        reply = None;
        sent = sent_by o.state.setting.contexts (record { agreed = after; others = b.others; room = 0 });
      } ≡ called o.state t (Joins asked)) is
      (rw (ranks, parts, counts, held, waits, sent) refl)
