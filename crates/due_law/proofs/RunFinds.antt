-- Each choice of a protocol run finds what it asks of the agreement about what is due.
use Rattle.std.proofs.Common.{◌≡◌, ◌<◌, ℕ, Bool, true, false, List, [], ◌∷◌, ◌++◌, length, slice_get, Option, Some, None, refl, sym, subst, arith}
use Rattle.std.proofs.lemmas.Bool.Decides.{nat_tests}
use Rattle.mpi_base.specs.declared.keys.Key.{Key}
use Rattle.mpi_base.specs.declared.entries.Act.{Act}
use Rattle.mpi_base.specs.declared.entries.Act.TheVariants.{Call, Answer, Deliver, Offer as MakeOffer, Settle, Leave, Back}
use Rattle.mpi_base.specs.declared.entries.Choice.{Choice}
use Rattle.mpi_base.specs.declared.entries.Entry.{Entry}
use Rattle.mpi_law.specs.declared.setting.Setting.{Setting}
use Rattle.agree_law.specs.declared.rows.Stage.{Stage}
use Rattle.agree_law.specs.declared.rows.Stage.TheVariants.{Sharing, Called, Waiting, Offered, Done}
use Rattle.agree_law.specs.Part.{stage_of}
use Rattle.agree_law.specs.Packets as agree
use Rattle.agree_law.specs.Kinds.{is_share}
use Rattle.agree_law.specs.Offers.{is_due}
use Rattle.agree_law.specs.Moves.{may_settle}
use Rattle.agree_law.specs.World as agreement
use Rattle.agree_law.specs.World.{Event, run}
use Rattle.mpi_protocol.specs.Packets.{Packet, Agreeing, Message, Marker}
use Rattle.mpi_protocol.specs.Step.{is_enabled}
use Rattle.mpi_protocol.specs.World.{World, opening, rank_at, link, head_for, moved, may_happen}
use Rattle.mpi_protocol.specs.Run.{RunsFrom, IsProtocolRun, end_of}
use Rattle.projection_law.specs.Events.{events_at, agreement_events}
use Rattle.projection_law.specs.Premises.{SetsAreOfRanks}
use Rattle.projection_law.specs.KnownNames.{NamesAreKnownFrom, CallersNamesAreKnown}
use Rattle.projection_law.proofs.BothTests.{right_of}
use Rattle.projection_law.proofs.Runs.{Projected, run-append, mirrored}
use Rattle.projection_law.proofs.SoundRuns.{Follows, act_fits, follows-opening, follows-moved, runs_follow}
use Rattle.due_law.specs.Dues.{Dues, none_due}
use Rattle.due_law.specs.Agreed.{HasWaited}
use Rattle.due_law.specs.Runs.{dues_chosen, dues_of, SettleFinds, PacketFinds, ActFinds, ChoiceFinds, EachFinds}
use Rattle.due_law.proofs.Law.{Holding, holding-run, holding_always}
use Rattle.due_law.proofs.Finds.{Belongs, untold, due_is_free, undue_unless, says_finds, downs_find}
use Rattle.due_law.proofs.RunDues.{chosen, dues_are_the_agreements}

-- a world that a protocol run reaches, with what is due there
pub belongs : (s : Setting) (w : World) (es : List Event) (due : Dues) → Projected s w es → Holding s.contexts (run s.contexts es (agreement.opening s.ranks s.contexts)) due → Belongs s w (run s.contexts es (agreement.opening s.ranks s.contexts)) due
belongs s w es due p h = record { count = p.count; numbers = p.numbers; settings = p.settings; projects = p.projects; holding = h }

-- One choice

module _ (s : Setting) (w : World) (a : agreement.World) (due : Dues) (h : Belongs s w a due) where
  waits : (r : ℕ) (key : Key) (st : Option Stage) → stage_of (rank_at w r).agree.opened key ≡ st → is_due st ≡ true → HasWaited (rank_at w r) (due r key) key
  waits r key None e f = absurd (cc (f))
  waits r key (Some (Sharing z)) e f = absurd (cc (f))
  waits r key (Some Called) e f = absurd (cc (f))
  waits r key (Some (Waiting i)) e f = record { round = i; stage = e; none = undue_unless s w a due h r key (λ j t. absurd (cc (e, t))) }
  waits r key (Some (Offered j own)) e f = absurd (cc (f))
  waits r key (Some (Done c)) e f = absurd (cc (f))

  settles : (r : ℕ) (key : Key) (b : Bool) → r < length w.ranks → may_settle (rank_at w r).rank (rank_at w r).agree key ≡ true → is_share key.kind ≡ b → SettleFinds s w due r key b
  unfolding may_settle
  settles r key true lt may e = tt
  settles r key false lt may e = says_finds s w a due h r key (record { inside = lt; may = grind (arith, may, e) })

  comes : (r from : ℕ) (o : Option Packet) → r < length w.ranks → from < length w.ranks → slice_get (link w from r) 0 ≡ o → PacketFinds w due r from o
  comes r from None lt lf e = tt
  comes r from (Some (Agreeing (agree.Up key i own mask))) lt lf e = tt
  comes r from (Some (Agreeing (agree.Down key i v))) lt lf e = downs_find s w a due h r from key i v lt lf e
  comes r from (Some (Agreeing (agree.Share key z))) lt lf e = tt
  comes r from (Some (Agreeing (agree.Shares key list))) lt lf e = tt
  comes r from (Some (Message m)) lt lf e = tt
  comes r from (Some (Marker c)) lt lf e = tt

  acts : (r : ℕ) (act : Act) → may_happen w (record { rank = r; act = act }) ≡ true → r < length w.ranks → is_enabled (rank_at w r) act ≡ true → ActFinds s w due r act (head_for w r act)
  unfolding is_enabled
  acts r (Call t op) may lt e = tt
  acts r (Answer t) may lt e = tt
  acts r (Deliver from) may lt e = comes r from (slice_get (link w from r) 0) lt (grind (arith, nat_tests, may)) refl
  acts r (MakeOffer key) may lt e = waits r key (stage_of (rank_at w r).agree.opened key) refl e
  acts r (Settle key) may lt e = settles r key (is_share key.kind) lt e refl
  acts r (Leave c) may lt e = tt
  acts r (Back c) may lt e = tt

  pub choice_finds : (c : Choice) → may_happen w c ≡ true → ChoiceFinds s w due c
  choice_finds c may = record {
    untold = untold s w a due h;
    free = due_is_free s w a due h;
    act = acts c.rank c.act may (grind (arith, nat_tests, may)) (right_of _ _ (right_of _ _ may));
  }

-- Journals

each_from : (s : Setting) (w : World) (es : List Event) (due : Dues) (journal : List Entry) → SetsAreOfRanks s → Follows s w es → Holding s.contexts (run s.contexts es (agreement.opening s.ranks s.contexts)) due → RunsFrom w journal → NamesAreKnownFrom w journal
    → EachFinds s w due journal
each_from s w es due [] sets f h runs known = tt
each_from s w es due (e ∷ rest) sets f h runs known =
    let a = run s.contexts es (agreement.opening s.ranks s.contexts) in
    let c = e.choice in
    let xs = events_at w c.rank c.act in
    let lt : c.rank < length w.ranks = (let m = runs.0 in grind (arith, nat_tests, m)) in
    let enabled : is_enabled (rank_at w c.rank) c.act ≡ true = right_of _ _ (right_of _ _ runs.0) in
    let m = mirrored s w es c.rank c.act f.projected runs.0 (act_fits s sets w es f c.rank lt c.act enabled known.0) in
    let next = follows-moved s w es c sets f runs.0 known.0 in
    let one : Holding s.contexts (run s.contexts xs a) (dues_chosen w due c) = subst (Holding s.contexts (run s.contexts xs a)) (chosen s w es f.projected due c.rank lt c.act runs.0 m.may) (holding-run s.contexts xs a due h) in
    let holds = subst (λ (z : agreement.World). Holding s.contexts z (dues_chosen w due c)) (sym (run-append s.contexts es xs (agreement.opening s.ranks s.contexts))) one in
    (choice_finds s w a due (belongs s w es due f.projected h) c runs.0, each_from s (moved w c) (es ++ xs) (dues_chosen w due c) rest sets next holds runs.2 known.1)

pub each_finds : (s : Setting) (journal : List Entry) → SetsAreOfRanks s → CallersNamesAreKnown s journal → IsProtocolRun s journal → EachFinds s (opening s) none_due journal
each_finds s journal sets known runs = each_from s (opening s) [] none_due journal sets (follows-opening s) (holding_always s.ranks s.contexts []) runs known

-- the end of a journal, with what is due there
pub end_belongs : (s : Setting) (journal : List Entry) → SetsAreOfRanks s → CallersNamesAreKnown s journal → IsProtocolRun s journal
    → Belongs s (end_of s journal) (run s.contexts (agreement_events (opening s) journal) (agreement.opening s.ranks s.contexts)) (dues_of s journal)
end_belongs s journal sets known runs =
    let es = agreement_events (opening s) journal in
    belongs s (end_of s journal) es (dues_of s journal) (runs_follow s journal sets runs known).projected
    (subst (Holding s.contexts (run s.contexts es (agreement.opening s.ranks s.contexts))) (sym (dues_are_the_agreements s journal sets known runs)) (holding_always s.ranks s.contexts es))
