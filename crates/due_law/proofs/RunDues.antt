-- What is due at the end of a journal is what is due after its events in the agreement.
use Rattle.std.proofs.Common.{◌≡◌, ◌<◌, ℕ, Bool, true, false, if◌then◌else◌, List, [], ◌∷◌, ◌++◌, length, slice_get, Option, Some, None, refl, sym, ap, ◌∙◌, arith}
use Rattle.std.proofs.lemmas.Bool.Decides.{nat_tests}
use Rattle.mpi_base.specs.declared.keys.Key.{Key}
use Rattle.mpi_base.specs.declared.entries.Act.{Act}
use Rattle.mpi_base.specs.declared.entries.Act.TheVariants.{Call, Answer, Deliver, Offer as MakeOffer, Settle, Leave, Back}
use Rattle.mpi_base.specs.declared.entries.Entry.{Entry}
use Rattle.mpi_law.specs.declared.setting.Setting.{Setting}
use Rattle.mpi_law.specs.Local.{effect_of}
use Rattle.mpi_law.specs.declared.effects.Origin.{Origin}
use Rattle.mpi_law.specs.declared.effects.Origin.TheVariants.{Grouped, Duplicated, Divided, GroupedOn}
use Rattle.mpi_law.specs.declared.effects.Effect.{Effect}
use Rattle.mpi_law.specs.declared.effects.Effect.TheVariants.{Says, Opens, Groups, Ungroups, Joins, Frees, Ends, Sends, Receives, Posts, NullPosts, Completes, Awaits}
use Rattle.agree_law.specs.declared.rows.Outcome.{Outcome}
use Rattle.agree_law.specs.Part.{Agree, stage_of}
use Rattle.agree_law.specs.World as agreement
use Rattle.agree_law.specs.World.{Event, part_at, head_of, may_happen as may_be, happens, run}
use Rattle.mpi_protocol.specs.declared.rows.Waits.{Waits}
use Rattle.mpi_protocol.specs.declared.rows.Waits.TheVariants.{Nothing, Creation, Uncoloured, Freeing, Ending, Receiving, Awaiting}
use Rattle.mpi_protocol.specs.Packets.{Packet, Agreeing, Message, Marker}
use Rattle.mpi_protocol.specs.Rank.{Rank, thread_at}
use Rattle.mpi_protocol.specs.Calls.{around_here}
use Rattle.mpi_protocol.specs.Answers.{outcome_of}
use Rattle.mpi_protocol.specs.Step.{is_enabled}
use Rattle.mpi_protocol.specs.World.{World, opening, rank_at, link, moved, may_happen}
use Rattle.mpi_protocol.specs.Run.{RunsFrom, IsProtocolRun}
use Rattle.projection_law.specs.Events.{opening_events, call_events, decided_events, answer_events, packet_events, events_at, agreement_events}
use Rattle.projection_law.specs.Premises.{SetsAreOfRanks}
use Rattle.projection_law.specs.KnownNames.{NamesAreKnownFrom, CallersNamesAreKnown}
use Rattle.projection_law.specs.Facts.{EachMayHappen}
use Rattle.projection_law.proofs.BothTests.{right_of}
use Rattle.projection_law.proofs.Projected.{same_part, agreement_taken}
use Rattle.projection_law.proofs.Runs.{Projected, run-append, mirrored}
use Rattle.projection_law.proofs.SoundRuns.{Follows, act_fits, follows-opening, follows-moved}
use Rattle.due_law.specs.Dues.{Dues, none_due, dues_settled, dues_came, dues_happened, dues_happen, dues_run}
use Rattle.due_law.specs.Runs.{dues_arrived, dues_chosen, dues_from, DuesAreTheAgreements}

dues_run-append : (top : ℕ) (xs ys : List Event) (a : agreement.World) (due : Dues) → dues_run top (xs ++ ys) a due ≡ dues_run top ys (run top xs a) (dues_run top xs a due)
dues_run-append top [] ys a due = refl
dues_run-append top (x ∷ xs) ys a due = dues_run-append top xs ys (happens top a x) (dues_happen top a x due)

-- One event

same_if : (b : Bool) (due : Dues) → (if b then due else due) ≡ due
same_if true due = refl
same_if false due = refl

-- an event that changes nothing that is due
quiet_happen : (top : ℕ) (a : agreement.World) (e : Event) (due : Dues) → dues_happened top a e due ≡ due → dues_happen top a e due ≡ due
unfolding dues_happen
quiet_happen top a e due same = ap (λ (d : Dues). if may_be top a e then d else due) same ∙ same_if (may_be top a e) due

may_happen_so : (top : ℕ) (a : agreement.World) (e : Event) (due : Dues) → may_be top a e ≡ true → dues_happen top a e due ≡ dues_happened top a e due
unfolding dues_happen
may_happen_so top a e due may = rw may refl

-- One choice

module _ (top : ℕ) (a : agreement.World) (due : Dues) (r : ℕ) (x : Rank) where
  opening_quiet : (o : Origin ℕ) → dues_run top (opening_events r x o) a due ≡ due
  opening_quiet (Grouped group tag) = quiet_happen top a _ due refl
  opening_quiet (Duplicated c) = quiet_happen top a _ due refl
  opening_quiet (Divided c share) = quiet_happen top a _ due refl
  opening_quiet (GroupedOn c tag group) = quiet_happen top a _ due refl

  call_quiet : (e : Effect ℕ) → dues_run top (call_events r x e) a due ≡ due
  call_quiet (Says said) = refl
  call_quiet (Opens target) = refl
  call_quiet (Groups target members session) = refl
  call_quiet (Ungroups name) = refl
  call_quiet (Joins m) = opening_quiet m.origin
  call_quiet (Frees name c) = refl
  call_quiet (Ends name s) = refl
  call_quiet (Sends m) = refl
  call_quiet (Receives m) = refl
  call_quiet (Posts target m) = refl
  call_quiet (NullPosts target) = refl
  call_quiet (Completes name n) = refl
  call_quiet (Awaits name) = refl

  decided_quiet : (key : Key) (o : Option Outcome) → dues_run top (decided_events r key o) a due ≡ due
  decided_quiet key None = refl
  decided_quiet key (Some o) = quiet_happen top a (agreement.Close r key) due refl

  answer_quiet : (z : Waits) → dues_run top (answer_events r x z) a due ≡ due
  answer_quiet Nothing = refl
  answer_quiet (Creation key target session) = decided_quiet key (outcome_of (stage_of x.agree.opened key))
  answer_quiet (Uncoloured key target session) = refl
  answer_quiet (Freeing serial) = refl
  answer_quiet (Ending session) = refl
  answer_quiet (Receiving n) = refl
  answer_quiet (Awaiting name) = refl

module _ (s : Setting) (w : World) (es : List Event) (h : Projected s w es) (due : Dues) (r : ℕ) (lt : r < length w.ranks) where
  abbrev a : agreement.World
  a = run s.contexts es (agreement.opening s.ranks s.contexts)

  here : part_at a r ≡ (rank_at w r).agree
  here = same_part w a r h.projects lt

  arrived : (from : ℕ) (o : Option Packet) → from < length w.ranks → slice_get (link w from r) 0 ≡ o → EachMayHappen s.contexts a (packet_events r from o) → dues_run s.contexts (packet_events r from o) a due ≡ dues_arrived (rank_at w r) due r from o
  arrived from None lf e m = refl
  arrived from (Some (Message z)) lf e m = refl
  arrived from (Some (Marker c)) lf e m = refl
  arrived from (Some (Agreeing p)) lf e m =
      may_happen_so s.contexts a (agreement.Deliver r from) due m.0
      ∙ (ap (λ (b : Agree). dues_came b due r from (head_of a.links from r)) here ∙ ap (dues_came (rank_at w r).agree due r from) (agreement_taken w a from r p h.projects lf lt e).head)

  settled : (key : Key) → EachMayHappen s.contexts a (agreement.Settle r key ∷ []) → dues_run s.contexts (agreement.Settle r key ∷ []) a due ≡ dues_settled (rank_at w r).setting.contexts (rank_at w r).agree due r key
  settled key m =
      may_happen_so s.contexts a (agreement.Settle r key) due m.0
      ∙ (ap (λ (b : Agree). dues_settled s.contexts b due r key) here ∙ sym (ap (λ (z : Setting). dues_settled z.contexts (rank_at w r).agree due r key) (h.settings r lt)))

  pub chosen : (act : Act) → may_happen w (record { rank = r; act = act }) ≡ true → EachMayHappen s.contexts a (events_at w r act) → dues_run s.contexts (events_at w r act) a due ≡ dues_chosen w due (record { rank = r; act = act })
  chosen (Call t op) may m = call_quiet s.contexts a due r (rank_at w r) (effect_of (rank_at w r).setting (rank_at w r).rank (around_here (rank_at w r)) (rank_at w r).local op)
  chosen (Answer t) may m = answer_quiet s.contexts a due r (rank_at w r) (thread_at (rank_at w r) t).waits
  chosen (Deliver from) may m = arrived from (slice_get (link w from r) 0) (grind (arith, nat_tests, may)) refl m
  chosen (MakeOffer key) may m = quiet_happen s.contexts a (agreement.Offer r key) due refl
  chosen (Settle key) may m = settled key m
  chosen (Leave c) may m = refl
  chosen (Back c) may m = quiet_happen s.contexts a (agreement.Back r c) due refl

-- Journals

dues_follow : (s : Setting) (w : World) (es : List Event) (due : Dues) (journal : List Entry) → SetsAreOfRanks s → Follows s w es → RunsFrom w journal → NamesAreKnownFrom w journal
    → dues_from w due journal ≡ dues_run s.contexts (agreement_events w journal) (run s.contexts es (agreement.opening s.ranks s.contexts)) due
dues_follow s w es due [] sets h runs known = refl
dues_follow s w es due (e ∷ rest) sets h runs known =
    let a = run s.contexts es (agreement.opening s.ranks s.contexts) in
    let c = e.choice in
    let xs = events_at w c.rank c.act in
    let ys = agreement_events (moved w c) rest in
    let lt : c.rank < length w.ranks = (let m = runs.0 in grind (arith, nat_tests, m)) in
    let enabled : is_enabled (rank_at w c.rank) c.act ≡ true = right_of _ _ (right_of _ _ runs.0) in
    let m = mirrored s w es c.rank c.act h.projected runs.0 (act_fits s sets w es h c.rank lt c.act enabled known.0) in
    let one = chosen s w es h.projected due c.rank lt c.act runs.0 m.may in
    let next = follows-moved s w es c sets h runs.0 known.0 in
    dues_follow s (moved w c) (es ++ xs) (dues_chosen w due c) rest sets next runs.2 known.1
    ∙ (ap (λ (z : agreement.World). dues_run s.contexts ys z (dues_chosen w due c)) (run-append s.contexts es xs (agreement.opening s.ranks s.contexts))
    ∙ (ap (dues_run s.contexts ys (run s.contexts xs a)) (sym one) ∙ sym (dues_run-append s.contexts xs ys a due)))

pub dues_are_the_agreements : (s : Setting) (journal : List Entry) → SetsAreOfRanks s → CallersNamesAreKnown s journal → IsProtocolRun s journal → DuesAreTheAgreements s journal
dues_are_the_agreements s journal sets known runs = dues_follow s (opening s) [] none_due journal sets (follows-opening s) runs known
