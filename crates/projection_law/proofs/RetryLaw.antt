-- A retry has its cause in the journal, since the key's last settle.
use Rattle.std.proofs.Common.{◌≡◌, ◌<◌, ◌&&◌, ℕ, Bool, true, false, List, [], ◌∷◌, ◌++◌, length, refl, sym, subst, ap, ◌∙◌, arith}
use Rattle.std.proofs.lemmas.Bool.Decides.{nat_tests}
use Rattle.mpi_base.specs.declared.keys.Key.{Key}
use Rattle.mpi_base.specs.Keys.{same_key}
use Rattle.mpi_base.specs.declared.entries.Act.{Act}
use Rattle.mpi_base.specs.declared.entries.Act.TheVariants.{Call, Answer, Deliver, Offer as MakeOffer, Settle, Leave, Back}
use Rattle.mpi_base.specs.declared.entries.Entry.{Entry}
use Rattle.mpi_law.specs.declared.setting.Setting.{Setting}
use Rattle.agree_law.specs.declared.rows.Verdict.TheVariants.{Retry}
use Rattle.agree_law.specs.Rule.{may_own}
use Rattle.agree_law.specs.Offers.{may_offer}
use Rattle.agree_law.specs.World as agreement
use Rattle.agree_law.specs.World.{Event, part_at, may_happen as may_be, run}
use Rattle.agree_law.specs.Facts.{Cause, NoSettle}
use Rattle.mpi_protocol.specs.Agreeing.{verdict_at}
use Rattle.mpi_protocol.specs.Step.{is_enabled}
use Rattle.mpi_protocol.specs.World.{World, opening, rank_at, moved}
use Rattle.mpi_protocol.specs.Run.{RunsFrom, IsProtocolRun, world_after, end_of}
use Rattle.projection_law.proofs.BothTests.{right_of}
use Rattle.projection_law.specs.Facts.{EachMayHappen, settles_key, NoneSettles, IsCaused, MaySettle}
use Rattle.projection_law.specs.Premises.{SetsAreOfRanks}
use Rattle.projection_law.specs.KnownNames.{NamesAreKnownFrom, CallersNamesAreKnown}
use Rattle.projection_law.proofs.Projected.{same_part}
use Rattle.projection_law.specs.Events.{events_at, agreement_events}
use Rattle.projection_law.proofs.Runs.{mirrored, run-append}
use Rattle.projection_law.proofs.SoundRuns.{Follows, act_fits, follows-opening, follows-moved, follows-from, runs_follow}
use Rattle.projection_law.proofs.Laws.{retries_are_caused_there}
use Rattle.projection_law.proofs.Offers.{find_offer}

-- Parts of runs

split_run : (w : World) (first rest : List Entry) → RunsFrom w (first ++ rest) → RunsFrom w first × RunsFrom (world_after w first) rest
split_run w [] rest r = (tt, r)
split_run w (e ∷ es) rest r = let ih = split_run (moved w e.choice) es rest r.2 in ((r.0, r.1, ih.0), ih.1)

split_known : (w : World) (first rest : List Entry) → NamesAreKnownFrom w (first ++ rest) → NamesAreKnownFrom w first × NamesAreKnownFrom (world_after w first) rest
split_known w [] rest r = (tt, r)
split_known w (e ∷ es) rest r = let ih = split_known (moved w e.choice) es rest r.1 in ((r.0, ih.0), ih.1)

quiet_after : (top : ℕ) (key : Key) (a : agreement.World) (xs ys : List Event) → NoSettle top key a (xs ++ ys) → NoSettle top key (run top xs a) ys
quiet_after top key a [] ys q = q
quiet_after top key a (x ∷ xs) ys q = quiet_after top key (agreement.happens top a x) xs ys q.1

-- no settle among the events is none among the choices
quiet_choices : (s : Setting) (key : Key) (w : World) (es : List Event) (journal : List Entry) → SetsAreOfRanks s → Follows s w es → RunsFrom w journal → NamesAreKnownFrom w journal
    → NoSettle s.contexts key (run s.contexts es (agreement.opening s.ranks s.contexts)) (agreement_events w journal) → NoneSettles key journal
unfolding is_enabled
quiet_choices s key w es [] sets h r known q = tt
quiet_choices s key w es (e ∷ rest) sets h r known q =
    let a = run s.contexts es (agreement.opening s.ranks s.contexts) in
    let xs = events_at w e.choice.rank e.choice.act in
    let lt : e.choice.rank < length w.ranks = (let m = r.0 in grind (arith, nat_tests, m)) in
    let enabled : is_enabled (rank_at w e.choice.rank) e.choice.act ≡ true = right_of _ _ (right_of _ _ r.0) in
    let m = mirrored s w es e.choice.rank e.choice.act h.projected r.0 (act_fits s sets w es h e.choice.rank lt e.choice.act enabled known.0) in
    let next = follows-moved s w es e.choice sets h r.0 known.0 in
    let tail = subst (λ z. NoSettle s.contexts key z (agreement_events (moved w e.choice) rest)) (sym (run-append s.contexts es xs (agreement.opening s.ranks s.contexts))) (quiet_after s.contexts key a xs (agreement_events (moved w e.choice) rest) q) in
    (here e.choice.act m.may q, quiet_choices s key (moved w e.choice) (es ++ xs) rest sets next r.2 known.1 tail)
  where
    other : (a b : Bool) → (a && b) ≡ false → b ≡ true → a ≡ false
    other true b e f = absurd (cc (e, f))
    other false b e f = refl

    here : (act : Act) → EachMayHappen s.contexts (run s.contexts es (agreement.opening s.ranks s.contexts)) (events_at w e.choice.rank act)
        → NoSettle s.contexts key (run s.contexts es (agreement.opening s.ranks s.contexts)) (events_at w e.choice.rank act ++ agreement_events (moved w e.choice) rest) → settles_key key act ≡ false
    here (Call t op) m q = refl
    here (Answer t) m q = refl
    here (Deliver from) m q = refl
    here (MakeOffer k) m q = refl
    here (Settle k) m q = other (same_key k key) _ q.0 m.0
    here (Leave c) m q = refl
    here (Back c) m q = refl

pub retries_are_caused_in_journals : (s : Setting) (journal : List Entry) → SetsAreOfRanks s → IsProtocolRun s journal → CallersNamesAreKnown s journal
    → (r : ℕ) (key : Key) → MaySettle (end_of s journal) r key → verdict_at (rank_at (end_of s journal) r) key ≡ Retry → IsCaused s journal key
retries_are_caused_in_journals s journal sets r known q key may said =
    let w = end_of s journal in
    let h = runs_follow s journal sets r known in
    let c = retries_are_caused_there s w (agreement_events (opening s) journal) h.projected q key may said in
    let f = find_offer (opening s) journal c.before c.rank key c.after c.split in
    let parts = split_run (opening s) f.first (f.entry ∷ f.rest) (subst (RunsFrom (opening s)) f.split r) in
    let knowns = split_known (opening s) f.first (f.entry ∷ f.rest) (subst (NamesAreKnownFrom (opening s)) f.split known) in
    let w1 = end_of s f.first in
    let es1 = agreement_events (opening s) f.first in
    let one = follows-from s (opening s) [] f.first sets (follows-opening s) parts.0 knowns.0 in
    let two = follows-moved s w1 es1 f.entry.choice sets one parts.1.0 knowns.1.0 in
    let lt : f.entry.choice.rank < length w1.ranks = (let m = parts.1.0 in grind (arith, nat_tests, m)) in
    let start = agreement.opening s.ranks s.contexts in
    let here : part_at (run s.contexts c.before start) c.rank ≡ (rank_at w1 f.entry.choice.rank).agree =
    ap (λ es. part_at (run s.contexts es start) c.rank) (sym f.lead) ∙ (ap (λ z. part_at (run s.contexts es1 start) z) (sym f.rank) ∙ same_part w1 (run s.contexts es1 start) f.entry.choice.rank one.projected.projects lt) in
    let events : es1 ++ events_at w1 f.entry.choice.rank f.entry.choice.act ≡ c.before ++ agreement.Offer c.rank key ∷ [] =
    ap (λ z. es1 ++ events_at w1 f.entry.choice.rank z) f.act ∙ (ap (λ z. es1 ++ agreement.Offer z key ∷ []) f.rank ∙ ap (λ es. es ++ agreement.Offer c.rank key ∷ []) f.lead) in
    let quiet : NoSettle s.contexts key (run s.contexts (es1 ++ events_at w1 f.entry.choice.rank f.entry.choice.act) start) (agreement_events (moved w1 f.entry.choice) f.rest) =
    subst (λ es. NoSettle s.contexts key (run s.contexts es start) (agreement_events (moved w1 f.entry.choice) f.rest)) (sym events) (subst (λ ys. NoSettle s.contexts key (run s.contexts (c.before ++ agreement.Offer c.rank key ∷ []) start) ys) (sym f.tail) c.quiet) in
    record {
      first = f.first;
      entry = f.entry;
      rest = f.rest;
      split = f.split;
      act = f.act;
      due = subst (λ b. may_offer b key ≡ true) here c.zero.due;
      zero = subst (λ b. may_own b key ≡ false) here c.zero.zero;
      cause = subst (λ b. Cause b key) here c.zero.cause;
      quiet = quiet_choices s key (moved w1 f.entry.choice) (es1 ++ events_at w1 f.entry.choice.rank f.entry.choice.act) f.rest sets two parts.1.2 knowns.1.1 quiet;
    }
