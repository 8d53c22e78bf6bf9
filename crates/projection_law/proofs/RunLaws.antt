-- Every protocol run is a run of the agreement, each of whose events may happen.
use Rattle.std.proofs.Common.{◌≡◌, ◌<◌, ◌≤◌, ℕ, true, List, [], ◌∷◌, ◌++◌, length, get_or, sym, subst, ap, ◌∙◌, arith}
use Rattle.std.proofs.lemmas.Bool.Decides.{nat_tests}
use Rattle.mpi_base.specs.declared.entries.Choice.{Choice}
use Rattle.mpi_base.specs.declared.entries.Entry.{Entry}
use Rattle.mpi_law.specs.declared.setting.Setting.{Setting}
use Rattle.agree_law.specs.World as agreement
use Rattle.agree_law.specs.World.{Event, run}
use Rattle.agree_law.proofs.Lists.{length-set}
use Rattle.agree_law.proofs.PickedContexts.{picks_are_contexts}
use Rattle.mpi_protocol.specs.Rank.{Rank}
use Rattle.mpi_protocol.specs.Step.{is_enabled, step}
use Rattle.mpi_protocol.specs.World.{World, opening, blank, rank_at, moved, head_for}
use Rattle.mpi_protocol.specs.Run.{RunsFrom, IsProtocolRun, world_after, end_of}
use Rattle.projection_law.proofs.BothTests.{right_of}
use Rattle.projection_law.specs.Events.{events_at, agreement_events}
use Rattle.projection_law.specs.Premises.{SetsAreOfRanks}
use Rattle.projection_law.specs.KnownNames.{NamesAreKnownFrom, CallersNamesAreKnown}
use Rattle.projection_law.specs.Facts.{EachMayHappen, IsAgreementRun, PicksAreContexts}
use Rattle.projection_law.proofs.Projected.{agreement_is}
use Rattle.projection_law.proofs.Frames.{same_step, ranks_moved, rank_moved}
use Rattle.projection_law.proofs.Runs.{mirrored, run-append, projected-opening}
use Rattle.projection_law.proofs.SoundRuns.{Follows, act_fits, follows-opening, follows-moved, runs_follow}

each-append : (top : ℕ) (a : agreement.World) (xs ys : List Event) → EachMayHappen top a xs → EachMayHappen top (run top xs a) ys → EachMayHappen top a (xs ++ ys)
each-append top a [] ys h g = g
each-append top a (x ∷ xs) ys h g = (h.0, each-append top (agreement.happens top a x) xs ys h.1 g)

each_from : (s : Setting) (w : World) (es : List Event) (journal : List Entry) → SetsAreOfRanks s → Follows s w es → RunsFrom w journal → NamesAreKnownFrom w journal
    → EachMayHappen s.contexts (run s.contexts es (agreement.opening s.ranks s.contexts)) (agreement_events w journal)
unfolding is_enabled
each_from s w es [] sets h r known = tt
each_from s w es (e ∷ rest) sets h r known =
    let a = run s.contexts es (agreement.opening s.ranks s.contexts) in
    let xs = events_at w e.choice.rank e.choice.act in
    let lt : e.choice.rank < length w.ranks = (let m = r.0 in grind (arith, nat_tests, m)) in
    let enabled : is_enabled (rank_at w e.choice.rank) e.choice.act ≡ true = right_of _ _ (right_of _ _ r.0) in
    let m = mirrored s w es e.choice.rank e.choice.act h.projected r.0 (act_fits s sets w es h e.choice.rank lt e.choice.act enabled known.0) in
    let next = follows-moved s w es e.choice sets h r.0 known.0 in
    each-append s.contexts a xs (agreement_events (moved w e.choice) rest) m.may
    (subst (λ z. EachMayHappen s.contexts z (agreement_events (moved w e.choice) rest)) (run-append s.contexts es xs (agreement.opening s.ranks s.contexts)) (each_from s (moved w e.choice) (es ++ xs) rest sets next r.2 known.1))

pub runs_are_agreement_runs : (s : Setting) (journal : List Entry) → SetsAreOfRanks s → CallersNamesAreKnown s journal → IsProtocolRun s journal → IsAgreementRun s journal
runs_are_agreement_runs s journal sets known r = record {
  each = each_from s (opening s) [] journal sets (follows-opening s) r known;
  agreement = agreement_is (end_of s journal) _ (runs_follow s journal sets r known).projected.projects;
}

-- Settings

-- each rank has the setting
abbrev HaveSetting : Setting → World → Type 0
HaveSetting s w = (r : ℕ) → r < length w.ranks → (rank_at w r).setting ≡ s

setting_moved : (s : Setting) (w : World) (choice : Choice) → HaveSetting s w → choice.rank < length w.ranks → HaveSetting s (moved w choice)
setting_moved s w choice h inside r lt =
    let mv = step (rank_at w choice.rank) choice.act (head_for w choice.rank choice.act) in
    let is = ranks_moved w choice.rank choice.act mv in
    let size : length (moved w choice).ranks ≡ length w.ranks = ap length is ∙ length-set w.ranks choice.rank mv.state in
    let here = (same_step (rank_at w choice.rank) choice.act (head_for w choice.rank choice.act)).setting ∙ h choice.rank inside in
    subst (λ xs. (get_or xs r blank).setting ≡ s) (sym is) (rank_moved (λ q (x : Rank). x.setting ≡ s) w choice.rank mv.state here h r (omega (arith, size, lt)))

settings_stay : (s : Setting) (w : World) (journal : List Entry) → HaveSetting s w → RunsFrom w journal → HaveSetting s (world_after w journal)
settings_stay s w [] h u = h
settings_stay s w (e ∷ rest) h u = settings_stay s (moved w e.choice) rest (setting_moved s w e.choice h (let m = u.0 in grind (arith, nat_tests, m))) u.2

pub picks_are_contexts_in_runs : (s : Setting) (journal : List Entry) → IsProtocolRun s journal → PicksAreContexts s (end_of s journal)
picks_are_contexts_in_runs s journal u r key c lt e =
    let x = rank_at (end_of s journal) r in
    let setting = settings_stay s (opening s) journal (projected-opening s).settings u r lt in
    let p = picks_are_contexts x.setting.contexts (record { parts = x.agree ∷ []; links = [] }) 0 key c e in
    (p.0, subst (λ (z : Setting). c ≤ z.contexts) setting p.1)
