-- A job that was drained from its start.
use Rattle.std.proofs.Common.{◌≡◌, ℕ, ◌<◌, true, List, [], ◌++◌, length, sym, ap, ◌∙◌, subst, arith}
use Rattle.mpi_base.specs.declared.entries.Entry.{Entry}
use Rattle.mpi_law.specs.declared.setting.Setting.{Setting}
use Rattle.mpi_law.specs.declared.setting.TheConstants.{THREADS}
use Rattle.mpi_law.specs.ScriptLists.{AllScripts}
use Rattle.mpi_protocol.specs.Rank.{thread_at, is_idle}
use Rattle.mpi_protocol.specs.World.{World, opening, rank_at}
use Rattle.mpi_protocol.specs.Run.{IsProtocolRun, end_of}
use Rattle.mpi_protocol.specs.Order.{IsDrained, IsQuiet}
use Rattle.world_core.specs.Held.{Held}
use Rattle.world_drain.specs.Drains.{Goes}
use Rattle.script_law.specs.Called.{AreEnded}
use Rattle.job_run.specs.Idle.{RanksAreIdle}

-- a drained run of a job to a quiet end, which is this world
pub record DrainedRun (s : Setting) (scripts : AllScripts) (journal : List Entry) (end : Held) : Type 0 where
  pub run : IsProtocolRun s journal
  pub drained : IsDrained scripts (opening s) journal
  pub quiet : IsQuiet (end_of s journal) scripts
  pub setting : end.setting ≡ s
  pub world : end.world ≡ end_of s journal
  pub ranks : length (end_of s journal).ranks ≡ s.ranks

-- the journal of a world that was drained from the opening of a job
pub drained_run : (s : Setting) (scripts : AllScripts) (old new : Held) (journal : List Entry) → old.setting ≡ s → old.world ≡ opening s → old.entries ≡ [] → new.setting ≡ old.setting
    → Goes scripts old new → IsQuiet new.world scripts → IsProtocolRun new.setting new.entries → new.world ≡ end_of new.setting new.entries → journal ≡ new.entries → length (end_of s journal).ranks ≡ s.ranks
    → DrainedRun s scripts journal new
drained_run s scripts old new journal start opened none same goes quiet run end entries ranks =
    let set : new.setting ≡ s = same ∙ start in
    let ends : new.world ≡ end_of s journal = end ∙ ap (λ (z : Setting). end_of z new.entries) set ∙ ap (λ (es : List Entry). end_of s es) (sym entries) in
    let all : journal ≡ goes.more = entries ∙ goes.entries ∙ ap (λ (es : List Entry). es ++ goes.more) none in
    record {
      run = subst (λ (z : Setting). IsProtocolRun z journal) set (subst (λ (es : List Entry). IsProtocolRun new.setting es) (sym entries) run);
      drained = subst (λ (w : World). IsDrained scripts w journal) opened (subst (λ (es : List Entry). IsDrained scripts old.world es) (sym all) goes.drained);
      quiet = subst (λ (w : World). IsQuiet w scripts) ends quiet;
      setting = set;
      world = ends;
      ranks = ranks;
    }

module _ (s : Setting) (scripts : AllScripts) (journal : List Entry) (end : Held) (d : DrainedRun s scripts journal end) where
  -- where no thread waits, every script is ended
  pub all_ended : RanksAreIdle end.setting.ranks end.world → AreEnded scripts (end_of s journal)
  all_ended idle =
      let many = d.ranks in
      let here : RanksAreIdle s.ranks (end_of s journal) = subst (λ (z : Setting). RanksAreIdle z.ranks (end_of s journal)) d.setting (subst (λ (w : World). RanksAreIdle end.setting.ranks w) d.world idle) in
      let at : (r t : ℕ) → r < length (end_of s journal).ranks → t < THREADS → is_idle (thread_at (rank_at (end_of s journal) r) t).waits ≡ true = λ r t l m. here r (omega (arith, l, many)) t m in
      record { idle = at; last = λ r t l m. d.quiet.ended r t l m (at r t l m) }

  -- where some thread waits, its script is not ended
  pub none_ended : (RanksAreIdle end.setting.ranks end.world → ⊥) → AreEnded scripts (end_of s journal) → ⊥
  none_ended waits ended =
      let many = d.ranks in
      let here : RanksAreIdle s.ranks (end_of s journal) = λ r l t m. ended.idle r t (omega (arith, l, many)) m in
      waits (subst (λ (w : World). RanksAreIdle end.setting.ranks w) (sym d.world) (subst (λ (z : Setting). RanksAreIdle z.ranks (end_of s journal)) (sym d.setting) here))
