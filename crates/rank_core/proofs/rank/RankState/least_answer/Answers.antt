use Rattle.std.proofs.Common.{◌+◌, map, refl, arith}
use Rattle.std.specs.Prelude.{option_copied}
use Rattle.std.specs.List.{range_with_len}
use Rattle.std.proofs.lemmas.List.FromFn.{map-range_with_len_more}
use Rattle.mpi_base.specs.declared.entries.Act.TheVariants.{Answer}
use Rattle.rank_core.specs.declared.next.StepKind.TheVariants as kind
use Rattle.rank_core.proofs.NextFacts.{IsLeast-longer}
use Rattle.rank_core.proofs.rank.RankState.least_answer.Goals as goal

pub loop-thread-preserved : goal.loop-thread-preserved
loop-thread-preserved g c =
    IsLeast-longer c.args.self.now.state kind.Answer (option_copied c.args.after) (map (λ t. Answer t) (range_with_len 0 c.loop-thread.thread)) (map (λ t. Answer t) (range_with_len 0 (c.loop-thread.thread + 1)))
    c.loop-thread.least c.keep_least-least.result (Answer c.loop-thread.thread) refl (map-range_with_len_more (λ t. Answer t) 0 c.loop-thread.thread c.loop-thread.thread (omega arith))
    c.loop-thread.invariant c.keep_least-least.ensures
