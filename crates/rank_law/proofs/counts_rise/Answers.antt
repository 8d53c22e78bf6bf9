use Rattle.agree_law.specs.declared.rows.Stage.TheVariants.{Waiting, Offered}
use Rattle.rank_law.proofs.Agreement.{round_within, stage_within}
use Rattle.rank_law.proofs.Parts.{counts-fresh, thread_within, counts_rise as rises}
use Rattle.rank_law.proofs.Steps.{counts-step, calls_below}
use Rattle.rank_law.proofs.counts_rise.Goals as goal

pub returns-clause-fresh : goal.returns-clause-fresh
returns-clause-fresh c = λ s r n. counts-fresh s r n

pub returns-clause-step : goal.returns-clause-step
returns-clause-step c = λ n x act p h. counts-step n x h act p

pub returns-clause-rise : goal.returns-clause-rise
returns-clause-rise c = λ n m x h le. rises n m x h le

pub returns-clause-thread : goal.returns-clause-thread
returns-clause-thread c = λ n x t h. thread_within n x t h.threads

pub returns-clause-calls : goal.returns-clause-calls
returns-clause-calls c = λ n m x h lt. calls_below n x h m lt

pub returns-clause-round : goal.returns-clause-round
returns-clause-round c = λ n x key h. round_within n x.agree.rounds key h.rounds

pub returns-clause-waiting : goal.returns-clause-waiting
returns-clause-waiting c = λ n x key i h e. stage_within n x.agree.opened key (Waiting i) e h.stages

pub returns-clause-offered : goal.returns-clause-offered
returns-clause-offered c = λ n x key i own h e. stage_within n x.agree.opened key (Offered i own) e h.stages
