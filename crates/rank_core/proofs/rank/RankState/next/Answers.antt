use Rattle.std.specs.Prelude.{option_copied}
use Rattle.rank_core.proofs.NextFacts.{next-found, next-none}
use Rattle.rank_core.proofs.rank.RankState.next.Goals as goal

pub returns-clause-found : goal.returns-clause-found
returns-clause-found g c = next-found c.args.self.now.state c.args.kind (option_copied c.args.after) c.least_of.result c.least_of.ensures

pub returns-clause-none : goal.returns-clause-none
returns-clause-none g c = next-none c.args.self.now.state c.args.kind (option_copied c.args.after) c.least_of.result c.least_of.ensures
