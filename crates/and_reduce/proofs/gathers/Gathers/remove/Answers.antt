use Rattle.std.proofs.Common.{rules, not, ◌∙◌, ap}
use Rattle.std.proofs.lemmas.Fn.{filter_same}
use Rattle.mpi_base.specs.Keys.{same_key}
use Rattle.agree_law.specs.Part.{drop_round}
use Rattle.and_reduce.specs.Rows.{Gathered}
use Rattle.and_reduce.proofs.gathers.Gathers.remove.Goals as goal

pub returns-clause-rounds : goal.returns-clause-rounds
returns-clause-rounds g c =
    filter_same _ (λ o. not (same_key o.key c.args.key.now)) _ (λ x b f' h. search rules) _ _ c.retain.ensures.filtered
    ∙ ap (λ (h : Gathered). drop_round h.rounds c.args.key.now) c.self.view_is
