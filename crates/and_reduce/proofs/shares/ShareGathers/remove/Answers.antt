use Rattle.std.proofs.Common.{rules, not, ◌∙◌, ap}
use Rattle.std.proofs.lemmas.Fn.{filter_same}
use Rattle.mpi_base.specs.Keys.{same_key}
use Rattle.agree_law.specs.Part.{drop_shares}
use Rattle.and_reduce.specs.Rows.{Gathered_shares}
use Rattle.and_reduce.proofs.shares.ShareGathers.remove.Goals as goal

pub returns-clause-rows : goal.returns-clause-rows
returns-clause-rows c =
    filter_same _ (λ o. not (same_key o.key c.args.key.now)) _ (λ x b f' h. search rules) _ _ c.retain.ensures.filtered
    ∙ ap (λ (g : Gathered_shares). drop_shares g.rows c.args.key.now) c.self.view_is
