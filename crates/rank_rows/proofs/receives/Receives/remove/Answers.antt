use Rattle.std.proofs.Common.{rules, not, ◌==◌, ◌∙◌, ap}
use Rattle.std.proofs.lemmas.Fn.{filter_same}
use Rattle.mpi_protocol.specs.Rank.{without_receive}
use Rattle.rank_rows.specs.Held.{Held}
use Rattle.rank_rows.proofs.receives.Receives.remove.Goals as goal

pub returns-clause-rows : goal.returns-clause-rows
returns-clause-rows c =
    filter_same _ (λ x. not (x.number == c.args.number)) _ (λ x b f' h. search rules) _ _ c.retain.ensures.filtered
    ∙ ap (λ (h : Held). without_receive h.rows c.args.number) c.self.view_is
