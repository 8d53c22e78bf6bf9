use Rattle.std.proofs.Common.{◌∙◌, sym, ap}
use Rattle.mpi_law.specs.Registry.State.{Registry}
use Rattle.central_law.specs.Tests.{match_test}
use Rattle.central_registry.proofs.Kept.{match_kept}
use Rattle.central_registry.proofs.tables.Tables.carry_out.Goals as goal

pub take-requires : goal.take-requires
take-requires c =
    let g = c.post.new.self.state in
    let r = c.args.rank in
    ap (λ (z : Registry). match_test z r c.args.matched) c.in_default.ensures.ok
    ∙ match_kept g r c.args.thread c.args.effect c.args.matched
    ∙ sym c.if-not-may_match.ensures
