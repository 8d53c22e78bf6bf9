use Rattle.std.proofs.Common.{◌∙◌, ◌==◌, ◌&&◌, ap, List}
use Rattle.std.specs.Prelude.{find, option_map}
use Rattle.mpi_base.specs.Keys.{same_key}
use Rattle.agree_law.specs.Shares.{share_here}
use Rattle.agree_law.specs.declared.rows.ShareRow.{ShareRow}
use Rattle.and_reduce.specs.Rows.{Gathered_shares}
use Rattle.and_reduce.proofs.ShareFacts.{share_here-find}
use Rattle.and_reduce.proofs.shares.ShareGathers.share.Goals as goal

pub returns : goal.returns
returns c =
    c.find_share.ensures
    ∙ (ap (λ (rows : List ShareRow). option_map (λ (o : ShareRow). o.share) (find (λ o. same_key o.key c.args.key.now && (o.place == c.args.place)) rows)) c.as_slice.ensures.value
    ∙ (share_here-find c.self.inside.rows.items c.args.key.now c.args.place ∙ ap (λ (h : Gathered_shares). share_here h.rows c.args.key.now c.args.place) c.self.view_is))
