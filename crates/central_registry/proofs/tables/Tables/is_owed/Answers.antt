use Rattle.std.proofs.Common.{◌≡◌, Some, sym, ap, ◌∙◌}
use Rattle.mpi_law.specs.Registry.Replies.{owed}
use Rattle.central_registry.proofs.SameReplies.{reply_told}
use Rattle.central_registry.proofs.tables.Tables.is_owed.Goals as goal

pub returns-in-Some : goal.returns-in-Some
returns-in-Some c =
    let told = reply_told c.in-Some.owed c.args.said.now in
    let is : owed c.args.self.now.state c.args.rank c.args.thread ≡ Some c.in-Some.owed = sym c.owed.ensures ∙ c.in-Some.is in (
      λ same. is ∙ ap Some (told.0 (sym c.eq.ensures ∙ same)),
      λ said. c.eq.ensures ∙ told.1 (let e = sym is ∙ said in cc (e)),
    )
