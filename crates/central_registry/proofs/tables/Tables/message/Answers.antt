use Rattle.std.proofs.Common.{◌≡◌, ◌∙◌, ℕ, List, get_or, unwrap_or, Option, ap, refl}
use Rattle.std.proofs.lemmas.Option.{unwrap_or-slice_get}
use Rattle.mpi_law.specs.Registry.State.{comm_at}
use Rattle.central_registry.proofs.tables.Tables.message.Goals as goal

pub returns : goal.returns
returns c =
    let place = c.args.sending.now.to in
    let to : c.unwrap_or.result ≡ get_or (comm_at c.args.self.now.state c.args.sending.now.comm).members place 0 =
    c.unwrap_or.ensures
    ∙ ap (λ (o : Option ℕ). unwrap_or o 0) c.get.ensures
    ∙ unwrap_or-slice_get c.members.result place 0
    ∙ ap (λ (ms : List ℕ). get_or ms place 0) c.members.ensures in
    rw (to, c.sends.ensures, c.copy.ensures.same, ← c.self.view_is) refl
