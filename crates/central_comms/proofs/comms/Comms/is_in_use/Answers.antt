use Rattle.std.proofs.Common.{◌≡◌, ◌==◌, ◌&&◌, get_or, ap, ◌∙◌, rules}
use borrow.Author.Tests.{tests}
use Rattle.std.specs.List.{list_any}
use Rattle.std.proofs.lemmas.Iterator.{YieldsList-from_slice}
use Rattle.std.proofs.lemmas.Iterator.Search.{any_from_yields_List}
use Rattle.mpi_law.specs.Registry.State.{blank_comm}
use Rattle.mpi_law.specs.Registry.Contexts.{is_live_at}
use Rattle.central_comms.specs.Places.{places_where}
use Rattle.central_comms.specs.Rows.{is_held}
use Rattle.central_comms.proofs.PlaceFacts.{any_at_places}
use Rattle.central_comms.proofs.CommFacts.{done_not_here}
use Rattle.central_comms.proofs.comms.Comms.is_in_use.Goals as goal

pub returns : goal.returns
returns c =
    let asked : c.any.result ≡ list_any (λ k. ((get_or c.args.self.now k blank_comm).ctx == c.args.ctx) && is_live_at (get_or c.args.self.now k blank_comm) c.args.rank) c.self.inside.held.items =
    any_from_yields_List (λ k. ((get_or c.args.self.now k blank_comm).ctx == c.args.ctx) && is_live_at (get_or c.args.self.now k blank_comm) c.args.rank) _ _ c.any.result c.any.ensures.ran (YieldsList-from_slice c.self.inside.held.items cc) (λ x b q k. search (rules, tests)) in
    let places = c.self.invariant ∙ ap (λ comms. places_where is_held comms) c.self.view_is in
    asked ∙ ap (λ ps. list_any (λ k. ((get_or c.args.self.now k blank_comm).ctx == c.args.ctx) && is_live_at (get_or c.args.self.now k blank_comm) c.args.rank) ps) places
    ∙ any_at_places blank_comm is_held (λ m. (m.ctx == c.args.ctx) && is_live_at m c.args.rank) (λ m done. done_not_here m done c.args.rank c.args.ctx) c.args.self.now
