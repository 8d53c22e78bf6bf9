use Rattle.std.proofs.Common.{◌≡◌, ℕ, Option, Some, None, option_map, find, refl, ◌==◌, ◌&&◌, get_or, ap, ◌∙◌, rules}
use borrow.Author.Tests.{tests}
use Rattle.std.proofs.lemmas.Iterator.{YieldsList-from_slice}
use Rattle.std.proofs.lemmas.Iterator.Consumers.{YieldsList-from_copied}
use Rattle.std.proofs.lemmas.Iterator.Search.{find_from_yields_List}
use Rattle.mpi_law.specs.Registry.State.{blank_comm}
use Rattle.mpi_law.specs.Registry.Contexts.{is_live_at}
use Rattle.central_comms.specs.Places.{places_where}
use Rattle.central_comms.specs.Rows.{is_held}
use Rattle.central_comms.proofs.PlaceFacts.{find_at_places}
use Rattle.central_comms.proofs.CommFacts.{done_not_here}
use Rattle.central_comms.proofs.comms.Comms.place_of.Goals as goal

plain : (o : Option ℕ) → o ≡ option_map (λ x. x) o
plain None = refl
plain (Some x) = refl

pub returns : goal.returns
returns c =
    let asked : c.find.result ≡ find (λ k. ((get_or c.args.self.now k blank_comm).ctx == c.args.ctx) && is_live_at (get_or c.args.self.now k blank_comm) c.args.rank) c.self.inside.held.items =
    plain c.find.result ∙ find_from_yields_List (λ k. ((get_or c.args.self.now k blank_comm).ctx == c.args.ctx) && is_live_at (get_or c.args.self.now k blank_comm) c.args.rank) _ _ c.find.result c.find.ensures.ran (YieldsList-from_copied (YieldsList-from_slice c.self.inside.held.items cc)) (λ x b q k. search (rules, tests)) in
    let places = c.self.invariant ∙ ap (λ comms. places_where is_held comms) c.self.view_is in
    asked ∙ ap (λ ps. find (λ k. ((get_or c.args.self.now k blank_comm).ctx == c.args.ctx) && is_live_at (get_or c.args.self.now k blank_comm) c.args.rank) ps) places
    ∙ find_at_places blank_comm is_held (λ m. (m.ctx == c.args.ctx) && is_live_at m c.args.rank) (λ m done. done_not_here m done c.args.rank c.args.ctx) c.args.self.now
