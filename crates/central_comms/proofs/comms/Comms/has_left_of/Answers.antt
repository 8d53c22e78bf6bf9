use Rattle.std.proofs.Common.{◌≡◌, get_or, ap, ◌∙◌, rules}
use borrow.Author.Tests.{tests}
use Rattle.std.specs.List.{list_any}
use Rattle.std.proofs.lemmas.Iterator.{YieldsList-from_slice}
use Rattle.std.proofs.lemmas.Iterator.Search.{any_from_yields_List}
use Rattle.mpi_law.specs.Registry.State.{blank_comm}
use Rattle.mpi_law.specs.Registry.Replies.{is_left_of}
use Rattle.central_comms.specs.Places.{places_where}
use Rattle.central_comms.specs.Rows.{is_held}
use Rattle.central_comms.proofs.PlaceFacts.{any_at_places}
use Rattle.central_comms.proofs.CommFacts.{done_not_left}
use Rattle.central_comms.proofs.comms.Comms.has_left_of.Goals as goal

pub returns : goal.returns
returns c =
    let asked : c.any.result ≡ list_any (λ k. is_left_of c.args.rank c.args.session (get_or c.args.self.now k blank_comm)) c.self.inside.held.items =
    any_from_yields_List (λ k. is_left_of c.args.rank c.args.session (get_or c.args.self.now k blank_comm)) _ _ c.any.result c.any.ensures.ran (YieldsList-from_slice c.self.inside.held.items cc) (λ x b q k. search (rules, tests)) in
    let places = c.self.invariant ∙ ap (λ comms. places_where is_held comms) c.self.view_is in
    asked ∙ ap (λ ps. list_any (λ k. is_left_of c.args.rank c.args.session (get_or c.args.self.now k blank_comm)) ps) places
    ∙ any_at_places blank_comm is_held (λ m. is_left_of c.args.rank c.args.session m) (λ m done. done_not_left m done c.args.rank c.args.session) c.args.self.now
