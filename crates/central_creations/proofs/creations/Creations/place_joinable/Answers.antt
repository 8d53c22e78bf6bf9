use Rattle.std.proofs.Common.{◌≡◌, ℕ, Option, Some, None, option_map, find, get_or, length, refl, rules, arith, ap, ◌∙◌}
use borrow.Author.Tests.{tests}
use Rattle.std.proofs.lemmas.Iterator.{YieldsList-from_slice}
use Rattle.std.proofs.lemmas.Iterator.Consumers.{YieldsList-from_copied}
use Rattle.std.proofs.lemmas.Iterator.Search.{find_from_yields_List}
use Rattle.mpi_law.specs.Registry.State.{blank_creation}
use Rattle.mpi_law.specs.Registry.Creations.{is_joinable}
use Rattle.central_comms.specs.Places.{places_where}
use Rattle.central_creations.specs.Waiting.{is_waiting}
use Rattle.central_creations.proofs.CreationFacts.{place_is}
use Rattle.central_creations.proofs.WaitingFacts.{joinable_found}
use Rattle.central_creations.proofs.creations.Creations.place_joinable.Goals as goal

plain : (o : Option ℕ) → o ≡ option_map (λ x. x) o
plain None = refl
plain (Some x) = refl

pub returns : goal.returns
returns c =
    let asked : c.find.result ≡ find (λ k. is_joinable c.args.name.now (get_or c.args.self.now k blank_creation)) c.self.inside.waiting.items =
    plain c.find.result ∙ find_from_yields_List (λ k. is_joinable c.args.name.now (get_or c.args.self.now k blank_creation)) _ _ c.find.result c.find.ensures.ran (YieldsList-from_copied (YieldsList-from_slice c.self.inside.waiting.items cc)) (λ x b q k. search (rules, tests)) in
    let places = c.self.invariant.places ∙ ap (λ cs. places_where is_waiting cs) c.self.view_is in
    let found = asked ∙ ap (λ ps. find (λ k. is_joinable c.args.name.now (get_or c.args.self.now k blank_creation)) ps) places ∙ joinable_found c.args.name.now c.args.self.now in
    let long : c.len.result ≡ length c.args.self.now = omega (arith, c.len.ensures, c.self.inside.rows.ok, ap (λ cs. length cs) c.self.view_is) in
    rw (found, long) at c.unwrap_or.ensures ∙ place_is (is_joinable c.args.name.now) c.args.self.now
