use Rattle.std.proofs.Common.{◌≡◌, ℕ, ◌==◌, ◌&&◌, if◌then◌else◌, List, None, ap, ◌∙◌, rules}
use Rattle.std.specs.Map.{lookup}
use Rattle.central_comms.specs.declared.pairs.Pair.{Pair}
use Rattle.central_comms.specs.Pairs.{same_pair, found_by}
use Rattle.central_comms.proofs.pairs.Pairs.remove.Goals as goal

pub returns : goal.returns
returns c a b =
    let pair : Pair = record { first = c.args.first; second = c.args.second } in
    let each : (q : Pair) → lookup (same_pair q) c.swap_remove.new.self.entries ≡ (if same_pair pair q then None else lookup (same_pair q) c.self.inside.numbers.entries) = λ q. search rules in
    each (record { first = a; second = b }) ∙ ap (λ (rows : List (Pair × ℕ)). if (c.args.first == a) && (c.args.second == b) then None else found_by rows a b) c.self.view_is
