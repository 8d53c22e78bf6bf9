use Rattle.std.proofs.Common.{◌≡◌, ℕ, ◌==◌, ◌&&◌, if◌then◌else◌, List, option_map, ap, ◌∙◌}
use Rattle.central_comms.specs.declared.pairs.Pair.{Pair}
use Rattle.central_comms.specs.Pairs.{found_by}
use Rattle.central_comms.proofs.pairs.Pairs.replace.Goals as goal

pub returns : goal.returns
returns c a b =
    c.replace.ensures (record { first = a; second = b })
    ∙ ap (λ (rows : List (Pair × ℕ)). if (c.args.first == a) && (c.args.second == b) then option_map (λ (n : ℕ). c.args.number) (found_by rows a b) else found_by rows a b) c.self.view_is
