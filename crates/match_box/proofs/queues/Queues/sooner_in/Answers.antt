use Rattle.std.proofs.Common.{◌≡◌, true, Some, ap, sym, ◌∙◌, if◌then◌else◌, rules}
use Rattle.match_box.specs.Rows.{same_queue, takes, spot, sooner, sooner_in}
use Rattle.match_box.proofs.queues.Queues.sooner_in.Goals as goal

pub returns-in-Some : goal.returns-in-Some
returns-in-Some g c =
    let wanted : takes c.args.wanted.now c.in-Some.queue ≡ true = search rules in
    let is : Some c.in-Some.queue ≡ c.args.queue = search rules in
    let head : c.head.result ≡ spot (λ q. same_queue c.in-Some.queue q) c.args.self.now.rows = search rules in
    let here : c.sooner.result ≡ sooner c.args.best (spot (λ q. same_queue c.in-Some.queue q) c.args.self.now.rows) = search rules in
    here
    ∙ sym (ap (λ b. if b then sooner c.args.best (spot (λ q. same_queue c.in-Some.queue q) c.args.self.now.rows) else c.args.best) wanted)
    ∙ ap (λ q. sooner_in c.args.wanted.now c.args.self.now.rows c.args.best q) is
