use Rattle.std.proofs.Common.{◌≡◌, nat_lt, ap, sym, ◌∙◌}
use Rattle.match_law.specs.Tallies.{posted_on}
use Rattle.match_box.specs.Boxes.{Held}
use Rattle.match_box.proofs.BoxFacts.{posted_many, posted_any}
use Rattle.match_box.proofs.matches.MatchBox.posted.Goals as goal

pub returns-clause-value : goal.returns-clause-value
returns-clause-value c =
    c.waiting.ensures ∙ posted_many c.self.inside.receives.rows c.self.inside.messages.rows c.args.ctx c.self.invariant ∙ ap (λ (h : Held). posted_on h.lists c.args.ctx) c.self.view_is

pub returns-clause-any : goal.returns-clause-any
returns-clause-any c =
    let value : c.waiting.result ≡ posted_on c.args.self.now.lists c.args.ctx =
    c.waiting.ensures ∙ posted_many c.self.inside.receives.rows c.self.inside.messages.rows c.args.ctx c.self.invariant ∙ ap (λ (h : Held). posted_on h.lists c.args.ctx) c.self.view_is in
    posted_any c.args.self.now.lists.posted c.args.ctx ∙ ap (λ n. nat_lt 0 n) (sym value)
