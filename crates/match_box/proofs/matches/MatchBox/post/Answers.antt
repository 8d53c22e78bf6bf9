use Rattle.std.proofs.Common.{◌≡◌, ◌+◌, ◌++◌, ◌∷◌, [], Some, None, option_map, ap, sym, subst, ◌∙◌, rules}
use Rattle.std.specs.Option.{IsSome}
use Rattle.mpi_base.specs.declared.messages.Msg.{Msg}
use Rattle.match_law.specs.Box.{post}
use Rattle.match_box.specs.Rows.{Row, row, spot, takes, first_of}
use Rattle.match_box.specs.Boxes.{Held, box_of, queue_of_receive, AreApart, AreBoxed}
use Rattle.match_box.proofs.BoxFacts.{head_some, post_some, post_none}
use Rattle.match_box.proofs.matches.MatchBox.post.Goals as goal

pub unwrap-msg-requires : goal.unwrap-msg-requires
unwrap-msg-requires c =
    let at : Some c.in-Some.head ≡ spot (λ q. takes c.of_receive-queue.result q) c.self.inside.messages.rows = search rules in
    subst IsSome (sym c.take.ensures.item) (head_some (λ q. takes c.of_receive-queue.result q) c.self.inside.messages.rows c.in-Some.head at)

pub invariant_of-self : goal.invariant_of-self
invariant_of-self c =
    let at : Some c.in-Some.head ≡ spot (λ q. takes (queue_of_receive c.args.receive) q) c.self.inside.messages.rows = search rules in
    subst (λ rows. AreBoxed c.self.inside.receives.rows rows) (sym c.take.ensures.rows)
    (post_some c.self.inside.receives.rows c.self.inside.messages.rows c.args.receive c.in-Some.head c.self.invariant at).1

pub returns-in-Some-clause-lists : goal.returns-in-Some-clause-lists
returns-in-Some-clause-lists c =
    let at : Some c.in-Some.head ≡ spot (λ q. takes (queue_of_receive c.args.receive) q) c.self.inside.messages.rows = search rules in
    ap (λ rows. box_of c.self.inside.receives.rows rows) c.take.ensures.rows
    ∙ sym (ap (λ met. met.0) (post_some c.self.inside.receives.rows c.self.inside.messages.rows c.args.receive c.in-Some.head c.self.invariant at).0)
    ∙ ap (λ (h : Held). (post h.lists c.args.receive).0) c.self.view_is

pub returns-in-Some-clause-met : goal.returns-in-Some-clause-met
returns-in-Some-clause-met c =
    let at : Some c.in-Some.head ≡ spot (λ q. takes (queue_of_receive c.args.receive) q) c.self.inside.messages.rows = search rules in
    let item : Some c.unwrap-msg.result ≡ option_map (λ (r : Row Msg). r.item) (first_of c.in-Some.head.queue c.self.inside.messages.rows) = search rules in
    item
    ∙ sym (ap (λ met. met.1) (post_some c.self.inside.receives.rows c.self.inside.messages.rows c.args.receive c.in-Some.head c.self.invariant at).0)
    ∙ ap (λ (h : Held). (post h.lists c.args.receive).1) c.self.view_is

pub returns-in-None-clause-lists : goal.returns-in-None-clause-lists
returns-in-None-clause-lists c =
    let at : None ≡ spot (λ q. takes (queue_of_receive c.args.receive) q) c.self.inside.messages.rows = search rules in
    ap (λ rows. box_of rows c.self.inside.messages.rows) (c.push.ensures.rows ∙ ap (λ q. c.self.inside.receives.rows ++ row (c.self.inside.receives.count + 1) q c.args.receive ∷ []) c.of_receive-queue.ensures)
    ∙ sym (ap (λ met. met.0) (post_none c.self.inside.receives.rows c.self.inside.messages.rows c.args.receive (c.self.inside.receives.count + 1) c.self.invariant at).0)
    ∙ ap (λ (h : Held). (post h.lists c.args.receive).0) c.self.view_is

pub returns-in-None-clause-met : goal.returns-in-None-clause-met
returns-in-None-clause-met c =
    let at : None ≡ spot (λ q. takes (queue_of_receive c.args.receive) q) c.self.inside.messages.rows = search rules in
    sym (ap (λ met. met.1) (post_none c.self.inside.receives.rows c.self.inside.messages.rows c.args.receive (c.self.inside.receives.count + 1) c.self.invariant at).0)
    ∙ ap (λ (h : Held). (post h.lists c.args.receive).1) c.self.view_is

pub invariant_of-self-in-None : goal.invariant_of-self-in-None
invariant_of-self-in-None c =
    let at : None ≡ spot (λ q. takes (queue_of_receive c.args.receive) q) c.self.inside.messages.rows = search rules in
    subst (λ rows. AreBoxed rows c.self.inside.messages.rows) (sym (c.push.ensures.rows ∙ ap (λ q. c.self.inside.receives.rows ++ row (c.self.inside.receives.count + 1) q c.args.receive ∷ []) c.of_receive-queue.ensures))
    (post_none c.self.inside.receives.rows c.self.inside.messages.rows c.args.receive (c.self.inside.receives.count + 1) c.self.invariant at).1

pub returns-in-Some-clause-before : goal.returns-in-Some-clause-before
returns-in-Some-clause-before c = subst (λ (h : Held). AreApart h.lists) c.self.view_is c.self.invariant.apart

pub returns-in-None-clause-before : goal.returns-in-None-clause-before
returns-in-None-clause-before c = subst (λ (h : Held). AreApart h.lists) c.self.view_is c.self.invariant.apart

pub returns-in-Some-clause-after : goal.returns-in-Some-clause-after
returns-in-Some-clause-after c =
    let at : Some c.in-Some.head ≡ spot (λ q. takes (queue_of_receive c.args.receive) q) c.self.inside.messages.rows = search rules in
    subst (λ rows. AreApart (box_of c.self.inside.receives.rows rows)) (sym c.take.ensures.rows)
    (post_some c.self.inside.receives.rows c.self.inside.messages.rows c.args.receive c.in-Some.head c.self.invariant at).1.apart

pub returns-in-None-clause-after : goal.returns-in-None-clause-after
returns-in-None-clause-after c =
    let at : None ≡ spot (λ q. takes (queue_of_receive c.args.receive) q) c.self.inside.messages.rows = search rules in
    subst (λ rows. AreApart (box_of rows c.self.inside.messages.rows)) (sym (c.push.ensures.rows ∙ ap (λ q. c.self.inside.receives.rows ++ row (c.self.inside.receives.count + 1) q c.args.receive ∷ []) c.of_receive-queue.ensures))
    (post_none c.self.inside.receives.rows c.self.inside.messages.rows c.args.receive (c.self.inside.receives.count + 1) c.self.invariant at).1.apart
