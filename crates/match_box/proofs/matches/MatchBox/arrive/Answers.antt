use Rattle.std.proofs.Common.{◌≡◌, ◌+◌, ◌++◌, ◌∷◌, [], Some, None, option_map, ap, sym, subst, ◌∙◌, rules}
use Rattle.std.specs.Option.{IsSome}
use Rattle.match_law.specs.declared.rows.Posted.{Posted}
use Rattle.match_law.specs.Box.{arrive}
use Rattle.match_box.specs.Rows.{Row, row, spot, takes, first_of}
use Rattle.match_box.specs.Boxes.{Held, box_of, queue_of_message, AreApart, AreBoxed}
use Rattle.match_box.proofs.BoxFacts.{head_some, arrive_some, arrive_none}
use Rattle.match_box.proofs.matches.MatchBox.arrive.Goals as goal

pub unwrap-receive-requires : goal.unwrap-receive-requires
unwrap-receive-requires c =
    let at : Some c.in-Some.head ≡ spot (λ q. takes q c.of_message-queue.result) c.self.inside.receives.rows = search rules in
    subst IsSome (sym c.take.ensures.item) (head_some (λ q. takes q c.of_message-queue.result) c.self.inside.receives.rows c.in-Some.head at)

pub invariant_of-self : goal.invariant_of-self
invariant_of-self c =
    let at : Some c.in-Some.head ≡ spot (λ q. takes q (queue_of_message c.args.msg)) c.self.inside.receives.rows = search rules in
    let item : Some c.unwrap-receive.result ≡ option_map (λ (r : Row Posted). r.item) (first_of c.in-Some.head.queue c.self.inside.receives.rows) = search rules in
    subst (λ rows. AreBoxed rows c.self.inside.messages.rows) (sym c.take.ensures.rows)
    (arrive_some c.self.inside.receives.rows c.self.inside.messages.rows c.args.msg c.in-Some.head c.unwrap-receive.result c.self.invariant at item).1

pub returns-in-Some-clause-lists : goal.returns-in-Some-clause-lists
returns-in-Some-clause-lists c =
    let at : Some c.in-Some.head ≡ spot (λ q. takes q (queue_of_message c.args.msg)) c.self.inside.receives.rows = search rules in
    let item : Some c.unwrap-receive.result ≡ option_map (λ (r : Row Posted). r.item) (first_of c.in-Some.head.queue c.self.inside.receives.rows) = search rules in
    ap (λ rows. box_of rows c.self.inside.messages.rows) c.take.ensures.rows
    ∙ sym (ap (λ met. met.0) (arrive_some c.self.inside.receives.rows c.self.inside.messages.rows c.args.msg c.in-Some.head c.unwrap-receive.result c.self.invariant at item).0)
    ∙ ap (λ (h : Held). (arrive h.lists c.args.msg).0) c.self.view_is

pub returns-in-Some-clause-met : goal.returns-in-Some-clause-met
returns-in-Some-clause-met c =
    let at : Some c.in-Some.head ≡ spot (λ q. takes q (queue_of_message c.args.msg)) c.self.inside.receives.rows = search rules in
    let item : Some c.unwrap-receive.result ≡ option_map (λ (r : Row Posted). r.item) (first_of c.in-Some.head.queue c.self.inside.receives.rows) = search rules in
    sym (ap (λ met. met.1) (arrive_some c.self.inside.receives.rows c.self.inside.messages.rows c.args.msg c.in-Some.head c.unwrap-receive.result c.self.invariant at item).0)
    ∙ ap (λ (h : Held). (arrive h.lists c.args.msg).1) c.self.view_is

pub returns-in-None-clause-lists : goal.returns-in-None-clause-lists
returns-in-None-clause-lists c =
    let at : None ≡ spot (λ q. takes q (queue_of_message c.args.msg)) c.self.inside.receives.rows = search rules in
    ap (λ rows. box_of c.self.inside.receives.rows rows) (c.push.ensures.rows ∙ ap (λ q. c.self.inside.messages.rows ++ row (c.self.inside.messages.count + 1) q c.args.msg ∷ []) c.of_message-queue.ensures)
    ∙ sym (ap (λ met. met.0) (arrive_none c.self.inside.receives.rows c.self.inside.messages.rows c.args.msg (c.self.inside.messages.count + 1) c.self.invariant at).0)
    ∙ ap (λ (h : Held). (arrive h.lists c.args.msg).0) c.self.view_is

pub returns-in-None-clause-met : goal.returns-in-None-clause-met
returns-in-None-clause-met c =
    let at : None ≡ spot (λ q. takes q (queue_of_message c.args.msg)) c.self.inside.receives.rows = search rules in
    sym (ap (λ met. met.1) (arrive_none c.self.inside.receives.rows c.self.inside.messages.rows c.args.msg (c.self.inside.messages.count + 1) c.self.invariant at).0)
    ∙ ap (λ (h : Held). (arrive h.lists c.args.msg).1) c.self.view_is

pub invariant_of-self-in-None : goal.invariant_of-self-in-None
invariant_of-self-in-None c =
    let at : None ≡ spot (λ q. takes q (queue_of_message c.args.msg)) c.self.inside.receives.rows = search rules in
    subst (λ rows. AreBoxed c.self.inside.receives.rows rows) (sym (c.push.ensures.rows ∙ ap (λ q. c.self.inside.messages.rows ++ row (c.self.inside.messages.count + 1) q c.args.msg ∷ []) c.of_message-queue.ensures))
    (arrive_none c.self.inside.receives.rows c.self.inside.messages.rows c.args.msg (c.self.inside.messages.count + 1) c.self.invariant at).1

pub returns-in-Some-clause-before : goal.returns-in-Some-clause-before
returns-in-Some-clause-before c = subst (λ (h : Held). AreApart h.lists) c.self.view_is c.self.invariant.apart

pub returns-in-None-clause-before : goal.returns-in-None-clause-before
returns-in-None-clause-before c = subst (λ (h : Held). AreApart h.lists) c.self.view_is c.self.invariant.apart

pub returns-in-Some-clause-after : goal.returns-in-Some-clause-after
returns-in-Some-clause-after c =
    let at : Some c.in-Some.head ≡ spot (λ q. takes q (queue_of_message c.args.msg)) c.self.inside.receives.rows = search rules in
    let item : Some c.unwrap-receive.result ≡ option_map (λ (r : Row Posted). r.item) (first_of c.in-Some.head.queue c.self.inside.receives.rows) = search rules in
    subst (λ rows. AreApart (box_of rows c.self.inside.messages.rows)) (sym c.take.ensures.rows)
    (arrive_some c.self.inside.receives.rows c.self.inside.messages.rows c.args.msg c.in-Some.head c.unwrap-receive.result c.self.invariant at item).1.apart

pub returns-in-None-clause-after : goal.returns-in-None-clause-after
returns-in-None-clause-after c =
    let at : None ≡ spot (λ q. takes q (queue_of_message c.args.msg)) c.self.inside.receives.rows = search rules in
    subst (λ rows. AreApart (box_of c.self.inside.receives.rows rows)) (sym (c.push.ensures.rows ∙ ap (λ q. c.self.inside.messages.rows ++ row (c.self.inside.messages.count + 1) q c.args.msg ∷ []) c.of_message-queue.ensures))
    (arrive_none c.self.inside.receives.rows c.self.inside.messages.rows c.args.msg (c.self.inside.messages.count + 1) c.self.invariant at).1.apart
