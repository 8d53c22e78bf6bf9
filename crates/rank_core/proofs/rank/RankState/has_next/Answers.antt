use Rattle.std.proofs.Common.{sym, ◌∙◌}
use Rattle.rank_core.specs.declared.next.StepKind.TheVariants as kind
use Rattle.rank_core.proofs.NextFacts.{no-candidate, no-answer, no-leave, no-back}
use Rattle.rank_core.proofs.rank.RankState.has_next.Goals as goal

pub returns-in-Answer : goal.returns-in-Answer
returns-in-Answer g c = record { none = λ e. rw c.in-Answer.is (no-answer c.args.self.now.state (sym c.has_answer.ensures ∙ e)) }

pub returns-in-Settle : goal.returns-in-Settle
returns-in-Settle g c = record { none = λ e. rw c.in-Settle.is (no-candidate c.args.self.now.state kind.Settle (c.has_gathered.ensures e)) }

pub returns-in-Offer : goal.returns-in-Offer
returns-in-Offer g c = record { none = λ e. rw c.in-Offer.is (no-candidate c.args.self.now.state kind.Offer (c.has_opened.ensures e)) }

pub returns-in-Leave : goal.returns-in-Leave
returns-in-Leave g c = record { none = λ e. rw c.in-Leave.is (no-leave c.args.self.now.state (sym c.has_leave.ensures ∙ e)) }

pub returns-in-Back : goal.returns-in-Back
returns-in-Back g c = record { none = λ e. rw c.in-Back.is (no-back c.args.self.now.state (sym c.has_back.ensures ∙ e)) }
