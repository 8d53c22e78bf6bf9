use Rattle.central_law.proofs.Quiet.{delivers, offers, settles, leaves, gives_back, answers_step}
use Rattle.central_law.proofs.quiet_entries_are_steps.Goals as goal

pub returns-clause-deliver : goal.returns-clause-deliver
returns-clause-deliver c = λ s g e from is. delivers s g e from is

pub returns-clause-offer : goal.returns-clause-offer
returns-clause-offer c = λ s g e key is. offers s g e key is

pub returns-clause-settle : goal.returns-clause-settle
returns-clause-settle c = λ s g e key is. settles s g e key is

pub returns-clause-leave : goal.returns-clause-leave
returns-clause-leave c = λ s g e c is. leaves s g e c is

pub returns-clause-back : goal.returns-clause-back
returns-clause-back c = λ s g e c is. gives_back s g e c is

pub returns-clause-answer : goal.returns-clause-answer
returns-clause-answer c = λ s g e t is. answers_step s g e t is
