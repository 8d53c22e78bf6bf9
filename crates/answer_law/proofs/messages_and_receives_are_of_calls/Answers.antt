use Rattle.answer_law.proofs.Made.{sent_by, posted_by}
use Rattle.answer_law.proofs.messages_and_receives_are_of_calls.Goals as goal

pub returns-clause-messages : goal.returns-clause-messages
returns-clause-messages c = λ s events from number m run e. sent_by s events from number m run e

pub returns-clause-receives : goal.returns-clause-receives
returns-clause-receives c = λ s events r number x run e. posted_by s events r number x run e
