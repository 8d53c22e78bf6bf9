use Rattle.central_law.proofs.OneMore.{receives_more, messages_more, matches_more}
use Rattle.central_law.proofs.posted_states_have_one_more.Goals as goal

pub returns-clause-receives : goal.returns-clause-receives
returns-clause-receives c = λ g r e q number. receives_more g r e q number

pub returns-clause-messages : goal.returns-clause-messages
returns-clause-messages c = λ g r e from number. messages_more g r e from number

pub returns-clause-matches : goal.returns-clause-matches
returns-clause-matches c = λ g r e x m. matches_more g r e x m
