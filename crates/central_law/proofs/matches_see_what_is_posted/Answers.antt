use Rattle.central_law.proofs.Change.{receives_seen, messages_seen, matches_seen}
use Rattle.central_law.proofs.matches_see_what_is_posted.Goals as goal

pub returns-clause-receives : goal.returns-clause-receives
returns-clause-receives c = λ s g r t op rest rank thread q number. receives_seen s g r t op rest rank thread q number

pub returns-clause-messages : goal.returns-clause-messages
returns-clause-messages c = λ s g r t op rest rank thread q number. messages_seen s g r t op rest rank thread q number

pub returns-clause-matches : goal.returns-clause-matches
returns-clause-matches c = λ s g r t op rest rank thread x m. matches_seen s g r t op rest rank thread x m
