use Rattle.closed_law.proofs.Ended.{picks_end, matches_end, backs_end, replies_end, calls_end}
use Rattle.closed_law.proofs.closed_is_the_end.Goals as goal

pub returns-clause-picks : goal.returns-clause-picks
returns-clause-picks c = λ s scripts g r key pick closed a. picks_end s scripts g closed r key pick a

pub returns-clause-matches : goal.returns-clause-matches
returns-clause-matches c = λ s scripts g r number from sent closed a. matches_end s scripts g closed r number from sent a

pub returns-clause-backs : goal.returns-clause-backs
returns-clause-backs c = λ s scripts g r back dropped closed a. backs_end s scripts g closed r back dropped a

pub returns-clause-replies : goal.returns-clause-replies
returns-clause-replies c = λ s scripts g r t said closed lr lt a. replies_end s scripts g closed r t said lr lt a

pub returns-clause-calls : goal.returns-clause-calls
returns-clause-calls c = λ s scripts g r t op now closed a. calls_end s scripts g closed r t op now a
