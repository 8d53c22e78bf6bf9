use Rattle.central_law.proofs.Tests.{match_tests, pick_tests, back_tests, call_tests}
use Rattle.central_law.proofs.parts_are_tested.Goals as goal

pub returns-clause-matched : goal.returns-clause-matched
returns-clause-matched c = λ s g r m. match_tests s g r m

pub returns-clause-pick : goal.returns-clause-pick
returns-clause-pick c = λ s g r key x rest. pick_tests s g r rest key x

pub returns-clause-back : goal.returns-clause-back
returns-clause-back c = λ s g r c x rest. back_tests s g r rest c x

pub returns-clause-call : goal.returns-clause-call
returns-clause-call c = λ s g r t o m x. call_tests s g r t o m x
