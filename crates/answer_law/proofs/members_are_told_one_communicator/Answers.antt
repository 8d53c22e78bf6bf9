use Rattle.answer_law.proofs.Told.{members_alike}
use Rattle.answer_law.proofs.members_are_told_one_communicator.Goals as goal

pub returns : goal.returns
returns c = λ s events n r q ctx rank size told run a b h. members_alike s events run n r q ctx rank size told a b h
