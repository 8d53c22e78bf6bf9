use Rattle.answer_law.proofs.Told.{exhausted_alike}
use Rattle.answer_law.proofs.exhausted_is_told_to_all.Goals as goal

pub returns : goal.returns
returns c = λ s events n r q told run a b h. exhausted_alike s events run n r q told a b h
