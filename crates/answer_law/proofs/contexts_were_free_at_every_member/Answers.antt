use Rattle.answer_law.proofs.Told.{was_free}
use Rattle.answer_law.proofs.contexts_were_free_at_every_member.Goals as goal

pub returns : goal.returns
returns c = λ s events n r ctx rank size run a. was_free s events run n r ctx rank size a
