use Rattle.answer_law.proofs.Told.{none_was_free}
use Rattle.answer_law.proofs.exhausted_where_none_was_free.Goals as goal

pub returns : goal.returns
returns c = λ s events n r run a. none_was_free s events run n r a
