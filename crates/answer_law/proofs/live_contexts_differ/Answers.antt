use Rattle.answer_law.proofs.Runs.{sound_at}
use Rattle.answer_law.proofs.live_contexts_differ.Goals as goal

pub returns : goal.returns
returns c = λ s events run. (sound_at s events run).apart
