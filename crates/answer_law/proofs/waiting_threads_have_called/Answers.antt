use Rattle.answer_law.proofs.Called.{waiting_called}
use Rattle.answer_law.proofs.waiting_threads_have_called.Goals as goal

pub returns : goal.returns
returns c = λ s events n r t run w. waiting_called s events n r t run w
