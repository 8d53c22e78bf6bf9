use Rattle.answer_law.proofs.Received.{took_first}
use Rattle.answer_law.proofs.receives_take_the_first_that_fits.Goals as goal

pub returns : goal.returns
returns c = λ s events r number said run a some. took_first s events run r number said a some
