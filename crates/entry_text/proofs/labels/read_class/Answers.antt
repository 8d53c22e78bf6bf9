use Rattle.entry_text.proofs.Shown.{class_shown}
use Rattle.entry_text.proofs.labels.read_class.Goals as goal

pub returns-in-Some : goal.returns-in-Some
returns-in-Some c = class_shown _ _ c.in-Some.ensures
