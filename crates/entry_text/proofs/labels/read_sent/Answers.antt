use Rattle.std.proofs.Common.{rules}
use Rattle.entry_text.proofs.Shown.{sent_bad}
use Rattle.entry_text.proofs.labels.read_sent.Goals as goal

pub returns-in_err-number : goal.returns-in_err-number
returns-in_err-number c = let b = sent_bad c.args.token.now _ (rw c.in-Some.ensures.behind at c.in_err-number.ensures) in search (rules, b)
