use Rattle.entry_text.proofs.Adding.{size_added}
use Rattle.entry_text.proofs.replies.put_reply.Goals as goal

pub returns-in-Size0 : goal.returns-in-Size0
returns-in-Size0 c = size_added c.args.reply.now c.in-Size0.size c.from-in-Size0.result _ _ _ c.in-Size0.is c.from-in-Size0.ensures c.put-in-Size0.ensures.added c.put_labelled.ensures.added c.put_labelled.ensures.short
