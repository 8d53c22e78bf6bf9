use Rattle.std.proofs.Common.{refl}
use Rattle.agree_core.proofs.ShareMoves.{became-share}
use Rattle.agree_core.proofs.agreements.Agreements.take_share.Goals as goal

pub returns-clause-part : goal.returns-clause-part
returns-clause-part g c =
    became-share _ _ _ c.args.from c.place_in.result c.args.key.now c.args.share c.self.view_is refl refl c.requires.taken c.place_in.ensures (rw c.put.ensures.rows refl)
