-- What the types of an entry's parts say of it: each number, text and list is in its range.
use Rattle.std.specs.Prelude.{◌≤◌}
use Rattle.mpi_base.specs.Texts.{IsTag, IsPsetName}
use Rattle.mpi_base.specs.MemberLists.{AreRanks}
use Rattle.mpi_base.specs.declared.keys.Key.{Key}
use Rattle.mpi_base.specs.declared.entries.Act.{Act}
use Rattle.mpi_base.specs.declared.entries.Act.TheVariants.{Call, Answer, Deliver, Offer, Settle, Leave, Back}
use Rattle.mpi_base.specs.declared.entries.Brief.{Brief}
use Rattle.mpi_base.specs.declared.entries.Brief.TheVariants.{Up, Down, Share, Shares, Msg, Marker}
use Rattle.mpi_base.specs.declared.entries.Said.{Said}
use Rattle.mpi_base.specs.declared.entries.Said.TheVariants.{Own, Zero, Ready, Retry, Picked, Exhausted, Shared}
use Rattle.mpi_base.specs.declared.replies.Reply.{Reply}
use Rattle.mpi_base.specs.declared.replies.Reply.TheVariants as reply
use Rattle.mpi_base.specs.declared.entries.Entry.{Entry}
use Rattle.token_text.specs.Words.{FitsIf}
use Rattle.token_text.specs.Texts.{hex_form}
use Rattle.token_text.specs.Lists.{rank_outs_form}
use Rattle.entry_text.specs.Labels.{most_8, most_16, most_32, most_64, own_rank_form}
use Rattle.entry_text.specs.Replies.{IsMatched}

pub record KeyInRange (k : Key) : Type 0 where
  pub parent : k.parent ≤ most_16
  pub number : k.number ≤ most_64
  pub tag : IsTag k.tag
  pub members : AreRanks k.members

-- of a call the thread alone
abbrev pub ActInRange : Act → Type 0
ActInRange (Call thread op) = thread ≤ most_8
ActInRange (Answer thread) = thread ≤ most_8
ActInRange (Deliver from) = from ≤ most_16
ActInRange (Offer k) = KeyInRange k
ActInRange (Settle k) = KeyInRange k
ActInRange (Leave c) = c ≤ most_16
ActInRange (Back c) = c ≤ most_16

abbrev pub SaidInRange : Said → Type 0
SaidInRange Own = Unit {0}
SaidInRange Zero = Unit {0}
SaidInRange Ready = Unit {0}
SaidInRange Retry = Unit {0}
SaidInRange (Picked c) = c ≤ most_16
SaidInRange Exhausted = Unit {0}
SaidInRange Shared = Unit {0}

abbrev pub BriefInRange : Brief → Type 0
BriefInRange (Up i own k) = (i ≤ most_64) × KeyInRange k
BriefInRange (Down i s k) = (i ≤ most_64) × SaidInRange s × KeyInRange k
BriefInRange (Share k) = KeyInRange k
BriefInRange (Shares k) = KeyInRange k
BriefInRange (Msg c l n) = (c ≤ most_16) × (l ≤ most_8) × (n ≤ most_64)
BriefInRange (Marker c) = c ≤ most_16

abbrev pub ReplyInRange : Reply → Type 0
ReplyInRange reply.Fine = Unit {0}
ReplyInRange (reply.Refused class) = Unit {0}
ReplyInRange reply.Null = Unit {0}
ReplyInRange (reply.Psets n) = n ≤ most_32
ReplyInRange (reply.NthName name) = IsPsetName name
ReplyInRange (reply.Size0 n) = n ≤ most_32
ReplyInRange (reply.Group members) = AreRanks members
ReplyInRange (reply.Ranks ranks) = rank_outs_form.Fits ranks
ReplyInRange (reply.Like l) = Unit {0}
ReplyInRange (reply.Size n) = n ≤ most_16
ReplyInRange (reply.Rank r) = own_rank_form.Fits r
ReplyInRange (reply.Comm c r s) = (c ≤ most_16) × (r ≤ most_16) × (s ≤ most_16)
ReplyInRange (reply.Received s t bytes) = FitsIf (λ n. n ≤ most_16) s × FitsIf (λ n. n ≤ most_16) t × hex_form.Fits bytes

-- whatever the step, whether a part belongs to it or not
pub record EntryInRange (e : Entry) : Type 0 where
  pub rank : e.choice.rank ≤ most_16
  pub act : ActInRange e.choice.act
  pub brief : FitsIf BriefInRange e.brief
  pub said : FitsIf SaidInRange e.said
  pub matched : FitsIf IsMatched e.matched
  pub dropped : FitsIf (λ n. n ≤ most_64) e.dropped
  pub reply : FitsIf ReplyInRange e.reply
