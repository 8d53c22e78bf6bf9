-- What an entry needs of the registry before it, by its act, and the registry after it.
use Rattle.std.specs.Prelude.{◌≡◌, ℕ, ◌<◌, true, Option, Some, None}
use Rattle.mpi_base.specs.declared.keys.Key.{Key}
use Rattle.mpi_base.specs.declared.messages.Matched.{Matched}
use Rattle.mpi_base.specs.declared.ops.Op.{Op}
use Rattle.mpi_base.specs.declared.replies.Reply.{Reply}
use Rattle.mpi_base.specs.declared.entries.Act.{Act}
use Rattle.mpi_base.specs.declared.entries.Act.TheVariants.{Call, Answer, Deliver, Offer, Settle, Leave, Back}
use Rattle.mpi_base.specs.declared.entries.Said.{Said}
use Rattle.mpi_base.specs.declared.entries.Said.TheVariants as said
use Rattle.mpi_base.specs.declared.entries.Entry.{Entry}
use Rattle.mpi_law.specs.declared.setting.Setting.{Setting}
use Rattle.mpi_law.specs.declared.setting.TheConstants.{THREADS}
use Rattle.mpi_law.specs.Local.Effects.{said_at_once}
use Rattle.mpi_law.specs.Registry.State.{Registry, thread_of, is_idle_wait}
use Rattle.mpi_law.specs.Registry.Calls.{effect_at}
use Rattle.mpi_law.specs.Registry.Replies.{owed}
use Rattle.mpi_law.specs.Registry.Runs.{MayPick, IsFree, AllInUse, MayMatch, MayBack}
use Rattle.central_law.specs.Within.{posted_state}
use Rattle.central_law.specs.After.{matched_state, picked_state, returned_state, replied_state, called_state}

-- What an entry has may be so: each part is allowed that it has

abbrev pub MatchFits : Registry → ℕ → Option Matched → Type 0
MatchFits g r None = Unit {0}
MatchFits g r (Some m) = MayMatch g r m.receive m.from m.number

abbrev pub PickFits : Setting → Registry → ℕ → Key → Option Said → Type 0
PickFits s g r key None = Unit {0}
PickFits s g r key (Some said.Own) = Unit {0}
PickFits s g r key (Some said.Zero) = Unit {0}
PickFits s g r key (Some said.Ready) = Unit {0}
PickFits s g r key (Some said.Retry) = Unit {0}
PickFits s g r key (Some (said.Picked c)) = MayPick g r key × IsFree s g key c
PickFits s g r key (Some said.Exhausted) = MayPick g r key × AllInUse s g key
PickFits s g r key (Some said.Shared) = Unit {0}

abbrev pub BackFits : Registry → ℕ → ℕ → Option ℕ → Type 0
BackFits g r c None = Unit {0}
BackFits g r c (Some dropped) = MayBack g r c dropped

abbrev pub ReplyFits : Registry → ℕ → ℕ → Option Reply → Type 0
ReplyFits g r t None = Unit {0}
ReplyFits g r t (Some said) = owed g r t ≡ Some said

-- The rank and the thread are there, the thread waits for nothing, the reply stands in the entry exactly where it comes at
-- once, and is that one, and the match may be made once the call's message or its receive is there.
pub record CallFits (s : Setting) (g : Registry) (r t : ℕ) (op : Op) (matched : Option Matched) (said : Option Reply) : Type 0 where
  pub rank : r < s.ranks
  pub thread : t < THREADS
  pub idle : is_idle_wait (thread_of g r t).wait ≡ true
  pub reply : said ≡ said_at_once (effect_at s g r op)
  pub match_fits : MatchFits (posted_state g r (effect_at s g r op)) r matched

-- Any act

abbrev pub ActFits : Setting → Registry → ℕ → Act → Entry → Type 0
ActFits s g r (Call t op) e = CallFits s g r t op e.matched e.reply
ActFits s g r (Answer t) e = ReplyFits g r t e.reply
ActFits s g r (Deliver from) e = MatchFits g r e.matched
ActFits s g r (Offer key) e = Unit {0}
ActFits s g r (Settle key) e = PickFits s g r key e.said
ActFits s g r (Leave c) e = Unit {0}
ActFits s g r (Back c) e = BackFits g r c e.dropped

abbrev pub after_act : Setting → Registry → ℕ → Act → Entry → Registry
after_act s g r (Call t op) e = called_state g r t (effect_at s g r op) e.matched
after_act s g r (Answer t) e = replied_state g r t e.reply
after_act s g r (Deliver from) e = matched_state g r e.matched
after_act s g r (Offer key) e = g
after_act s g r (Settle key) e = picked_state g r key e.said
after_act s g r (Leave c) e = g
after_act s g r (Back c) e = returned_state g r c e.dropped

abbrev pub EntryFits : Setting → Registry → Entry → Type 0
EntryFits s g e = ActFits s g e.choice.rank e.choice.act e

abbrev pub after_entry : Setting → Registry → Entry → Registry
after_entry s g e = after_act s g e.choice.rank e.choice.act e
