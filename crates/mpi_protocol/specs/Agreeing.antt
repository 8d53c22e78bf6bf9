-- The agreement within a rank: offers, settles, and what a verdict and an exchange of shares do to the rank's other parts.
use Rattle.std.specs.Prelude.{ℤ, Bool, true, false, if◌then◌else◌, List, Option, Some, None, slice_get}
use Rattle.mpi_base.specs.declared.keys.Key.{Key}
use Rattle.mpi_base.specs.declared.entries.Said.{Said}
use Rattle.mpi_base.specs.declared.entries.Said.TheVariants as said
use Rattle.mpi_base.specs.declared.shares.Shared1.{Shared1}
use Rattle.agree_law.specs.declared.rows.Verdict.{Verdict}
use Rattle.agree_law.specs.declared.rows.Verdict.TheVariants as verdict
use Rattle.agree_law.specs.Tree.{place_in}
use Rattle.agree_law.specs.Part.{round_of}
use Rattle.agree_law.specs.Packets as agree
use Rattle.agree_law.specs.Moves as agree_moves
use Rattle.agree_law.specs.Kinds.{is_share}
use Rattle.agree_law.specs.Rule.{may_own}
use Rattle.agree_law.specs.Gather.{verdict_of}
use Rattle.agree_law.specs.Offers.{make_offer}
use Rattle.agree_law.specs.Classes.{split_key}
use Rattle.agree_law.specs.Shares.{colour_at, share_list}
use Rattle.comm_law.specs.Comms.{add}
use Rattle.mpi_protocol.specs.Packets.{said_of, agreeing}
use Rattle.mpi_protocol.specs.Rank.{Rank, session_of, with_key}
use Rattle.mpi_protocol.specs.Moves.{Move, moves}

-- a move of the agreement
abbrev pub agreed : Rank → agree.Moved → Move
agreed x m = moves (record x { agree = m.part }) (agreeing m.sent)

abbrev pub saying : Said → Move → Move
saying s m = record m { said = Some s }

-- Offers

unfoldable pub offers : Rank → Key → Move
offers x key = saying (if may_own x.agree key then said.Own else said.Zero) (agreed x (make_offer x.rank x.setting.contexts x.agree key))

-- Verdicts

-- with a context the communicator is there, in the session of its creation
abbrev pub with_verdict : Rank → Key → Verdict → Rank
with_verdict x key verdict.Ready = x
with_verdict x key verdict.Retry = x
with_verdict x key (verdict.Context c) = record x { comms = add x.comms c key.members (session_of x.threads key) }
with_verdict x key verdict.Exhausted = x

-- Shares

-- the colour of this rank in the shares of an exchange
abbrev pub colour_here : Rank → Key → List Shared1 → Option ℤ
colour_here x key list = colour_at (slice_get list (place_in key.members x.rank))

-- with a colour the creation goes on under the key of its class
abbrev pub next_key : Key → Option ℤ → List Shared1 → Option Key
next_key key None list = None
next_key key (Some c) list = Some (split_key key (Some c) list)

abbrev pub with_shares : Rank → Key → List Shared1 → Rank
with_shares x key list = record x { threads = with_key x.threads key (next_key key (colour_here x key list) list) }

-- the shares are taken
abbrev pub shares_out : Rank → Key → List Shared1 → agree.Moved → Move
shares_out x key list m = agreed (with_shares x key list) m

-- Settles

abbrev pub verdict_at : Rank → Key → Verdict
verdict_at x key = verdict_of x.setting.contexts x.agree.gathered key (round_of x.agree.rounds key)

abbrev pub settles_as : Rank → Key → Bool → Move
settles_as x key true =
    saying said.Shared (shares_out x key (share_list x.agree.shares key) (agree_moves.settle x.rank x.setting.contexts x.agree key))
settles_as x key false =
    saying (said_of (verdict_at x key)) (agreed (with_verdict x key (verdict_at x key)) (agree_moves.settle x.rank x.setting.contexts x.agree key))

unfoldable pub settles : Rank → Key → Move
settles x key = settles_as x key (is_share key.kind)
