-- The step of a rank: a function of its state, the act and, for a delivery, the packet taken. It gives the new state, the
-- entry, and the packets to send. This project's own.
use Rattle.std.specs.Prelude.{ℕ, ◌==◌, ◌&&◌, not, Bool, List, [], map, filter, Option, Some, None, option_map, is_none, nat_lt}
use Rattle.mpi_base.specs.declared.entries.Act.{Act}
use Rattle.mpi_base.specs.declared.entries.Act.TheVariants.{Call, Answer, Deliver, Offer as MakeOffer, Settle, Leave, Back}
use Rattle.mpi_base.specs.declared.entries.Entry.{Entry}
use Rattle.mpi_law.specs.declared.setting.TheConstants.{THREADS}
use Rattle.agree_law.specs.Offers.{may_offer}
use Rattle.agree_law.specs.Moves.{may_settle, give_back}
use Rattle.comm_law.specs.Comms.{comm_at, is_freed_at, all_marked, leave, remove}
use Rattle.match_law.specs.Box.{has_posted, kept_on, drop_ctx}
use Rattle.mpi_protocol.specs.Packets.{Packet, Marker, Sent, brief_of}
use Rattle.mpi_protocol.specs.Rank.{Rank, thread_at, is_idle, has_open_under}
use Rattle.mpi_protocol.specs.Moves.{Move, moves}
use Rattle.mpi_protocol.specs.Calls.{calls}
use Rattle.mpi_protocol.specs.Answers.{is_answerable, answered}
use Rattle.mpi_protocol.specs.Agreeing.{offers, settles}
use Rattle.mpi_protocol.specs.Delivers.{delivers}

-- Leaves and give-backs

-- the rank leaves a communicator that is freed here, with no creation under it open
abbrev pub may_leave : Rank → ℕ → Bool
may_leave x c = is_freed_at x.comms c && not (has_open_under x c)

-- a marker to each other member, in order
abbrev pub markers : ℕ → ℕ → List ℕ → List Sent
markers r c members = map (λ m. record { to = m; packet = Marker c }) (filter (λ m. not (m == r)) members)

unfoldable pub leaves : Rank → ℕ → Move
leaves x c = moves (record x { comms = leave x.comms c }) (markers x.rank c (comm_at x.comms c).members)

-- the rank gives back a communicator that all its members have left, with no receive on it posted, while no key owns the mask
abbrev pub may_give_back : Rank → ℕ → Bool
may_give_back x c = all_marked x.comms x.rank c && (not (has_posted x.box c) && is_none x.agree.owner)

-- the communicator is gone, its context is free, and its messages are dropped
unfoldable pub gives_back : Rank → ℕ → Move
gives_back x c =
    record {
      state = record x { agree = give_back x.agree c; comms = remove x.comms c; box = drop_ctx x.box c };
      said = None;
      matched = None;
      dropped = Some (kept_on x.box c);
      reply = None;
      sent = [];
    }

-- The step

-- when an act may be made; a delivery from another rank may, where the link has a packet
unfoldable pub is_enabled : Rank → Act → Bool
is_enabled x (Call t op) = nat_lt t THREADS && is_idle (thread_at x t).waits
is_enabled x (Answer t) = nat_lt t THREADS && is_answerable x (thread_at x t).waits
is_enabled x (Deliver from) = not (from == x.rank)
is_enabled x (MakeOffer key) = may_offer x.agree key
is_enabled x (Settle key) = may_settle x.rank x.agree key
is_enabled x (Leave c) = may_leave x c
is_enabled x (Back c) = may_give_back x c

unfoldable pub step : Rank → Act → Option Packet → Move
step x (Call t op) p = calls x t op
step x (Answer t) p = answered x t (thread_at x t).waits
step x (Deliver from) p = delivers x from p
step x (MakeOffer key) p = offers x key
step x (Settle key) p = settles x key
step x (Leave c) p = leaves x c
step x (Back c) p = gives_back x c

-- the entry of a step
abbrev pub entry_of : Rank → Act → Option Packet → Move → Entry
entry_of x act p m =
    record { choice = record { rank = x.rank; act = act }; brief = option_map brief_of p; said = m.said; matched = m.matched; dropped = m.dropped; reply = m.reply }
