-- Worked examples of the local operations: groups, sets and comparisons, through names.
use Rattle.std.proofs.Common.{◌≡◌, ◌==◌, if◌then◌else◌, ℕ, pos, negsuc, false, List, [], ◌∷◌, Option, Some, None, codes, refl}
use Rattle.std.specs.List.{range_with_len}
use Rattle.mpi_base.specs.declared.groups.RankArg.TheVariants as rank_arg
use Rattle.mpi_base.specs.declared.groups.RankOut.TheVariants as rank_out
use Rattle.mpi_base.specs.declared.groups.Likeness.TheVariants.{Ident, Congruent, Similar, Unequal}
use Rattle.mpi_base.specs.declared.messages.SrcArg.TheVariants as source
use Rattle.mpi_base.specs.declared.ops.Op.{Op}
use Rattle.mpi_base.specs.declared.ops.Op.TheVariants as op
use Rattle.mpi_base.specs.declared.replies.Reply.{Reply}
use Rattle.mpi_base.specs.declared.replies.Reply.TheVariants as reply
use Rattle.mpi_base.specs.declared.errors.ErrClass.TheVariants as class
use Rattle.mpi_group.specs.Algebra.{expanded, step_of, count_of}
use Rattle.pset_reg.specs.Sets.{start_of}
use Rattle.local_law.specs.Names.{bind}
use Rattle.local_law.specs.Objects.{Session, Group, Comm, Request, Reserved}
use Rattle.mpi_law.specs.declared.setting.Setting.{Setting}
use Rattle.mpi_law.specs.Local.{call_of, effect_of}
use Rattle.mpi_law.specs.Local.Objects.{Local, with_names}
use Rattle.mpi_law.specs.declared.effects.Effect.{Effect}
use Rattle.mpi_law.specs.declared.effects.Effect.TheVariants.{Says, Sends, Posts, NullPosts, Receives, Joins, Ends, Completes, Awaits}
use Rattle.mpi_law.specs.declared.effects.Origin.TheVariants.{Divided}
use Rattle.mpi_law.specs.Local.Effects.{Around, local_after, said_at_once}

-- eight ranks; communicators 1 and 2 have the same members, 3 has them in another order, 4 has others
abbrev eight : Setting
eight = record { ranks = 8; contexts = 63; psets = start_of 8 }

abbrev members : ℕ → List ℕ
members c = if c == 3 then 1 ∷ 0 ∷ [] else if c == 4 then 0 ∷ [] else 0 ∷ 1 ∷ []

abbrev around : Around
around = record { members = members; busy = λ origin. false; engaged = λ s. s == 2 }

-- sessions s and t; groups w and e of s, g of t; communicators a, b, c and d of s
abbrev start : Local
start = record {
  names =
      (codes "s", Session 1) ∷ (codes "t", Session 2) ∷ (codes "w", Group (0 ∷ 1 ∷ 2 ∷ 3 ∷ []) 1) ∷ (codes "e", Group (3 ∷ 1 ∷ []) 1) ∷ (codes "g", Group (0 ∷ []) 2)
      ∷ (codes "a", Comm 1 1) ∷ (codes "b", Comm 2 1) ∷ (codes "c", Comm 3 1) ∷ (codes "d", Comm 4 1) ∷ [];
  live = 1 ∷ 2 ∷ [];
  opened = 2;
}

abbrev does : Local → Op → Effect ℕ
does l o = effect_of eight 0 around l o

-- the rank's own objects after a call, where four receives were posted before
abbrev after : Local → Op → Local
after l o = local_after 4 l (does l o)

abbrev says : Op → Option Reply
says o = said_at_once (does start o)

-- Groups

union : says (op.Union (codes "e") (codes "w") (codes "u")) ≡ Some (reply.Group (3 ∷ 1 ∷ 0 ∷ 2 ∷ []))
unfolding call_of
union = refl

intersection : says (op.Intersect (codes "e") (codes "w") (codes "u")) ≡ Some (reply.Group (3 ∷ 1 ∷ []))
unfolding call_of
intersection = refl

difference : says (op.Difference (codes "w") (codes "e") (codes "u")) ≡ Some (reply.Group (0 ∷ 2 ∷ []))
unfolding call_of
difference = refl

empty : says (op.Difference (codes "g") (codes "g") (codes "u")) ≡ Some (reply.Group [])
unfolding call_of
empty = refl

exclusion : says (op.Excl (codes "w") (pos 1 ∷ pos 3 ∷ []) (codes "u")) ≡ Some (reply.Group (0 ∷ 2 ∷ []))
unfolding call_of
exclusion = refl

-- the group is bound, in the session of the group that is named
bound_then : after start (op.Excl (codes "w") (pos 1 ∷ pos 3 ∷ []) (codes "u")) ≡ with_names start (bind start.names (codes "u") (Group (0 ∷ 2 ∷ []) 1))
unfolding call_of
bound_then = refl

abbrev excluded : Local
excluded = with_names start (bind start.names (codes "u") (Group (0 ∷ 2 ∷ []) 1))

-- a target that is bound is refused after the ranges
bound_target : said_at_once (does excluded (op.RangeIncl (codes "w") (record { first = pos 0; last = pos 3; stride = pos 1 } ∷ []) (codes "u"))) ≡ Some (reply.Refused class.Arg)
unfolding call_of expanded step_of count_of
bound_target = refl

rank_first : said_at_once (does excluded (op.RangeIncl (codes "w") (record { first = pos 0; last = pos 4; stride = pos 1 } ∷ []) (codes "u"))) ≡ Some (reply.Refused class.Rank)
unfolding call_of expanded step_of count_of
rank_first = refl

unlike : said_at_once (does excluded (op.Compare (codes "u") (codes "w"))) ≡ Some (reply.Like Unequal)
unfolding call_of
unlike = refl

translation : says (op.Translate (codes "w") (rank_arg.At (pos 3) ∷ rank_arg.Null ∷ rank_arg.At (pos 0) ∷ []) (codes "e")) ≡ Some (reply.Ranks (rank_out.At 0 ∷ rank_out.Null ∷ rank_out.Undefined ∷ []))
unfolding call_of
translation = refl

-- two sessions, told before the target is looked at
two_sessions : says (op.Union (codes "w") (codes "g") (codes "s")) ≡ Some (reply.Refused class.Session)
unfolding call_of
two_sessions = refl

-- the second name is looked at before the sessions are
no_group : says (op.Compare (codes "g") (codes "a")) ≡ Some (reply.Refused class.Group)
unfolding call_of
no_group = refl

size : says (op.Size (codes "w")) ≡ Some (reply.Size 4)
unfolding call_of
size = refl

rank_in : says (op.Rank (codes "w")) ≡ Some (reply.Rank (Some 0))
unfolding call_of
rank_in = refl

rank_out_of : says (op.Rank (codes "e")) ≡ Some (reply.Rank None)
unfolding call_of
rank_out_of = refl

-- a freed group is no group, and all other names stay
freed : said_at_once (does (after start (op.Gfree (codes "w"))) (op.Size (codes "w"))) ≡ Some (reply.Refused class.Group)
unfolding call_of
freed = refl

others_stay : said_at_once (does (after start (op.Gfree (codes "w"))) (op.Size (codes "e"))) ≡ Some (reply.Size 2)
unfolding call_of
others_stay = refl

-- Process sets

psets : says (op.Psets (codes "s")) ≡ Some (reply.Psets 2)
unfolding call_of
psets = refl

second_set : says (op.Nth (codes "s") 1) ≡ Some (reply.NthName (codes "mpi://SELF"))
unfolding call_of
second_set = refl

no_third_set : says (op.Nth (codes "s") 2) ≡ Some (reply.Refused class.Arg)
unfolding call_of
no_third_set = refl

info : says (op.Info (codes "s") (codes "mpi://WORLD")) ≡ Some (reply.Size0 8)
unfolding call_of
info = refl

info_of_self : says (op.Info (codes "s") (codes "mpi://SELF")) ≡ Some (reply.Size0 1)
unfolding call_of
info_of_self = refl

set_on_bound : says (op.Pset (codes "s") (codes "mpi://SELF") (codes "g")) ≡ Some (reply.Refused class.Arg)
unfolding call_of
set_on_bound = refl

world : says (op.Pset (codes "t") (codes "mpi://WORLD") (codes "u")) ≡ Some (reply.Group (range_with_len 0 8))
unfolding call_of
world = refl

-- Communicators

group_of_comm : says (op.Group (codes "c") (codes "u")) ≡ Some (reply.Group (1 ∷ 0 ∷ []))
unfolding call_of
group_of_comm = refl

same_comm : says (op.Ccompare (codes "a") (codes "a")) ≡ Some (reply.Like Ident)
unfolding call_of
same_comm = refl

same_members : says (op.Ccompare (codes "a") (codes "b")) ≡ Some (reply.Like Congruent)
unfolding call_of
same_members = refl

other_order : says (op.Ccompare (codes "a") (codes "c")) ≡ Some (reply.Like Similar)
unfolding call_of
other_order = refl

other_members : says (op.Ccompare (codes "d") (codes "a")) ≡ Some (reply.Like Unequal)
unfolding call_of
other_members = refl

comm_size : says (op.Csize (codes "c")) ≡ Some (reply.Size 2)
unfolding call_of
comm_size = refl

-- the caller's place in the communicator, not in the world
comm_rank : says (op.Crank (codes "c")) ≡ Some (reply.Rank (Some 1))
unfolding call_of
comm_rank = refl

no_comm : says (op.Crank (codes "w")) ≡ Some (reply.Refused class.Comm)
unfolding call_of
no_comm = refl

-- Splits and groups under a communicator

-- a negative colour is refused before the target is looked at
negative_colour : says (op.Split (codes "a") (Some (negsuc 0)) (pos 0) (codes "b")) ≡ Some (reply.Refused class.Arg)
unfolding call_of
negative_colour = refl

split_asks : does start (op.Split (codes "a") None (pos 3) (codes "u"))
    ≡ Joins (record { origin = Divided 1 (record { colour = None; key = pos 3 }); target = codes "u"; session = 1 })
unfolding call_of
split_asks = refl

split_reserves : after start (op.Split (codes "a") None (pos 3) (codes "u")) ≡ with_names start (bind start.names (codes "u") Reserved)
unfolding call_of
split_reserves = refl

-- refused in this order: the sessions, the tag, the members, the target
group_of_another_session : says (op.CreateGroup (codes "a") (codes "g") 40000 (codes "a")) ≡ Some (reply.Refused class.Session)
unfolding call_of
group_of_another_session = refl

tag_too_high : says (op.CreateGroup (codes "a") (codes "w") 32768 (codes "a")) ≡ Some (reply.Refused class.Tag)
unfolding call_of
tag_too_high = refl

process_outside : says (op.CreateGroup (codes "a") (codes "w") 32767 (codes "a")) ≡ Some (reply.Refused class.Group)
unfolding call_of
process_outside = refl

-- Messages

-- refused in this order: the rank, the tag
send_to_no_rank : says (op.Send (codes "a") (Some 2) 40000 []) ≡ Some (reply.Refused class.Rank)
unfolding call_of
send_to_no_rank = refl

send_with_no_tag : says (op.Send (codes "a") None 32768 []) ≡ Some (reply.Refused class.Tag)
unfolding call_of
send_with_no_tag = refl

send_to_nobody : does start (op.Send (codes "a") None 7 (1 ∷ [])) ≡ Says reply.Fine
unfolding call_of
send_to_nobody = refl

-- the receiver is named by its rank in the communicator
sends : does start (op.Send (codes "c") (Some 1) 7 (1 ∷ [])) ≡ Sends (record { comm = 3; to = 1; tag = 7; payload = 1 ∷ [] })
unfolding call_of
sends = refl

receive_from_nobody : does start (op.Recv (codes "a") source.Null None 8) ≡ Says (reply.Received None None [])
unfolding call_of
receive_from_nobody = refl

receive_from_no_rank : says (op.Recv (codes "a") (source.At 2) (Some 40000) 8) ≡ Some (reply.Refused class.Rank)
unfolding call_of
receive_from_no_rank = refl

receives : does start (op.Recv (codes "a") source.Any None 8) ≡ Receives (record { comm = 1; source = None; tag = None; room = 8 })
unfolding call_of
receives = refl

-- the request has the number of the next receive; one from the null process has none, and takes none
requests : does start (op.Irecv (codes "a") (source.At 1) (Some 5) 8 (codes "q"))
    ≡ Posts (codes "q") (record { comm = 1; source = Some 1; tag = Some 5; room = 8 })
unfolding call_of
requests = refl

request_bound : after start (op.Irecv (codes "a") (source.At 1) (Some 5) 8 (codes "q")) ≡ with_names start (bind start.names (codes "q") (Request 5))
unfolding call_of
request_bound = refl

request_from_nobody : does start (op.Irecv (codes "a") source.Null None 8 (codes "q")) ≡ NullPosts (codes "q")
unfolding call_of
request_from_nobody = refl

null_request_bound : after start (op.Irecv (codes "a") source.Null None 8 (codes "q")) ≡ with_names start (bind start.names (codes "q") (Request 0))
unfolding call_of
null_request_bound = refl

request_on_bound : says (op.Irecv (codes "a") source.Null None 8 (codes "b")) ≡ Some (reply.Refused class.Arg)
unfolding call_of
request_on_bound = refl

no_request : says (op.Wait (codes "a")) ≡ Some (reply.Refused class.Request)
unfolding call_of
no_request = refl

-- the request's name is unbound when its caller begins to wait
completes : does (with_names start (bind start.names (codes "q") (Request 5))) (op.Wait (codes "q")) ≡ Completes (codes "q") 5
unfolding call_of
completes = refl

request_unbound : after (with_names start (bind start.names (codes "q") (Request 5))) (op.Wait (codes "q")) ≡ start
unfolding call_of
request_unbound = refl

awaits : does start (op.Await (codes "nosuch")) ≡ Awaits (codes "nosuch")
unfolding call_of
awaits = refl

-- The end of a session

-- it takes out the session's name and those of its groups and communicators
ends : does start (op.Finalize (codes "s")) ≡ Ends (codes "s") 1
unfolding call_of
ends = refl

names_gone : after start (op.Finalize (codes "s")) ≡ record { names = (codes "t", Session 2) ∷ (codes "g", Group (0 ∷ []) 2) ∷ []; live = 2 ∷ []; opened = 2 }
unfolding call_of
names_gone = refl

-- while a creation of it is open, it is refused
engaged : says (op.Finalize (codes "t")) ≡ Some (reply.Refused class.Busy)
unfolding call_of
engaged = refl

no_session : says (op.Finalize (codes "w")) ≡ Some (reply.Refused class.Session)
unfolding call_of
no_session = refl
