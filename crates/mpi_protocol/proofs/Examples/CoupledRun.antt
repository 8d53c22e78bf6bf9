-- Two pairs of ranks with communicators of their own are coupled, exchange a message, and end their sessions.
use Rattle.std.proofs.Common.{◌≡◌, true, false, List, [], ◌∷◌, Some, None, codes, refl}
use Rattle.mpi_base.specs.declared.keys.Key.{Key}
use Rattle.mpi_base.specs.declared.keys.Kind.TheVariants as kind
use Rattle.mpi_base.specs.declared.messages.SrcArg.TheVariants as source
use Rattle.mpi_base.specs.declared.ops.Op.TheVariants as op
use Rattle.mpi_base.specs.declared.replies.Reply.TheVariants as reply
use Rattle.mpi_base.specs.declared.entries.Said.TheVariants as said
use Rattle.mpi_base.specs.declared.entries.Brief.TheVariants as brief
use Rattle.mpi_base.specs.declared.entries.Entry.{Entry}
use Rattle.mpi_base.specs.Keys.{same_key, key_cmp, key_before}
use Rattle.mpi_group.specs.Algebra.{count_of, step_of, expanded}
use Rattle.agree_law.specs.Tree.{parent_of, children_of}
use Rattle.agree_law.specs.Rule.{may_own, is_least}
use Rattle.agree_law.specs.Gather.{is_ready, all_own, least_common}
use Rattle.agree_law.specs.Offers.{up_from, put_offer, begin, make_offer, takes_up, take_up}
use Rattle.agree_law.specs.Verdicts.{takes, rounds_after, pass_down, decide, settle_offers, takes_down, take_down}
use Rattle.agree_law.specs.Classes.{class_of}
use Rattle.agree_law.specs.Shares.{share_list, begin_share, takes_share, take_share, divide, takes_shares, take_shares, settle_share}
use Rattle.agree_law.specs.Moves.{may_settle, settle, give_back, close, takes_packet, deliver}
use Rattle.match_law.specs.Box.{arrive, post}
use Rattle.comm_law.specs.Comms.{all_marked}
use Rattle.mpi_law.specs.declared.setting.Setting.{Setting}
use Rattle.mpi_law.specs.Splits.{split_class}
use Rattle.mpi_law.specs.Local.{call_of}
use Rattle.mpi_law.specs.Registry.State.{registry_opening}
use Rattle.mpi_law.specs.Registry.Messages.{may_match}
use Rattle.mpi_law.specs.Registry.Events.{Event, Calls, Sends, Posts, Picks, Matches, Backs, Replies, registry_next}
use Rattle.mpi_law.specs.ScriptLists.{AllScripts}
use Rattle.mpi_law.specs.Registry.Runs.{IsRegistryRun, registry_after}
use Rattle.mpi_law.specs.Closed.{is_closed}
use Rattle.mpi_law.proofs.Decided.{judged, all_right, run_of}
use Rattle.mpi_protocol.specs.Rank.{has_open_under}
use Rattle.mpi_protocol.specs.Calls.{calls}
use Rattle.mpi_protocol.specs.Agreeing.{offers, settles}
use Rattle.mpi_protocol.specs.Delivers.{takes_packet as box_takes, delivers}
use Rattle.mpi_protocol.specs.Step.{is_enabled, step, leaves, gives_back}
use Rattle.mpi_protocol.specs.World.{opening}
use Rattle.mpi_protocol.specs.Run.{IsProtocolRun, end_of, events_of, entry_events}
use Rattle.mpi_protocol.specs.Order.{IsDrained, IsQuiet}
use Rattle.mpi_protocol.proofs.Lines as line
use Rattle.mpi_protocol.proofs.Lines.{all_enabled, entries, run_when}
use Rattle.mpi_protocol.proofs.Drained.{all_first, ops_due, ops_in, is_quiet, drained_when, quiet_when}

abbrev setting : Setting
setting = record { ranks = 4; contexts = 63; psets = record { ranks = 4; sets = (record { name = (codes "mpi://WORLD"); members = (0 ∷ 1 ∷ 2 ∷ 3 ∷ []) } ∷ record { name = (codes "mpi://SELF"); members = [] } ∷ record { name = (codes "app://air"); members = (2 ∷ 3 ∷ []) } ∷ record { name = (codes "app://ocean"); members = (0 ∷ 1 ∷ []) } ∷ []) } }

abbrev key_1 : Key
key_1 = record { parent = 0; kind = kind.From; number = 0; tag = (codes "ocean"); members = (0 ∷ 1 ∷ []) }

abbrev key_2 : Key
key_2 = record { parent = 0; kind = kind.From; number = 0; tag = (codes "couple"); members = (0 ∷ 1 ∷ 2 ∷ 3 ∷ []) }

abbrev key_3 : Key
key_3 = record { parent = 0; kind = kind.From; number = 0; tag = (codes "air"); members = (2 ∷ 3 ∷ []) }

abbrev journal : List Entry
journal =
    line.call 0 0 (op.Session (codes "s")) (Some reply.Fine)
    ∷ line.call 0 0 (op.Pset (codes "s") (codes "app://ocean") (codes "g")) (Some (reply.Group (0 ∷ 1 ∷ [])))
    ∷ line.call 0 0 (op.Create (codes "g") (codes "ocean") (codes "c")) None
    ∷ line.call 1 0 (op.Session (codes "s")) (Some reply.Fine)
    ∷ line.call 1 0 (op.Pset (codes "s") (codes "app://ocean") (codes "g")) (Some (reply.Group (0 ∷ 1 ∷ [])))
    ∷ line.call 1 0 (op.Create (codes "g") (codes "ocean") (codes "c")) None
    ∷ line.deliver 0 1 (brief.Up 0 false key_1)
    ∷ line.settle 0 key_1 said.Ready
    ∷ line.deliver 1 0 (brief.Down 0 said.Ready key_1)
    ∷ line.offer 0 key_1 said.Own
    ∷ line.offer 1 key_1 said.Own
    ∷ line.deliver 0 1 (brief.Up 1 true key_1)
    ∷ line.settle 0 key_1 (said.Picked 1)
    ∷ line.deliver 1 0 (brief.Down 1 (said.Picked 1) key_1)
    ∷ line.answer 0 0 (reply.Comm 1 0 2)
    ∷ line.answer 1 0 (reply.Comm 1 1 2)
    ∷ line.call 0 0 (op.Pset (codes "s") (codes "mpi://WORLD") (codes "w")) (Some (reply.Group (0 ∷ 1 ∷ 2 ∷ 3 ∷ [])))
    ∷ line.call 0 0 (op.Create (codes "w") (codes "couple") (codes "k")) None
    ∷ line.call 1 0 (op.Pset (codes "s") (codes "mpi://WORLD") (codes "w")) (Some (reply.Group (0 ∷ 1 ∷ 2 ∷ 3 ∷ [])))
    ∷ line.call 1 0 (op.Create (codes "w") (codes "couple") (codes "k")) None
    ∷ line.deliver 0 1 (brief.Up 0 false key_2)
    ∷ line.call 2 0 (op.Session (codes "s")) (Some reply.Fine)
    ∷ line.call 2 0 (op.Pset (codes "s") (codes "app://air") (codes "g")) (Some (reply.Group (2 ∷ 3 ∷ [])))
    ∷ line.call 2 0 (op.Create (codes "g") (codes "air") (codes "c")) None
    ∷ line.call 3 0 (op.Session (codes "s")) (Some reply.Fine)
    ∷ line.call 3 0 (op.Pset (codes "s") (codes "app://air") (codes "g")) (Some (reply.Group (2 ∷ 3 ∷ [])))
    ∷ line.call 3 0 (op.Create (codes "g") (codes "air") (codes "c")) None
    ∷ line.deliver 2 3 (brief.Up 0 false key_3)
    ∷ line.settle 2 key_3 said.Ready
    ∷ line.deliver 3 2 (brief.Down 0 said.Ready key_3)
    ∷ line.offer 2 key_3 said.Own
    ∷ line.offer 3 key_3 said.Own
    ∷ line.deliver 2 3 (brief.Up 1 true key_3)
    ∷ line.settle 2 key_3 (said.Picked 1)
    ∷ line.deliver 3 2 (brief.Down 1 (said.Picked 1) key_3)
    ∷ line.answer 2 0 (reply.Comm 1 0 2)
    ∷ line.answer 3 0 (reply.Comm 1 1 2)
    ∷ line.call 2 0 (op.Pset (codes "s") (codes "mpi://WORLD") (codes "w")) (Some (reply.Group (0 ∷ 1 ∷ 2 ∷ 3 ∷ [])))
    ∷ line.call 2 0 (op.Create (codes "w") (codes "couple") (codes "k")) None
    ∷ line.call 3 0 (op.Pset (codes "s") (codes "mpi://WORLD") (codes "w")) (Some (reply.Group (0 ∷ 1 ∷ 2 ∷ 3 ∷ [])))
    ∷ line.call 3 0 (op.Create (codes "w") (codes "couple") (codes "k")) None
    ∷ line.deliver 2 3 (brief.Up 0 false key_2)
    ∷ line.deliver 0 2 (brief.Up 0 false key_2)
    ∷ line.settle 0 key_2 said.Ready
    ∷ line.deliver 1 0 (brief.Down 0 said.Ready key_2)
    ∷ line.deliver 2 0 (brief.Down 0 said.Ready key_2)
    ∷ line.deliver 3 2 (brief.Down 0 said.Ready key_2)
    ∷ line.offer 0 key_2 said.Own
    ∷ line.offer 1 key_2 said.Own
    ∷ line.deliver 0 1 (brief.Up 1 true key_2)
    ∷ line.offer 2 key_2 said.Own
    ∷ line.offer 3 key_2 said.Own
    ∷ line.deliver 2 3 (brief.Up 1 true key_2)
    ∷ line.deliver 0 2 (brief.Up 1 true key_2)
    ∷ line.settle 0 key_2 (said.Picked 2)
    ∷ line.deliver 1 0 (brief.Down 1 (said.Picked 2) key_2)
    ∷ line.deliver 2 0 (brief.Down 1 (said.Picked 2) key_2)
    ∷ line.deliver 3 2 (brief.Down 1 (said.Picked 2) key_2)
    ∷ line.answer 0 0 (reply.Comm 2 0 4)
    ∷ line.answer 1 0 (reply.Comm 2 1 4)
    ∷ line.answer 2 0 (reply.Comm 2 2 4)
    ∷ line.answer 3 0 (reply.Comm 2 3 4)
    ∷ line.call 0 0 (op.Send (codes "k") (Some 2) 11 (10 ∷ 11 ∷ [])) (Some reply.Fine)
    ∷ line.deliver 2 0 (brief.Msg 2 0 1)
    ∷ line.call 0 0 (op.Finalize (codes "s")) None
    ∷ line.leave 0 1
    ∷ line.deliver 1 0 (brief.Marker 1)
    ∷ line.leave 0 2
    ∷ line.deliver 1 0 (brief.Marker 2)
    ∷ line.deliver 2 0 (brief.Marker 2)
    ∷ line.deliver 3 0 (brief.Marker 2)
    ∷ line.call 1 0 (op.Finalize (codes "s")) None
    ∷ line.leave 1 1
    ∷ line.deliver 0 1 (brief.Marker 1)
    ∷ line.leave 1 2
    ∷ line.deliver 0 1 (brief.Marker 2)
    ∷ line.deliver 2 1 (brief.Marker 2)
    ∷ line.deliver 3 1 (brief.Marker 2)
    ∷ line.back 0 1 0
    ∷ line.back 1 1 0
    ∷ line.call_matched 2 0 (op.Recv (codes "k") (source.At 0) (Some 11) 64) (record { receive = 1; from = 0; number = 1 }) None
    ∷ line.answer 2 0 (reply.Received (Some 0) (Some 11) (10 ∷ 11 ∷ []))
    ∷ line.call 2 0 (op.Finalize (codes "s")) None
    ∷ line.leave 2 1
    ∷ line.deliver 3 2 (brief.Marker 1)
    ∷ line.leave 2 2
    ∷ line.deliver 0 2 (brief.Marker 2)
    ∷ line.deliver 1 2 (brief.Marker 2)
    ∷ line.deliver 3 2 (brief.Marker 2)
    ∷ line.call 3 0 (op.Finalize (codes "s")) None
    ∷ line.leave 3 1
    ∷ line.deliver 2 3 (brief.Marker 1)
    ∷ line.leave 3 2
    ∷ line.deliver 0 3 (brief.Marker 2)
    ∷ line.deliver 1 3 (brief.Marker 2)
    ∷ line.deliver 2 3 (brief.Marker 2)
    ∷ line.back 0 2 0
    ∷ line.answer 0 0 reply.Fine
    ∷ line.back 1 2 0
    ∷ line.answer 1 0 reply.Fine
    ∷ line.back 2 1 0
    ∷ line.back 2 2 0
    ∷ line.answer 2 0 reply.Fine
    ∷ line.back 3 1 0
    ∷ line.back 3 2 0
    ∷ line.answer 3 0 reply.Fine
    ∷ []

abbrev events : List Event
events =
    Calls 0 0 (op.Session (codes "s")) true
    ∷ Replies 0 0 reply.Fine
    ∷ Calls 0 0 (op.Pset (codes "s") (codes "app://ocean") (codes "g")) true
    ∷ Replies 0 0 (reply.Group (0 ∷ 1 ∷ []))
    ∷ Calls 0 0 (op.Create (codes "g") (codes "ocean") (codes "c")) false
    ∷ Calls 1 0 (op.Session (codes "s")) true
    ∷ Replies 1 0 reply.Fine
    ∷ Calls 1 0 (op.Pset (codes "s") (codes "app://ocean") (codes "g")) true
    ∷ Replies 1 0 (reply.Group (0 ∷ 1 ∷ []))
    ∷ Calls 1 0 (op.Create (codes "g") (codes "ocean") (codes "c")) false
    ∷ Picks 0 key_1 (Some 1)
    ∷ Replies 0 0 (reply.Comm 1 0 2)
    ∷ Replies 1 0 (reply.Comm 1 1 2)
    ∷ Calls 0 0 (op.Pset (codes "s") (codes "mpi://WORLD") (codes "w")) true
    ∷ Replies 0 0 (reply.Group (0 ∷ 1 ∷ 2 ∷ 3 ∷ []))
    ∷ Calls 0 0 (op.Create (codes "w") (codes "couple") (codes "k")) false
    ∷ Calls 1 0 (op.Pset (codes "s") (codes "mpi://WORLD") (codes "w")) true
    ∷ Replies 1 0 (reply.Group (0 ∷ 1 ∷ 2 ∷ 3 ∷ []))
    ∷ Calls 1 0 (op.Create (codes "w") (codes "couple") (codes "k")) false
    ∷ Calls 2 0 (op.Session (codes "s")) true
    ∷ Replies 2 0 reply.Fine
    ∷ Calls 2 0 (op.Pset (codes "s") (codes "app://air") (codes "g")) true
    ∷ Replies 2 0 (reply.Group (2 ∷ 3 ∷ []))
    ∷ Calls 2 0 (op.Create (codes "g") (codes "air") (codes "c")) false
    ∷ Calls 3 0 (op.Session (codes "s")) true
    ∷ Replies 3 0 reply.Fine
    ∷ Calls 3 0 (op.Pset (codes "s") (codes "app://air") (codes "g")) true
    ∷ Replies 3 0 (reply.Group (2 ∷ 3 ∷ []))
    ∷ Calls 3 0 (op.Create (codes "g") (codes "air") (codes "c")) false
    ∷ Picks 2 key_3 (Some 1)
    ∷ Replies 2 0 (reply.Comm 1 0 2)
    ∷ Replies 3 0 (reply.Comm 1 1 2)
    ∷ Calls 2 0 (op.Pset (codes "s") (codes "mpi://WORLD") (codes "w")) true
    ∷ Replies 2 0 (reply.Group (0 ∷ 1 ∷ 2 ∷ 3 ∷ []))
    ∷ Calls 2 0 (op.Create (codes "w") (codes "couple") (codes "k")) false
    ∷ Calls 3 0 (op.Pset (codes "s") (codes "mpi://WORLD") (codes "w")) true
    ∷ Replies 3 0 (reply.Group (0 ∷ 1 ∷ 2 ∷ 3 ∷ []))
    ∷ Calls 3 0 (op.Create (codes "w") (codes "couple") (codes "k")) false
    ∷ Picks 0 key_2 (Some 2)
    ∷ Replies 0 0 (reply.Comm 2 0 4)
    ∷ Replies 1 0 (reply.Comm 2 1 4)
    ∷ Replies 2 0 (reply.Comm 2 2 4)
    ∷ Replies 3 0 (reply.Comm 2 3 4)
    ∷ Calls 0 0 (op.Send (codes "k") (Some 2) 11 (10 ∷ 11 ∷ [])) true
    ∷ Sends 0 0
    ∷ Replies 0 0 reply.Fine
    ∷ Calls 0 0 (op.Finalize (codes "s")) false
    ∷ Calls 1 0 (op.Finalize (codes "s")) false
    ∷ Backs 0 1 0
    ∷ Backs 1 1 0
    ∷ Calls 2 0 (op.Recv (codes "k") (source.At 0) (Some 11) 64) false
    ∷ Posts 2 0
    ∷ Matches 2 1 0 1
    ∷ Replies 2 0 (reply.Received (Some 0) (Some 11) (10 ∷ 11 ∷ []))
    ∷ Calls 2 0 (op.Finalize (codes "s")) false
    ∷ Calls 3 0 (op.Finalize (codes "s")) false
    ∷ Backs 0 2 0
    ∷ Replies 0 0 reply.Fine
    ∷ Backs 1 2 0
    ∷ Replies 1 0 reply.Fine
    ∷ Backs 2 1 0
    ∷ Backs 2 2 0
    ∷ Replies 2 0 reply.Fine
    ∷ Backs 3 1 0
    ∷ Backs 3 2 0
    ∷ Replies 3 0 reply.Fine
    ∷ []

-- each choice is enabled when it is made
is_enabled_throughout : all_enabled (opening setting) journal ≡ true
unfolding all_enabled same_key key_cmp key_before parent_of children_of may_own is_least is_ready all_own least_common up_from put_offer begin make_offer takes rounds_after pass_down decide settle_offers takes_up take_up takes_down take_down class_of share_list begin_share takes_share take_share divide takes_shares take_shares settle_share may_settle settle give_back close takes_packet deliver arrive post all_marked has_open_under calls offers settles box_takes delivers leaves gives_back is_enabled step call_of expanded step_of count_of
is_enabled_throughout = refl

-- the choices give these entries
gives : entries (opening setting) journal ≡ journal
unfolding entries same_key key_cmp key_before parent_of children_of may_own is_least is_ready all_own least_common up_from put_offer begin make_offer takes rounds_after pass_down decide settle_offers takes_up take_up takes_down take_down class_of share_list begin_share takes_share take_share divide takes_shares take_shares settle_share may_settle settle give_back close takes_packet deliver arrive post all_marked has_open_under calls offers settles box_takes delivers leaves gives_back is_enabled step call_of expanded step_of count_of
gives = refl

-- what the registry sees of them
sees : events_of journal ≡ events
unfolding entry_events
sees = refl

-- the registry allows each event
right : judged setting (registry_opening setting) events ≡ all_right events
unfolding same_key split_class registry_next may_match call_of expanded step_of count_of judged
right = refl

abbrev scripts : AllScripts
scripts = record { ranks = 4; lists = (((op.Session (codes "s")) ∷ (op.Pset (codes "s") (codes "app://ocean") (codes "g")) ∷ (op.Create (codes "g") (codes "ocean") (codes "c")) ∷ (op.Pset (codes "s") (codes "mpi://WORLD") (codes "w")) ∷ (op.Create (codes "w") (codes "couple") (codes "k")) ∷ (op.Send (codes "k") (Some 2) 11 (10 ∷ 11 ∷ [])) ∷ (op.Finalize (codes "s")) ∷ []) ∷ [] ∷ [] ∷ [] ∷ [] ∷ [] ∷ [] ∷ [] ∷ ((op.Session (codes "s")) ∷ (op.Pset (codes "s") (codes "app://ocean") (codes "g")) ∷ (op.Create (codes "g") (codes "ocean") (codes "c")) ∷ (op.Pset (codes "s") (codes "mpi://WORLD") (codes "w")) ∷ (op.Create (codes "w") (codes "couple") (codes "k")) ∷ (op.Finalize (codes "s")) ∷ []) ∷ [] ∷ [] ∷ [] ∷ [] ∷ [] ∷ [] ∷ [] ∷ ((op.Session (codes "s")) ∷ (op.Pset (codes "s") (codes "app://air") (codes "g")) ∷ (op.Create (codes "g") (codes "air") (codes "c")) ∷ (op.Pset (codes "s") (codes "mpi://WORLD") (codes "w")) ∷ (op.Create (codes "w") (codes "couple") (codes "k")) ∷ (op.Recv (codes "k") (source.At 0) (Some 11) 64) ∷ (op.Finalize (codes "s")) ∷ []) ∷ [] ∷ [] ∷ [] ∷ [] ∷ [] ∷ [] ∷ [] ∷ ((op.Session (codes "s")) ∷ (op.Pset (codes "s") (codes "app://air") (codes "g")) ∷ (op.Create (codes "g") (codes "air") (codes "c")) ∷ (op.Pset (codes "s") (codes "mpi://WORLD") (codes "w")) ∷ (op.Create (codes "w") (codes "couple") (codes "k")) ∷ (op.Finalize (codes "s")) ∷ []) ∷ [] ∷ [] ∷ [] ∷ [] ∷ [] ∷ [] ∷ [] ∷ []) }

-- nothing more may come but calls beyond the scripts
closes : is_closed setting scripts (registry_after setting (registry_opening setting) events) ≡ true
unfolding same_key split_class registry_next may_match call_of expanded step_of count_of is_closed
closes = refl

-- so the events are a registry run
is_run : IsRegistryRun setting (registry_opening setting) events
is_run = run_of setting (registry_opening setting) events right

-- and the journal is a protocol run
is_protocol_run : IsProtocolRun setting journal
is_protocol_run = run_when (opening setting) journal is_enabled_throughout gives

-- each choice is the first of those that may be made, and each call is the next of its script
firsts : all_first scripts (opening setting) journal ≡ true
unfolding all_first same_key key_cmp key_before parent_of children_of may_own is_least is_ready all_own least_common up_from put_offer begin make_offer takes rounds_after pass_down decide settle_offers takes_up take_up takes_down take_down class_of share_list begin_share takes_share take_share divide takes_shares take_shares settle_share may_settle settle give_back close takes_packet deliver arrive post all_marked has_open_under calls offers settles box_takes delivers leaves gives_back is_enabled step call_of expanded step_of count_of
firsts = refl

nexts : ops_due scripts (opening setting) journal ≡ ops_in journal
unfolding ops_due same_key key_cmp key_before parent_of children_of may_own is_least is_ready all_own least_common up_from put_offer begin make_offer takes rounds_after pass_down decide settle_offers takes_up take_up takes_down take_down class_of share_list begin_share takes_share take_share divide takes_shares take_shares settle_share may_settle settle give_back close takes_packet deliver arrive post all_marked has_open_under calls offers settles box_takes delivers leaves gives_back is_enabled step call_of expanded step_of count_of
nexts = refl

-- so it is the journal of the drain
is_drained : IsDrained scripts (opening setting) journal
is_drained = drained_when scripts (opening setting) journal firsts nexts

-- and nothing is left to do
stops : is_quiet scripts (end_of setting journal) ≡ true
unfolding is_quiet same_key key_cmp key_before parent_of children_of may_own is_least is_ready all_own least_common up_from put_offer begin make_offer takes rounds_after pass_down decide settle_offers takes_up take_up takes_down take_down class_of share_list begin_share takes_share take_share divide takes_shares take_shares settle_share may_settle settle give_back close takes_packet deliver arrive post all_marked has_open_under calls offers settles box_takes delivers leaves gives_back is_enabled step call_of expanded step_of count_of
stops = refl

ends_quiet : IsQuiet (end_of setting journal) scripts
ends_quiet = quiet_when scripts (end_of setting journal) stops
