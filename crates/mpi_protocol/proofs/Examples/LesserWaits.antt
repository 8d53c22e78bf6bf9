-- An offer owns where no key owns the mask and no lesser key waits.
use Rattle.std.proofs.Common.{◌≡◌, true, false, List, [], ◌∷◌, Some, None, codes, refl}
use Rattle.mpi_base.specs.declared.keys.Key.{Key}
use Rattle.mpi_base.specs.declared.keys.Kind.TheVariants as kind
use Rattle.mpi_base.specs.declared.ops.Op.TheVariants as op
use Rattle.mpi_base.specs.declared.replies.Reply.TheVariants as reply
use Rattle.mpi_base.specs.declared.entries.Said.TheVariants as said
use Rattle.mpi_base.specs.declared.entries.Brief.TheVariants as brief
use Rattle.mpi_base.specs.declared.entries.Entry.{Entry}
use Rattle.mpi_base.specs.Keys.{same_key, key_cmp, key_before}
use Rattle.mpi_group.specs.Algebra.{count_of, step_of, expanded}
use Rattle.agree_law.specs.Tree.{parent_of, children_of}
use Rattle.agree_law.specs.Rule.{may_own, is_least}
use Rattle.agree_law.specs.Gather.{is_ready, all_own, least_common}
use Rattle.agree_law.specs.Offers.{up_from, put_offer, begin, make_offer, takes_up, take_up}
use Rattle.agree_law.specs.Verdicts.{takes, rounds_after, pass_down, decide, settle_offers, takes_down, take_down}
use Rattle.agree_law.specs.Classes.{class_of}
use Rattle.agree_law.specs.Shares.{share_list, begin_share, takes_share, take_share, divide, takes_shares, take_shares, settle_share}
use Rattle.agree_law.specs.Moves.{may_settle, settle, give_back, close, takes_packet, deliver}
use Rattle.match_law.specs.Box.{arrive, post}
use Rattle.comm_law.specs.Comms.{all_marked}
use Rattle.mpi_law.specs.declared.setting.Setting.{Setting}
use Rattle.mpi_law.specs.Local.{call_of}
use Rattle.mpi_protocol.specs.Rank.{has_open_under}
use Rattle.mpi_protocol.specs.Calls.{calls}
use Rattle.mpi_protocol.specs.Agreeing.{offers, settles}
use Rattle.mpi_protocol.specs.Delivers.{takes_packet as box_takes, delivers}
use Rattle.mpi_protocol.specs.Step.{is_enabled, step, leaves, gives_back}
use Rattle.mpi_protocol.specs.World.{opening}
use Rattle.mpi_protocol.proofs.Lines as line
use Rattle.mpi_protocol.proofs.Lines.{all_enabled, entries, after}

abbrev setting : Setting
setting = record { ranks = 2; contexts = 63; psets = record { ranks = 2; sets = (record { name = (codes "mpi://WORLD"); members = (0 ∷ 1 ∷ []) } ∷ record { name = (codes "mpi://SELF"); members = [] } ∷ []) } }

abbrev key_t : Key
key_t = record { parent = 0; kind = kind.From; number = 0; tag = (codes "t"); members = (0 ∷ 1 ∷ []) }

abbrev key_a : Key
key_a = record { parent = 0; kind = kind.From; number = 0; tag = (codes "a"); members = (0 ∷ 1 ∷ []) }

abbrev lines_1 : List Entry
lines_1 =
    line.call 0 0 (op.Session (codes "s")) (Some reply.Fine)
    ∷ line.call 0 0 (op.Pset (codes "s") (codes "mpi://WORLD") (codes "w")) (Some (reply.Group (0 ∷ 1 ∷ [])))
    ∷ line.call 0 0 (op.Create (codes "w") (codes "t") (codes "c")) None
    ∷ line.call 0 1 (op.Create (codes "w") (codes "a") (codes "d")) None
    ∷ line.call 1 0 (op.Session (codes "s")) (Some reply.Fine)
    ∷ line.call 1 0 (op.Pset (codes "s") (codes "mpi://WORLD") (codes "w")) (Some (reply.Group (0 ∷ 1 ∷ [])))
    ∷ line.call 1 0 (op.Create (codes "w") (codes "t") (codes "c")) None
    ∷ line.call 1 1 (op.Create (codes "w") (codes "a") (codes "d")) None
    ∷ line.deliver 0 1 (brief.Up 0 false key_t)
    ∷ line.deliver 0 1 (brief.Up 0 false key_a)
    ∷ line.settle 0 key_t said.Ready
    ∷ line.settle 0 key_a said.Ready
    ∷ line.deliver 1 0 (brief.Down 0 said.Ready key_t)
    ∷ line.offer 1 key_t said.Own
    ∷ line.deliver 1 0 (brief.Down 0 said.Ready key_a)
    ∷ line.offer 1 key_a said.Zero
    ∷ line.offer 0 key_t said.Zero
    ∷ line.offer 0 key_a said.Own
    ∷ line.deliver 0 1 (brief.Up 1 true key_t)
    ∷ line.deliver 0 1 (brief.Up 1 false key_a)
    ∷ line.settle 0 key_t said.Retry
    ∷ line.settle 0 key_a said.Retry
    ∷ line.deliver 1 0 (brief.Down 1 said.Retry key_t)
    ∷ line.deliver 1 0 (brief.Down 1 said.Retry key_a)
    ∷ line.offer 0 key_t said.Zero
    ∷ line.offer 0 key_a said.Own
    ∷ line.offer 1 key_a said.Own
    ∷ line.deliver 0 1 (brief.Up 2 true key_a)
    ∷ line.settle 0 key_a (said.Picked 1)
    ∷ line.deliver 1 0 (brief.Down 2 (said.Picked 1) key_a)
    ∷ line.offer 1 key_t said.Own
    ∷ []

-- the choices give these entries
gives_1 : entries (opening setting) lines_1 ≡ lines_1
unfolding after all_enabled entries same_key key_cmp key_before parent_of children_of may_own is_least is_ready all_own least_common up_from put_offer begin make_offer takes rounds_after pass_down decide settle_offers takes_up take_up takes_down take_down class_of share_list begin_share takes_share take_share divide takes_shares take_shares settle_share may_settle settle give_back close takes_packet deliver arrive post all_marked has_open_under calls offers settles box_takes delivers leaves gives_back is_enabled step call_of expanded step_of count_of
gives_1 = refl

enabled_1 : all_enabled (opening setting) lines_1 ≡ true
unfolding after all_enabled entries same_key key_cmp key_before parent_of children_of may_own is_least is_ready all_own least_common up_from put_offer begin make_offer takes rounds_after pass_down decide settle_offers takes_up take_up takes_down take_down class_of share_list begin_share takes_share take_share divide takes_shares take_shares settle_share may_settle settle give_back close takes_packet deliver arrive post all_marked has_open_under calls offers settles box_takes delivers leaves gives_back is_enabled step call_of expanded step_of count_of
enabled_1 = refl
