-- The cost along two worked journals of the drain, with splits and with messages: it falls at each choice, from its value at the
-- opening on, and the journals are within the bound.
use Rattle.std.proofs.Common.{◌≡◌, ◌&&◌, ℕ, Bool, true, List, [], ◌∷◌, map, length, refl}
use Rattle.std.specs.Prelude.{nat_lt}
use Rattle.std.specs.List.{flat_map, range_with_len}
use Rattle.mpi_base.specs.Keys.{same_key, key_cmp, key_before}
use Rattle.mpi_base.specs.declared.entries.Entry.{Entry}
use Rattle.mpi_group.specs.Algebra.{count_of, step_of, expanded}
use Rattle.agree_law.specs.Tree.{parent_of, children_of}
use Rattle.agree_law.specs.Rule.{may_own, is_least}
use Rattle.agree_law.specs.Gather.{is_ready, all_own, least_common}
use Rattle.agree_law.specs.Offers.{up_from, put_offer, begin, make_offer, takes_up, take_up}
use Rattle.agree_law.specs.Verdicts.{takes, rounds_after, pass_down, decide, settle_offers, takes_down, take_down}
use Rattle.agree_law.specs.Classes.{class_of}
use Rattle.agree_law.specs.Shares.{share_list, begin_share, takes_share, take_share, divide, takes_shares, take_shares, settle_share}
use Rattle.agree_law.specs.Moves.{may_settle, settle, give_back, close, takes_packet, deliver}
use Rattle.match_law.specs.Box.{arrive, post}
use Rattle.comm_law.specs.Comms.{all_marked}
use Rattle.mpi_law.specs.Local.{call_of}
use Rattle.mpi_law.specs.declared.setting.TheConstants.{THREADS}
use Rattle.mpi_law.specs.ScriptLists.{AllScripts}
use Rattle.mpi_protocol.specs.Rank.{has_open_under}
use Rattle.mpi_protocol.specs.Calls.{calls}
use Rattle.mpi_protocol.specs.Agreeing.{offers, settles}
use Rattle.mpi_protocol.specs.Delivers.{takes_packet as box_takes, delivers}
use Rattle.mpi_protocol.specs.Step.{is_enabled, step, leaves, gives_back}
use Rattle.mpi_protocol.specs.World.{World, opening, moved}
use Rattle.mpi_protocol.specs.Run.{calls_of}
use Rattle.mpi_protocol.proofs.Examples.SplitByKey as split
use Rattle.mpi_protocol.proofs.Examples.ReuseAfterMessage as reuse
use Rattle.wayout_law.specs.Potential.{more_late, cost, potential, bound}

-- the scripts whose operations the journal calls
abbrev scripts_of : ℕ → List Entry → AllScripts
scripts_of ranks journal = record { ranks = ranks; lists = flat_map (λ r. map (λ t. calls_of r t journal) (range_with_len 0 THREADS)) (range_with_len 0 ranks) }

-- whether the cost falls at each choice
unfoldable falls : AllScripts → World → List Entry → Bool
falls scripts w [] = true
falls scripts w (e ∷ es) = nat_lt (cost (length w.ranks) more_late scripts (moved w e.choice)) (cost (length w.ranks) more_late scripts w) && falls scripts (moved w e.choice) es

-- A split: 4 ranks, 16 operations

-- at the opening it is n + 13 for each operation, and the bound n + 32
split_costs : potential (scripts_of 4 split.journal) (opening split.setting) ≡ 272
split_costs = refl

split_bound : bound (scripts_of 4 split.journal) (opening split.setting) ≡ 576
split_bound = refl

split_falls : falls (scripts_of 4 split.journal) (opening split.setting) split.journal ≡ true
unfolding falls same_key key_cmp key_before parent_of children_of may_own is_least is_ready all_own least_common up_from put_offer begin make_offer takes rounds_after pass_down decide settle_offers takes_up take_up takes_down take_down class_of share_list begin_share takes_share take_share divide takes_shares take_shares settle_share may_settle settle give_back close takes_packet deliver arrive post all_marked has_open_under calls offers settles box_takes delivers leaves gives_back is_enabled step call_of expanded step_of count_of
split_falls = refl

-- Messages, and a context in use again: 2 ranks, 13 operations

reuse_costs : potential (scripts_of 2 reuse.journal) (opening reuse.setting) ≡ 195
reuse_costs = refl

reuse_bound : bound (scripts_of 2 reuse.journal) (opening reuse.setting) ≡ 442
reuse_bound = refl

reuse_falls : falls (scripts_of 2 reuse.journal) (opening reuse.setting) reuse.journal ≡ true
unfolding falls same_key key_cmp key_before parent_of children_of may_own is_least is_ready all_own least_common up_from put_offer begin make_offer takes rounds_after pass_down decide settle_offers takes_up take_up takes_down take_down class_of share_list begin_share takes_share take_share divide takes_shares take_shares settle_share may_settle settle give_back close takes_packet deliver arrive post all_marked has_open_under calls offers settles box_takes delivers leaves gives_back is_enabled step call_of expanded step_of count_of
reuse_falls = refl
