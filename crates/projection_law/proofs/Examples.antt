-- Worked journals of the protocol meet the premises, so that the laws are about something: a split, a message that nobody received
-- before its context is used again, and a retry.
use Rattle.std.proofs.Common.{◌≡◌, true, refl}
use Rattle.mpi_base.specs.Keys.{same_key, key_cmp, key_before}
use Rattle.mpi_group.specs.Algebra.{count_of, step_of, expanded}
use Rattle.agree_law.specs.Tree.{parent_of, children_of}
use Rattle.agree_law.specs.Rule.{may_own, is_least}
use Rattle.agree_law.specs.Gather.{is_ready, all_own, least_common}
use Rattle.agree_law.specs.Offers.{up_from, put_offer, begin, make_offer, takes_up, take_up}
use Rattle.agree_law.specs.Verdicts.{takes, rounds_after, pass_down, decide, settle_offers, takes_down, take_down}
use Rattle.agree_law.specs.Classes.{class_of}
use Rattle.agree_law.specs.Shares.{share_list, begin_share, takes_share, take_share, divide, takes_shares, take_shares, settle_share}
use Rattle.agree_law.specs.Moves.{may_settle, settle, give_back, close, takes_packet, deliver}
use Rattle.match_law.specs.Box.{arrive, post}
use Rattle.comm_law.specs.Comms.{all_marked}
use Rattle.mpi_law.specs.Local.{call_of}
use Rattle.mpi_protocol.specs.Rank.{has_open_under}
use Rattle.mpi_protocol.specs.Calls.{calls}
use Rattle.mpi_protocol.specs.Agreeing.{offers, settles}
use Rattle.mpi_protocol.specs.Delivers.{takes_packet as box_takes, delivers}
use Rattle.mpi_protocol.specs.Step.{is_enabled, step, leaves, gives_back}
use Rattle.mpi_protocol.specs.World.{opening}
use Rattle.mpi_protocol.proofs.Examples.SplitByKey as split
use Rattle.mpi_protocol.proofs.Examples.ReuseAfterMessage as reuse
use Rattle.mpi_protocol.proofs.Examples.RetryRound as retry
use Rattle.projection_law.specs.Premises.{SetsAreOfRanks}
use Rattle.projection_law.specs.KnownNames.{CallersNamesAreKnown}
use Rattle.projection_law.specs.Facts.{IsAgreementRun}
use Rattle.projection_law.proofs.Tested.{all_known, are_all_known}
use Rattle.projection_law.proofs.RunLaws.{runs_are_agreement_runs}

split_test : all_known (opening split.setting) split.journal ≡ true
unfolding all_known same_key key_cmp key_before parent_of children_of may_own is_least is_ready all_own least_common up_from put_offer begin make_offer takes rounds_after pass_down decide settle_offers takes_up take_up takes_down take_down class_of share_list begin_share takes_share take_share divide takes_shares take_shares settle_share may_settle settle give_back close takes_packet deliver arrive post all_marked has_open_under calls offers settles box_takes delivers leaves gives_back is_enabled step call_of expanded step_of count_of
split_test = refl

split_names : CallersNamesAreKnown split.setting split.journal
split_names = are_all_known (opening split.setting) split.journal split_test

split_sets : SetsAreOfRanks split.setting
split_sets = refl

split_run : IsAgreementRun split.setting split.journal
split_run = runs_are_agreement_runs split.setting split.journal split_sets split_names split.is_protocol_run

reuse_test : all_known (opening reuse.setting) reuse.journal ≡ true
unfolding all_known same_key key_cmp key_before parent_of children_of may_own is_least is_ready all_own least_common up_from put_offer begin make_offer takes rounds_after pass_down decide settle_offers takes_up take_up takes_down take_down class_of share_list begin_share takes_share take_share divide takes_shares take_shares settle_share may_settle settle give_back close takes_packet deliver arrive post all_marked has_open_under calls offers settles box_takes delivers leaves gives_back is_enabled step call_of expanded step_of count_of
reuse_test = refl

reuse_names : CallersNamesAreKnown reuse.setting reuse.journal
reuse_names = are_all_known (opening reuse.setting) reuse.journal reuse_test

reuse_sets : SetsAreOfRanks reuse.setting
reuse_sets = refl

reuse_run : IsAgreementRun reuse.setting reuse.journal
reuse_run = runs_are_agreement_runs reuse.setting reuse.journal reuse_sets reuse_names reuse.is_protocol_run

retry_test : all_known (opening retry.setting) retry.journal ≡ true
unfolding all_known same_key key_cmp key_before parent_of children_of may_own is_least is_ready all_own least_common up_from put_offer begin make_offer takes rounds_after pass_down decide settle_offers takes_up take_up takes_down take_down class_of share_list begin_share takes_share take_share divide takes_shares take_shares settle_share may_settle settle give_back close takes_packet deliver arrive post all_marked has_open_under calls offers settles box_takes delivers leaves gives_back is_enabled step call_of expanded step_of count_of
retry_test = refl

retry_names : CallersNamesAreKnown retry.setting retry.journal
retry_names = are_all_known (opening retry.setting) retry.journal retry_test

retry_sets : SetsAreOfRanks retry.setting
retry_sets = refl

retry_run : IsAgreementRun retry.setting retry.journal
retry_run = runs_are_agreement_runs retry.setting retry.journal retry_sets retry_names retry.is_protocol_run
