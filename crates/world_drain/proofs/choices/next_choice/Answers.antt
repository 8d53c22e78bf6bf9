use Rattle.std.proofs.Common.{arith}
use Rattle.world_drain.proofs.Found.{none_below_one, none_below_next, first_of_kind, first_of_calls, quiet_if_none, if_some, if_none}
use Rattle.world_drain.proofs.Searched.{rank_of_setting}
use Rattle.world_drain.proofs.choices.next_choice.Goals as goal

pub returns-in-Some-clause-found : goal.returns-in-Some-clause-found
returns-in-Some-clause-found g c =
    let w = c.args.world.now.world in
    first_of_kind w c.args.scripts.now 1 c.in-Some.choice (omega arith)
    (none_below_one w)
    c.in-Some.ensures.found

pub returns-in-Some-first_of-clause-found : goal.returns-in-Some-first_of-clause-found
returns-in-Some-first_of-clause-found g c =
    let w = c.args.world.now.world in
    first_of_kind w c.args.scripts.now 2 c.in-Some-first_of.choice (omega arith)
    (none_below_next w 1 (none_below_one w) c.in_default.ensures.none)
    c.in-Some-first_of.ensures.found

pub returns-in-Some-first_of-2-clause-found : goal.returns-in-Some-first_of-2-clause-found
returns-in-Some-first_of-2-clause-found g c =
    let w = c.args.world.now.world in
    first_of_kind w c.args.scripts.now 3 c.in-Some-first_of-2.choice (omega arith)
    (none_below_next w 2 (none_below_next w 1 (none_below_one w) c.in_default.ensures.none) c.in_default-first_of.ensures.none)
    c.in-Some-first_of-2.ensures.found

pub returns-in-Some-first_offer-clause-found : goal.returns-in-Some-first_offer-clause-found
returns-in-Some-first_offer-clause-found g c =
    let w = c.args.world.now.world in
    first_of_kind w c.args.scripts.now 4 c.in-Some-first_offer.choice (omega arith)
    (none_below_next w 3 (none_below_next w 2 (none_below_next w 1 (none_below_one w) c.in_default.ensures.none) c.in_default-first_of.ensures.none) c.in_default-first_of-2.ensures.none)
    c.in-Some-first_offer.ensures.found

pub returns-in-Some-first_offer-2-clause-found : goal.returns-in-Some-first_offer-2-clause-found
returns-in-Some-first_offer-2-clause-found g c =
    let w = c.args.world.now.world in
    first_of_kind w c.args.scripts.now 5 c.in-Some-first_offer-2.choice (omega arith)
    (none_below_next w 4 (none_below_next w 3 (none_below_next w 2 (none_below_next w 1 (none_below_one w) c.in_default.ensures.none) c.in_default-first_of.ensures.none) c.in_default-first_of-2.ensures.none) c.in_default-first_offer.ensures.none)
    c.in-Some-first_offer-2.ensures.found

pub returns-in-Some-first_of-3-clause-found : goal.returns-in-Some-first_of-3-clause-found
returns-in-Some-first_of-3-clause-found g c =
    let w = c.args.world.now.world in
    first_of_kind w c.args.scripts.now 6 c.in-Some-first_of-3.choice (omega arith)
    (none_below_next w 5 (none_below_next w 4 (none_below_next w 3 (none_below_next w 2 (none_below_next w 1 (none_below_one w) c.in_default.ensures.none) c.in_default-first_of.ensures.none) c.in_default-first_of-2.ensures.none) c.in_default-first_offer.ensures.none) c.in_default-first_offer-2.ensures.none)
    c.in-Some-first_of-3.ensures.found

pub returns-in-Some-first_of-4-clause-found : goal.returns-in-Some-first_of-4-clause-found
returns-in-Some-first_of-4-clause-found g c =
    let w = c.args.world.now.world in
    first_of_kind w c.args.scripts.now 7 c.in-Some-first_of-4.choice (omega arith)
    (none_below_next w 6 (none_below_next w 5 (none_below_next w 4 (none_below_next w 3 (none_below_next w 2 (none_below_next w 1 (none_below_one w) c.in_default.ensures.none) c.in_default-first_of.ensures.none) c.in_default-first_of-2.ensures.none) c.in_default-first_offer.ensures.none) c.in_default-first_offer-2.ensures.none) c.in_default-first_of-3.ensures.none)
    c.in-Some-first_of-4.ensures.found

pub returns-clause-found : goal.returns-clause-found
returns-clause-found g c =
    let w = c.args.world.now.world in
    let below = none_below_next w 7 (none_below_next w 6 (none_below_next w 5 (none_below_next w 4 (none_below_next w 3 (none_below_next w 2 (none_below_next w 1 (none_below_one w) c.in_default.ensures.none) c.in_default-first_of.ensures.none) c.in_default-first_of-2.ensures.none) c.in_default-first_offer.ensures.none) c.in_default-first_offer-2.ensures.none) c.in_default-first_of-3.ensures.none) c.in_default-first_of-4.ensures.none in
    if_some c.first_call.result (λ choice f. first_of_calls w c.args.scripts.now choice below f) c.first_call.ensures.found

pub returns-clause-quiet : goal.returns-clause-quiet
returns-clause-quiet g c =
    let w = c.args.world.now.world in
    let below = none_below_next w 7 (none_below_next w 6 (none_below_next w 5 (none_below_next w 4 (none_below_next w 3 (none_below_next w 2 (none_below_next w 1 (none_below_one w) c.in_default.ensures.none) c.in_default-first_of.ensures.none) c.in_default-first_of-2.ensures.none) c.in_default-first_offer.ensures.none) c.in_default-first_offer-2.ensures.none) c.in_default-first_of-3.ensures.none) c.in_default-first_of-4.ensures.none in
    if_none c.first_call.result (λ none. quiet_if_none w c.args.scripts.now below none) c.first_call.ensures.none

pub returns-in-Some-clause-rank : goal.returns-in-Some-clause-rank
returns-in-Some-clause-rank g c = rank_of_setting c.args.world.now.world c.args.world.now.setting.ranks c.in-Some.choice c.first_delivery.ensures.ranks c.in-Some.ensures.found.one.enabled

pub returns-in-Some-first_of-clause-rank : goal.returns-in-Some-first_of-clause-rank
returns-in-Some-first_of-clause-rank g c = rank_of_setting c.args.world.now.world c.args.world.now.setting.ranks c.in-Some-first_of.choice c.first_delivery.ensures.ranks c.in-Some-first_of.ensures.found.one.enabled

pub returns-in-Some-first_of-2-clause-rank : goal.returns-in-Some-first_of-2-clause-rank
returns-in-Some-first_of-2-clause-rank g c = rank_of_setting c.args.world.now.world c.args.world.now.setting.ranks c.in-Some-first_of-2.choice c.first_delivery.ensures.ranks c.in-Some-first_of-2.ensures.found.one.enabled

pub returns-in-Some-first_offer-clause-rank : goal.returns-in-Some-first_offer-clause-rank
returns-in-Some-first_offer-clause-rank g c = rank_of_setting c.args.world.now.world c.args.world.now.setting.ranks c.in-Some-first_offer.choice c.first_delivery.ensures.ranks c.in-Some-first_offer.ensures.found.one.enabled

pub returns-in-Some-first_offer-2-clause-rank : goal.returns-in-Some-first_offer-2-clause-rank
returns-in-Some-first_offer-2-clause-rank g c = rank_of_setting c.args.world.now.world c.args.world.now.setting.ranks c.in-Some-first_offer-2.choice c.first_delivery.ensures.ranks c.in-Some-first_offer-2.ensures.found.one.enabled

pub returns-in-Some-first_of-3-clause-rank : goal.returns-in-Some-first_of-3-clause-rank
returns-in-Some-first_of-3-clause-rank g c = rank_of_setting c.args.world.now.world c.args.world.now.setting.ranks c.in-Some-first_of-3.choice c.first_delivery.ensures.ranks c.in-Some-first_of-3.ensures.found.one.enabled

pub returns-in-Some-first_of-4-clause-rank : goal.returns-in-Some-first_of-4-clause-rank
returns-in-Some-first_of-4-clause-rank g c = rank_of_setting c.args.world.now.world c.args.world.now.setting.ranks c.in-Some-first_of-4.choice c.first_delivery.ensures.ranks c.in-Some-first_of-4.ensures.found.one.enabled

pub returns-clause-rank : goal.returns-clause-rank
returns-clause-rank g c =
    let w = c.args.world.now.world in
    if_some c.first_call.result (λ choice f. rank_of_setting w c.args.world.now.setting.ranks choice c.first_delivery.ensures.ranks f.one.may.enabled) c.first_call.ensures.found
