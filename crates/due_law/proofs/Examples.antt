-- What is due by computing: four members create over a tree of depth two, and two keys with a common member need another round.
use Rattle.std.proofs.Common.{◌≡◌, ℕ, Bool, true, ◌&&◌, List, [], ◌∷◌, ◌++◌, map, Option, Some, None, refl, codes}
use Rattle.mpi_base.specs.declared.keys.Key.{Key}
use Rattle.mpi_base.specs.declared.keys.Kind.TheVariants as kind
use Rattle.mpi_base.specs.Keys.{same_key, key_cmp, key_before}
use Rattle.agree_law.specs.declared.rows.Verdict.{Verdict}
use Rattle.agree_law.specs.declared.rows.Verdict.TheVariants as verdict
use Rattle.agree_law.specs.Tree.{parent_of, children_of}
use Rattle.agree_law.specs.Rule.{is_least, may_own}
use Rattle.agree_law.specs.Gather.{is_ready, all_own, least_common}
use Rattle.agree_law.specs.Offers.{up_from, put_offer, begin, make_offer, takes_up, take_up}
use Rattle.agree_law.specs.Verdicts.{takes, rounds_after, pass_down, decide, settle_offers, takes_down, take_down}
use Rattle.agree_law.specs.Moves.{may_settle, settle, deliver}
use Rattle.agree_law.specs.World.{World, Event, Begin, Offer, Settle, Deliver, moved, is_key_of, may_happen, happens, opening}
use Rattle.due_law.specs.Dues.{dues_happen, dues_after}

all_enabled : ℕ → World → List Event → Bool
all_enabled top w [] = true
all_enabled top w (e ∷ es) = may_happen top w e && all_enabled top (happens top w e) es

abbrev key : List ℕ → Key
key members = record { parent = 0; kind = kind.From; number = 0; tag = codes "t"; members = members }

-- Places 1 and 2 are below 0, place 3 is below 2

abbrev four : Key
four = key (0 ∷ 1 ∷ 2 ∷ 3 ∷ [])

-- what is due to each rank after these events
abbrev due_to : List Event → List (Option Verdict)
due_to events = map (λ r. dues_after 4 1 events r four) (0 ∷ 1 ∷ 2 ∷ 3 ∷ [])

-- all have offered, with one context in each mask
abbrev offered : List Event
offered =
    Begin 0 four ∷ Begin 1 four ∷ Deliver 0 1 ∷ Begin 2 four ∷ Begin 3 four ∷ Deliver 2 3 ∷ Deliver 0 2 ∷ Settle 0 four ∷ Deliver 1 0 ∷ Deliver 2 0 ∷ Deliver 3 2
    ∷ Offer 0 four ∷ Offer 1 four ∷ Deliver 0 1 ∷ Offer 2 four ∷ Offer 3 four ∷ Deliver 2 3 ∷ Deliver 0 2 ∷ []

abbrev taken : List Event
taken = Settle 0 four ∷ Deliver 2 0 ∷ Deliver 3 2 ∷ Deliver 1 0 ∷ []

four_enabled : all_enabled 1 (opening 4 1) (offered ++ taken) ≡ true
unfolding all_enabled opening happens moved parent_of children_of is_least may_own is_ready all_own least_common up_from put_offer begin make_offer takes rounds_after pass_down decide settle_offers takes_up take_up takes_down take_down may_settle settle deliver is_key_of same_key key_cmp key_before
four_enabled = refl

none_due_before : due_to offered ≡ None ∷ None ∷ None ∷ None ∷ []
unfolding dues_happen opening happens moved parent_of children_of is_least may_own is_ready all_own least_common up_from put_offer begin make_offer takes rounds_after pass_down decide settle_offers takes_up take_up takes_down take_down may_settle settle deliver is_key_of same_key key_cmp key_before
none_due_before = refl

-- the first member has taken its own verdict
due_at_others : due_to (offered ++ Settle 0 four ∷ []) ≡ None ∷ Some (verdict.Context 1) ∷ Some (verdict.Context 1) ∷ Some (verdict.Context 1) ∷ []
unfolding dues_happen opening happens moved parent_of children_of is_least may_own is_ready all_own least_common up_from put_offer begin make_offer takes rounds_after pass_down decide settle_offers takes_up take_up takes_down take_down may_settle settle deliver is_key_of same_key key_cmp key_before
due_at_others = refl

-- it is due to the last member as long as it is on its way there
due_at_last : due_to (offered ++ Settle 0 four ∷ Deliver 1 0 ∷ Deliver 2 0 ∷ []) ≡ None ∷ None ∷ None ∷ Some (verdict.Context 1) ∷ []
unfolding dues_happen opening happens moved parent_of children_of is_least may_own is_ready all_own least_common up_from put_offer begin make_offer takes rounds_after pass_down decide settle_offers takes_up take_up takes_down take_down may_settle settle deliver is_key_of same_key key_cmp key_before
due_at_last = refl

none_due_after : due_to (offered ++ taken) ≡ None ∷ None ∷ None ∷ None ∷ []
unfolding dues_happen opening happens moved parent_of children_of is_least may_own is_ready all_own least_common up_from put_offer begin make_offer takes rounds_after pass_down decide settle_offers takes_up take_up takes_down take_down may_settle settle deliver is_key_of same_key key_cmp key_before
none_due_after = refl

-- Retry and exhausted: rank 1 is a member of two keys, and offers for the greater one while the lesser one waits

abbrev two : Key
two = key (0 ∷ 1 ∷ [])

abbrev other : Key
other = key (1 ∷ 2 ∷ [])

abbrev refused_round : List Event
refused_round =
    Begin 0 two ∷ Begin 1 two ∷ Deliver 0 1 ∷ Settle 0 two ∷ Deliver 1 0
    ∷ Begin 1 other ∷ Begin 2 other ∷ Deliver 1 2 ∷ Settle 1 other ∷ Deliver 2 1 ∷ Offer 1 other ∷ Offer 2 other ∷ Deliver 1 2 ∷ Settle 1 other ∷ []

-- the lesser key takes the only context
abbrev next_round : List Event
next_round =
    Deliver 2 1 ∷ Offer 0 two ∷ Offer 1 two ∷ Deliver 0 1 ∷ Settle 0 two ∷ Deliver 1 0
    ∷ Offer 1 other ∷ Offer 2 other ∷ Deliver 1 2 ∷ Settle 1 other ∷ []

other_enabled : all_enabled 1 (opening 3 1) (refused_round ++ next_round) ≡ true
unfolding all_enabled opening happens moved parent_of children_of is_least may_own is_ready all_own least_common up_from put_offer begin make_offer takes rounds_after pass_down decide settle_offers takes_up take_up takes_down take_down may_settle settle deliver is_key_of same_key key_cmp key_before
other_enabled = refl

retry_is_not_due : map (λ r. dues_after 3 1 refused_round r other) (0 ∷ 1 ∷ 2 ∷ []) ≡ None ∷ None ∷ None ∷ []
unfolding dues_happen opening happens moved parent_of children_of is_least may_own is_ready all_own least_common up_from put_offer begin make_offer takes rounds_after pass_down decide settle_offers takes_up take_up takes_down take_down may_settle settle deliver is_key_of same_key key_cmp key_before
retry_is_not_due = refl

exhausted_is_due : map (λ r. dues_after 3 1 (refused_round ++ next_round) r other) (0 ∷ 1 ∷ 2 ∷ []) ≡ None ∷ None ∷ Some verdict.Exhausted ∷ []
unfolding dues_happen opening happens moved parent_of children_of is_least may_own is_ready all_own least_common up_from put_offer begin make_offer takes rounds_after pass_down decide settle_offers takes_up take_up takes_down take_down may_settle settle deliver is_key_of same_key key_cmp key_before
exhausted_is_due = refl
