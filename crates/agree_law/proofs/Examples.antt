-- Runs by computing: two members create, four members create over a tree of depth two, two keys with a common member need another round,
-- a split of three in which one has no colour, and a split of three with equal keys.
use Rattle.std.proofs.Common.{◌≡◌, ℕ, ℤ, pos, negsuc, Bool, true, false, ◌&&◌, List, [], ◌∷◌, ◌++◌, map, Option, Some, None, refl, codes}
use Rattle.mpi_base.specs.declared.keys.Key.{Key}
use Rattle.mpi_base.specs.declared.keys.Kind.TheVariants as kind
use Rattle.mpi_base.specs.Keys.{same_key, key_cmp, key_before}
use Rattle.mpi_base.specs.declared.shares.Shared1.{Shared1}
use Rattle.agree_law.specs.declared.rows.Outcome.TheVariants as outcome
use Rattle.agree_law.specs.declared.rows.Stage.TheVariants.{Called, Offered, Done}
use Rattle.agree_law.specs.declared.rows.Verdict.TheVariants as verdict
use Rattle.agree_law.specs.Tree.{parent_of, children_of}
use Rattle.agree_law.specs.Part.{stage_of}
use Rattle.agree_law.specs.Packets.{Up, Down}
use Rattle.agree_law.specs.Rule.{is_least, may_own}
use Rattle.agree_law.specs.Gather.{is_ready, all_own, least_common}
use Rattle.agree_law.specs.Offers.{up_from, put_offer, begin, make_offer, takes_up, take_up}
use Rattle.agree_law.specs.Verdicts.{takes, rounds_after, pass_down, decide, settle_offers, takes_down, take_down}
use Rattle.agree_law.specs.Classes.{class_of}
use Rattle.agree_law.specs.Shares.{share_list, begin_share, takes_share, take_share, divide, takes_shares, take_shares, settle_share}
use Rattle.agree_law.specs.Moves.{may_settle, settle, deliver}
use Rattle.agree_law.specs.World.{World, Event, Begin, Begin_share, Offer, Settle, Deliver, moved, is_key_of, has_no_split, may_happen, happens, opening}

all_enabled : ℕ → World → List Event → Bool
all_enabled top w [] = true
all_enabled top w (e ∷ es) = may_happen top w e && all_enabled top (happens top w e) es

ended : ℕ → World → List Event → World
ended top w [] = w
ended top w (e ∷ es) = ended top (happens top w e) es

-- the parents of the places from 0 on, and the children of some
parents : map parent_of (1 ∷ 2 ∷ 3 ∷ 4 ∷ 5 ∷ 6 ∷ 7 ∷ 12 ∷ 15 ∷ []) ≡ 0 ∷ 0 ∷ 2 ∷ 0 ∷ 4 ∷ 4 ∷ 6 ∷ 8 ∷ 14 ∷ []
unfolding parent_of
parents = refl

children : map (λ p. children_of p 9) (0 ∷ 4 ∷ 6 ∷ 8 ∷ []) ≡ (1 ∷ 2 ∷ 4 ∷ 8 ∷ []) ∷ (5 ∷ 6 ∷ []) ∷ (7 ∷ []) ∷ [] ∷ []
unfolding parent_of children_of
children = refl

abbrev key : List ℕ → Key
key members = record { parent = 0; kind = kind.From; number = 0; tag = codes "t"; members = members }

-- Two members create

abbrev two : Key
two = key (0 ∷ 1 ∷ [])

abbrev two_run : List Event
two_run =
    Begin 0 two ∷ Begin 1 two ∷ Deliver 0 1 ∷ Settle 0 two ∷ Offer 0 two ∷ Deliver 1 0 ∷ Offer 1 two ∷ Deliver 0 1 ∷ Settle 0 two ∷ Deliver 1 0 ∷ []

two_enabled : all_enabled 3 (opening 2 3) two_run ≡ true
unfolding all_enabled opening happens moved parent_of children_of is_least may_own is_ready all_own least_common up_from put_offer begin make_offer takes rounds_after pass_down decide settle_offers takes_up take_up takes_down take_down may_settle settle deliver is_key_of same_key key_cmp key_before
two_enabled = refl

-- both have context 1, and it is free no more
two_ends : map (λ a. stage_of a.opened two) (ended 3 (opening 2 3) two_run).parts ≡ Some (Done (outcome.Context 1)) ∷ Some (Done (outcome.Context 1)) ∷ []
unfolding ended opening happens moved parent_of children_of is_least may_own is_ready all_own least_common up_from put_offer begin make_offer takes rounds_after pass_down decide settle_offers takes_up take_up takes_down take_down may_settle settle deliver is_key_of same_key key_cmp key_before
two_ends = refl

two_masks : map (λ a. a.mask) (ended 3 (opening 2 3) two_run).parts ≡ (false ∷ false ∷ true ∷ true ∷ []) ∷ (false ∷ false ∷ true ∷ true ∷ []) ∷ []
unfolding ended opening happens moved parent_of children_of is_least may_own is_ready all_own least_common up_from put_offer begin make_offer takes rounds_after pass_down decide settle_offers takes_up take_up takes_down take_down may_settle settle deliver is_key_of same_key key_cmp key_before
two_masks = refl

-- Four members create: places 1 and 2 are below 0, place 3 is below 2

abbrev four : Key
four = key (0 ∷ 1 ∷ 2 ∷ 3 ∷ [])

abbrev calls : List Event
calls = Begin 0 four ∷ Begin 1 four ∷ Deliver 0 1 ∷ Begin 2 four ∷ Begin 3 four ∷ Deliver 2 3 ∷ Deliver 0 2 ∷ Settle 0 four ∷ Deliver 1 0 ∷ Deliver 2 0 ∷ Deliver 3 2 ∷ []

abbrev rounds : List Event
rounds = Offer 0 four ∷ Offer 1 four ∷ Deliver 0 1 ∷ Offer 2 four ∷ Offer 3 four ∷ Deliver 2 3 ∷ Deliver 0 2 ∷ Settle 0 four ∷ Deliver 1 0 ∷ Deliver 2 0 ∷ Deliver 3 2 ∷ []

four_calls : all_enabled 3 (opening 4 3) calls ≡ true
unfolding all_enabled opening happens moved parent_of children_of is_least may_own is_ready all_own least_common up_from put_offer begin make_offer takes rounds_after pass_down decide settle_offers takes_up take_up takes_down take_down may_settle settle deliver is_key_of same_key key_cmp key_before
four_calls = refl

four_rounds : all_enabled 3 (ended 3 (opening 4 3) calls) rounds ≡ true
unfolding all_enabled ended opening happens moved parent_of children_of is_least may_own is_ready all_own least_common up_from put_offer begin make_offer takes rounds_after pass_down decide settle_offers takes_up take_up takes_down take_down may_settle settle deliver is_key_of same_key key_cmp key_before
four_rounds = refl

four_ends : ended 3 (ended 3 (opening 4 3) calls) rounds ≡
    record {
      parts = map {A = ℕ} (λ r. record { mask = false ∷ false ∷ true ∷ true ∷ []; owner = None; opened = record { key = four; stage = Done (outcome.Context 1) } ∷ []; gathered = []; rounds = []; shares = [] }) (0 ∷ 1 ∷ 2 ∷ 3 ∷ []);
      links = [];
    }
unfolding ended opening happens moved parent_of children_of is_least may_own is_ready all_own least_common up_from put_offer begin make_offer takes rounds_after pass_down decide settle_offers takes_up take_up takes_down take_down may_settle settle deliver is_key_of same_key key_cmp key_before
four_ends = refl

-- what is on the links when the first member has settled round 0
four_settled : (ended 3 (opening 4 3) (Begin 0 four ∷ Begin 1 four ∷ Deliver 0 1 ∷ Begin 2 four ∷ Begin 3 four ∷ Deliver 2 3 ∷ Deliver 0 2 ∷ Settle 0 four ∷ [])).links
    ≡ record { from = 0; to = 1; packet = Down four 0 verdict.Ready } ∷ record { from = 0; to = 2; packet = Down four 0 verdict.Ready } ∷ []
unfolding ended opening happens moved parent_of children_of is_least may_own is_ready all_own least_common up_from put_offer begin make_offer takes rounds_after pass_down decide settle_offers takes_up take_up takes_down take_down may_settle settle deliver is_key_of same_key key_cmp key_before
four_settled = refl

-- Another round: rank 1 is a member of two keys, and offers for the greater one while the lesser one waits

abbrev other : Key
other = key (1 ∷ 2 ∷ [])

abbrev both_called : List Event
both_called =
    Begin 0 two ∷ Begin 1 two ∷ Deliver 0 1 ∷ Settle 0 two ∷ Deliver 1 0
    ∷ Begin 1 other ∷ Begin 2 other ∷ Deliver 1 2 ∷ Settle 1 other ∷ Deliver 2 1 ∷ []

abbrev refused_round : List Event
refused_round = Offer 1 other ∷ Offer 2 other ∷ Deliver 1 2 ∷ Settle 1 other ∷ []

abbrev rest : List Event
rest =
    Deliver 2 1 ∷ Offer 0 two ∷ Offer 1 two ∷ Deliver 0 1 ∷ Settle 0 two ∷ Deliver 1 0
    ∷ Offer 1 other ∷ Offer 2 other ∷ Deliver 1 2 ∷ Settle 1 other ∷ Deliver 2 1 ∷ []

retry_enabled : all_enabled 3 (opening 3 3) (both_called ++ refused_round ++ rest) ≡ true
unfolding all_enabled opening happens moved parent_of children_of is_least may_own is_ready all_own least_common up_from put_offer begin make_offer takes rounds_after pass_down decide settle_offers takes_up take_up takes_down take_down may_settle settle deliver is_key_of same_key key_cmp key_before
retry_enabled = refl

-- the offer of rank 2 owned its mask, that of rank 1 did not
retry_stages : map (λ a. stage_of a.opened other) (ended 3 (opening 3 3) (both_called ++ Offer 1 other ∷ Offer 2 other ∷ [])).parts ≡ None ∷ Some (Offered 1 false) ∷ Some (Offered 1 true) ∷ []
unfolding ended opening happens moved parent_of children_of is_least may_own is_ready all_own least_common up_from put_offer begin make_offer takes rounds_after pass_down decide settle_offers takes_up take_up takes_down take_down may_settle settle deliver is_key_of same_key key_cmp key_before
retry_stages = refl

retry_said : (ended 3 (opening 3 3) (both_called ++ refused_round)).links ≡ record { from = 1; to = 2; packet = Down other 1 verdict.Retry } ∷ []
unfolding ended opening happens moved parent_of children_of is_least may_own is_ready all_own least_common up_from put_offer begin make_offer takes rounds_after pass_down decide settle_offers takes_up take_up takes_down take_down may_settle settle deliver is_key_of same_key key_cmp key_before
retry_said = refl

-- both keys are decided, and the second one passes over the context that rank 1 lacks
retry_ends : map (λ a. a.mask) (ended 3 (opening 3 3) (both_called ++ refused_round ++ rest)).parts ≡ (false ∷ false ∷ true ∷ true ∷ []) ∷ (false ∷ false ∷ false ∷ true ∷ []) ∷ (false ∷ true ∷ false ∷ true ∷ []) ∷ []
unfolding ended opening happens moved parent_of children_of is_least may_own is_ready all_own least_common up_from put_offer begin make_offer takes rounds_after pass_down decide settle_offers takes_up take_up takes_down take_down may_settle settle deliver is_key_of same_key key_cmp key_before
retry_ends = refl

retry_outcomes : map (λ a. stage_of a.opened other) (ended 3 (opening 3 3) (both_called ++ refused_round ++ rest)).parts ≡ None ∷ Some (Done (outcome.Context 2)) ∷ Some (Done (outcome.Context 2)) ∷ []
unfolding ended opening happens moved parent_of children_of is_least may_own is_ready all_own least_common up_from put_offer begin make_offer takes rounds_after pass_down decide settle_offers takes_up take_up takes_down take_down may_settle settle deliver is_key_of same_key key_cmp key_before
retry_outcomes = refl

-- A split of three: ranks 0 and 2 have colour 5, and rank 2 comes first by its key; rank 1 has no colour

abbrev share : Key
share = record { parent = 1; kind = kind.Share; number = 0; tag = []; members = 0 ∷ 1 ∷ 2 ∷ [] }

abbrev class : Key
class = record { parent = 1; kind = kind.Split; number = 0; tag = []; members = 2 ∷ 0 ∷ [] }

abbrev said : Option ℤ → ℤ → Shared1
said c k = record { colour = c; key = k }

abbrev split_run : List Event
split_run =
    Begin_share 2 share (said (Some (pos 5)) (pos 3)) ∷ Begin_share 0 share (said (Some (pos 5)) (pos 4)) ∷ Begin_share 1 share (said None (pos 0)) ∷ Deliver 0 1 ∷ Deliver 0 2
    ∷ Settle 0 share ∷ Deliver 1 0 ∷ Deliver 2 0 ∷ []

split_enabled : all_enabled 3 (opening 3 3) split_run ≡ true
unfolding all_enabled opening happens moved parent_of children_of is_ready all_own up_from put_offer begin class_of share_list begin_share takes_share take_share divide takes_shares take_shares settle_share may_settle settle deliver is_key_of has_no_split same_key
split_enabled = refl

split_ends : (ended 3 (opening 3 3) split_run).links ≡ record { from = 0; to = 2; packet = Up class 0 false (false ∷ false ∷ false ∷ false ∷ []) } ∷ []
unfolding ended opening happens moved parent_of children_of is_ready all_own up_from put_offer begin class_of share_list begin_share takes_share take_share divide takes_shares take_shares settle_share may_settle settle deliver is_key_of has_no_split same_key
split_ends = refl

split_stages : map (λ a. stage_of a.opened share) (ended 3 (opening 3 3) split_run).parts ≡ None ∷ None ∷ None ∷ []
unfolding ended opening happens moved parent_of children_of is_ready all_own up_from put_offer begin class_of share_list begin_share takes_share take_share divide takes_shares take_shares settle_share may_settle settle deliver is_key_of has_no_split same_key
split_stages = refl

-- where keys are equal, the place in the old communicator decides, and not the rank
equal_keys : class_of (Some (pos 5)) (4 ∷ 2 ∷ 7 ∷ 0 ∷ []) (said (Some (pos 5)) (pos 3) ∷ said (Some (pos 5)) (pos 1) ∷ said (Some (pos 5)) (pos 3) ∷ said (Some (pos 5)) (pos 1) ∷ []) ≡ 2 ∷ 0 ∷ 4 ∷ 7 ∷ []
unfolding class_of
equal_keys = refl

-- A split of three of one colour: rank 1 has the least key, the others have equal keys

abbrev tied : Key
tied = record { parent = 1; kind = kind.Share; number = 0; tag = []; members = 2 ∷ 0 ∷ 1 ∷ [] }

abbrev tied_class : Key
tied_class = record { parent = 1; kind = kind.Split; number = 0; tag = []; members = 1 ∷ 2 ∷ 0 ∷ [] }

abbrev tied_run : List Event
tied_run =
    Begin_share 0 tied (said (Some (pos 0)) (pos 0)) ∷ Begin_share 1 tied (said (Some (pos 0)) (negsuc 0)) ∷ Begin_share 2 tied (said (Some (pos 0)) (pos 0)) ∷ Deliver 2 1 ∷ Deliver 2 0
    ∷ Settle 2 tied ∷ Deliver 0 2 ∷ Deliver 1 2 ∷ []

tied_enabled : all_enabled 3 (opening 3 3) tied_run ≡ true
unfolding all_enabled opening happens moved parent_of children_of is_ready all_own up_from put_offer begin class_of share_list begin_share takes_share take_share divide takes_shares take_shares settle_share may_settle settle deliver is_key_of has_no_split same_key
tied_enabled = refl

-- each member has called the one class
tied_ends : map (λ a. a.opened) (ended 3 (opening 3 3) tied_run).parts ≡ map {A = ℕ} (λ r. record { key = tied_class; stage = Called } ∷ []) (0 ∷ 1 ∷ 2 ∷ [])
unfolding ended opening happens moved parent_of children_of is_ready all_own up_from put_offer begin class_of share_list begin_share takes_share take_share divide takes_shares take_shares settle_share may_settle settle deliver is_key_of has_no_split same_key
tied_ends = refl

tied_links : (ended 3 (opening 3 3) tied_run).links
    ≡ record { from = 2; to = 1; packet = Up tied_class 0 false (false ∷ false ∷ false ∷ false ∷ []) } ∷ record { from = 0; to = 1; packet = Up tied_class 0 false (false ∷ false ∷ false ∷ false ∷ []) } ∷ []
unfolding ended opening happens moved parent_of children_of is_ready all_own up_from put_offer begin class_of share_list begin_share takes_share take_share divide takes_shares take_shares settle_share may_settle settle deliver is_key_of has_no_split same_key
tied_links = refl
