-- Calls and offers, and the `Up` packets that carry them to the first member. `r` is the rank's number and `top` the greatest context.
use Rattle.std.specs.Prelude.{ℕ, ◌+◌, ◌==◌, ◌&&◌, not, Bool, true, false, if◌then◌else◌, List, [], ◌∷◌, ◌++◌, Option, Some, None, nat_lt}
use Rattle.mpi_base.specs.declared.keys.Key.{Key}
use Rattle.ctx_mask.specs.Masks.{none_of}
use Rattle.agree_law.specs.declared.rows.Stage.{Stage}
use Rattle.agree_law.specs.declared.rows.Stage.TheVariants.{Sharing, Called, Waiting, Offered, Done}
use Rattle.agree_law.specs.Tree.{place_in, member_at, parent_of, is_below}
use Rattle.agree_law.specs.Part.{Agree, stage_of, round_of, open_creation, set_stage}
use Rattle.agree_law.specs.Packets.{Up, Sent, Moved, stays}
use Rattle.agree_law.specs.Kinds.{is_share}
use Rattle.agree_law.specs.Rule.{may_own}
use Rattle.agree_law.specs.Gather.{has_offer, is_ready, all_own, common_mask}

-- the `Up` of a place above 0 whose gather is whole, to the parent
unfoldable pub up_from : ℕ → Agree → Key → ℕ → List Sent
up_from top a key place =
    if nat_lt 0 place && is_ready a.gathered key place
    then
    record {
      to = member_at key.members (parent_of place);
      packet = Up key (round_of a.rounds key) (all_own a.gathered key) (common_mask top a.gathered key);
    } ∷ []
    else []

-- an offer comes into the gather, and an `Up` follows where the gather is then whole
unfoldable pub put_offer : ℕ → ℕ → Agree → Key → ℕ → Bool → List Bool → Moved
put_offer r top a key place own mask =
    let b : Agree = record a { gathered = a.gathered ++ record { key = key; place = place; own = own; mask = mask } ∷ [] } in
    record { part = b; sent = up_from top b key (place_in key.members r) }

-- a creation is called: its offer of round 0 does not own
unfoldable pub begin : ℕ → ℕ → Agree → Key → Moved
begin r top a key = put_offer r top (record a { opened = open_creation a.opened key Called }) key (place_in key.members r) false (none_of (top + 1))

-- the offer of a round: one that owns takes the mask and carries it, any other carries no context
abbrev pub offer_of : ℕ → ℕ → Agree → Key → ℕ → Bool → Moved
offer_of r top a key i own =
    put_offer r top (record a { owner = if own then Some key else a.owner; opened = set_stage a.opened key (Offered i own) })
    key (place_in key.members r) own (if own then a.mask else none_of (top + 1))

-- a creation that waits makes its offer
abbrev pub if_waiting : ℕ → ℕ → Agree → Key → Option Stage → Moved
if_waiting r top a key None = stays a
if_waiting r top a key (Some (Sharing s)) = stays a
if_waiting r top a key (Some Called) = stays a
if_waiting r top a key (Some (Waiting i)) = offer_of r top a key i (may_own a key)
if_waiting r top a key (Some (Offered i own)) = stays a
if_waiting r top a key (Some (Done c)) = stays a

-- whether the offer of this round is not made yet
abbrev pub is_due : Option Stage → Bool
is_due None = false
is_due (Some (Sharing s)) = false
is_due (Some Called) = false
is_due (Some (Waiting i)) = true
is_due (Some (Offered i own)) = false
is_due (Some (Done c)) = false

-- a waiting creation is due for its offer
abbrev pub may_offer : Agree → Key → Bool
may_offer a key = is_due (stage_of a.opened key)

-- the rank makes the offer that is due; its key owns the mask exactly where it may
unfoldable pub make_offer : ℕ → ℕ → Agree → Key → Moved
make_offer r top a key = if_waiting r top a key (stage_of a.opened key)

-- whether an `Up` of the round is taken from a rank: from a child, in this gather's round, and once
unfoldable pub takes_up : ℕ → Agree → ℕ → Key → ℕ → Bool
takes_up r a from key i =
    not (is_share key.kind) && (is_below r from key.members && ((i == round_of a.rounds key) && not (has_offer a.gathered key (place_in key.members from))))

-- an `Up` that is taken is gathered at its sender's place
unfoldable pub take_up : ℕ → ℕ → Agree → ℕ → Key → ℕ → Bool → List Bool → Moved
take_up r top a from key i own mask =
    if takes_up r a from key i then put_offer r top a key (place_in key.members from) own mask else stays a
