-- What the definitions give on examples.
use Rattle.std.proofs.Common.{◌≡◌, false, List, [], ◌∷◌, Some, filter, not, refl}
use Rattle.session_tab.specs.declared.ids.SessionId.{SessionId}
use Rattle.session_tab.specs.Ids.{same_id, has_id}
use Rattle.session_tab.specs.Slots.{live_in}

-- of three sessions the first is closed, and its slot was used again by the third
two : List SessionId
two = record { slot = 1; serial = 2 } ∷ record { slot = 0; serial = 3 } ∷ []

live_in_order : live_in (Some 3 ∷ Some 2 ∷ []) 3 ≡ two
unfolding two
live_in_order = refl

-- an id with the slot of another is another id
old_id_is_dead : has_id two (record { slot = 0; serial = 1 }) ≡ false
unfolding two
old_id_is_dead = refl

closed : filter (λ other. not (same_id other (record { slot = 1; serial = 2 }))) two ≡ record { slot = 0; serial = 3 } ∷ []
unfolding two
closed = refl
