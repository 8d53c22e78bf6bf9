-- What a change of one queue is to the links.
use Rattle.std.proofs.Common.{◌≡◌, ◌≤◌, inl, inr, length-set, ℕ, ◌+◌, ◌-◌, ◌*◌, ◌<◌, List, [], ◌∷◌, ◌++◌, length, map, get_or, set, Option, Some, None, option_to_list, Result, Ok, Err, OnOk, refl, sym, ap, subst, ◌∙◌, arith}
use Rattle.std.proofs.lemmas.Bool.{cases_eq}
use Rattle.std.proofs.lemmas.List.{get_or-map, get_or-set_same, get_or-set_other, length-map, map-set, set-get_or}
use Rattle.std.proofs.Math.Seq.{map-set_same}
use Rattle.std.specs.Option.{MatchOption}
use Rattle.std.specs.declared.collections.VecDeque.{VecDeque}
use Rattle.std.specs.VecDeque.{deque_items, deque_len, deque_capacity}
use Rattle.link_net.specs.Net.{link, room, with_link, pushed, popped, IsNet}
use Rattle.link_net.specs.Queues.{net_of, room_of}
use Rattle.link_net.proofs.NetFacts.{IsNet-pushed, IsNet-popped}

nothing : {T : Type 0} (items : List T) → length items ≡ 0 → items ≡ []
nothing [] none = refl
nothing (item ∷ items) none = absurd (omega (arith, none))

module _ {T A : Type 0} (ranks : ℕ) (queues : List (VecDeque T A)) (from to : ℕ) where
  -- one queue changed is one link changed
  net_of-set : (new : VecDeque T A) → net_of ranks (set queues (ranks * from + to) new) ≡ with_link (net_of ranks queues) from to (deque_items new) (room_of new)
  net_of-set new =
      let links = map-set deque_items queues (ranks * from + to) new in
      let rooms = map-set room_of queues (ranks * from + to) new in
      cc

  module _ (old new : VecDeque T A) (place : ℕ) (is : IsNet (net_of ranks queues)) (at : place ≡ ranks * from + to) (below : place < ranks * ranks)
      (was : old ≡ get_or queues place old) where
    within : place < length queues
    within = omega (arith, below, is.links, length-map queues deque_items)

    pub link_was : link (net_of ranks queues) from to ≡ deque_items old
    link_was = rw (← at) (get_or-map deque_items queues place old [] within ∙ ap (λ (q : VecDeque T A). deque_items q) (sym was))

    room_there : get_or (map room_of queues) place 0 ≡ room_of old
    room_there = get_or-map room_of queues place old 0 within ∙ ap (λ (q : VecDeque T A). room_of q) (sym was)

    room_was : room (net_of ranks queues) from to ≡ room_of old
    room_was = rw (← at) room_there

    -- a link that gets the items and the room that it has
    unchanged : deque_items old ≡ [] → with_link (net_of ranks queues) from to [] (room (net_of ranks queues) from to) ≡ net_of ranks queues
    unchanged has =
        ap (λ xs. with_link (net_of ranks queues) from to xs (room (net_of ranks queues) from to)) (sym (link_was ∙ has))
        ∙ ap (λ links. record { ranks = ranks; links = links; rooms = set (map room_of queues) (ranks * from + to) (room (net_of ranks queues) from to) }) (set-get_or (map deque_items queues) (ranks * from + to) [])
        ∙ ap (λ rooms. record { ranks = ranks; links = map deque_items queues; rooms = rooms }) (set-get_or (map room_of queues) (ranks * from + to) 0)

    changed : (items : List T) (more : ℕ) → deque_items new ≡ items → room_of new ≡ more → net_of ranks (set queues place new) ≡ with_link (net_of ranks queues) from to items more
    changed items more has free =
        ap (λ k. net_of ranks (set queues k new)) at ∙ net_of-set new
        ∙ ap (λ xs. with_link (net_of ranks queues) from to xs (room_of new)) has ∙ ap (λ k. with_link (net_of ranks queues) from to items k) free

    pub pushed_queue : (item : T) → deque_items new ≡ deque_items old ++ item ∷ [] → deque_len new ≡ deque_len old + 1 → deque_capacity new ≡ deque_capacity old
        → net_of ranks (set queues place new) ≡ pushed (net_of ranks queues) from to item
    pushed_queue item items len capacity =
        changed (link (net_of ranks queues) from to ++ item ∷ []) (room (net_of ranks queues) from to - 1)
        (items ∙ ap (λ xs. xs ++ item ∷ []) (sym link_was)) (omega (arith, len, capacity, room_was))

    pub popped_none : deque_items old ≡ deque_items new → deque_len old ≡ 0 → deque_len new ≡ 0 → deque_capacity new ≡ deque_capacity old
        → net_of ranks (set queues place new) ≡ popped (net_of ranks queues) from to
    popped_none items old_len new_len capacity =
        let ok = old.ok in
        let none = nothing (deque_items old) (omega (arith, old_len)) in
        let free : room_of new ≡ room (net_of ranks queues) from to = omega (arith, room_was, old_len, new_len, capacity) in
        rw (link_was ∙ none) (changed [] (room (net_of ranks queues) from to) (sym items ∙ none) free ∙ unchanged none)

    pub popped_some : (item : T) → deque_items old ≡ item ∷ deque_items new → deque_len new + 1 ≡ deque_len old → deque_capacity new ≡ deque_capacity old
        → net_of ranks (set queues place new) ≡ popped (net_of ranks queues) from to
    popped_some item items len capacity =
        let small = old.small in
        let free : room_of new ≡ room (net_of ranks queues) from to + 1 = omega (arith, room_was, len, capacity) in
        rw (link_was ∙ items) (changed (deque_items new) (room (net_of ranks queues) from to + 1) refl free)

    -- more room in the queue
    module _ (items : deque_items new ≡ deque_items old) (len : deque_len new ≡ deque_len old) (capacity : deque_capacity old ≤ deque_capacity new) where
      pub same_links : map deque_items (set queues place new) ≡ map deque_items queues
      same_links = map-set_same deque_items queues place new old (items ∙ ap (λ (q : VecDeque T A). deque_items q) was)

      same_rooms : length (map room_of (set queues place new)) ≡ length (map room_of queues)
      same_rooms = length-map (set queues place new) room_of ∙ length-set queues place new ∙ sym (length-map queues room_of)

      pub room_made : get_or (map room_of (set queues place new)) place 0 ≡ room_of new
      room_made = rw (map-set room_of queues place new) (get_or-set_same (map room_of queues) place (room_of new) 0 (omega (arith, within, length-map queues room_of)))

      pub has_room : {R E : Type 0} (reserved : Result R E) (more : ℕ) → OnOk reserved (deque_len new + more ≤ deque_capacity new)
          → OnOk reserved (more ≤ room (net_of ranks (set queues place new)) from to)
      has_room (Ok unit) more fits = rw (← at) (omega (arith, room_made, fits))
      has_room (Err error) more fits = fits

      pub keeps_room : (other : ℕ) → get_or (map room_of queues) other 0 ≤ get_or (map room_of (set queues place new)) other 0
      keeps_room other = elim (cases_eq other place) [
        | inl same ↦ rw same (omega (arith, room_made, room_there, len, capacity))
        | inr apart ↦
            rw (map-set room_of queues place new) (omega (arith, get_or-set_other (map room_of queues) place other (room_of new) 0 apart))
      ]

      pub kept_roomy : IsNet (net_of ranks (set queues place new))
      kept_roomy = record {
        links = ap length same_links ∙ is.links;
        rooms = same_rooms ∙ is.rooms;
      }

    -- the first item taken off, where there is one
    pub popped_queue : (taken : Option T) → deque_items old ≡ option_to_list taken ++ deque_items new
        → MatchOption taken ((deque_len old ≡ 0) × (deque_len new ≡ 0)) (λ _. deque_len new + 1 ≡ deque_len old) → deque_capacity new ≡ deque_capacity old
        → net_of ranks (set queues place new) ≡ popped (net_of ranks queues) from to
    popped_queue None items cases capacity = popped_none items cases.0 cases.1 capacity
    popped_queue (Some item) items cases capacity = popped_some item items cases capacity

    -- what the links keep
    module _ (f : from < ranks) (t : to < ranks) where
      pub kept_pushed : (item : T) → deque_items new ≡ deque_items old ++ item ∷ [] → deque_len new ≡ deque_len old + 1 → deque_capacity new ≡ deque_capacity old
          → IsNet (net_of ranks (set queues place new))
      kept_pushed item items len capacity =
          subst (λ n. IsNet n) (sym (pushed_queue item items len capacity)) (IsNet-pushed (net_of ranks queues) from to is f t item)

      pub kept_popped : (taken : Option T) → deque_items old ≡ option_to_list taken ++ deque_items new
          → MatchOption taken ((deque_len old ≡ 0) × (deque_len new ≡ 0)) (λ _. deque_len new + 1 ≡ deque_len old) → deque_capacity new ≡ deque_capacity old
          → IsNet (net_of ranks (set queues place new))
      kept_popped taken items cases capacity =
          subst (λ n. IsNet n) (sym (popped_queue taken items cases capacity)) (IsNet-popped (net_of ranks queues) from to is f t)
