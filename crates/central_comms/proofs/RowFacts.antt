-- Rows that change, seen as communicators.
use Rattle.std.proofs.Common.{◌≡◌, ℕ, ◌<◌, ◌≤◌, true, List, [], ◌∷◌, ◌++◌, if◌then◌else◌, length, map, get_or, set, inl, inr, sym, ap, ◌∙◌, arith}
use Rattle.std.specs.Option.{option_to_list}
use Rattle.std.specs.Prelude.{Option, Some, None, option_map}
use Rattle.std.proofs.lemmas.Bool.{cases_eq}
use Rattle.std.proofs.lemmas.List.{map-append, get_or-map, get_or-set_same, get_or-set_other, length-map, map-set, map_push}
use Rattle.std.proofs.Math.Seq.{map-set_same}
use Rattle.mpi_law.specs.Registry.State.{Communicator, blank_comm}
use Rattle.mpi_law.specs.Registry.Calls.{is_kept}
use Rattle.central_comms.specs.declared.rows.CommRow.{CommRow}
use Rattle.central_comms.specs.Places.{places_where}
use Rattle.central_comms.specs.Rows.{is_held, row_comm, row_room, freed_if_kept}
use Rattle.central_comms.proofs.PlaceFacts.{places-push}
use Rattle.central_comms.proofs.CommFacts.{never_kept}

module _ (rows : List CommRow) (p : ℕ) (old new blank : CommRow) (was : old ≡ get_or rows p blank) where
  pub same_row : row_comm new ≡ row_comm old → map row_comm (set rows p new) ≡ map row_comm rows
  same_row same = map-set_same row_comm rows p new blank (same ∙ ap row_comm was)

  module _ (within : p < length rows) where
    pub row_read : get_or (map row_comm rows) p blank_comm ≡ row_comm old
    row_read = get_or-map row_comm rows p blank blank_comm within ∙ ap row_comm (sym was)

    pub changed_row : (f : Communicator → Communicator) → row_comm new ≡ f (row_comm old) → map row_comm (set rows p new) ≡ set (map row_comm rows) p (f (get_or (map row_comm rows) p blank_comm))
    changed_row f changed = map-set row_comm rows p new ∙ ap (λ m. set (map row_comm rows) p m) (changed ∙ ap f (sym row_read))

    pub room_read : get_or (map row_room rows) p 0 ≡ row_room old
    room_read = get_or-map row_room rows p blank 0 within ∙ ap row_room (sym was)

    room_new : get_or (map row_room (set rows p new)) p 0 ≡ row_room new
    room_new = rw (map-set row_room rows p new) (get_or-set_same (map row_room rows) p (row_room new) 0 (omega (arith, within, length-map rows row_room)))

    room_other : (q : ℕ) → (q ≡ p → ⊥) → get_or (map row_room (set rows p new)) q 0 ≡ get_or (map row_room rows) q 0
    room_other q apart = rw (map-set row_room rows p new) (get_or-set_other (map row_room rows) p q (row_room new) 0 apart)

    pub more_room : row_room old ≤ row_room new → (q : ℕ) → get_or (map row_room rows) q 0 ≤ get_or (map row_room (set rows p new)) q 0
    more_room more q = elim (cases_eq q p) [
      | inl same ↦ rw same (omega (arith, room_new, room_read, more))
      | inr apart ↦ omega (arith, room_other q apart)
    ]

    pub room_made : 1 ≤ row_room new → 1 ≤ get_or (map row_room (set rows p new)) p 0
    room_made made = omega (arith, room_new, made)

    -- a rank that has freed a communicator does not keep it, and no other row has less room
    module _ (r s : ℕ) (changed : row_comm new ≡ freed_if_kept r s (row_comm old)) where
      pub room_once_freed : (q : ℕ) → (is_kept r s (get_or (map row_comm rows) q blank_comm) ≡ true → 1 ≤ get_or (map row_room rows) q 0)
          → is_kept r s (get_or (map row_comm (set rows p new)) q blank_comm) ≡ true → 1 ≤ get_or (map row_room (set rows p new)) q 0
      room_once_freed q before kept = elim (cases_eq q p) [
        | inl same ↦
            let here : get_or (map row_comm (set rows p new)) p blank_comm ≡ row_comm new =
            rw (map-set row_comm rows p new) (get_or-set_same (map row_comm rows) p (row_comm new) blank_comm (omega (arith, within, length-map rows row_comm))) in
            let kept_new : is_kept r s (freed_if_kept r s (row_comm old)) ≡ true =
            ap (is_kept r s) (sym (ap (λ k. get_or (map row_comm (set rows p new)) k blank_comm) same ∙ here ∙ changed)) ∙ kept in
            let none = never_kept r s (row_comm old) in
            grind (arith, none, kept_new)
        | inr apart ↦
            let other : get_or (map row_comm (set rows p new)) q blank_comm ≡ get_or (map row_comm rows) q blank_comm =
            rw (map-set row_comm rows p new) (get_or-set_other (map row_comm rows) p q (row_comm new) blank_comm apart) in
            omega (arith, room_other q apart, before (ap (is_kept r s) (sym other) ∙ kept))
      ]

-- one row more
pub places_more : (rows : List CommRow) (row : CommRow) (held more : List ℕ) → held ≡ places_where is_held (map row_comm rows)
    → more ≡ held ++ (if is_held (row_comm row) then length rows ∷ [] else []) → more ≡ places_where is_held (map row_comm (rows ++ row ∷ []))
places_more rows row held more was is =
    is ∙ ap (λ ps. ps ++ (if is_held (row_comm row) then length rows ∷ [] else [])) was
    ∙ ap (λ n. places_where is_held (map row_comm rows) ++ (if is_held (row_comm row) then n ∷ [] else [])) (sym (length-map rows row_comm))
    ∙ sym (places-push is_held (map row_comm rows) (row_comm row)) ∙ ap (λ comms. places_where is_held comms) (sym (map_push row_comm rows row))

-- without the last row
pub comms_popped : (rows : List CommRow) (last : Option CommRow) → map row_comm (rows ++ option_to_list last) ≡ map row_comm rows ++ option_to_list (option_map row_comm last)
comms_popped rows None = map-append row_comm rows []
comms_popped rows (Some row) = map-append row_comm rows (row ∷ [])
