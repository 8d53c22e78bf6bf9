-- Links whose items are seen as something else: what each call does is the same there.
use Rattle.std.proofs.Common.{◌≡◌, ℕ, ◌+◌, ◌-◌, List, [], ◌∷◌, ◌++◌, length, map, set, slice_get, refl, sym, ap, ◌∙◌, arith}
use Rattle.std.proofs.Math.ListN.{get_or-map}
use Rattle.std.proofs.lemmas.List.{length-map, map-set, map-append}
use Rattle.std.proofs.lemmas.List.Sums.{sum_by-cons}
use Rattle.std.specs.List.{sum_by}
use Rattle.std.specs.Option.{option_map}
use Rattle.link_net.specs.Net.{Net, link, room, with_link, pushed, popped, after_pop, in_flight, place_of_link, seen}

module _ {A B : Type 0} (f : A → B) where
  -- the first item, as `head` and `pop` give it
  pub first-seen : (items : List A) → slice_get (map f items) 0 ≡ option_map f (slice_get items 0)
  first-seen [] = refl
  first-seen (item ∷ items) = refl

  total-seen : (links : List (List A)) → sum_by length (map (map f) links) ≡ sum_by length links
  total-seen [] = refl
  total-seen (items ∷ links) =
      omega (arith, total-seen links, length-map items f, sum_by-cons length (map f items) (map (map f) links), sum_by-cons length items links)

  module _ (n : Net A) where
    pub in_flight-seen : in_flight (seen f n) ≡ in_flight n
    in_flight-seen = total-seen n.links

    module _ (from to : ℕ) where
      pub link-seen : link (seen f n) from to ≡ map f (link n from to)
      link-seen = get_or-map (map f) n.links (place_of_link n from to) []

      with_link-seen : (items : List A) (more : ℕ) → seen f (with_link n from to items more) ≡ with_link (seen f n) from to (map f items) more
      with_link-seen items more = ap (λ links. record { ranks = n.ranks; links = links; rooms = set n.rooms (place_of_link n from to) more }) (map-set (map f) n.links (place_of_link n from to) items)

      pub pushed-seen : (item : A) → seen f (pushed n from to item) ≡ pushed (seen f n) from to (f item)
      pushed-seen item =
          with_link-seen (link n from to ++ item ∷ []) (room n from to - 1)
          ∙ ap (λ items. with_link (seen f n) from to items (room n from to - 1)) (map-append f (link n from to) (item ∷ []) ∙ ap (λ items. items ++ f item ∷ []) (sym link-seen))

      pub popped-seen : seen f (popped n from to) ≡ popped (seen f n) from to
      popped-seen = rw link-seen (go (link n from to))
        where
          go : (items : List A) → seen f (after_pop n from to items) ≡ after_pop (seen f n) from to (map f items)
          go [] = refl
          go (item ∷ items) = with_link-seen items (room n from to + 1)
