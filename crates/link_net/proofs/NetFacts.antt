-- What a change of one link keeps.
use Rattle.std.proofs.Common.{◌≡◌, ℕ, ◌+◌, ◌*◌, ◌<◌, List, [], ◌∷◌, ◌++◌, length, drop, set, refl, sym, ap, ◌∙◌, arith, length-set}
use Rattle.std.proofs.Math.Nat.{mul_comm}
use Rattle.std.proofs.lemmas.List.{set-get_or}
use Rattle.std.proofs.lemmas.Nat.{mul-add-lt}
use Rattle.link_net.specs.Net.{Net, link, with_link, pushed, popped, after_pop, place_of_link, IsNet}

-- the place of a link
pub place_below : (n from to : ℕ) → from < n → to < n → n * from + to < n * n
place_below n from to f t = omega (arith, mul_comm n from, mul-add-lt from n to n f t)

module _ {T : Type 0} (n : Net T) (from to : ℕ) (is : IsNet n) (f : from < n.ranks) (t : to < n.ranks) where
  within : place_of_link n from to < length n.links
  within = omega (arith, place_below n.ranks from to f t, is.links)

  IsNet-with_link : (items : List T) (more : ℕ) → IsNet (with_link n from to items more)
  IsNet-with_link items more = record {
    links = length-set n.links (place_of_link n from to) items ∙ is.links;
    rooms = length-set n.rooms (place_of_link n from to) more ∙ is.rooms;
  }

  pub IsNet-pushed : (item : T) → IsNet (pushed n from to item)
  IsNet-pushed item = IsNet-with_link (link n from to ++ item ∷ []) _

  pub IsNet-popped : IsNet (popped n from to)
  IsNet-popped = go (link n from to) refl
    where
      go : (items : List T) → link n from to ≡ items → IsNet (after_pop n from to items)
      go [] has = is
      go (item ∷ items) has = IsNet-with_link items _

-- what is left of the links, with nothing popped too
pub links-popped : {T : Type 0} (n : Net T) (from to : ℕ) → (popped n from to).links ≡ set n.links (place_of_link n from to) (drop 1 (link n from to))
links-popped n from to = go (link n from to) refl
  where
    go : (items : List _) → link n from to ≡ items → (after_pop n from to items).links ≡ set n.links (place_of_link n from to) (drop 1 items)
    go [] has = sym (ap (λ items. set n.links (place_of_link n from to) items) (sym has) ∙ set-get_or n.links (place_of_link n from to) [])
    go (item ∷ items) has = refl
