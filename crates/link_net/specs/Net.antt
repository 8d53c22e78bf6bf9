-- The links between the ranks of a job, as contracts see them. This project's own.
use Rattle.std.specs.Prelude.{◌≡◌, ℕ, ◌+◌, ◌-◌, ◌*◌, ◌<◌, ◌≤◌, List, [], ◌∷◌, ◌++◌, length, map, get_or, set, refl}
use Rattle.std.specs.List.{sum_by}
use Rattle.std.specs.Coded.{Coded, code_by, coded×, coded_ℕ, coded_list}

-- how many ranks there are, and at the place (ranks * from + to) the link from a rank to another: what is on it, in the order
-- in which it was sent, and for how many more there is room
pub record Net (T : Type 0) : Type 0 where
  pub ranks : ℕ
  pub links : List (List T)
  pub rooms : List ℕ

abbrev pub net_code : {T : Type 0} → Coded T → Coded (Net T)
net_code {T} code =
    code_by (ℕ × (List (List T) × List ℕ)) (coded× coded_ℕ (coded× (coded_list (coded_list code)) (coded_list coded_ℕ)))
    (λ n. (n.ranks, (n.links, n.rooms))) (λ p. record { ranks = p.0; links = p.1.0; rooms = p.1.1 }) (λ _. refl)

-- Lookups

abbrev pub place_of_link : {T : Type 0} → Net T → ℕ → ℕ → ℕ
place_of_link n from to = n.ranks * from + to

abbrev pub link : {T : Type 0} → Net T → ℕ → ℕ → List T
link n from to = get_or n.links (place_of_link n from to) []

abbrev pub room : {T : Type 0} → Net T → ℕ → ℕ → ℕ
room n from to = get_or n.rooms (place_of_link n from to) 0

-- how many items there are on all links
abbrev pub in_flight : {T : Type 0} → Net T → ℕ
in_flight n = sum_by length n.links

-- Changes

-- another list and another room on one link
abbrev pub with_link : {T : Type 0} → Net T → ℕ → ℕ → List T → ℕ → Net T
with_link n from to items more =
    record { ranks = n.ranks; links = set n.links (place_of_link n from to) items; rooms = set n.rooms (place_of_link n from to) more }

-- an item more at the end of a link, which takes room for one
abbrev pub pushed : {T : Type 0} → Net T → ℕ → ℕ → T → Net T
pushed n from to item = with_link n from to (link n from to ++ item ∷ []) (room n from to - 1)

-- a link without its first item, if it has one, which leaves room for one more
abbrev pub after_pop : {T : Type 0} → Net T → ℕ → ℕ → List T → Net T
after_pop n from to [] = n
after_pop n from to (item ∷ items) = with_link n from to items (room n from to + 1)

abbrev pub popped : {T : Type 0} → Net T → ℕ → ℕ → Net T
popped n from to = after_pop n from to (link n from to)

-- the same links, with each item seen as something else
abbrev pub seen : {A B : Type 0} → (A → B) → Net A → Net B
seen f n = record { ranks = n.ranks; links = map (map f) n.links; rooms = n.rooms }

-- Facts

-- there is a place for each pair of ranks, and so for a rank and itself
pub record IsNet {T : Type 0} (n : Net T) : Type 0 where
  pub links : length n.links ≡ n.ranks * n.ranks
  pub rooms : length n.rooms ≡ n.ranks * n.ranks

-- each link of a rank has room for this many more
abbrev pub HasRoom : {T : Type 0} → Net T → ℕ → ℕ → Type 0
HasRoom n from more = (to : ℕ) → to < n.ranks → more ≤ room n from to

-- no link has less room than before
abbrev pub KeepsRoom : {T : Type 0} → Net T → Net T → Type 0
KeepsRoom old new = (place : ℕ) → get_or old.rooms place 0 ≤ get_or new.rooms place 0
