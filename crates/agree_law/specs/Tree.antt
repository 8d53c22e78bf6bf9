-- The places of a key's members, and the binomial tree over them. Nothing else knows the tree.
use Rattle.std.specs.Prelude.{ℕ, zero, suc, ◌*◌, ◌/◌, ◌%◌, ◌-◌, ◌==◌, ◌&&◌, Bool, false, if◌then◌else◌, List, [], ◌∷◌, filter, position, unwrap_or, get_or, nat_lt}
use Rattle.std.specs.List.{range_with_len}
use Rattle.mpi_base.specs.MemberLists.{has_rank}

-- the place of a rank among the members
abbrev pub place_in : List ℕ → ℕ → ℕ
place_in members r = unwrap_or (position (λ m. m == r) members) 0

-- the rank at a place
abbrev pub member_at : List ℕ → ℕ → ℕ
member_at members p = get_or members p 0

-- whether the first member is this rank
abbrev pub is_first : ℕ → List ℕ → Bool
is_first r [] = false
is_first r (m ∷ ms) = m == r

-- the number with its lowest one bit cleared, in so many steps: the one bit of an odd number is its last
abbrev pub cleared : ℕ → ℕ → ℕ
cleared zero p = 0
cleared (suc n) p = if p % 2 == 1 then p - 1 else 2 * cleared n (p / 2)

-- the parent of a place above 0
unfoldable pub parent_of : ℕ → ℕ
parent_of p = cleared p p

-- a place is a child of another
abbrev pub is_child : ℕ → ℕ → Bool
is_child p q = nat_lt 0 q && (parent_of q == p)

-- the children of a place, in order, among so many places
unfoldable pub children_of : ℕ → ℕ → List ℕ
children_of p size = filter (is_child p) (range_with_len 0 size)

-- two ranks are members, and the second one's place is a child of the first one's
abbrev pub is_below : ℕ → ℕ → List ℕ → Bool
is_below r from members = has_rank members from && (has_rank members r && is_child (place_in members r) (place_in members from))
