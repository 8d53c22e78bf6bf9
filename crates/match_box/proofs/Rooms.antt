-- For how many more there is room.
use Rattle.std.proofs.Common.{◌≡◌, ℕ, ◌+◌, ◌-◌, ◌<◌, ◌≤◌, arith}
use Rattle.std.proofs.lemmas.Bool.Decides.{nat_tests}
use Rattle.match_box.specs.Nodes.{room}

pub room-some : (a b c : ℕ) → 1 ≤ room a b c → (1 ≤ a) × (1 ≤ b) × (1 ≤ c)
unfolding room
room-some a b c some = grind (arith, nat_tests, some)

pub room-less : (a b c x y z : ℕ) → a ≤ x + 1 → b ≤ y + 1 → c ≤ z + 1 → room a b c ≤ room x y z + 1
unfolding room
room-less a b c x y z p q r = grind (arith, nat_tests, p, q, r)

pub room-more : (a b c x y z : ℕ) → a ≤ x → b ≤ y → c ≤ z → room a b c ≤ room x y z
unfolding room
room-more a b c x y z p q r = grind (arith, nat_tests, p, q, r)

pub room-made : (a b c : ℕ) → 1 ≤ a → 1 ≤ b → 1 ≤ c → 1 ≤ room a b c
unfolding room
room-made a b c p q r = grind (arith, nat_tests, p, q, r)

pub le_from : {a b c : ℕ} → a ≡ b → a ≤ c → b ≤ c
le_from e h = omega (arith, e, h)

pub le_of : {a b c : ℕ} → a ≡ b → c ≤ b → c ≤ a
le_of e h = omega (arith, e, h)

pub lt_from : {a b n : ℕ} → a ≡ b → b < n → a < n
lt_from e h = omega (arith, e, h)

pub below : {a b c n : ℕ} → a ≡ b → b ≤ c → c < n → a < n
below e h k = omega (arith, e, h, k)

pub fits_of : {a b x y : ℕ} → 1 ≤ a - b → x ≡ a → y ≡ b → y + 1 ≤ x
fits_of h p q = omega (arith, h, p, q)

-- one more in a slab, and one less
pub slab_less : (a b x y : ℕ) → x ≡ a → y ≡ b + 1 → a - b ≤ (x - y) + 1
slab_less a b x y p q = omega (arith, p, q)

pub slab_more : (a b x y : ℕ) → x ≡ a → y + 1 ≡ b → a - b ≤ x - y
slab_more a b x y p q = omega (arith, p, q)

pub slab_wider : (a b x y : ℕ) → a ≤ x → y ≡ b → a - b ≤ x - y
slab_wider a b x y p q = omega (arith, p, q)

pub slab_room : (x y : ℕ) → y + 1 ≤ x → 1 ≤ x - y
slab_room x y p = omega (arith, p)
