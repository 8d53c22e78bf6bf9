-- Room made beforehand.
use Rattle.std.specs.Prelude.{ℕ, ◌-◌, Vec, vec_len, vec_capacity}

-- how many elements a vector can take without more memory
abbrev pub room_of : {X Z : Type 0} → Vec X Z → ℕ
room_of v = vec_capacity v - vec_len v
