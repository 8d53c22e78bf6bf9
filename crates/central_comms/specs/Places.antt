-- The places in a list whose elements pass a test, in order. This project's own.
use Rattle.std.specs.Prelude.{ℕ, ◌+◌, Bool, if◌then◌else◌, List, [], ◌∷◌}

-- the places, counted from a number on
abbrev pub places_from : {A : Type 0} → (A → Bool) → ℕ → List A → List ℕ
places_from test n [] = []
places_from test n (x ∷ xs) = if test x then n ∷ places_from test (n + 1) xs else places_from test (n + 1) xs

abbrev pub places_where : {A : Type 0} → (A → Bool) → List A → List ℕ
places_where test xs = places_from test 0 xs
