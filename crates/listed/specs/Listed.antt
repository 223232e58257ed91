-- Who is listed.
use Rattle.std.specs.Prelude.{ℕ, List, [], ◌∷◌, Bool, false, ◌||◌, eqb}

-- x is among the ids
unfoldable pub listed : ℕ → List ℕ → Bool
listed x [] = false
listed x (y ∷ ys) = eqb y x || listed x ys
