-- Two texts are compared as the library compares slices.
use Prim.Native.Nat.{ℕ}
use mathlib.Core.Path.{◌≡◌, refl, ap}
use mathlib.Core.Bool.{Bool, true, ◌&&◌}
use mathlib.Core.List.{List, [], ◌∷◌}
use lib.Dec.{eqb}
use borrow.Author.Tests.{eq-eqb}
use Rattle.std.specs.Str.{bytes_eq}
use Rattle.same_bytes.specs.Same.{equal_bytes}

pub bytes_compared : (xs ys : List ℕ) → bytes_eq xs ys ≡ equal_bytes xs ys
unfolding equal_bytes
bytes_compared [] [] = refl
bytes_compared [] (y ∷ ys) = refl
bytes_compared (x ∷ xs) [] = refl
bytes_compared (x ∷ xs) (y ∷ ys) = ap (λ (b : Bool). eqb x y && b) (bytes_compared xs ys)

pub equal_itself : (xs : List ℕ) → equal_bytes xs xs ≡ true
unfolding equal_bytes
equal_itself [] = refl
equal_itself (x ∷ xs) = rw (eq-eqb x x refl) (equal_itself xs)
