-- Facts of a fixed byte string at the front of a text.
use Prim.Native.Nat.{ℕ, min, ◌+◌, ◌≤◌, ◌<◌}
use native.Mathlib.Omega.{arith}
use native.Mathlib.Decide.{dec_lt}
use mathlib.Core.Path.{◌≡◌, refl, sym, ap, ap₂, ◌∙◌}
use mathlib.Core.List.{List, [], ◌∷◌, ◌++◌}
use mathlib.Core.Bool.{Bool, true, false, ◌&&◌, false≢true}
use lib.Dec.{eqb}
use lib.ListN.{length, take, drop, drop_of_length-le, length-drop, length-append}
use borrow.Author.Tests.{eq-eqb, eqb-true}
use Rattle.std.specs.Cmp.Lexicographic.{pointwise}
use Rattle.std.specs.Prelude.{nat_eq}
use Rattle.std.proofs.lemmas.Bool.Decides.{nat_tests}
use Rattle.std.specs.List.{starts_with, between}
use Rattle.std.proofs.lemmas.Slice.{between_to_end}
use Rattle.text.specs.Bytes.{starts}

-- the key at the front is found
pub starts_of : (k rest : List ℕ) → starts k (k ++ rest) ≡ true
unfolding starts
starts_of [] rest = refl
starts_of (b ∷ k) rest = rw (eq-eqb b b refl) (starts_of k rest)

-- what is found stands there
pub starts_text : (k s : List ℕ) → starts k s ≡ true → s ≡ k ++ drop (length k) s
unfolding starts
starts_text [] s e = refl
starts_text (b ∷ k) [] e = absurd (false≢true e)
starts_text (b ∷ k) (c ∷ s) e = go (eqb c b) refl e (starts_text k s)
  where
    go : (x : Bool) → eqb c b ≡ x → (x && starts k s) ≡ true → (starts k s ≡ true → s ≡ k ++ drop (length k) s)
        → c ∷ s ≡ b ∷ k ++ drop (length k) s
    go true p e ih = ap₂ (λ (x : ℕ) (l : List ℕ). x ∷ l) (eqb-true c b p) (ih e)
    go false p e ih = absurd (false≢true e)

-- a key that stands at `at` ends within the bytes, cons_unless it is empty
pub starts_room : (k s : List ℕ) (at : ℕ) → 0 < length k → starts k (drop at s) ≡ true → at + length k ≤ length s
starts_room k s at h e = omega (arith, simp (length-append, length-drop) at (ap length (starts_text k (drop at s) e)))

pub starts_within : (k s : List ℕ) (at most : ℕ) → at ≤ most → length s ≤ most
    → starts k (drop at s) ≡ true → at + length k ≤ most
starts_within k s at most h g e = go (dec_lt 0 (length k))
  where
    go : Dec (0 < length k) → at + length k ≤ most
    go (yes l) = omega (arith, starts_room k s at l e)
    go (no l) = omega arith

same_test : (b c : ℕ) → nat_eq b c ≡ eqb c b
same_test b c = grind (arith, nat_tests)

-- what the library's test for a front says, in this crate's word
pub starts_pointwise : (k s : List ℕ) → pointwise nat_eq k (take (length k) s) ≡ starts k s
unfolding starts
starts_pointwise [] [] = refl
starts_pointwise [] (b ∷ s) = refl
starts_pointwise (b ∷ k) [] = refl
starts_pointwise (b ∷ k) (c ∷ s) = ap₂ (λ (x y : Bool). x && y) (same_test b c) (starts_pointwise k s)

-- the part of a text from a place on, or from its end on where the place is past it
rest_from : (s : List ℕ) (at i : ℕ) → i ≡ min at (length s) → between i (length s) s ≡ drop at s
rest_from s at i e = between_to_end s i (length s) (omega arith) ∙ go (dec_lt at (length s))
  where
    go : Dec (at < length s) → drop i s ≡ drop at s
    go (yes l) = ap (λ (n : ℕ). drop n s) (omega arith)
    go (no l) = let past : length s ≤ i = omega arith in rw (drop_of_length-le s) (sym (drop_of_length-le s (omega arith)))

pub starts_part : (k s : List ℕ) (at i : ℕ) → i ≡ min at (length s) → starts_with nat_eq (between i (length s) s) k ≡ starts k (drop at s)
starts_part k s at i e = rw (rest_from s at i e) (starts_pointwise k (drop at s))
