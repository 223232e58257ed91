-- A column from place i on, one place at a time.
use mathlib.Core.Path.{◌≡◌, ◌∙◌, refl, sym, ap}
use mathlib.Core.Bool.{Bool, true, false, not, cond}
use mathlib.Core.List.{List, [], ◌∷◌}
use Prim.Native.Nat.{ℕ, ◌+◌, ◌<◌, ◌≤◌}
use native.Mathlib.Omega.{arith}
use lib.Dec.{eqb, ltb}
use lib.ListN.{length, drop, get_or, drop_of_length-le}
use borrow.Author.Tests.{eq-eqb, ne_eqb, ltb-false}
use Rattle.std.specs.List.{position, position_or_len}
use Rattle.std.specs.Prelude.{Option, Some, None, unwrap_or}
use Rattle.std.proofs.Math.Nat.{add_comm}
use Rattle.std.proofs.lemmas.List.Sums.{prefix_len-le-length}
use Rattle.std.proofs.lemmas.List.Recursion.{is_position_or_len}
use Rattle.kinds.proofs.Lists.{from}
use Rattle.model.specs.Tally.{active, lowest_empty}

found_or_length : (k n : ℕ) → k ≤ n → unwrap_or (cond (ltb k n) (Some k) None) n ≡ k
found_or_length k n h = go (ltb k n) refl
  where
    go : (b : Bool) → ltb k n ≡ b → unwrap_or (cond b (Some k) None) n ≡ k
    go true e = refl
    go false e = let l = ltb-false k n e in omega arith

-- the lowest free place is the first that is 0
pub first_free : (column : List ℕ) (r : Option ℕ) → r ≡ position (λ x. eqb x 0) column → unwrap_or r (length column) ≡ lowest_empty column
unfolding lowest_empty
first_free column r e =
    let lowest =
    is_position_or_len lowest_empty (λ x. eqb x 0) refl (λ x xs. ap (λ (k : ℕ). cond (eqb x 0) 0 k) (add_comm _ _)) column in
    ap (λ (o : Option ℕ). unwrap_or o (length column)) e
    ∙ found_or_length (position_or_len (λ x. eqb x 0) column) (length column) (prefix_len-le-length (λ x. not (eqb x 0)) column)
    ∙ sym lowest

module _ (column : List ℕ) (i : ℕ) where
  pub active_miss : i < length column → get_or column i 0 ≡ 0 → active (drop i column) ≡ active (drop (i + 1) column)
  unfolding active
  active_miss h e = rw (from column i h, eq-eqb _ _ e)

  pub active_hit :
      i < length column → (get_or column i 0 ≡ 0 → ⊥) → active (drop i column) ≡ get_or column i 0 ∷ active (drop (i + 1) column)
  unfolding active
  active_hit h e = rw (from column i h, ne_eqb _ _ e)

  pub active_none : length column ≤ i → active (drop i column) ≡ []
  unfolding active
  active_none h = rw (drop_of_length-le column h)
