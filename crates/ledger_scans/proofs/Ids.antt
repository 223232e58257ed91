-- The list of ids, as a walk over the taken slots fills it from place 0 on.
use Prim.Native.Nat.{ℕ, suc, ◌+◌, ◌-◌, ◌<◌, ◌≤◌}
use mathlib.Core.Path.{◌≡◌, refl, sym, ap, ◌∙◌}
use mathlib.Core.Bool.{Bool, true, false, not, cond}
use mathlib.Core.List.{List, [], ◌∷◌, ◌++◌}
use native.Mathlib.Numerals.{add-one}
use native.Mathlib.Omega.{arith}
use lib.Dec.{eqb}
use lib.ListN.{length, take, get_or, set, replicate, length-append}
use lib.Seq.{take-suc, take_all, length-take-le, set_at, append_snoc}
use Rattle.std.specs.List.{filter, enumerate_from}
use Rattle.std.proofs.lemmas.List.FromFn.{length-enumerate_from, get_or-enumerate_from}
use Rattle.model.specs.Tally.{cons_unless, active, places}

-- the walk leaves out the empty slots
abbrev pub is_taken : ℕ → Bool
is_taken x = not (eqb x 0)

pub taken-active : (txids : List ℕ) → filter is_taken txids ≡ active txids
unfolding active
taken-active [] = refl
taken-active (x ∷ xs) = go (eqb x 0) (taken-active xs)
  where
    go : (b : Bool) → filter is_taken xs ≡ active xs → cond (not b) (x ∷ filter is_taken xs) (filter is_taken xs) ≡ cons_unless b x (active xs)
    go true ih = ih
    go false ih = ap (λ (ids : List ℕ). x ∷ ids) ih

-- one id more, in the first place that is still 0
places_push : (n : ℕ) (ids : List ℕ) (x : ℕ) → length ids < n → set (places n ids) (length ids) x ≡ places n (ids ++ x ∷ [])
places_push n ids x h =
    let m : ℕ = n - (length ids + 1) in
    let more : n - length ids ≡ suc m = omega arith in
    let left : n - length (ids ++ x ∷ []) ≡ m = omega (arith, length-append ids (x ∷ [])) in
    ap (λ (k : ℕ). set (ids ++ replicate k 0) (length ids) x) more
    ∙ set_at ids 0 (replicate m 0) x (length ids) refl
    ∙ sym (append_snoc ids x (replicate m 0))
    ∙ ap (λ (k : ℕ). (ids ++ x ∷ []) ++ replicate k 0) (sym left)

-- the walk has k ids behind it
module _ (n : ℕ) (ids : List ℕ) (k : ℕ) where
  pub places_more :
      (place x : ℕ) → length ids ≤ n → k < length (enumerate_from 0 ids) →
      ◌≡◌ {A = ℕ × ℕ} (place, x) (get_or (enumerate_from 0 ids) k (place, x)) →
      set (places n (take k ids)) place x ≡ places n (take (k + 1) ids)
  places_more place x fits h e =
      let l : k < length ids = omega (arith, length-enumerate_from 0 ids) in
      let here = e ∙ get_or-enumerate_from 0 ids k (place, x) l in
      let first : length (take k ids) ≡ k = length-take-le k ids (omega arith) in
      let at : place ≡ length (take k ids) = ap (λ (p : ℕ × ℕ). p.0) here ∙ omega arith in
      let id : x ≡ get_or ids k x = ap (λ (p : ℕ × ℕ). p.1) here in
      rw at (places_push n (take k ids) x (omega arith))
      ∙ ap (λ (y : ℕ). places n (take k ids ++ y ∷ [])) id
      ∙ ap (places n) (sym (rw add-one (take-suc ids k x l)))

  pub places_all : k ≡ length (enumerate_from 0 ids) → places n (take k ids) ≡ places n ids
  places_all e = ap (places n) (take_all k ids (omega (arith, length-enumerate_from 0 ids)))
