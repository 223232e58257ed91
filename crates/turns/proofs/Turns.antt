-- Turns of a column: a list of the first k turns of n places each, asked one turn after the other, answers as its places do. No law
-- names a number of places.
use Rattle.std.proofs.Common.{◌≡◌, ℕ, zero, suc, ◌+◌, ◌*◌, ◌≤◌, ◌<◌, List, [], ◌∷◌, Bool, true, false, not, ◌||◌, ◌&&◌, ◌++◌, length, get_or, take, drop, refl, sym, ap, ◌∙◌, arith}
use Rattle.std.specs.List.{fold, list_all, list_any, prefix_len}
use Rattle.std.specs.Simd.{first_chunks}
use Rattle.std.proofs.Math.Nat.{mul-suc, mul-zero, zero-add}
use Rattle.std.proofs.lemmas.List.Folds.{list_any-append}
use Rattle.std.proofs.lemmas.List.{drop-drop, length-drop, length-take, take-append-drop}
use lib.Seq.{take-add}
use mathlib.Core.Bool.{or_assoc, and_assoc, or-false, and-true, true≢false}

-- a fold over the places of one turn, without a branch
pub found_by_fold : (p : ℕ → Bool) (b : Bool) (xs : List ℕ) → fold (λ found y. found || p y) b xs ≡ b || list_any p xs
found_by_fold p b [] = sym (or-false b)
found_by_fold p b (x ∷ xs) = found_by_fold p (b || p x) xs ∙ or_assoc b (p x) (list_any p xs)

pub all_by_fold : (p : ℕ → Bool) (b : Bool) (xs : List ℕ) → fold (λ all y. all && p y) b xs ≡ b && list_all p xs
all_by_fold p b [] = sym (and-true b)
all_by_fold p b (x ∷ xs) = all_by_fold p (b && p x) xs ∙ and_assoc b (p x) (list_all p xs)

more_turns : (n k : ℕ) → n * suc k ≡ n + n * k
more_turns n k = omega (arith, mul-suc n k)

module _ (p : ℕ → Bool) where
  abbrev misses : ℕ → Bool
  misses y = not (p y)

  -- no place of xs passes
  passed_over : (xs ys : List ℕ) → list_any p xs ≡ false → prefix_len misses (xs ++ ys) ≡ length xs + prefix_len misses ys
  passed_over [] ys e = sym (zero-add (prefix_len misses ys))
  passed_over (x ∷ xs) ys e = go (p x) refl (passed_over xs ys)
    where
      go :
          (b : Bool) → p x ≡ b →
          (list_any p xs ≡ false → prefix_len misses (xs ++ ys) ≡ length xs + prefix_len misses ys) →
          prefix_len misses (x ∷ xs ++ ys) ≡ length (x ∷ xs) + prefix_len misses ys
      go true q ih = absurd (true≢false (rw q at e))
      go false q ih = rw q (omega (arith, ih (rw q at e)))

  module _ (n : ℕ) where
    -- some place passes where some turn has one
    pub any_by_turns : (k : ℕ) (xs : List ℕ) → list_any (list_any p) (first_chunks n k xs) ≡ list_any p (take (n * k) xs)
    any_by_turns zero xs = rw (mul-zero n)
    any_by_turns (suc k) xs = rw (more_turns n k, take-add n (n * k) xs, list_any-append, any_by_turns k (drop n xs))

    -- the turns before the first one with such a place are passed over whole
    pub prefix_by_turns :
        (k : ℕ) (xs : List ℕ) → n * k ≤ length xs →
        let m = prefix_len (λ turn. not (list_any p turn)) (first_chunks n k xs) in
        prefix_len misses xs ≡ n * m + prefix_len misses (drop (n * m) xs)
    prefix_by_turns zero xs h = rw mul-zero (sym (zero-add (prefix_len misses xs)))
    prefix_by_turns (suc k) xs h =
        go (list_any p (take n xs)) refl (prefix_by_turns k (drop n xs) (omega (arith, h, more_turns n k, length-drop n xs)))
      where
        rest : ℕ
        rest = prefix_len (λ turn. not (list_any p turn)) (first_chunks n k (drop n xs))

        go :
            (b : Bool) → list_any p (take n xs) ≡ b →
            prefix_len misses (drop n xs) ≡ n * rest + prefix_len misses (drop (n * rest) (drop n xs)) →
            let m = prefix_len (λ turn. not (list_any p turn)) (first_chunks n (suc k) xs) in
            prefix_len misses xs ≡ n * m + prefix_len misses (drop (n * m) xs)
        go true e ih = rw (e, mul-zero) (sym (zero-add (prefix_len misses xs)))
        go false e ih =
            let one_more : 1 + rest ≡ suc rest = omega arith in
            let fits : length (take n xs) ≡ n = omega (arith, h, more_turns n k, length-take n xs) in
            let whole = rw (take-append-drop n xs, fits) at (passed_over (take n xs) (drop n xs) e) in
            rw (e, one_more, more_turns n rest, ← drop-drop (n * rest) n xs) (omega (arith, whole, ih))

-- how many there are, and turn j is that of the places from n * j on
pub turn_count : (n k : ℕ) (xs : List ℕ) → length (first_chunks n k xs) ≡ k
turn_count n zero xs = refl
turn_count n (suc k) xs = ap suc (turn_count n k (drop n xs))

pub turn_at :
    (n k : ℕ) (xs : List ℕ) (j : ℕ) → j < k → (d : List ℕ) → get_or (first_chunks n k xs) j d ≡ take n (drop (n * j) xs)
turn_at n zero xs j h d = absurd (omega (arith, h))
turn_at n (suc k) xs zero h d = rw (mul-zero n)
turn_at n (suc k) xs (suc j) h d =
    rw (more_turns n j, ← drop-drop (n * j) n xs) (turn_at n k (drop n xs) j (omega (arith, h)) d)
