-- The decimal text of a number: its two equations, induction along its digits, its length.
use Prim.Native.Nat.{ℕ, zero, suc, ◌+◌, ◌/◌, ◌%◌, ◌^◌, ◌*◌, ◌≤◌, ◌<◌}
use native.Mathlib.Omega.{arith}
use native.Mathlib.Decide.{dec_lt}
use native.Mathlib.Nat.{le_refl, pow-suc}
use mathlib.Core.Path.{◌≡◌, refl, sym, ap, ◌∙◌}
use mathlib.Core.List.{List, [], ◌∷◌, ◌++◌}
use lib.ListN.{length, length-append}
use borrow.Author.Tests.{lt-ltb, le-ltb}
use Rattle.std.specs.Option.{unwrap_or, IfNone, IfSome}
use Rattle.std.specs.Prelude.{Option, Some, None}
use Rattle.text.specs.Decimal.{decimal_in, decimal, number_text}

-- more places than needed change nothing
in_small : (k n : ℕ) → n < 10 → decimal_in k n ≡ (48 + n) ∷ []
unfolding decimal_in
in_small zero n h = refl
in_small (suc k) n h = rw (lt-ltb n 10 h, decimal_in)

in_more : (k n : ℕ) → 10 ≤ n → decimal_in (suc k) n ≡ decimal_in k (n / 10) ++ ((48 + n % 10) ∷ [])
unfolding decimal_in
in_more k n h = rw (le-ltb n 10 h, decimal_in)

places : (k j n : ℕ) → n ≤ k → n ≤ j → decimal_in k n ≡ decimal_in j n
places zero j n h g = in_small zero n (omega arith) ∙ sym (in_small j n (omega arith))
places (suc k) zero n h g = in_small (suc k) n (omega arith) ∙ sym (in_small zero n (omega arith))
places (suc k) (suc j) n h g = go (dec_lt n 10) (places k j (n / 10) (omega arith) (omega arith))
  where
    go : Dec (n < 10) → decimal_in k (n / 10) ≡ decimal_in j (n / 10) → decimal_in (suc k) n ≡ decimal_in (suc j) n
    go (yes l) e = in_small (suc k) n l ∙ sym (in_small (suc j) n l)
    go (no l) e = in_more k n (omega arith) ∙ ap (λ (x : List ℕ). x ++ ((48 + n % 10) ∷ [])) e ∙ sym (in_more j n (omega arith))

-- the two equations of `decimal`
pub decimal_small : (n : ℕ) → n < 10 → decimal n ≡ (48 + n) ∷ []
unfolding decimal
decimal_small n h = in_small n n h

pub decimal_more : (n : ℕ) → 10 ≤ n → decimal n ≡ decimal (n / 10) ++ ((48 + n % 10) ∷ [])
unfolding decimal
decimal_more zero h = absurd (omega arith)
decimal_more (suc k) h =
    let tenth = suc k / 10 in
    in_more k (suc k) h ∙ ap (λ (x : List ℕ). x ++ ((48 + suc k % 10) ∷ [])) (places k tenth tenth (omega arith) (le_refl _))

-- induction along the digits
module _ (P : ℕ → Type 0) (small : (n : ℕ) → n < 10 → P n) (more : (n : ℕ) → 10 ≤ n → P (n / 10) → P n) where
  below : (k n : ℕ) → n ≤ k → P n
  below zero n h = small n (omega arith)
  below (suc k) n h = go (dec_lt n 10) (below k (n / 10) (omega arith))
    where
      go : Dec (n < 10) → P (n / 10) → P n
      go (yes l) p = small n l
      go (no l) p = more n (omega arith) p

  pub by_tens : (n : ℕ) → P n
  by_tens n = below n n (le_refl n)

-- how many digits a number has
pub length_small : (n : ℕ) → n < 10 → length (decimal n) ≡ 1
length_small n h = ap length (decimal_small n h)

pub length_more : (n : ℕ) → 10 ≤ n → length (decimal n) ≡ length (decimal (n / 10)) + 1
length_more n h = ap length (decimal_more n h) ∙ length-append (decimal (n / 10)) ((48 + n % 10) ∷ [])

pub length_some : (n : ℕ) → 1 ≤ length (decimal n)
length_some =
    by_tens (λ (n : ℕ). 1 ≤ length (decimal n))
    (λ n h. omega (arith, length_small n h))
    (λ n h ih. omega (arith, length_more n h))

-- a number below 10 ^ k has at most k digits, and one from 10 ^ k on has more
pub length_below : (k n : ℕ) → n < 10 ^ suc k → length (decimal n) ≤ suc k
length_below zero n h = omega (arith, length_small n h)
length_below (suc k) n h = go (dec_lt n 10) (length_below k (n / 10) (let g = rw pow-suc at h in omega arith))
  where
    go : Dec (n < 10) → length (decimal (n / 10)) ≤ suc k → length (decimal n) ≤ suc (suc k)
    go (yes l) ih = omega (arith, length_small n l)
    go (no l) ih = omega (arith, length_more n (omega arith))

power_some : (k : ℕ) → 0 < 10 ^ k
power_some zero = omega arith
power_some (suc k) = rw pow-suc (omega (arith, power_some k))

pub length_from : (k n : ℕ) → 10 ^ k ≤ n → k < length (decimal n)
length_from zero n h = omega (arith, length_some n)
length_from (suc k) n h = go (dec_lt n 10) (length_from k (n / 10) (omega (arith, grown)))
  where
    grown : 10 ^ k * 10 ≤ n
    grown = rw pow-suc at h

    go : Dec (n < 10) → k < length (decimal (n / 10)) → suc k < length (decimal n)
    go (yes l) ih = absurd (omega (arith, grown, power_some k))
    go (no l) ih = omega (arith, length_more n (omega arith))

-- so the logarithm says how many digits there are, and 0 has one
pub length_by_log : (n : ℕ) (log : Option ℕ) → IfNone log (n ≡ 0) → IfSome log (λ k. 10 ^ k ≤ n) → IfSome log (λ k. n < 10 * 10 ^ k)
    → unwrap_or log 0 + 1 ≡ length (decimal n)
length_by_log n None z low high = omega (arith, length_small n (omega arith))
length_by_log n (Some k) z low high = omega (arith, length_from k n low, length_below k n (rw pow-suc (omega arith)))

pub length-word : (n : ℕ) → n < 2 ^ 64 → length (decimal n) ≤ 20
length-word n h = length_below 19 n (omega arith)

pub length_text : (n : ℕ) → length (number_text n) ≡ length (decimal n) + 1
unfolding number_text
length_text n = length-append (decimal n) (10 ∷ [])
