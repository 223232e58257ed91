-- A run whose first i words are 0, and the fresh table's words.
use Prim.Native.Nat.{ℕ, suc, ◌+◌, ◌*◌, ◌<◌, ◌≤◌}
use mathlib.Core.Path.{◌≡◌, refl, sym, ap, ◌∙◌}
use mathlib.Core.List.{List, [], ◌∷◌, ◌++◌, append-nil}
use native.Mathlib.Numerals.{add-one}
use native.Mathlib.Omega.{arith}
use lib.ListN.{length, take, drop, set, replicate, length-replicate, replicate-append-replicate, drop_of_length-le}
use lib.Seq.{sets, drop-cons, set_at, append_snoc, take_at, drop_at}
use Rattle.kinds.specs.Kinds.{pin_count, free_pins}
use Rattle.model.specs.Tables.{fresh_table}
use Rattle.place.specs.Words.{pins_from, counters_from, size_of, words_of}
use Rattle.place.proofs.Laid.{with_counters}

abbrev pub cleared : List ℕ → ℕ → List ℕ
cleared ws i = replicate i 0 ++ drop i ws

pub cleared_more : (ws : List ℕ) (i : ℕ) → i < length ws → set (cleared ws i) i 0 ≡ cleared ws (i + 1)
cleared_more ws i h =
    let zero : ℕ = 0 in
    ap (λ (r : List ℕ). set (replicate i zero ++ r) i zero) (drop-cons ws i zero h)
    ∙ set_at (replicate i zero) _ (drop (suc i) ws) zero i (length-replicate i zero)
    ∙ sym (append_snoc (replicate i zero) zero (drop (suc i) ws))
    ∙ rw (add-one) (ap (λ (r : List ℕ). r ++ drop (suc i) ws) (rw (add-one) at (replicate-append-replicate i 1 zero)))

pub cleared_all : (ws : List ℕ) (i : ℕ) → i ≡ length ws → cleared ws i ≡ replicate (length ws) 0
cleared_all ws i e =
    let zero : ℕ = 0 in
    ap (λ (r : List ℕ). replicate i zero ++ r) (drop_of_length-le ws {i = i} (omega arith)) ∙ append-nil (replicate i zero) ∙ rw e

-- the first n of more zeros, and the others
zeros-take : (n m : ℕ) → ◌≡◌ {A = List ℕ} (take n (replicate (n + m) 0)) (replicate n 0)
zeros-take n m =
    let zero : ℕ = 0 in
    rw (← replicate-append-replicate n m zero) (take_at (replicate n zero) (replicate m zero) n (length-replicate n zero))

zeros-drop : (n m : ℕ) → ◌≡◌ {A = List ℕ} (drop n (replicate (n + m) 0)) (replicate m 0)
zeros-drop n m =
    let zero : ℕ = 0 in
    rw (← replicate-append-replicate n m zero) (drop_at (replicate n zero) (replicate m zero) n (length-replicate n zero))

-- a part of a run of zeros
zeros_part : (whole from k more : ℕ) → whole ≡ from + (k + more) → ◌≡◌ {A = List ℕ} (take k (drop from (replicate whole 0))) (replicate k 0)
zeros_part whole from k more e = rw (e, zeros-drop from (k + more)) (zeros-take k more)

pub fresh_words :
    (n : ℕ) (ws : List ℕ) {zs : List ℕ} → length ws ≡ size_of n → zs ≡ replicate (length ws) 0 →
    sets zs (counters_from n) (1 ∷ 1 ∷ 1 ∷ []) ≡ words_of (fresh_table n)
unfolding words_of fresh_table free_pins
fresh_words n ws e z =
    let zero : ℕ = 0 in
    let size : ℕ = length ws in
    let all : length ws ≡ n + (n + pin_count + 3) = omega arith in
    let first : take n (replicate size zero) ≡ replicate n zero = rw all (zeros-take n (n + pin_count + 3)) in
    let second : take n (drop n (replicate size zero)) ≡ replicate n zero = zeros_part size n n (pin_count + 3) (omega arith) in
    let third : take pin_count (drop (pins_from n) (replicate size zero)) ≡ replicate pin_count zero =
    zeros_part size (pins_from n) pin_count 3 (omega arith) in
    rw z (with_counters n (replicate size zero) (length-replicate size zero ∙ e) 1 1 1 ∙ rw (first, second, third))
