-- The law of 8 bytes: a number is known by its bytes, and the bytes by their number. And what is read at a place.
use Prim.Native.Nat.{ℕ, zero, suc, ◌+◌, ◌*◌, ◌/◌, ◌%◌, ◌^◌, ◌<◌, ◌≤◌, ◌-◌}
use mathlib.Core.Path.{◌≡◌, refl, sym, ap, ◌∙◌}
use mathlib.Core.List.{List, [], ◌∷◌, ◌++◌}
use native.Mathlib.Nat.{pow-suc}
use native.Mathlib.Omega.{arith}
use lib.ListN.{length, take, drop, length-drop}
use Rattle.std.specs.Int.{w64, from_le_bytes}
use lib.Seq.{take_at, length-take-le, get_or-drop}
use Rattle.kinds.specs.Kinds.{top}
use Rattle.image.specs.Words.{byte_base, number_of, low_bytes, word_bytes, word_at, Bytes}

pub bytes-length : (k x : ℕ) → length (low_bytes k x) ≡ k
unfolding low_bytes
bytes-length zero x = refl
bytes-length (suc k) x = ap suc (bytes-length k (x / byte_base))

pub number_of_bytes : (k x : ℕ) → x < byte_base ^ k → number_of (low_bytes k x) ≡ x
unfolding number_of low_bytes
number_of_bytes zero x h = omega arith
number_of_bytes (suc k) x h =
    let below : x < byte_base ^ k * byte_base = rw (sym (pow-suc byte_base k)) h in
    let higher = number_of_bytes k (x / byte_base) (omega arith) in
    rw higher (omega arith)

pub bytes_of_number : (bs : List ℕ) → Bytes bs → low_bytes (length bs) (number_of bs) ≡ bs
unfolding number_of low_bytes
bytes_of_number [] h = refl
bytes_of_number (b ∷ bs) h =
    let n = number_of bs in
    let byte : b < byte_base = h 0 in
    let least : (b + byte_base * n) % byte_base ≡ b = omega arith in
    let others : (b + byte_base * n) / byte_base ≡ n = omega arith in
    rw (least, others, bytes_of_number bs (λ i. h (suc i)))

-- a number in front of other bytes is read as itself
pub word_in_front : (x : ℕ) (r : List ℕ) → x ≤ top → word_at (word_bytes x ++ r) 0 ≡ x
unfolding word_at
word_in_front x r h = ap number_of (take_at (word_bytes x) r 8 (bytes-length 8 x)) ∙ number_of_bytes 8 x (omega arith)

pub bytes_take : (k : ℕ) (s : List ℕ) → Bytes s → Bytes (take k s)
bytes_take zero s b i = omega arith
bytes_take (suc k) [] b i = b i
bytes_take (suc k) (x ∷ s) b zero = b 0
bytes_take (suc k) (x ∷ s) b (suc i) = bytes_take k s (λ j. b (suc j)) i

pub bytes_drop : (k : ℕ) (s : List ℕ) → Bytes s → Bytes (drop k s)
bytes_drop k s b i = rw (get_or-drop k s i 0) (b (k + i))

-- what was read at a place has the bytes that stand there
pub bytes_there : (s : List ℕ) (at : ℕ) → Bytes s → at + 8 ≤ length s → word_bytes (word_at s at) ≡ take 8 (drop at s)
unfolding word_at
bytes_there s at b h =
    let there = take 8 (drop at s) in
    let eight : length there ≡ 8 = length-take-le 8 (drop at s) (omega (arith, length-drop at s)) in
    ap (λ (k : ℕ). low_bytes k (number_of there)) (sym eight)
    ∙ bytes_of_number there (bytes_take 8 (drop at s) (bytes_drop at s b))

-- eight bytes as the library reads them
pub number_eight : (bs : List ℕ) → length bs ≡ 8 → from_le_bytes w64 bs ≡ number_of bs
unfolding number_of
number_eight (a ∷ b ∷ c ∷ d ∷ e ∷ f ∷ g ∷ h ∷ []) l = omega arith
number_eight _ l = absurd (omega arith)

pub word_read : (s : List ℕ) (at : ℕ) (bytes : List ℕ) → at + 8 ≤ length s → bytes ≡ take (at + 8 - at) (drop at s) → from_le_bytes w64 bytes ≡ word_at s at
unfolding word_at
word_read s at bytes h e =
    let eight : at + 8 - at ≡ 8 = omega arith in
    let there : bytes ≡ take 8 (drop at s) = rw eight at e in
    number_eight bytes (ap length there ∙ length-take-le 8 (drop at s) (omega (arith, length-drop at s))) ∙ ap number_of there
