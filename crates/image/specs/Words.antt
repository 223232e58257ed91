-- Numbers of 8 bytes, the least byte first (SPEC 18.1).
use Rattle.std.specs.Prelude.{ℕ, zero, suc, ◌+◌, ◌*◌, ◌/◌, ◌%◌, ◌<◌, ◌≤◌, List, [], ◌∷◌, ◌++◌, get_or, take, drop}
use Rattle.kinds.specs.Kinds.{top}

-- how many values a byte has: two digits of sixteen
abbrev pub byte_base : ℕ
byte_base = 16 * 16

-- the number that bytes say
unfoldable pub number_of : List ℕ → ℕ
number_of [] = 0
number_of (b ∷ bs) = b + byte_base * number_of bs

-- the k lowest bytes of a number
unfoldable pub low_bytes : ℕ → ℕ → List ℕ
low_bytes zero x = []
low_bytes (suc k) x = x % byte_base ∷ low_bytes k (x / byte_base)

abbrev pub word_bytes : ℕ → List ℕ
word_bytes x = low_bytes 8 x

unfoldable pub words_bytes : List ℕ → List ℕ
words_bytes [] = []
words_bytes (x ∷ xs) = word_bytes x ++ words_bytes xs

-- the number in the 8 bytes from a place on
unfoldable pub word_at : List ℕ → ℕ → ℕ
word_at s at = number_of (take 8 (drop at s))

-- so many numbers, the first at `from`, each `apart` bytes after the one before it
unfoldable pub words_from : ℕ → List ℕ → ℕ → ℕ → List ℕ
words_from zero s from apart = []
words_from (suc k) s from apart = word_at s from ∷ words_from k s (from + apart) apart

-- each of these is a byte; each of these is a number of 64 bits
abbrev pub Bytes : List ℕ → Type 0
Bytes s = (i : ℕ) → get_or s i 0 < byte_base

abbrev pub Words : List ℕ → Type 0
Words xs = (i : ℕ) → get_or xs i 0 ≤ top
