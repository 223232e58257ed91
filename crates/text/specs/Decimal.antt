-- A number as text: what is printed, and what is read.
use Rattle.std.specs.Prelude.{ℕ, zero, suc, ◌+◌, ◌-◌, ◌*◌, ◌/◌, ◌%◌, ◌^◌, Bool, true, false, cond, ◌&&◌, List, [], ◌∷◌, ◌++◌, leb, ltb, eqb, drop}
use Rattle.text.specs.Number.{Number, Is, Bad}

-- the digits of n, at most k + 1 of them
unfoldable pub decimal_in : ℕ → ℕ → List ℕ
decimal_in zero n = (48 + n) ∷ []
decimal_in (suc k) n = elim (ltb n 10) [ true ↦ (48 + n) ∷ [] | false ↦ decimal_in k (n / 10) ++ ((48 + n % 10) ∷ []) ]

-- the decimal text of n: no sign, no leading zero
unfoldable pub decimal : ℕ → List ℕ
decimal n = decimal_in n n

-- a number as a line has it: its decimal text and one newline
unfoldable pub number_text : ℕ → List ℕ
number_text n = decimal n ++ (10 ∷ [])

abbrev pub is_digit : ℕ → Bool
is_digit b = leb 48 b && leb b 57

-- b is a digit that may follow digits that make n: n is not 0, which would be a leading zero, and the number stays below 2^64
abbrev pub goes_on : ℕ → ℕ → Bool
goes_on n b = is_digit b && (ltb 0 n && ltb (n * 10 + (b - 48)) (2 ^ 64))

-- what follows a number's first digits, which make n; the list starts at `at`
unfoldable pub number_tail : List ℕ → ℕ → ℕ → Number
number_tail [] n at = Bad
number_tail (b ∷ bs) n at =
    cond (eqb b 10)
    (Is n (at + 1))
    (cond (goes_on n b) (number_tail bs (n * 10 + (b - 48)) (at + 1)) Bad)

unfoldable pub number_from : List ℕ → ℕ → Number
number_from [] at = Bad
number_from (b ∷ bs) at = cond (is_digit b) (number_tail bs (b - 48) (at + 1)) Bad

-- the number that stands at `at` in s, and the place past its newline
unfoldable pub number_at : List ℕ → ℕ → Number
number_at s at = number_from (drop at s) at
