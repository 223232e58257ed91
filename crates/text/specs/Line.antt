-- Lines of a key and a number: their text, and what is read of a text.
use Rattle.std.specs.Prelude.{ℕ, ◌+◌, ◌^◌, ◌≤◌, ◌<◌, Bool, false, cond, List, [], ◌∷◌, ◌++◌, leb, eqb, length, drop}
use Rattle.text.specs.Number.{Number, Is, Bad}
use Rattle.text.specs.Decimal.{number_text, number_at}
use Rattle.text.specs.Bytes.{starts}

-- the line of a key and a number; a key is given with its `=`
unfoldable pub line_text : List ℕ → ℕ → List ℕ
line_text key n = key ++ number_text n

abbrev pub at_most : ℕ → Number → Number
at_most most (Is n e) = cond (leb n most) (Is n e) Bad
at_most most Bad = Bad

-- the line of `key` and a number at most `most`, at `at`
unfoldable pub field_at : List ℕ → ℕ → List ℕ → ℕ → Number
field_at s at key most = cond (starts key (drop at s)) (at_most most (number_at s (at + length key))) Bad

-- a rule for a line: its key, and the largest number that it may have
pub record Rule : Type 0 where
  pub key : List ℕ
  pub most : ℕ

-- the lines of some numbers, one for each rule
unfoldable pub line_texts : List Rule → List ℕ → List (List ℕ)
line_texts [] ns = []
line_texts (r ∷ rs) [] = []
line_texts (r ∷ rs) (n ∷ ns) = line_text r.key n ∷ line_texts rs ns

-- one line: it ends in a newline, and has no other
unfoldable pub one_line : List ℕ → Bool
one_line [] = false
one_line (b ∷ bs) = cond (eqb b 10) (eqb (length bs) 0) (one_line bs)

-- lines one after the other
unfoldable pub joined : List (List ℕ) → List ℕ
joined [] = []
joined (l ∷ ls) = l ++ joined ls

-- one number for each rule, none above its limit or 2^64 - 1
pub data Within : List Rule → List ℕ → Type 0 where
  none : Within [] []
  also : {r : Rule} {rs : List Rule} {n : ℕ} {ns : List ℕ} → n ≤ r.most → n < 2 ^ 64 → Within rs ns → Within (r ∷ rs) (n ∷ ns)

-- what lines are read as: their numbers and the place past them, or the first line that breaks its rule
pub data Lines : Type 0 where
  Read : List ℕ → ℕ → Lines
  Breaks : ℕ → Lines

abbrev pub on_field : Number → ℕ → (ℕ → ℕ → Lines) → Lines
on_field (Is n e) line f = f n e
on_field Bad line f = Breaks line

abbrev pub with_first : ℕ → Lines → Lines
with_first n (Read ns e) = Read (n ∷ ns) e
with_first n (Breaks k) = Breaks k

-- the lines that stand at `at`, one for each rule; the first of them has the number `line`
unfoldable pub lines_at : List ℕ → ℕ → ℕ → List Rule → Lines
lines_at s at line [] = Read [] at
lines_at s at line (r ∷ rs) = on_field (field_at s at r.key r.most) line (λ n e. with_first n (lines_at s e (line + 1) rs))
