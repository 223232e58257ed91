-- The line of a number, `n=` and the number, as it stands at a place of a text.
use Rattle.std.specs.Prelude.{ℕ, List}
use Rattle.text.specs.Bytes.{bytes}
use Rattle.text.specs.Line.{field_at}
use Rattle.text.specs.Number.{Number, Is, Bad}

abbrev pub found : List ℕ → ℕ → Number
found text at = field_at text at (bytes "n=") 18446744073709551615

abbrev pub number_of : Number → ℕ
number_of (Is number past) = number
number_of Bad = 0

-- 0 where none stands
abbrev pub number_at : List ℕ → ℕ → ℕ
number_at text at = number_of (found text at)

abbrev pub past_in : ℕ → Number → ℕ
past_in at (Is number past) = past
past_in at Bad = at

-- the place past it; where none stands, the place itself
abbrev pub past_of : List ℕ → ℕ → ℕ
past_of text at = past_in at (found text at)
