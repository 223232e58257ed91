-- A list of ids as bytes (SPEC 18.2).
use Rattle.std.specs.Prelude.{ℕ, ◌/◌, List, length}
use Rattle.image.specs.Words.{words_from}

-- its numbers, as many as its length over 8
abbrev pub count_of : List ℕ → ℕ
count_of s = length s / 8

abbrev pub ids_of : List ℕ → List ℕ
ids_of s = words_from (count_of s) s 0 8
