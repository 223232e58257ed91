-- A text written into a buffer at a place.
use Rattle.std.specs.Prelude.{ℕ, ◌+◌, Bool, cond, List, ◌++◌, leb, length, take, drop}
use Rattle.text.specs.Put.{Put, Past, NoRoom}

-- xs with t in the place of what stood from `at` on; what stands before and past it stays
unfoldable pub spliced : List ℕ → ℕ → List ℕ → List ℕ
spliced xs at t = take at xs ++ t ++ drop (at + length t) xs

abbrev pub has_room : List ℕ → ℕ → List ℕ → Bool
has_room xs at t = leb (at + length t) (length xs)

-- what a writer of t at `at` answers
unfoldable pub put_at : List ℕ → ℕ → List ℕ → Put
put_at xs at t = cond (has_room xs at t) (Past (at + length t)) NoRoom

-- what it leaves: without room, the buffer as it was
unfoldable pub written : List ℕ → ℕ → List ℕ → List ℕ
written xs at t = cond (has_room xs at t) (spliced xs at t) xs
