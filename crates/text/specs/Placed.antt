-- What a writer leaves of a buffer where the text has room.
use Rattle.std.specs.Prelude.{ℕ, ◌+◌, ◌≡◌, List, length}
use Rattle.text.specs.Write.{spliced}

-- ys is xs with t at `at`, and past is the place after it
pub record Placed (xs : List ℕ) (at : ℕ) (t ys : List ℕ) (past : ℕ) : Type 0 where
  pub left : ys ≡ spliced xs at t
  pub size : length ys ≡ length xs
  pub end : past ≡ at + length t
