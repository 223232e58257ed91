-- What stands at a place: a number, with the place past its newline, or none.
use Rattle.std.specs.Prelude.{ℕ, Option, Some, None}

abbrev pub Number : Type 0
Number = Option (ℕ × ℕ)

pattern abbrev pub Is : ℕ → ℕ → Number
Is n past = Some (n, past)

pattern abbrev pub Bad : Number
Bad = None
