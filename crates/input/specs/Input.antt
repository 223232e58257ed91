-- What a reading gives.
use Rattle.std.specs.Prelude.{ℕ, ◌≤◌, Option, Some, None}

-- so many bytes came, or a read failed
abbrev pub Input : Type 0
Input = Option ℕ

pattern abbrev pub All : ℕ → Input
All size = Some size

pattern abbrev pub Failed : Input
Failed = None

-- what was read lies inside the buffer
abbrev pub InputFits : ℕ → Input → Type 0
InputFits most (All size) = size ≤ most
InputFits most Failed = Unit
