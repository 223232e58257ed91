-- The length of a run's text, or none for a bad row.
use Rattle.std.specs.Prelude.{ℕ, Option, Some, None}

abbrev pub Measured : Type 0
Measured = Option ℕ

pattern abbrev pub Length : ℕ → Measured
Length n = Some n

pattern abbrev pub BadRow : Measured
BadRow = None
