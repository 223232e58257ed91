-- An op, with the place past its line, or none.
use Rattle.std.specs.Prelude.{ℕ, Option, Some, None}
use Rattle.trace.specs.declared.Op.{Op}

abbrev pub OpAt : Type 0
OpAt = Option (Op × ℕ)

pattern abbrev pub Is : Op → ℕ → OpAt
Is op past = Some (op, past)

pattern abbrev pub Unknown : OpAt
Unknown = None
