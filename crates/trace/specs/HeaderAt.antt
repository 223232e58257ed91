-- The header of a text, with the place past its line, or none that is known.
use Rattle.std.specs.Prelude.{ℕ, Option, Some, None}
use Rattle.trace.specs.declared.Version.{Version}

abbrev pub HeaderAt : Type 0
HeaderAt = Option (Version × ℕ)

pattern abbrev pub Is : Version → ℕ → HeaderAt
Is version past = Some (version, past)

pattern abbrev pub Unknown : HeaderAt
Unknown = None
