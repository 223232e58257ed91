-- What a whole text is: a header and so many records, or a trace that breaks a rule first at this line.
use Rattle.std.specs.Prelude.{ℕ, Result, Ok, Err}
use Rattle.trace.specs.declared.Version.{Version}

abbrev pub Reading : Type 0
Reading = Result (Version × ℕ) ℕ

pattern abbrev pub Whole : Version → ℕ → Reading
Whole version count = Ok (version, count)

pattern abbrev pub Broken : ℕ → Reading
Broken line = Err line
