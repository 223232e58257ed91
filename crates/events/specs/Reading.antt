-- What a whole text is: so many events, or a wait that breaks a rule first at this line.
use Rattle.std.specs.Prelude.{ℕ, Result, Ok, Err}

abbrev pub Reading : Type 0
Reading = Result ℕ ℕ

pattern abbrev pub Whole : ℕ → Reading
Whole count = Ok count

pattern abbrev pub Broken : ℕ → Reading
Broken line = Err line
