-- Five lines at a place: their numbers, with the place past them, or the first line that breaks a rule.
use Rattle.std.specs.Prelude.{ℕ, Result, Ok, Err}
use Rattle.text.specs.declared.Values.{Values}

abbrev pub Fields : Type 0
Fields = Result (Values × ℕ) ℕ

pattern abbrev pub Are : Values → ℕ → Fields
Are values past = Ok (values, past)

pattern abbrev pub Broken : ℕ → Fields
Broken line = Err line
