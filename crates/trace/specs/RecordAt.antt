-- What stands at a place: a record, with the place past it, or the first of its lines that breaks a rule.
use Rattle.std.specs.Prelude.{ℕ, Result, Ok, Err}
use Rattle.trace.specs.declared.Record.{Record}

abbrev pub RecordAt : Type 0
RecordAt = Result (Record × ℕ) ℕ

pattern abbrev pub Is : Record → ℕ → RecordAt
Is r past = Ok (r, past)

pattern abbrev pub Broken : ℕ → RecordAt
Broken line = Err line
