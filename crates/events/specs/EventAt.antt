-- What stands at a place: an event, with the place past it, or the first of its lines that breaks a rule.
use Rattle.std.specs.Prelude.{ℕ, Result, Ok, Err}
use Rattle.events.specs.declared.Event.{Event}

abbrev pub EventAt : Type 0
EventAt = Result (Event × ℕ) ℕ

pattern abbrev pub Is : Event → ℕ → EventAt
Is e past = Ok (e, past)

pattern abbrev pub Broken : ℕ → EventAt
Broken line = Err line
