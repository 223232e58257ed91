-- How many rows are in use, or that there is no room for one more.
use Rattle.std.specs.Prelude.{ℕ, Result, Ok, Err}
use Rattle.kinds.specs.declared.refusal.Refusal.{Refusal}

abbrev pub Kept : Type 0
Kept = Result ℕ Refusal

pattern abbrev pub Used : ℕ → Kept
Used n = Ok n

pattern abbrev pub Refused : Refusal → Kept
Refused r = Err r
