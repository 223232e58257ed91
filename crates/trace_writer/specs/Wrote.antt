-- The length of the text that was written, or why nothing was.
use Rattle.std.specs.Prelude.{ℕ, Result, Ok, Err}
use Rattle.kinds.specs.declared.refusal.Refusal.{Refusal}

abbrev pub Wrote : Type 0
Wrote = Result ℕ Refusal

pattern abbrev pub Length : ℕ → Wrote
Length n = Ok n

pattern abbrev pub Refused : Refusal → Wrote
Refused r = Err r
