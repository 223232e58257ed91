-- The decisions are written; or nothing is, and beside the refusal stands the place of the version that is bad.
use Rattle.std.specs.Prelude.{ℕ, Result, Ok, Err}
use Rattle.kinds.specs.declared.refusal.Refusal.{Refusal}
use Rattle.batch.specs.declared.BadVersion.{BadVersion}

abbrev pub Batched : Type 0
Batched = Result (Unit {0}) BadVersion

pattern abbrev pub Decided : Batched
Decided = Ok tt

abbrev pub Refused : Refusal → ℕ → Batched
Refused refusal place = Err (record { refusal = refusal; place = place })
