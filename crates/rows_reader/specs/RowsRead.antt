-- The header of a trace and how many rows were written, or why none.
use Rattle.std.specs.Prelude.{ℕ, Result, Ok, Err}
use Rattle.trace.specs.declared.Version.{Version}
use Rattle.kinds.specs.declared.refusal.Refusal.{Refusal}

abbrev pub RowsRead : Type 0
RowsRead = Result (Version × ℕ) Refusal

pattern abbrev pub Rows : Version → ℕ → RowsRead
Rows version count = Ok (version, count)

pattern abbrev pub Refused : Refusal → RowsRead
Refused r = Err r
