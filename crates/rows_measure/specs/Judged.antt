-- The record that a row is under a header, or none.
use Rattle.std.specs.Prelude.{Option, Some, None}
use Rattle.trace.specs.declared.Record.{Record}

abbrev pub Judged : Type 0
Judged = Option Record

pattern abbrev pub Good : Record → Judged
Good r = Some r

pattern abbrev pub Bad : Judged
Bad = None
