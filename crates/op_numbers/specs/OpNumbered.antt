-- The op that a number names.
use Rattle.std.specs.Prelude.{Option, Some, None}
use Rattle.trace.specs.declared.Op.{Op}

abbrev pub OpNumbered : Type 0
OpNumbered = Option Op

pattern abbrev pub Is : Op → OpNumbered
Is op = Some op

pattern abbrev pub Unknown : OpNumbered
Unknown = None
