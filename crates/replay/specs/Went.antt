-- A piece went on, or a write failed.
use Rattle.std.specs.Prelude.{Result, Ok, Err}
use Rattle.replay.specs.declared.border.Handed.{Handed}
use Rattle.replay.specs.declared.border.Stopped.{Stopped}

abbrev pub Went : Type 0
Went = Result Handed Stopped

pattern abbrev pub On : Handed → Went
On h = Ok h

pattern abbrev pub Failed : Stopped → Went
Failed p = Err p
