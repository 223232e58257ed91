-- The counters after a reservation, of any number: the clock is past it, held at the largest number.
use Rattle.kinds.specs.declared.Stamp.{Stamp}
use Rattle.kinds.specs.Kinds.{saturating_next}
use Rattle.model.specs.declared.Counters.{Counters}
use Rattle.model.specs.Tables.{counted}

abbrev pub reserved_from : Stamp → Counters → Counters
reserved_from number was = counted (saturating_next number.0) was.sampled_clock was.vacuum_line
