-- Whether a text was read as a trace.
use Rattle.std.specs.Prelude.{Bool, true, false}
use Rattle.trace.specs.Reading.{Reading, Whole, Broken}

abbrev pub is_whole : Reading → Bool
is_whole (Whole version count) = true
is_whole (Broken line) = false
