-- Which calls observe: they hand in a clock, to which the table's moves however far it is.
use Rattle.std.specs.Prelude.{Bool, true, false}
use Rattle.model.specs.Calls.{Call, begin, end, snap, own, oldest, vacuum, stamp, finish, pin, unpin}

abbrev pub observing : Call → Bool
observing (begin number) = false
observing (end slot id) = false
observing (snap clock sample) = true
observing (own slot id clock sample) = true
observing (oldest clock sample) = true
observing (vacuum clock sample) = true
observing (stamp number) = false
observing (finish slot id number) = false
observing (pin clock sample) = true
observing (unpin k) = false
