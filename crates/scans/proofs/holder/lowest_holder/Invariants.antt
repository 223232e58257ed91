-- No slot of the turns before this one holds the xmin, so the holder is that of the slots left, counted on from there.
use Rattle.std.proofs.Common.{◌≡◌, ◌*◌, drop, take}
use Rattle.model.specs.Tally.{holder_from}
use Rattle.scans.proofs.holder.lowest_holder.Given as goal

abbrev pub invariant-loop-turn : goal.invariant-loop-turn
invariant-loop-turn l =
    holder_from 0 l.txids l.xmins l.xmin l.otherwise
    ≡ holder_from (8 * l.turn) (drop (8 * l.turn) l.txids) (drop (8 * l.turn) (take l.end l.xmins)) l.xmin l.otherwise
