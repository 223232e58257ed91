-- The lowest so far is that of the slots of the turns so far.
use Rattle.std.proofs.Common.{◌≡◌, ◌*◌, take, length}
use Rattle.model.specs.Tally.{oldest_of}
use Rattle.taken_scans.proofs.oldest.oldest_retained.Given as goal

abbrev pub invariant-loop-eight : goal.invariant-loop-eight
invariant-loop-eight l =
    l.low
    ≡ oldest_of (take (8 * length l.yielded) (take l.end l.txids)) (take (8 * length l.yielded) (take l.end l.xmins)) l.sample
