-- The lowest so far is that of the slots so far.
use Rattle.std.proofs.Common.{◌≡◌, take, length}
use Rattle.model.specs.Tally.{oldest_of}
use Rattle.taken_scans.proofs.oldest.lowest_among.Given as goal

abbrev pub invariant-loop-txid : goal.invariant-loop-txid
invariant-loop-txid l = l.lowest ≡ oldest_of (take (length l.yielded) l.txids) (take (length l.yielded) l.xmins) l.low
