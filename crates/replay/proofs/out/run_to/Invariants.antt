-- Invariant: the buffer keeps its size, and the pieces that have not gone are those of the records that are left and the last
-- line (`Sending`, in Sending.antt); they went to the descriptor that the first one was for. Each turn hands on one piece,
-- and fewer records are left.
use mathlib.Core.Path.{◌≡◌}
use lib.ListN.{length}
use Rattle.kinds.specs.declared.TheConstants.{SLOTS}
use Rattle.trace.specs.Trace.{records_from}
use Rattle.replay.proofs.Sending.{Sending}
use Rattle.replay.proofs.out.run_to.Given as goal

abbrev pub invariant-loop-at : goal.invariant-loop-at
invariant-loop-at l = (length l.buf ≡ 65536) × Sending l.version SLOTS l.s l.count l.initial.gone.to l.table l.at l.gone

abbrev pub decreases-loop-at : goal.decreases-loop-at
decreases-loop-at l = length (records_from l.s l.at)
