-- The invariant, `Running` (crate's proofs/Running.antt): what was printed stands at the buffer's start, and the run from the first
-- place on is that text and the run from the present place on, from the table as it is now.
use Prim.Native.Nat.{◌-◌}
use lib.ListN.{length}
use Rattle.kinds.specs.declared.TheConstants.{SLOTS}
use Rattle.replay_part.proofs.Running.{Running}
use Rattle.replay_part.proofs.run_part.Given as goal

abbrev pub invariant-loop-run : goal.invariant-loop-run
invariant-loop-run l = Running l.version SLOTS l.s l.from l.initial.run.table l.initial.buf l.buf l.run.table l.run.at l.run.filled

abbrev pub decreases-loop-run : goal.decreases-loop-run
decreases-loop-run l = length l.s - l.run.at
