-- `run_steps` meets its contract. The invariant is `Running` (crate's proofs/Running.antt): from the table as it is now and the
-- events that are left, verdict and end are those of the whole.
use Prim.Native.Nat.{◌-◌}
use lib.ListN.{length}
use Rattle.kinds.specs.declared.TheConstants.{SLOTS}
use Rattle.wait.proofs.Running.{Running}
use Rattle.wait.proofs.run.run_steps.Given as goal

abbrev pub invariant-loop-event : goal.invariant-loop-event
invariant-loop-event l = Running SLOTS l.owner l.s l.fn.table l.now l.at l.step

abbrev pub decreases-loop-event : goal.decreases-loop-event
decreases-loop-event l = length l.s - l.at
