-- The measure of the whole run is that of the rows left past the bytes counted so far (crate's proofs/Walking.antt).
use Prim.Native.Nat.{◌≤◌}
use mathlib.Core.Path.{◌≡◌}
use lib.ListN.{drop}
use Rattle.rows_measure.specs.Measuring.{records_of, too_long, sized, measured}
use Rattle.rows_measure.proofs.measure.Given as goal

abbrev pub invariant-loop-row : goal.invariant-loop-row
invariant-loop-row l =
    (l.total ≤ too_long) × (measured l.version l.rows ≡ sized l.total (records_of l.version (drop l.row-index l.rows)))
