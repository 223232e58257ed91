-- The theorem of crate model, at the table's number of slots, which is not below three.
use native.Mathlib.Omega.{arith}
use Rattle.model.proofs.Edges.{rows_hold}
use Rattle.table.proofs.holds.rows_hold.Goals as goal

pub returns : goal.returns
returns c = rows_hold _ (omega arith)
