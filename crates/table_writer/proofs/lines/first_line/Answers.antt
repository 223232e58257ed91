-- Line 1 is the line of `table=proc-` and a number (proofs/Walk.antt of crate table_measure).
use native.Mathlib.Omega.{arith}
use mathlib.Core.Path.{refl, ap}
use lib.ListN.{length}
use Rattle.text.specs.Bytes.{bytes}
use Rattle.text.proofs.Placed.{line_with_room, placed_same}
use Rattle.table_measure.proofs.Walk.{header-line}
use Rattle.table_writer.proofs.lines.first_line.Goals as goal

pub returns : goal.returns
returns c =
    let said = c.line.ensures in
    placed_same header-line
    (line_with_room _ _ (bytes "table=proc-") 1 refl said.buf_after said.value (omega (arith, ap length header-line)))
