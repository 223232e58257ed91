-- The records left from this row on put the rest of the text at the place that was reached (crate's proofs/Judging.antt).
use mathlib.Core.Path.{◌≡◌}
use lib.ListN.{length}
use Rattle.text.specs.Write.{spliced}
use Rattle.rows_measure.specs.Measuring.{records_of, listed, records_text}
use Rattle.trace_writer.proofs.Judging.{Left}
use Rattle.trace_writer.proofs.write.write_text.Given as goal

abbrev pub invariant-loop-row : goal.invariant-loop-row
invariant-loop-row l =
    (length l.buf ≡ length l.initial.buf)
    × Left l.version l.rows (spliced l.initial.buf l.initial.at (records_text (listed (records_of l.version l.rows)))) l.buf l.at l.row-index
