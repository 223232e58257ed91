-- The rows of the records left from `at` on fill the run from this row on (crate's proofs/Filling.antt).
use Rattle.trace.specs.Trace.{first_record, records_from}
use Rattle.rows_reader.specs.Reading.{rows_of, in_front}
use Rattle.rows_reader.proofs.Filling.{Filled}
use Rattle.rows_reader.proofs.fill_rows.Given as goal

abbrev pub invariant-loop-row : goal.invariant-loop-row
invariant-loop-row l = Filled l.s (in_front (rows_of (records_from l.s first_record)) l.initial.rows) l.rows l.at l.row-index
