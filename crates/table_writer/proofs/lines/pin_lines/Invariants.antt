-- Invariant: the whole, put where it belongs, is what the lines left put at the place that was reached (proofs/Walk.antt of crate
-- table_measure).
use lib.ListN.{drop}
use Rattle.table_measure.specs.Lines.{pin_lines}
use Rattle.table_measure.proofs.Walk.{Left}
use Rattle.table_writer.proofs.lines.pin_lines.Given as goal

abbrev pub invariant-loop-xmin : goal.invariant-loop-xmin
invariant-loop-xmin l =
    let t = l.table in
    Left (pin_lines t.pins t.counters) l.initial.buf l.at l.buf l.past (pin_lines (drop l.xmin-index t.pins) t.counters)
