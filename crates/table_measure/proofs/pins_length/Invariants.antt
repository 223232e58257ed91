-- Invariant: the length of all lines is what was counted and that of the lines left (crate's proofs/Walk.antt).
use Prim.Native.Nat.{◌+◌, ◌*◌, ◌≤◌}
use mathlib.Core.Path.{◌≡◌}
use lib.ListN.{length, drop}
use Rattle.table_measure.specs.Lines.{pin_lines}
use Rattle.table_measure.proofs.pins_length.Given as goal

abbrev pub invariant-loop-xmin : goal.invariant-loop-xmin
invariant-loop-xmin l =
    let t = l.table in
    (l.total ≤ 25 * l.xmin-index) × (length (pin_lines t.pins t.counters) ≡ l.total + length (pin_lines (drop l.xmin-index t.pins) t.counters))
