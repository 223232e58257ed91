use Prim.Native.Nat.{◌+◌, min}
use mathlib.Core.Path.{◌≡◌, sym, ◌∙◌}
use lib.ListN.{length}
use Rattle.trace.specs.Record.{record_text}
use native.Mathlib.Omega.{arith}
use Rattle.rows_measure.specs.Measuring.{too_long, measured}
use Rattle.rows_measure.proofs.Walking.{measure-good, measure_bad, measure_over}
use Rattle.rows_measure.proofs.measure.Goals as goal

pub loop-row-init : goal.loop-row-init
unfolding measured
loop-row-init c = (omega (arith, c.first_record-total.ensures), rw c.first_record-total.ensures)

pub loop-row-preserved : goal.loop-row-preserved
loop-row-preserved c =
    let l = c.loop-row in
    let a = c.args in
    let here = measure-good a.version a.rows.now l.row-index l.total _ (omega arith) (sym c.in_ok-r.was ∙ c.row_under.ensures) in
    let total : c.min-total.result ≡ min (l.total + length (record_text c.in_ok-r.r)) too_long = omega arith in
    (omega (arith, total), l.invariant.1 ∙ here ∙ rw total)

pub returns-in_err-r : goal.returns-in_err-r
returns-in_err-r c =
    let l = c.loop-row in
    let a = c.args in
    let bad = measure_bad a.version a.rows.now l.row-index l.total (omega arith) (sym c.in_err-r.was ∙ c.row_under.ensures) in
    c.from_residual.ensures ∙ sym (l.invariant.1 ∙ bad)

pub returns : goal.returns
returns c =
    let l = c.loop-row in
    let a = c.args in
    sym (l.invariant.1 ∙ measure_over a.version a.rows.now l.row-index l.total l.invariant.0 (omega arith))
