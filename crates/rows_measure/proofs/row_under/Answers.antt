-- By what the row is.
use mathlib.Core.Path.{sym, ◌∙◌}
use Rattle.rows_measure.proofs.Walking.{row_none, row_some}
use Rattle.rows_measure.proofs.row_under.Goals as goal

pub returns-in_err-r : goal.returns-in_err-r
returns-in_err-r c =
    let a = c.args in
    c.from_residual.ensures ∙ row_none a.version a.row _ c.record_of.ensures (sym c.ok.ensures.value ∙ c.in_err-r.was)

pub returns : goal.returns
returns c =
    let a = c.args in
    let some = row_some a.version a.row _ c.in_ok-r.r c.record_of.ensures (sym c.ok.ensures.value ∙ c.in_ok-r.was) in
    rw (c.then_some.ensures, c.allows.ensures) some
