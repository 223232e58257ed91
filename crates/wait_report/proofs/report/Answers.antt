-- By what the table's text was read as (crate's proofs/Whole.antt).
use mathlib.Core.Path.{sym, ◌∙◌}
use Rattle.wait_report.proofs.Whole.{report_broken, report-whole}
use Rattle.wait_report.proofs.report.Goals as goal

pub returns-in-Ok : goal.returns-in-Ok
returns-in-Ok c =
    let a = c.args in
    let said = report-whole _ a.table.now a.owner a.wait.now a.out.now _ (sym c.read_table.ensures ∙ c.in-Ok.is)
    c.check_wait.ensures (c.put_answer.ensures.value, c.put_answer.ensures.out_after) in
    record { result_value = said.0; out_after = said.1 }

pub returns-in-Err : goal.returns-in-Err
returns-in-Err c =
    let a = c.args in
    let said = report_broken _ a.table.now a.owner a.wait.now a.out.now _ (sym c.read_table.ensures ∙ c.in-Err.is)
    c.tell.ensures (c.put_verdict.ensures.value, c.put_verdict.ensures.out_after) in
    record { result_value = said.0; out_after = said.1 }
