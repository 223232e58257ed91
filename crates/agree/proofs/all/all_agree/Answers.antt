-- A text is a trace or breaks a rule. Of a trace every record agrees (records_agree); of another the answer is no.
use mathlib.Core.Path.{sym, ap, ◌∙◌}
use Rattle.agree.specs.Traces.{is_whole}
use Rattle.agree.proofs.all.all_agree.Goals as goal

pub returns-in-Ok : goal.returns-in-Ok
returns-in-Ok c =
    let whole = sym c.read_trace.ensures ∙ c.in-Ok.is in
    c.records_agree.ensures _ whole ∙ sym (ap is_whole whole)

pub returns-in-Err : goal.returns-in-Err
returns-in-Err c =
    let broken = sym c.read_trace.ensures ∙ c.in-Err.is in
    sym (ap is_whole broken)
