-- By what was measured: a bad row, a text that has no room, or one that has (crate's proofs/Answering.antt).
use mathlib.Core.Path.{sym, ap, ◌∙◌}
use native.Mathlib.Omega.{arith}
use Rattle.std.specs.Prelude.{Err}
use Rattle.std.proofs.lemmas.Result.{err_from_is_err_and}
use Rattle.trace_writer.proofs.Answering.{measured_none, measured_some, refused_bad, refused_room, room_written, written-whole}
use Rattle.trace_writer.proofs.write.write_trace.Goals as goal

pub returns-in_err-n : goal.returns-in_err-n
returns-in_err-n c =
    let a = c.args in
    let (bad, refusal) = measured_none _ (sym c.ok_or.ensures.value ∙ c.in_err-n.was) in
    let p = err_from_is_err_and c.from_residual.result c.from_residual.ensures.1 in
    let said = refused_bad a.version a.rows.now a.buf.now (sym c.measure.ensures ∙ bad) in
    record { value = p.1 ∙ ap Err (p.2 ∙ refusal) ∙ said.0; buf_after = said.1 }

pub returns-then-min-n : goal.returns-then-min-n
returns-then-min-n c =
    let a = c.args in
    let m = sym c.measure.ensures ∙ measured_some _ (sym c.ok_or.ensures.value ∙ c.in_ok-n.was) in
    let said = refused_room a.version a.rows.now a.buf.now _ m (omega arith) in
    record { value = said.0; buf_after = said.1 }

pub write_text-requires : goal.write_text-requires
write_text-requires c =
    let a = c.args in
    let m = sym c.measure.ensures ∙ measured_some _ (sym c.ok_or.ensures.value ∙ c.in_ok-n.was) in
    let said = room_written a.version a.rows.now a.buf.now _ m (omega arith) (omega arith) in
    record { rows_value = said.0; rows_in_bounds = said.1 }

pub returns : goal.returns
returns c =
    let a = c.args in
    let m = sym c.measure.ensures ∙ measured_some _ (sym c.ok_or.ensures.value ∙ c.in_ok-n.was) in
    let said = written-whole a.version a.rows.now a.buf.now _ m (omega arith) (omega arith) c.write_text.ensures in
    record { value = said.0; buf_after = said.1 }
