-- Without room for both nothing is written; with room, the table is put after the five lines (crate's proofs/Whole.antt).
use Prim.Native.Nat.{◌+◌, ◌≤◌}
use native.Mathlib.Omega.{arith}
use mathlib.Core.Path.{◌∙◌}
use lib.ListN.{length}
use Rattle.text.proofs.Splice.{no_room}
use Rattle.wait_report.specs.Report.{answer_text}
use Rattle.wait_report.proofs.Whole.{lines_short, answer_size, answer-put}
use Rattle.wait_report.proofs.put_answer.Goals as goal

pub returns-in_err-room : goal.returns-in_err-room
returns-in_err-room c =
    let a = c.args in
    let short = lines_short a.answer c.told_of-told.ensures c.verdict_length.ensures in
    let said = no_room a.out.now 0 (answer_text a.answer) (omega (arith, short, c.in_err-room.ensures)) in
    record { value = c.from_residual.ensures ∙ said.0; out_after = said.1 }

pub returns-then-room-table_length : goal.returns-then-room-table_length
returns-then-room-table_length c =
    let a = c.args in
    let size = answer_size a.answer c.told_of-told.ensures c.verdict_length.ensures c.table_length.ensures in
    let said = no_room a.out.now 0 (answer_text a.answer) (omega (arith, size, c.in_ok-room.ensures)) in
    record { value = said.0; out_after = said.1 }

pub returns : goal.returns
returns c =
    let a = c.args in
    let size = answer_size a.answer c.told_of-told.ensures c.verdict_length.ensures c.table_length.ensures in
    let room : 0 + length (answer_text a.answer) ≤ length a.out.now = omega (arith, size, c.in_ok-room.ensures) in
    let table = c.put_table.ensures in
    let said = answer-put a.answer c.told_of-told.ensures room c.verdict_lines-past.ensures table.value table.buf_after in
    record { value = said.0; out_after = said.1 }
