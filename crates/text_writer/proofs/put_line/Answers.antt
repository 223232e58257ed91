-- `put_line` meets its contract: the line has no room, or its key, its digits and the newline are put.
use mathlib.Core.Path.{◌∙◌}
use native.Mathlib.Omega.{arith}
use Rattle.text.proofs.Splice.{line_short, line-put, splice_part}
use Rattle.text_writer.proofs.put_line.Goals as goal

pub returns-in_err-last_place : goal.returns-in_err-last_place
returns-in_err-last_place c =
    let a = c.args in
    let d = c.digits_in-digits in
    let said = line_short a.buf.now a.at a.key.now a.n d.result d.ensures.value (omega arith) in
    record { value = c.from_residual.ensures ∙ said.0; buf_after = said.1 }

pub returns-then-last_place-at : goal.returns-then-last_place-at
returns-then-last_place-at c =
    let a = c.args in
    let d = c.digits_in-digits in
    let said = line_short a.buf.now a.at a.key.now a.n d.result d.ensures.value (omega arith) in
    record { value = said.0; buf_after = said.1 }

pub returns : goal.returns
returns c =
    let a = c.args in
    let d = c.digits_in-digits in
    let key = splice_part a.buf.now a.at _ _ a.key.now c.copy_from_slice.ensures.after (omega arith) in
    let said = line-put a.buf.now a.at a.key.now a.n d.result d.ensures.value (omega arith) key c.place_digits.ensures in
    record { value = said.0; buf_after = said.1 }
