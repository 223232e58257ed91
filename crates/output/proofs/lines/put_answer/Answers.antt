-- Where there is room for the whole, each writer has its part of it (crate's proofs/Wrote.antt).
use Prim.Native.Nat.{◌≤◌}
use mathlib.Core.Path.{sym, ◌∙◌}
use native.Mathlib.Omega.{arith}
use lib.ListN.{length}
use Rattle.output.specs.Output.{answer_text}
use Rattle.output.proofs.Wrote.{wrote_then, put_room, put_no_room}
use Rattle.output.proofs.lines.put_answer.Goals as goal

pub returns : goal.returns
unfolding answer_text
returns c =
    let a = c.args in
    let e = sym c.has_room.ensures.value ∙ c.if-not-has_room.false in
    let start : a.at ≤ length a.buf.now = omega (arith, c.has_room.ensures.room c.if-not-has_room.false) in
    let eight = wrote_then start c.told_lines-four.ensures c.rest_lines-eight.ensures in
    let nine = wrote_then start eight c.holder_line-nine.ensures in
    let said = put_room a.version _ a.buf.now a.at a.n.count _ e (wrote_then start nine c.in_lines.ensures) in
    record { result_value = said.0; buf_after = said.1 }

pub returns-then-not-has_room : goal.returns-then-not-has_room
returns-then-not-has_room c =
    let a = c.args in
    let said = put_no_room a.version _ a.buf.now a.at a.n.count _ (sym c.has_room.ensures.value ∙ c.if-not-has_room.true) in
    record { result_value = said.0; buf_after = said.1 }
