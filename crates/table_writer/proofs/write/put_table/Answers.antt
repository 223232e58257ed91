-- Without room nothing is written; with room, line 1 and the lines under it are put one after the other (proofs/Walk.antt of crate
-- table_measure).
use Prim.Native.Nat.{◌+◌, ◌≤◌}
use native.Mathlib.Omega.{arith}
use mathlib.Core.Path.{◌∙◌}
use lib.ListN.{length}
use Rattle.text.proofs.Splice.{no_room}
use Rattle.text.proofs.Placed.{placed_put}
use Rattle.table_text.specs.TableText.{table_text}
use Rattle.table_measure.proofs.Walk.{header_fits, under_fits, table_placed}
use Rattle.table_writer.proofs.write.put_table.Goals as goal

pub returns-in_err-last_place : goal.returns-in_err-last_place
returns-in_err-last_place c =
    let a = c.args in
    let said = no_room a.buf.now a.at (table_text a.table) (omega arith) in
    record { value = c.from_residual.ensures ∙ said.0; buf_after = said.1 }

pub returns-then-last_place-at : goal.returns-then-last_place-at
returns-then-last_place-at c =
    let a = c.args in
    let said = no_room a.buf.now a.at (table_text a.table) (omega arith) in
    record { value = said.0; buf_after = said.1 }

pub first_line-first-requires : goal.first_line-first-requires
first_line-first-requires c = header_fits c.args.table c.args.buf.now c.args.at (omega arith)

pub lines_under-requires : goal.lines_under-requires
lines_under-requires c = under_fits c.args.table c.args.buf.now c.args.at (omega arith) c.first_line-first.ensures

pub returns : goal.returns
returns c =
    let a = c.args in
    let room : a.at + length (table_text a.table) ≤ length a.buf.now = omega arith in
    let said = placed_put room (table_placed a.table a.buf.now a.at room c.first_line-first.ensures c.lines_under.ensures) in
    record { value = said.0; buf_after = said.1 }
