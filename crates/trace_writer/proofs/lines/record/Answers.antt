-- Six lines, each of which begins where the one before it ended (crate's proofs/Texts.antt).
use mathlib.Core.Path.{◌≡◌, refl, ap}
use native.Mathlib.Omega.{arith}
use lib.ListN.{length}
use Rattle.text.specs.Line.{line_text}
use Rattle.text.proofs.Placed.{line_with_room, placed_same}
use Rattle.rows_measure.specs.TwoLines.{two_lines}
use Rattle.trace_writer.proofs.Texts.{two_lines_lem, two_fits, id_fits, stamp-fits, clock_fits, sample_fits, record_placed}
use Rattle.trace_writer.proofs.lines.record.Goals as goal

pub returns : goal.returns
returns c =
    let r = c.args.r in
    let buf = c.args.buf.now in
    let at = c.args.at in
    let room = c.requires in
    let same : line_text c.op_and_slot_key.result.now r.slot ≡ two_lines r.op r.slot =
    rw c.op_and_slot_key.ensures (two_lines_lem r.op r.slot) in
    let said = c.line-a.ensures in
    let first = line_with_room buf at _ r.slot refl said.buf_after said.value (omega (arith, ap length same, two_fits r buf at room)) in
    let two = placed_same same first in
    let said = c.line-b.ensures in
    let id = line_with_room _ _ _ r.id refl said.buf_after said.value (id_fits r buf at room two) in
    let said = c.line-c.ensures in
    let stamp = line_with_room _ _ _ r.stamp refl said.buf_after said.value (stamp-fits r buf at room two id) in
    let said = c.line-d.ensures in
    let clock = line_with_room _ _ _ r.clock refl said.buf_after said.value (clock_fits r buf at room two id stamp) in
    let said = c.line.ensures in
    let sample = line_with_room _ _ _ r.sample refl said.buf_after said.value (sample_fits r buf at room two id stamp clock) in
    record_placed r buf at room two id stamp clock sample
