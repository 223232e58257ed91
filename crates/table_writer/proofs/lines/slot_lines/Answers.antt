-- Two lines, the second where the first ended (proofs/Walk.antt of crate table_measure).
use mathlib.Core.Path.{refl}
use Rattle.text.specs.Keys.{txid_key, xmin_key}
use Rattle.text.proofs.Placed.{line_with_room}
use Rattle.table_measure.proofs.Walk.{slot_placed}
use Rattle.table_writer.proofs.lines.slot_lines.Goals as goal

pub returns : goal.returns
returns c =
    let a = c.args in
    let first = c.line-a.ensures in
    let second = c.line.ensures in
    slot_placed a.txid a.xmin c.requires
    (line_with_room _ _ txid_key a.txid refl first.buf_after first.value)
    (line_with_room _ _ xmin_key a.xmin refl second.buf_after second.value)
