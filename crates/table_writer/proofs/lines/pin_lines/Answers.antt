use mathlib.Core.Path.{refl}
use native.Mathlib.Omega.{arith}
use lib.ListN.{get_or}
use Rattle.text.proofs.Placed.{line_with_room}
use Rattle.table_text.specs.TableText.{pin_key}
use Rattle.table_measure.proofs.Walk.{left_start, piece_room, piece_put, last_room, last_put, pin_here, pins_over}
use Rattle.table_writer.proofs.lines.pin_lines.Goals as goal

pub loop-xmin-init : goal.loop-xmin-init
loop-xmin-init c = left_start _ c.args.buf.now c.args.at

pub loop-xmin-preserved : goal.loop-xmin-preserved
loop-xmin-preserved c =
    let t = c.args.table.now in
    let l = c.loop-xmin in
    let here = pin_here t.pins t.counters l.xmin-index (omega arith) in
    let said = c.line-past.ensures in
    let room = piece_room c.requires l.invariant _ _ here in
    piece_put c.requires l.invariant _ _ here (line_with_room _ _ pin_key (get_or t.pins l.xmin-index 0) refl said.buf_after said.value room)

pub counter_lines-requires : goal.counter_lines-requires
counter_lines-requires c =
    let t = c.args.table.now in
    let l = c.loop-xmin in
    last_room c.requires l.invariant _ (pins_over t.pins t.counters l.xmin-index (omega arith))

pub returns : goal.returns
returns c =
    let t = c.args.table.now in
    let l = c.loop-xmin in
    last_put c.requires l.invariant _ (pins_over t.pins t.counters l.xmin-index (omega arith)) c.counter_lines.ensures
