use mathlib.Core.Path.{◌≡◌, ap}
use native.Mathlib.Omega.{arith}
use lib.ListN.{length}
use Rattle.std.specs.Iterator.Adapters.{zip_first, zip_second}
use Rattle.std.specs.Slice.Iter.{iter_rest}
use Rattle.table_measure.proofs.Walk.{left_start, piece_room, piece_put, last_room, last_put, slot_here, slots_over}
use Rattle.table_writer.proofs.lines.lines_under.Goals as goal

pub loop-txid-init : goal.loop-txid-init
loop-txid-init c =
    let t = c.args.table.now in
    let txids : iter_rest (zip_first c.into_iter-txid-iterator.result) ≡ t.txids = cc in
    let xmins : iter_rest (zip_second c.into_iter-txid-iterator.result) ≡ t.snapshot_xmins = cc in
    (omega (arith, ap length txids, ap length xmins), rw (txids, xmins) (left_start _ c.args.buf.now c.args.at))

pub slot_lines-past-requires : goal.slot_lines-past-requires
slot_lines-past-requires c =
    let t = c.args.table.now in
    let steps = c.in-Some.ensures.steps in
    piece_room c.requires c.loop-txid.invariant.1 _ _ (slot_here t.pins t.counters steps.0 steps.1)

pub loop-txid-preserved : goal.loop-txid-preserved
loop-txid-preserved c =
    let t = c.args.table.now in
    let steps = c.in-Some.ensures.steps in
    let here = slot_here t.pins t.counters steps.0 steps.1 in
    (omega (arith, ap length steps.0, ap length steps.1), piece_put c.requires c.loop-txid.invariant.1 _ _ here c.slot_lines-past.ensures)

pub pin_lines-requires : goal.pin_lines-requires
pin_lines-requires c =
    let t = c.args.table.now in
    let l = c.loop-txid in
    last_room c.requires l.invariant.1 _ (slots_over t.pins t.counters l.txid-iterator l.invariant.0 c.in-None.ensures.steps)

pub returns : goal.returns
returns c =
    let t = c.args.table.now in
    let l = c.loop-txid in
    last_put c.requires l.invariant.1 _ (slots_over t.pins t.counters l.txid-iterator l.invariant.0 c.in-None.ensures.steps)
    c.pin_lines.ensures
