use native.Mathlib.Omega.{arith}
use mathlib.Core.Path.{◌∙◌}
use Rattle.std.proofs.lemmas.Result.{err_from_is_err_and}
use Rattle.table_text.proofs.Reading.{line_is, exits, header_is, no_header, slots_start, no_txid, no_xmin, slots_next, pins_start, no_pin, pins_next}
use Rattle.table_text.proofs.Reading.{no_clock, no_sample, no_line, more_stands, all_read}
use Rattle.table_text.proofs.read.read_table.Goals as goal

pub returns-in_err-at : goal.returns-in_err-at
returns-in_err-at c =
    let p = err_from_is_err_and c.from_residual.result c.from_residual.ensures.1 in
    rw (p.1, p.2) (no_header _ _ (c.in_err-at.ensures.value ∙ rw c.past_bytes.ensures))

pub loop-i-init : goal.loop-i-init
loop-i-init c =
    let (headed, at) = header_is c.args.s.now 1 (c.in_ok-at.ensures.value ∙ rw c.past_bytes.ensures) in
    rw at (slots_start _ _ headed c.zeros-txids.ensures c.zeros-snapshot_xmins.ensures)

pub returns-in_err-txid : goal.returns-in_err-txid
returns-in_err-txid c = exits c.from_residual-in_err-txid.result _ _ _ c.from_residual-in_err-txid.ensures.1 c.in_err-txid.ensures (no_txid _ _ c.loop-i.invariant c.loop-i-test.true)

pub returns-in_err-xmin : goal.returns-in_err-xmin
returns-in_err-xmin c = exits c.from_residual-in_err-xmin.result _ _ _ c.from_residual-in_err-xmin.ensures.1 c.in_err-xmin.ensures (no_xmin _ _ c.loop-i.invariant c.loop-i-test.true (line_is _ _ c.in_ok-txid.ensures))

pub loop-i-preserved : goal.loop-i-preserved
loop-i-preserved c =
    slots_next _ _ c.loop-i.invariant c.loop-i-test.true (line_is _ _ c.in_ok-txid.ensures) (line_is _ _ c.in_ok-xmin.ensures)

pub loop-k-init : goal.loop-k-init
loop-k-init c = pins_start _ _ c.loop-i.invariant (omega arith) (omega arith) c.free_pins-pins.ensures

pub returns-in_err-xmin-2 : goal.returns-in_err-xmin-2
returns-in_err-xmin-2 c = exits c.from_residual-in_err-xmin-2.result _ _ _ c.from_residual-in_err-xmin-2.ensures.1 c.in_err-xmin-2.ensures (no_pin _ _ c.loop-k.invariant c.loop-k-test.true)

pub loop-k-preserved : goal.loop-k-preserved
loop-k-preserved c = pins_next _ _ c.loop-k.invariant c.loop-k-test.true (line_is _ _ c.in_ok-xmin-2.ensures)

pub returns-in_err-clock : goal.returns-in_err-clock
returns-in_err-clock c = exits c.from_residual-in_err-clock.result _ _ _ c.from_residual-in_err-clock.ensures.1 c.in_err-clock.ensures (no_clock _ _ c.loop-k.invariant (omega arith) (omega arith))

pub returns-in_err-sampled_clock : goal.returns-in_err-sampled_clock
returns-in_err-sampled_clock c = exits c.from_residual-in_err-sampled_clock.result _ _ _ c.from_residual-in_err-sampled_clock.ensures.1 c.in_err-sampled_clock.ensures (no_sample _ _ c.loop-k.invariant (omega arith) (omega arith) (line_is _ _ c.in_ok-clock.ensures))

pub returns-in_err-vacuum_line : goal.returns-in_err-vacuum_line
returns-in_err-vacuum_line c = exits c.from_residual-in_err-vacuum_line.result _ _ _ c.from_residual-in_err-vacuum_line.ensures.1 c.in_err-vacuum_line.ensures (no_line _ _ c.loop-k.invariant (omega arith) (omega arith) (line_is _ _ c.in_ok-clock.ensures) (line_is _ _ c.in_ok-sampled_clock.ensures))

pub returns-then-end-s : goal.returns-then-end-s
returns-then-end-s c =
    more_stands _ _ c.loop-k.invariant (omega arith) (omega arith)
    (line_is _ _ c.in_ok-clock.ensures) (line_is _ _ c.in_ok-sampled_clock.ensures) (line_is _ _ c.in_ok-vacuum_line.ensures) c.if-end-s.true

pub returns : goal.returns
returns c =
    all_read _ _ c.loop-k.invariant (omega arith) (omega arith)
    (line_is _ _ c.in_ok-clock.ensures) (line_is _ _ c.in_ok-sampled_clock.ensures) (line_is _ _ c.in_ok-vacuum_line.ensures) c.if-end-s.false
