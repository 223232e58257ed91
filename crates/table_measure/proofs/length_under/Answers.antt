use mathlib.Core.Path.{ap}
use native.Mathlib.Omega.{arith}
use lib.ListN.{length}
use Rattle.table_measure.proofs.Walk.{slot_counted, slots_over}
use Rattle.table_measure.proofs.length_under.Goals as goal

pub loop-txid-preserved : goal.loop-txid-preserved
loop-txid-preserved c =
    let t = c.args.table.now in
    let steps = c.in-Some.ensures.steps in
    let here = slot_counted t.pins t.counters steps.0 steps.1 in
    (omega (arith, ap length steps.0, ap length steps.1), omega (arith, ap length steps.0), omega (arith, here))

pub returns : goal.returns
returns c =
    let t = c.args.table.now in
    let l = c.loop-txid in
    let over = ap length (slots_over t.pins t.counters l.txid-iterator l.invariant.0 c.in-None.ensures.steps) in
    record { value = omega (arith, over); upper_bound = omega arith }
