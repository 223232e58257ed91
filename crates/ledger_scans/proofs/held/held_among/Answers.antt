use Prim.Native.Nat.{◌-◌}
use mathlib.Core.Path.{sym}
use native.Mathlib.Omega.{arith}
use Rattle.ledger_scans.proofs.Walk.{held_start, empty_place, lower_place, higher_place}
use Rattle.ledger_scans.proofs.held.held_among.Goals.{else-taken-place-ne0-via-then-taken-place-ne0+else-xmins-place}
use Rattle.ledger_scans.proofs.held.held_among.Goals.{else-taken-place-ne0-via-else-taken-place-ne0}
use Rattle.ledger_scans.proofs.held.held_among.Goals as goal

pub loop-place-init : goal.loop-place-init
loop-place-init c = sym (held_start _ _ _ _ _ c.min-place.ensures)

pub loop-place-preserved-then-xmins-place : goal.loop-place-preserved-then-xmins-place
loop-place-preserved-then-xmins-place c =
    let loop = c.loop-place in
    let a = c.args in
    let lower = lower_place a.first a.taken.now a.xmins.now a.before (loop.place - 1) (omega arith) (omega arith) (omega arith) loop.invariant in
    rw c.from.ensures (lower c.if-taken-place-ne0.true c.if-xmins-place.true)

pub loop-place-preserved : goal.loop-place-preserved
loop-place-preserved c =
    let loop = c.loop-place in
    let a = c.args in
    elim c.else-taken-place-ne0.branch [
      | else-taken-place-ne0-via-then-taken-place-ne0+else-xmins-place w ↦
          higher_place a.first a.taken.now a.xmins.now a.before (loop.place - 1) (omega arith) (omega arith) (omega arith) loop.invariant
          w.if-taken-place-ne0.true w.if-xmins-place.false
      | else-taken-place-ne0-via-else-taken-place-ne0 w ↦
          empty_place a.first a.taken.now a.xmins.now a.before (loop.place - 1) (omega arith) (omega arith) (omega arith) loop.invariant
          w.if-taken-place-ne0.false
    ]
