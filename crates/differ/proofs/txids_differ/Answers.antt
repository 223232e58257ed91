use mathlib.Core.Path.{◌≡◌, sym, ◌∙◌, refl}
use native.Mathlib.Omega.{arith}
use Rattle.differ.proofs.Marks.{seen_none, seen-empty, seen_once, seen_twice, unmarked, searched}
use Rattle.differ.proofs.txids_differ.Goals as goal
use Rattle.differ.proofs.txids_differ.Goals.{else-marks-mark-via-then-marks-mark+else-contains, else-marks-mark-via-else-marks-mark}

pub loop-i-init : goal.loop-i-init
loop-i-init c = seen_none 4096 _ c.args.txids.now refl

pub loop-i-preserved-then-txid-eq0 : goal.loop-i-preserved-then-txid-eq0
loop-i-preserved-then-txid-eq0 c = seen-empty c.loop-i.invariant c.loop-i-test.true c.loop-i.auto.i c.if-txid-eq0.true

pub returns-then-contains : goal.returns-then-contains
returns-then-contains c =
    let l = c.loop-i in
    sym (seen_twice l.invariant c.loop-i-test.true l.auto.i c.if-txid-eq0.false (sym (searched l.invariant c.loop-i-test.true l.auto.i) ∙ sym c.contains.ensures.value ∙ c.if-contains.true))

pub loop-i-preserved : goal.loop-i-preserved
loop-i-preserved c =
    let l = c.loop-i in
    seen_once l.invariant c.loop-i-test.true l.auto.i (omega arith) c.if-txid-eq0.false
    (elim c.else-marks-mark.branch [
      | else-marks-mark-via-then-marks-mark+else-contains w ↦ sym (searched l.invariant c.loop-i-test.true l.auto.i) ∙ sym w.contains.ensures.value ∙ w.if-contains.false
      | else-marks-mark-via-else-marks-mark w ↦ unmarked l.invariant c.loop-i-test.true l.auto.i c.if-txid-eq0.false w.if-marks-mark.false
    ])

pub returns : goal.returns
returns c =
    let none : c.loop-i.i ≡ 0 = omega arith in
    sym (rw none at c.loop-i.invariant.apart)
