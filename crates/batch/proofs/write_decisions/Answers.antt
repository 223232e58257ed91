use mathlib.Core.Path.{sym, ◌∙◌}
use native.Mathlib.Omega.{arith}
use Rattle.batch.proofs.Walk.{front_sets, sets_next, sets_over}
use Rattle.batch.proofs.write_decisions.Goals as goal

pub loop-place-preserved : goal.loop-place-preserved
loop-place-preserved c =
    let l = c.loop-place in
    let a = c.args in
    rw c.decision.ensures (l.invariant ∙ sets_next a.versions.now l.place a.line l.run (omega arith))

pub returns : goal.returns
returns c =
    let l = c.loop-place in
    let a = c.args in
    sym (front_sets a.line a.versions.now a.run.now (omega arith)
    ∙ l.invariant ∙ sets_over a.versions.now l.place a.line l.run (omega arith))
