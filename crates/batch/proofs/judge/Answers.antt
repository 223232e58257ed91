use mathlib.Core.Path.{sym, ap, ◌∙◌}
use native.Mathlib.Omega.{arith}
use borrow.Author.Rules.{rules}
use Rattle.std.specs.Prelude.{Err}
use Rattle.std.proofs.lemmas.Result.{err_from_is_err_and}
use Rattle.batch.proofs.Walk.{placed, judged-next, judged_bad, judged_over}
use Rattle.batch.proofs.judge.Goals as goal

pub returns-in_err-map_err : goal.returns-in_err-map_err
returns-in_err-map_err c =
    let l = c.loop-place in
    let placed = placed _ l.place-counter c.version_test.result _ (λ r bad k. ap Err (search rules)) c.map_err.ensures.cases in
    let bad = judged_bad c.args.versions.now l.place-counter (omega arith) c.version_test.ensures placed c.in_err-map_err.was in
    let p = err_from_is_err_and c.from_residual.result c.from_residual.ensures.1 in
    p.1 ∙ ap Err p.2 ∙ sym (l.invariant ∙ bad)

pub loop-place-preserved : goal.loop-place-preserved
loop-place-preserved c =
    let l = c.loop-place in
    let placed = placed _ l.place-counter c.version_test.result _ (λ r bad k. ap Err (search rules)) c.map_err.ensures.cases in
    l.invariant ∙ judged-next c.args.versions.now l.place-counter (omega arith) c.version_test.ensures placed c.in_ok-map_err.was

pub returns : goal.returns
returns c = sym (c.loop-place.invariant ∙ judged_over _ c.loop-place.place-counter (omega arith))
