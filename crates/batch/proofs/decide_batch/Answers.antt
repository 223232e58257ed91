-- Each exit is one case of the answer, with the run that it leaves.
use mathlib.Core.Path.{sym, ap, ◌∙◌}
use borrow.Author.Tests.{lt-ltb, le-ltb}
use Rattle.std.specs.Prelude.{Err}
use Rattle.std.proofs.lemmas.Result.{err_from_is_err_and}
use Rattle.batch.specs.Batch.{batch_of, decisions_left}
use Rattle.batch.proofs.decide_batch.Goals as goal

pub returns-then-run-versions : goal.returns-then-run-versions
unfolding batch_of decisions_left
returns-then-run-versions c =
    let short = lt-ltb _ _ c.if-run-versions.true in
    record { value = rw short; run_after = rw short }

pub returns-in_err-judge : goal.returns-in_err-judge
unfolding batch_of decisions_left
returns-in_err-judge c =
    let room = le-ltb _ _ c.if-run-versions.false in
    let bad = sym c.judge.ensures ∙ c.in_err-judge.was in
    let p = err_from_is_err_and c.from_residual.result c.from_residual.ensures.1 in
    record { value = rw (p.1 ∙ ap Err p.2, room, bad); run_after = rw (room, bad) }

pub returns : goal.returns
unfolding batch_of decisions_left
returns c =
    let room = le-ltb _ _ c.if-run-versions.false in
    let good = sym c.judge.ensures ∙ c.in_ok-judge.was in
    record { value = rw (room, good); run_after = rw (room, good) c.write_decisions.ensures }
