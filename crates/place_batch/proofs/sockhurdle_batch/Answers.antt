-- Each exit is one case of the answer, with what it leaves in the runs.
use mathlib.Core.Path.{sym, ◌∙◌}
use Rattle.place_batch.specs.Batched.{batch_number, batch_run, batch_out}
use Rattle.place_batch.proofs.sockhurdle_batch.Goals as goal

pub returns-then-is_empty : goal.returns-then-is_empty
unfolding batch_number batch_run batch_out
returns-then-is_empty c =
    let b = sym c.is_empty.ensures ∙ c.if-is_empty.true in
    record { value = rw b c.number_of.ensures; run_after = rw b; out_after = rw b }

pub returns-in-Ok : goal.returns-in-Ok
unfolding batch_number batch_run batch_out
returns-in-Ok c =
    let b = sym c.is_empty.ensures ∙ c.if-is_empty.false in
    let decided = c.decide_batch.ensures in
    let good = sym decided.value ∙ c.in-Ok.is in
    record { value = rw (b, good); run_after = rw b decided.run_after; out_after = rw (b, good) }

pub returns-in-Err : goal.returns-in-Err
unfolding batch_number batch_run batch_out
returns-in-Err c =
    let b = sym c.is_empty.ensures ∙ c.if-is_empty.false in
    let decided = c.decide_batch.ensures in
    let bad = sym decided.value ∙ c.in-Err.is in
    record { value = rw (b, bad) c.number_of-in-Err.ensures; run_after = rw b decided.run_after; out_after = rw (b, bad) }
