-- The second test is made where the first passes, as `then` has it. The owner is looked up among all lent slots, which is the
-- same as among the first ones (`Cut`).
use Rattle.std.proofs.Common.{Err, ap, ◌∙◌}
use Rattle.std.proofs.lemmas.Result.{err_from_is_err_and}
use Rattle.own_call.proofs.Cut.{own_refusal}
use Rattle.own_call.proofs.own_test.Goals as goal

pub returns-in_err-owner_test : goal.returns-in_err-owner_test
returns-in_err-owner_test c =
    let p = err_from_is_err_and c.from_residual.result c.from_residual.ensures.1 in
    rw (p.1 ∙ ap Err p.2, own_refusal, ← c.in_err-owner_test.ensures)

pub returns : goal.returns
returns c = rw (own_refusal, ← c.in_ok-owner_test.ensures) c.observation_test.ensures
