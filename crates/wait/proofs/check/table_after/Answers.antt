-- `table_after` meets its contract: a text that breaks its grammar, an entry that is refused, and the steps.
use Rattle.std.proofs.Common.{Err, ap, sym, ◌∙◌, rules}
use Rattle.std.proofs.lemmas.Result.{err_from_is_err_and, MatchResult-weaker}
use Rattle.wait.proofs.Running.{whole-opens, wait_broken, wait_refused, wait_stepped}
use Rattle.wait.proofs.check.table_after.Goals as goal

pub returns-in_err-map_err : goal.returns-in_err-map_err
returns-in_err-map_err c =
    let told = MatchResult-weaker c.read_wait.result c.in_err-map_err.ensures.cases (λ m h. cc) (λ k h. search rules) in
    let p = err_from_is_err_and c.from_residual.result c.from_residual.ensures.1 in
    rw (p.1 ∙ ap Err p.2) (wait_broken _ _ c.read_wait.ensures _ _ _ _ told)

pub returns-in_err-entry_test : goal.returns-in_err-entry_test
returns-in_err-entry_test c =
    let p = err_from_is_err_and c.from_residual-in_err-entry_test.result c.from_residual-in_err-entry_test.ensures.1 in
    rw (p.1 ∙ ap Err p.2)
    (wait_refused _ _ c.read_wait.ensures _ _ _ c.in_ok-map_err.ensures.variant _ c.lend.ensures _ (sym c.in_err-entry_test.ensures))

pub run_steps-requires : goal.run_steps-requires
run_steps-requires c = whole-opens _ _ c.read_wait.ensures c.in_ok-map_err.ensures.variant

pub returns : goal.returns
returns c =
    c.run_steps.ensures
    ∙ wait_stepped _ _ c.read_wait.ensures _ _ _ c.in_ok-map_err.ensures.variant _ c.lend.ensures (sym c.in_ok-entry_test.ensures)
