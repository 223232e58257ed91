-- The owner, the clock and the sample are tested (proofs/Decided.antt).
use mathlib.Core.Path.{ap, ◌∙◌}
use Rattle.std.specs.Prelude.{Err}
use Rattle.std.proofs.lemmas.Result.{err_from_is_err_and}
use Rattle.place_snapshots.proofs.Decided.{own_tested, own_passes}
use Rattle.place_snapshots.proofs.calls.OwnShows.test.Goals as goal

pub returns-in_err-own_test : goal.returns-in_err-own_test
returns-in_err-own_test c =
    let p = err_from_is_err_and c.from_residual.result c.from_residual.ensures.1 in
    rw (p.1 ∙ ap Err p.2) (own_tested _ _ _ _ _ _ c.in_err-own_test.ensures)

pub returns : goal.returns
returns c = own_passes _ _ _ _ _ _ (own_tested _ _ _ _ _ _ c.in_ok-own_test.ensures) c.observed.ensures
