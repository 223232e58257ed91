-- The clock and the sample are tested (proofs/Decided.antt).
use mathlib.Core.Path.{sym, ap, ◌∙◌}
use Rattle.std.specs.Prelude.{Err}
use Rattle.std.proofs.lemmas.Result.{err_from_is_err_and}
use Rattle.place_snapshots.proofs.Decided.{snap_refused, snap_passes}
use Rattle.place_snapshots.proofs.calls.SnapShows.test.Goals as goal

pub returns-in_err-observation_test : goal.returns-in_err-observation_test
returns-in_err-observation_test c =
    let p = err_from_is_err_and c.from_residual.result c.from_residual.ensures.1 in
    rw (p.1 ∙ ap Err p.2) (snap_refused _ _ _ _ (sym c.in_err-observation_test.ensures))

pub returns : goal.returns
returns c = snap_passes _ _ _ _ (sym c.in_ok-observation_test.ensures) c.observed.ensures
