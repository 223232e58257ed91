-- The invariant: the whole run is what the decisions left put from the place of the next on (crate's proofs/Walk.antt).
use mathlib.Core.Path.{◌≡◌}
use lib.ListN.{drop}
use lib.Seq.{sets}
use Rattle.batch.specs.Batch.{decisions}
use Rattle.batch.proofs.write_decisions.Given as goal

abbrev pub invariant-loop-place : goal.invariant-loop-place
invariant-loop-place l =
    sets l.initial.run 0 (decisions l.line l.versions) ≡ sets l.run l.place (decisions l.line (drop l.place l.versions))
