-- The invariant: the whole batch is answered as the versions left are, counted from the place of the next (crate's proofs/Walk.antt).
use mathlib.Core.Path.{◌≡◌}
use lib.ListN.{drop}
use Rattle.batch.specs.Batch.{judged_from}
use Rattle.batch.proofs.judge.Given as goal

abbrev pub invariant-loop-place : goal.invariant-loop-place
invariant-loop-place l = judged_from 0 l.versions ≡ judged_from l.place-counter (drop l.place-counter l.versions)
