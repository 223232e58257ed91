-- The places hold the ids that the walk has come to, and zeros (`Ids.antt`).
use mathlib.Core.Path.{◌≡◌}
use lib.ListN.{length, take}
use Rattle.kinds.specs.declared.TheConstants.{SLOTS}
use Rattle.model.specs.Tally.{active, places}
use Rattle.ledger_scans.proofs.flight.listed_ids.Given as goal

abbrev pub invariant-loop-place : goal.invariant-loop-place
invariant-loop-place l =
    l.ids ≡ places SLOTS (take (length l.yielded) (active l.fn.txids))
