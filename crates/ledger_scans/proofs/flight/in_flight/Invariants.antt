-- The invariant is `Seen` (`Seen.antt`): the numbers of all slots are those of the slots left, taken up from the present ones.
use Rattle.ledger_scans.proofs.Seen.{Seen}
use Rattle.ledger_scans.proofs.flight.in_flight.Given as goal

abbrev pub invariant-loop-id : goal.invariant-loop-id
invariant-loop-id l =
    Seen l.txids l.sample l.flight l.id-index
