-- The invariant is `Walked` (crate's proofs/Walked.antt): the calls left, made on what was told so far, reach what the list does.
use Rattle.kinds.specs.declared.TheConstants.{SLOTS}
use Rattle.ledger.proofs.Walked.{Walked}
use Rattle.ledger.proofs.retell.retell.Given as goal

abbrev pub invariant-loop-row : goal.invariant-loop-row
invariant-loop-row l = Walked SLOTS l.calls l.t l.row-index
