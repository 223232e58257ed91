-- Of no id the list is zeros.
use borrow.Author.Tests.{eq-eqb}
use Rattle.ledger.specs.Said.{listed_by}
use Rattle.ledger.proofs.answer.ids_beside.Goals as goal

pub returns-then-count-eq0 : goal.returns-then-count-eq0
unfolding listed_by
returns-then-count-eq0 c = rw (eq-eqb _ _ c.if-count-eq0.true)
