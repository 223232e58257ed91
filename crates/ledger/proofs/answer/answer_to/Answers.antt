-- What the retold list leaves is what the history reaches; the call on it says this (crate's proofs/Shows.antt).
use Rattle.ledger.specs.Said.{worked_out}
use Rattle.ledger.proofs.Shows.{said_is}
use Rattle.ledger.proofs.answer.answer_to.Goals as goal

pub returns : goal.returns
unfolding worked_out
returns c =
    rw (← c.retell-t.ensures) (said_is _ _ _ (rw c.lent.ensures at c.one_call.ensures) c.ids_beside.ensures)
