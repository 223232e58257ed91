use Rattle.ledger.proofs.Walked.{walked_more, walked_all}
use Rattle.ledger.proofs.retell.retell.Goals as goal

pub loop-row-preserved : goal.loop-row-preserved
loop-row-preserved c =
    rw c.carry.ensures (walked_more _ _ _ _ _ c.loop-row.invariant c.loop-row-test.true (rw c.lent.ensures at c.one_call-did.ensures))

pub returns : goal.returns
returns c = walked_all _ _ _ _ c.loop-row.invariant c.loop-row-test.false
