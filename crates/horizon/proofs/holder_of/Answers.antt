-- The pins are counted from 0, and what is told of them is 2,000 more: so it is where they are counted from 2,000 on
-- (`holder-further`).
use Rattle.model.proofs.Holding.{holder_further}
use Rattle.horizon.proofs.holder_of.Goals as goal

pub returns : goal.returns
returns c = rw (c.lowest_holder.ensures, c.lowest_holder-pin.ensures, holder_further)
