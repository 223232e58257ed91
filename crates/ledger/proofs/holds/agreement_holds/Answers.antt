-- The theorem about lists (crate's proofs/Agreed.antt), at these two numbers.
use Rattle.ledger.proofs.Agreed.{agreement}
use Rattle.ledger.proofs.holds.agreement_holds.Goals as goal

pub returns : goal.returns
returns c = agreement _ _
