-- Both columns are zeros, the pins are free, and the three counters 1.
use Rattle.kinds.specs.Kinds.{free_pins}
use Rattle.model.specs.Tables.{fresh_table}
use Rattle.ledger.proofs.retell.nobody.Goals as goal

pub returns : goal.returns
unfolding fresh_table free_pins
returns c = cc
