-- The theorems of crate model, at the table's number of slots.
use Rattle.model.proofs.Promise.{promise, vacuum_promise}
use Rattle.model.proofs.HeldBack.{holder_promise}
use Rattle.table.proofs.holds.promise_holds.Goals as goal

pub returns : goal.returns
returns c = record { fact = promise _; fact_2 = vacuum_promise _; fact_3 = holder_promise _ }
