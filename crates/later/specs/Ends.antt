-- Ends of different slots, in either order.
use Rattle.std.specs.Prelude.{ℕ, ◌≡◌, ◌≢◌}
use Rattle.kinds.specs.declared.SlotNo.{SlotNo}
use Rattle.kinds.specs.declared.Txid.{Txid}
use Rattle.model.specs.declared.Table.{Table}
use Rattle.model.specs.Answer.{Answer}
use Rattle.model.specs.Calls.{end, after, answer}

-- the table after an end, and what it answers
abbrev pub ended : ℕ → Table → SlotNo → Txid → Table
ended n t slot id = after n t (end slot id)

abbrev pub end_answer : ℕ → Table → SlotNo → Txid → Answer
end_answer n t slot id = answer n t (end slot id)

-- two ends on a table: the same table in either order, and each is answered as it is the other way round
pub record EitherOrder (n : ℕ) (t : Table) (slot : SlotNo) (id : Txid) (slot' : SlotNo) (id' : Txid) : Type 0 where
  pub same_table : ended n (ended n t slot id) slot' id' ≡ ended n (ended n t slot' id') slot id
  pub same_first : end_answer n t slot id ≡ end_answer n (ended n t slot' id') slot id
  pub same_second : end_answer n (ended n t slot id) slot' id' ≡ end_answer n t slot' id'

-- on any table, for any registrations, refused or accepted, slots that the table does not have included
abbrev pub EndsCommute : ℕ → Type 0
EndsCommute n =
    (t : Table) (slot slot' : SlotNo) (id id' : Txid) → slot.0 ≢ slot'.0 → EitherOrder n t slot id slot' id'
