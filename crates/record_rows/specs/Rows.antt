-- A record as a row of six numbers, and the record that a row is.
use Rattle.std.specs.Prelude.{ℕ, Bool, true, cond, ◌&&◌, List, [], ◌∷◌, eqb, ltb, get_or}
use Rattle.text.specs.FiveLines.{most_slot}
use Rattle.text.specs.declared.Reads.{Reads}
use Rattle.trace.specs.Op.{reads_of}
use Rattle.trace.specs.declared.Op.{Op}
use Rattle.trace.specs.declared.Record.{Record}
use Rattle.op_numbers.specs.Numbers.{op_number, op_numbered}
use Rattle.op_numbers.specs.OpNumbered.{OpNumbered}
use Rattle.op_numbers.specs.OpNumbered as numbered
use Rattle.record_rows.specs.RowIs.{RowIs}
use Rattle.record_rows.specs.RowIs as row

abbrev pub row_of : Record → List ℕ
row_of r = op_number r.op ∷ r.slot ∷ r.id ∷ r.stamp ∷ r.clock ∷ r.sample ∷ []

-- a field that isn't read is 0
unfoldable pub may_be : Bool → ℕ → Bool
may_be reads n = cond reads true (eqb n 0)

unfoldable pub allowed_by : Reads → ℕ → ℕ → ℕ → ℕ → ℕ → Bool
allowed_by reads slot id stamp clock sample =
    may_be reads.slot slot
    && (may_be reads.id id && (may_be reads.fourth stamp && (may_be reads.clock clock && may_be reads.clock sample)))

-- the record of an op and five numbers: the slot is tested first, then the fields that the op doesn't read
unfoldable pub of_op : Op → ℕ → ℕ → ℕ → ℕ → ℕ → RowIs
of_op o slot id stamp clock sample =
    cond (ltb most_slot slot)
    row.SlotTooLarge
    (cond (allowed_by (reads_of o) slot id stamp clock sample)
    (row.Record (record { op = o; slot = slot; id = id; stamp = stamp; clock = clock; sample = sample }))
    row.UnreadNumber)

abbrev pub on_numbered : OpNumbered → (Op → RowIs) → RowIs
on_numbered (numbered.Is o) f = f o
on_numbered numbered.Unknown f = row.UnknownOp

-- the record that a row is: its op first
unfoldable pub record_row : List ℕ → RowIs
record_row r = on_numbered (op_numbered (get_or r 0 0)) λ o. of_op o (get_or r 1 0) (get_or r 2 0) (get_or r 3 0) (get_or r 4 0) (get_or r 5 0)
