-- A call as six numbers: the op's number, then slot (or pin), id, stamp, clock and sample.
use Rattle.std.specs.Prelude.{ℕ, cond, List, eqb, get_or}
use Rattle.kinds.specs.Kinds.{number, slot, pin_no, txid}
use Rattle.model.specs.Calls.{Call, begin, end, snap, own, oldest, vacuum, stamp, finish, pin, unpin}
use Rattle.ledger_calls.specs.declared.op.Op.{Op}
use Rattle.ledger_calls.specs.declared.op.Op.TheVariants.{Begin, End, Snap, Own, Oldest, Vacuum, Stamp, Finish, Pin, Unpin}

unfoldable pub try_op : ℕ → ℕ → Op → Op → Op
try_op n number op other = cond (eqb n number) op other

-- 1 to 9 in the order of SPEC 9.2; every other number is an unpin's
unfoldable pub op_of : ℕ → Op
op_of n =
    try_op n 1 Begin
    (try_op n 2 End
    (try_op n 3 Snap
    (try_op n 4 Own
    (try_op n 5 Oldest
    (try_op n 6 Vacuum
    (try_op n 7 Stamp
    (try_op n 8 Finish
    (try_op n 9 Pin Unpin))))))))

abbrev pub call_by : Op → ℕ → ℕ → ℕ → ℕ → ℕ → Call
call_by Begin s i k clock sample = begin (number k)
call_by End s i k clock sample = end (slot s) (txid i)
call_by Snap s i k clock sample = snap clock sample
call_by Own s i k clock sample = own (slot s) (txid i) clock sample
call_by Oldest s i k clock sample = oldest clock sample
call_by Vacuum s i k clock sample = vacuum clock sample
call_by Stamp s i k clock sample = stamp (number k)
call_by Finish s i k clock sample = finish (slot s) (txid i) (number k)
call_by Pin s i k clock sample = pin clock sample
call_by Unpin s i k clock sample = unpin (pin_no s)

unfoldable pub call_of : ℕ → ℕ → ℕ → ℕ → ℕ → ℕ → Call
call_of op s i k clock sample = call_by (op_of op) s i k clock sample

unfoldable pub row_call : List ℕ → Call
row_call row = call_of (get_or row 0 0) (get_or row 1 0) (get_or row 2 0) (get_or row 3 0) (get_or row 4 0) (get_or row 5 0)
