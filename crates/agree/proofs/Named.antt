-- The row of a record names the call that the record names, so a record that the table has run agrees.
use Prim.Native.Nat.{ℕ}
use mathlib.Core.Path.{◌≡◌, refl, sym, ap, ◌∙◌}
use mathlib.Core.Bool.{true}
use mathlib.Core.List.{List}
use Rattle.model.specs.History.{reached}
use Rattle.trace.specs.declared.Op.{Op}
use Rattle.trace.specs.declared.Op.TheVariants.{Begin, End, Snap, Own, Oldest, Vacuum, Stamp, Finish, Pin, Unpin}
use Rattle.trace.specs.declared.Record.{Record}
use Rattle.trace.specs.declared.Version.{Version}
use Rattle.record_rows.specs.Rows.{row_of}
use Rattle.op_numbers.specs.Numbers.{op_number}
use Rattle.output.specs.Output.{printed}
use Rattle.step.specs.Named.{call_by, call_of}
use Rattle.ledger_calls.specs.Rows.{try_op, op_of, row_call}
use Rattle.ledger_calls.specs.Rows as ledger_calls
use Rattle.ledger.specs.List.{calls_of}
use Rattle.same_bytes.specs.Same.{equal_bytes}
use Rattle.second_text.specs.Second.{second_text}
use Rattle.second_text.proofs.Printed.{printed_agrees}

named :
    (o : Op) (r : Record) →
    ledger_calls.call_of (op_number o) r.slot r.id r.stamp r.clock r.sample ≡ call_by o r
unfolding ledger_calls.call_of op_of try_op
named Begin r = refl
named End r = refl
named Snap r = refl
named Own r = refl
named Oldest r = refl
named Vacuum r = refl
named Stamp r = refl
named Finish r = refl
named Pin r = refl
named Unpin r = refl

pub row_names : (r : Record) → row_call (row_of r) ≡ call_of r
unfolding row_call call_of
row_names r = named r.op r

-- what the table printed for a record, after the calls of the rows before it, is the second engine's text
pub record_agrees :
    (v : Version) (n : ℕ) (rows : List (List ℕ)) (r : Record) (text : List ℕ) →
    text ≡ printed v n (reached n (calls_of rows)) (call_of r) → equal_bytes text (second_text v n rows (row_of r)) ≡ true
record_agrees v n rows r text e =
    printed_agrees v n rows (row_of r) text (e ∙ ap (printed v n (reached n (calls_of rows))) (sym (row_names r)))
