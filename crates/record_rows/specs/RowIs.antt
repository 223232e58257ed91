-- The record that a row is, or why it is none.
use Rattle.std.specs.Prelude.{Result, Ok, Err}
use Rattle.trace.specs.declared.Record.{Record as RecordOf}
use Rattle.record_rows.specs.declared.NoRecord.{NoRecord}
use Rattle.record_rows.specs.declared.NoRecord.TheVariants as none

abbrev pub RowIs : Type 0
RowIs = Result RecordOf NoRecord

pattern abbrev pub Record : RecordOf → RowIs
Record r = Ok r

pattern abbrev pub UnknownOp : RowIs
UnknownOp = Err none.UnknownOp

pattern abbrev pub SlotTooLarge : RowIs
SlotTooLarge = Err none.SlotTooLarge

pattern abbrev pub UnreadNumber : RowIs
UnreadNumber = Err none.UnreadNumber
