-- Rows and the records that they are, computed.
use mathlib.Core.Path.{◌≡◌, refl}
use mathlib.Core.List.{[], ◌∷◌}
use Rattle.trace.specs.declared.Op.TheVariants.{Begin, Finish, Pin, Unpin}
use Rattle.op_numbers.specs.Numbers.{try_number, op_numbered}
use Rattle.record_rows.specs.Rows.{row_of, may_be, allowed_by, of_op, record_row}
use Rattle.record_rows.specs.RowIs as row

record Rows : Type 0 where
  -- begin with the stamp 5
  begins : record_row (1 ∷ 0 ∷ 0 ∷ 5 ∷ 0 ∷ 0 ∷ []) ≡ row.Record (record { op = Begin; slot = 0; id = 0; stamp = 5; clock = 0; sample = 0 })
  -- the last op of transactions has the number 8, those of pins 9 and 10
  finishes : row_of (record { op = Finish; slot = 3; id = 7; stamp = 9; clock = 0; sample = 0 }) ≡ 8 ∷ 3 ∷ 7 ∷ 9 ∷ 0 ∷ 0 ∷ []
  pins : record_row (9 ∷ 0 ∷ 0 ∷ 0 ∷ 9 ∷ 3 ∷ []) ≡ row.Record (record { op = Pin; slot = 0; id = 0; stamp = 0; clock = 9; sample = 3 })
  unpins : row_of (record { op = Unpin; slot = 64; id = 0; stamp = 0; clock = 0; sample = 0 }) ≡ 10 ∷ 64 ∷ 0 ∷ 0 ∷ 0 ∷ 0 ∷ []
  -- zeros name no op, and neither does 11
  zeros : record_row (0 ∷ 0 ∷ 0 ∷ 0 ∷ 0 ∷ 0 ∷ []) ≡ row.UnknownOp
  eleventh : record_row (11 ∷ 0 ∷ 0 ∷ 0 ∷ 0 ∷ 0 ∷ []) ≡ row.UnknownOp
  -- 65,535 is the last slot
  last_slot : record_row (2 ∷ 65536 ∷ 7 ∷ 0 ∷ 0 ∷ 0 ∷ []) ≡ row.SlotTooLarge
  -- end doesn't read the stamp
  unread : record_row (2 ∷ 3 ∷ 7 ∷ 1 ∷ 0 ∷ 0 ∷ []) ≡ row.UnreadNumber

rows : Rows
unfolding record_row op_numbered try_number of_op allowed_by may_be
rows = record { begins = refl; finishes = refl; pins = refl; unpins = refl; zeros = refl; eleventh = refl; last_slot = refl; unread = refl }
