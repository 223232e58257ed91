-- The table check of a run of slot records.
use Rattle.std.specs.Prelude.{ℕ, List, map, Bool}
use Rattle.model.specs.Check.{passes}
use Rattle.model.specs.declared.Table.{Table}
use Rattle.model.specs.Tables.{counted, lent}
use Rattle.record_check.specs.declared.Slot.{Slot}
use Rattle.record_check.specs.declared.Rest.{Rest}

-- the columns of a run, one number for each record
pub record Columns : Type 0 where
  pub txids : List ℕ
  pub snapshot_xmins : List ℕ

abbrev pub txids_of : List Slot → List ℕ
txids_of run = map (λ slot. slot.txid) run

abbrev pub xmins_of : List Slot → List ℕ
xmins_of run = map (λ slot. slot.snapshot_xmin) run

abbrev pub columns_of : List Slot → Columns
columns_of run = record { txids = txids_of run; snapshot_xmins = xmins_of run }

-- the table whose slots a run holds
abbrev pub table_of : List Slot → Rest → Table
table_of run rest = lent (txids_of run) (xmins_of run) rest.pins (counted rest.clock rest.sample rest.line)

-- the check of gathered columns, for tables of n slots
abbrev pub gathered_passes : ℕ → Columns → Rest → Bool
gathered_passes n columns rest =
    passes n columns.txids columns.snapshot_xmins rest.pins rest.clock rest.sample rest.line

-- the check of a run of any length, for tables of n slots
abbrev pub run_passes : ℕ → List Slot → Rest → Bool
run_passes n run rest = gathered_passes n (columns_of run) rest
