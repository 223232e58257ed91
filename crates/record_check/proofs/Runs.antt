-- What the check says of a run, in terms of tables and lengths.
use mathlib.Core.Path.{◌≡◌, refl}
use mathlib.Core.Logic.{◌≢◌}
use mathlib.Core.Bool.{false}
use mathlib.Core.List.{List}
use Prim.Native.Nat.{ℕ}
use borrow.Author.Tests.{ne_eqb}
use lib.ListN.{length, length-map}
use Rattle.model.specs.Check.{passes, table_passes}
use Rattle.record_check.specs.Run.{table_of, run_passes}
use Rattle.record_check.specs.declared.Slot.{Slot}
use Rattle.record_check.specs.declared.Rest.{Rest}

-- a run passes exactly if the table whose slots it holds does
pub as_table : (n : ℕ) (run : List Slot) (rest : Rest) → run_passes n run rest ≡ table_passes n (table_of run rest)
as_table n run rest = refl

-- one of another length doesn't, whatever it holds
pub other_length : (n : ℕ) (run : List Slot) (rest : Rest) → length run ≢ n → false ≡ run_passes n run rest
unfolding passes
other_length n run rest h = rw (length-map run _, ne_eqb _ _ h)
