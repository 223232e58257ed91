-- The check of the columns that words lend is the check of their table.
use Prim.Native.Nat.{ℕ}
use mathlib.Core.Path.{◌≡◌, refl, ap, ◌∙◌}
use mathlib.Core.Bool.{Bool, true, false, cond}
use mathlib.Core.List.{List}
use mir.Val.{bool_byte}
use lib.ListN.{length}
use borrow.Author.Tests.{eq-eqb}
use Rattle.model.specs.declared.Table.{Table}
use Rattle.model.specs.Check.{table_passes}
use Rattle.place.specs.Words.{size_of, table_of}
use Rattle.place_tables.specs.Tables.{check_number}

pub checks :
    (n : ℕ) (ws : List ℕ) → length ws ≡ size_of n → {t : Table} → t ≡ table_of n ws → {b : Bool} → b ≡ table_passes n t →
    cond {A = ℕ} b 1 0 ≡ check_number n ws
unfolding check_number
checks n ws size same p = rw (eq-eqb _ _ size, p, same)

-- a yes is 1
pub yes_is_1 : (b : Bool) → bool_byte b ≡ cond {A = ℕ} b 1 0
yes_is_1 true = refl
yes_is_1 false = refl
