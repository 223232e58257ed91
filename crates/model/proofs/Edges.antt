-- The rows hold at any number of slots from three up: `three` needs three. What goes over all slots is known beforehand, by a law for
-- any number of them: where all are empty, nobody is active, retains or holds (Tally.antt); where all are taken, none is empty
-- (here). What is then left of a row computes, whatever the number.
use Prim.Native.Nat.{ℕ, zero, suc, ◌+◌, ◌-◌, ◌≤◌}
use mathlib.Core.Path.{◌≡◌, refl}
use mathlib.Core.Bool.{true, false}
use native.Mathlib.Nat.{le_refl, not-suc-le-zero}
use native.Mathlib.Numerals.{add-one}
use native.Mathlib.Omega.{arith}
use lib.Dec.{leb}
use borrow.Author.Tests.{le-leb, lt-leb, ne_eqb}
use Rattle.kinds.specs.declared.Stamp.{Stamp}
use Rattle.kinds.specs.Kinds.{free_pins}
use Rattle.kinds.specs.Refusals.{consumed}
use Rattle.model.specs.Tally.{active, retained, holder_from, lowest_empty, minimum, maximum, snapshot_of}
use Rattle.model.specs.Tables.{fresh_table}
use Rattle.model.specs.Calls.{refusal, change_accepted, change_of, spent, after, answer_accepted, answer, shown_accepted, shown}
use Rattle.model.specs.Rows.{seen_from, seen_in, said, RowsHold, from, rows, orders, AllRowsHold}
use Rattle.model.proofs.Tally.{active-zeros, retained-zeros, holder-zeros}

-- of n slots the first is 0 and the last n - 1, and n is none
first_inside : (n : ℕ) → leb (suc n) 0 ≡ false
first_inside n = lt-leb (suc n) 0 (omega arith)

last_inside : (n : ℕ) → leb (suc n) (suc n - 1) ≡ false
last_inside n = lt-leb (suc n) (suc n - 1) (omega arith)

next_outside : (n : ℕ) → leb n n ≡ true
next_outside n = le-leb n n (le_refl n)

-- where the slots hold ids from 1 on, none is empty
lowest_from : (n k : ℕ) → lowest_empty (from n (k + 1)) ≡ n
unfolding lowest_empty
lowest_from zero k = refl
lowest_from (suc n) k = rw (ne_eqb (k + 1) 0 (λ e. omega arith), lowest_from n (k + 1), add-one)

none_empty : (n : ℕ) → leb n (lowest_empty (from n 1)) ≡ true
none_empty n = rw (lowest_from n 0) (next_outside n)

-- P1 to P12; past its three taken slots `three` has n - 3 empty ones
edges_hold : (n : ℕ) (any : Stamp) → RowsHold (suc n) (rows (suc n) any)
unfolding consumed free_pins active retained holder_from lowest_empty minimum maximum snapshot_of fresh_table refusal change_accepted change_of spent after
    answer_accepted answer shown_accepted shown seen_from seen_in said rows
edges_hold n any =
    rw (
      first_inside n,
      last_inside n,
      next_outside (suc n),
      none_empty (suc n),
      active-zeros n,
      active-zeros (suc n - 3),
      retained-zeros n _,
      holder-zeros n _ _ 100 _,
      holder-zeros n _ _ 50 _,
    )

orders_hold : (n : ℕ) → RowsHold (suc n) (orders (suc n))
unfolding consumed free_pins lowest_empty refusal change_accepted change_of spent after answer_accepted answer shown_accepted shown seen_from seen_in said
    orders
orders_hold n = rw (first_inside n, next_outside (suc n), none_empty (suc n))

pub rows_hold : (n : ℕ) → 3 ≤ n → AllRowsHold n
rows_hold zero h = absurd (not-suc-le-zero h)
rows_hold (suc n) h = record { edges = edges_hold n; in_order = orders_hold n }
