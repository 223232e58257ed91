-- A run of rows as a loop walks it: from row i on. While the text is measured, the whole run's measure is that of the rows left past the
-- bytes counted so far (`sized`).
use Prim.Native.Nat.{ℕ, ◌+◌, ◌≤◌, ◌<◌, min}
use native.Mathlib.Omega.{arith}
use native.Mathlib.Numerals.{add-one}
use mathlib.Core.Path.{◌≡◌, refl, sym, ap}
use mathlib.Core.Bool.{Bool, true, false, cond}
use mathlib.Core.List.{List, []}
use lib.ListN.{length, drop, get_or, drop_of_length-le, length-append}
use lib.Seq.{drop-cons}
use Rattle.trace.specs.Record.{record_text}
use Rattle.trace.specs.Version.{allowed}
use Rattle.trace.specs.declared.Record.{Record}
use Rattle.trace.specs.declared.Version.{Version}
use Rattle.std.specs.Prelude.{Ok, Err, Some, None}
use Rattle.std.specs.Bool.{then_some}
use Rattle.std.specs.Result.{result_ok}
use Rattle.record_rows.specs.Rows.{record_row}
use Rattle.record_rows.specs.RowIs.{RowIs}
use Rattle.record_rows.specs.declared.NoRecord.{NoRecord}
use Rattle.record_rows.specs.declared.NoRecord.TheVariants as none
use Rattle.rows_measure.specs.Measuring.{Records, Are, BadRow, with_first, on_judged, judged, row_under, records_of}
use Rattle.rows_measure.specs.Measuring.{records_text, too_long, sized}
use Rattle.rows_measure.specs.Judged.{Good, Bad}
use Rattle.rows_measure.specs.Measured as measure
use Rattle.rows_measure.proofs.Lengths.{records_none, records-first}

-- one record more is counted
pub sized-first : (n : ℕ) (r : Record) (x : Records) → sized n (with_first r x) ≡ sized (min (n + length (record_text r)) too_long) x
sized-first n r BadRow = refl
sized-first n r (Are rs) =
    ap measure.Length (omega (arith, ap length (records-first r rs), length-append (record_text r) (records_text rs)))

-- a row that is no record is bad, whatever the reason
pub judged_err : (v : Version) (e : NoRecord) → judged v (Err e) ≡ Bad
judged_err v none.UnknownOp = refl
judged_err v none.SlotTooLarge = refl
judged_err v none.UnreadNumber = refl

then_good : (b : Bool) (r : Record) → then_some b r ≡ cond b (Good r) Bad
then_good true r = refl
then_good false r = refl

module _ (v : Version) (x : List ℕ) where
  pub row_none : (is : RowIs) → is ≡ record_row x → result_ok is ≡ None → Bad ≡ row_under v x
  unfolding row_under
  row_none (Err e) p q = rw (← p) (sym (judged_err v e))
  row_none (Ok r) p q = absurd (let z : ◌≡◌ {A = ℕ} 0 1 = cc in omega arith)

  pub row_some : (is : RowIs) (r : Record) → is ≡ record_row x → result_ok is ≡ Some r → then_some (allowed v r.op) r ≡ row_under v x
  unfolding row_under
  row_some (Ok y) r p q = let same : y ≡ r = cc in rw (← p, same) (then_good (allowed v r.op) r)
  row_some (Err e) r p q = absurd (let z : ◌≡◌ {A = ℕ} 0 1 = cc in omega arith)

pub bad_run : (rs : List Record) → BadRow ≡ Are rs → ⊥
bad_run rs h = let z : ◌≡◌ {A = ℕ} 0 1 = cc in omega arith

module _ (v : Version) (rows : List (List ℕ)) (i : ℕ) where
  pub rows_here : i < length rows → records_of v (drop i rows) ≡ on_judged (row_under v (get_or rows i [])) (records_of v (drop (i + 1) rows))
  unfolding records_of
  rows_here h = rw (add-one, drop-cons rows i [])

  pub rows_over : length rows ≤ i → records_of v (drop i rows) ≡ Are []
  unfolding records_of
  rows_over h = rw (drop_of_length-le rows h)

  pub measure-good : (n : ℕ) (r : Record) → i < length rows → Good r ≡ row_under v (get_or rows i [])
      → sized n (records_of v (drop i rows)) ≡ sized (min (n + length (record_text r)) too_long) (records_of v (drop (i + 1) rows))
  measure-good n r h e = rw (rows_here h, ← e) (sized-first n r (records_of v (drop (i + 1) rows)))

  pub measure_bad : (n : ℕ) → i < length rows → Bad ≡ row_under v (get_or rows i []) → sized n (records_of v (drop i rows)) ≡ measure.BadRow
  measure_bad n h e = rw (rows_here h, ← e)

  pub measure_over : (n : ℕ) → n ≤ too_long → length rows ≤ i → sized n (records_of v (drop i rows)) ≡ measure.Length n
  measure_over n l h = rw (rows_over h) (ap measure.Length (omega (arith, ap length records_none)))
