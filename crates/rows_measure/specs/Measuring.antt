-- A run of rows as the records of a trace, and the length of their text.
use Rattle.std.specs.Prelude.{ℕ, ◌+◌, min, cond, List, [], ◌∷◌, length}
use Rattle.text.specs.Line.{joined}
use Rattle.grammar.specs.Items.{lines_of}
use Rattle.trace.specs.Version.{allowed}
use Rattle.trace.specs.Record.{any_form}
use Rattle.trace.specs.Trace.{first_record}
use Rattle.trace.specs.declared.Version.{Version}
use Rattle.trace.specs.declared.Record.{Record}
use Rattle.record_rows.specs.Rows.{record_row}
use Rattle.record_rows.specs.RowIs.{RowIs}
use Rattle.record_rows.specs.RowIs as row
use Rattle.rows_measure.specs.Judged.{Judged, Good, Bad}
use Rattle.rows_measure.specs.Measured.{Measured}
use Rattle.rows_measure.specs.Measured as measure

-- a row is bad where it is no record, or names an op that the header doesn't allow
abbrev pub allowed_record : Version → Record → Judged
allowed_record v r = cond (allowed v r.op) (Good r) Bad

abbrev pub judged : Version → RowIs → Judged
judged v (row.Record r) = allowed_record v r
judged v row.UnknownOp = Bad
judged v row.SlotTooLarge = Bad
judged v row.UnreadNumber = Bad

unfoldable pub row_under : Version → List ℕ → Judged
row_under v x = judged v (record_row x)

-- the records of a run, or none of them where some row is bad
pub data Records : Type 0 where
  Are : List Record → Records
  BadRow : Records

abbrev pub with_first : Record → Records → Records
with_first r (Are rs) = Are (r ∷ rs)
with_first r BadRow = BadRow

abbrev pub on_judged : Judged → Records → Records
on_judged (Good r) rest = with_first r rest
on_judged Bad rest = BadRow

unfoldable pub records_of : Version → List (List ℕ) → Records
records_of v [] = Are []
records_of v (x ∷ xs) = on_judged (row_under v x) (records_of v xs)

abbrev pub listed : Records → List Record
listed (Are rs) = rs
listed BadRow = []

-- the text of some records; it is the same under every header that allows them
unfoldable pub records_text : List Record → List ℕ
records_text rs = joined (lines_of any_form rs)

-- the length of a run's text past `total` bytes, held at one above the longest
abbrev pub too_long : ℕ
too_long = 65537

abbrev pub sized : ℕ → Records → Measured
sized total (Are rs) = measure.Length (min (total + length (records_text rs)) too_long)
sized total BadRow = measure.BadRow

unfoldable pub measured : Version → List (List ℕ) → Measured
measured v rows = sized first_record (records_of v rows)
