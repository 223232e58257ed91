-- A text as a run of rows, and what a reader into a lent run answers and leaves.
use Rattle.std.specs.Prelude.{ℕ, cond, List, [], ◌∷◌, ◌++◌, leb, length, drop}
use Rattle.kinds.specs.declared.refusal.Refusal.TheVariants.{BadTrace, NoRoom}
use Rattle.grammar.specs.Texts.{Read, Whole, Broken}
use Rattle.trace.specs.Trace.{trace_of}
use Rattle.trace.specs.declared.Version.{Version}
use Rattle.trace.specs.declared.Record.{Record}
use Rattle.record_rows.specs.Rows.{row_of}
use Rattle.rows_reader.specs.RowsRead.{RowsRead, Rows, Refused}

-- the rows of some records
unfoldable pub rows_of : List Record → List (List ℕ)
rows_of [] = []
rows_of (r ∷ rs) = row_of r ∷ rows_of rs

-- a run with some rows in front, and the rows past them as they were
unfoldable pub in_front : List (List ℕ) → List (List ℕ) → List (List ℕ)
in_front rows run = rows ++ drop (length rows) run

-- 9 with its line, then 12 where the run is too short, else the header and how many rows
abbrev pub read_by : ℕ → Read Version Record → RowsRead
read_by size (Broken line) = Refused (BadTrace line)
read_by size (Whole v rs) = cond (leb (length rs) size) (Rows v (length rs)) (Refused NoRoom)

unfoldable pub read_of : List ℕ → ℕ → RowsRead
read_of s size = read_by size (trace_of s)

-- the run afterwards: on a refusal as it was
abbrev pub left_by : List (List ℕ) → Read Version Record → List (List ℕ)
left_by run (Broken line) = run
left_by run (Whole v rs) = cond (leb (length rs) (length run)) (in_front (rows_of rs) run) run

unfoldable pub rows_left : List ℕ → List (List ℕ) → List (List ℕ)
rows_left s run = left_by run (trace_of s)
