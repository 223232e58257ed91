-- What a writer of the text of a run of rows answers and leaves.
use Rattle.std.specs.Prelude.{ℕ, Bool, cond, ◌&&◌, List, leb, length}
use Rattle.kinds.specs.declared.refusal.Refusal.TheVariants as refusal
use Rattle.text.specs.Write.{spliced}
use Rattle.trace.specs.Trace.{longest, trace_text}
use Rattle.trace.specs.declared.Version.{Version}
use Rattle.rows_measure.specs.Measuring.{Records, Are, BadRow, records_of}
use Rattle.trace_writer.specs.Wrote.{Wrote, Length, Refused}

-- a text is at most 65,536 bytes long, and no longer than the buffer
abbrev pub has_room : ℕ → ℕ → Bool
has_room n size = leb n longest && leb n size

-- 20 where some row is bad, then 12 where the text has no room, else the text's length
abbrev pub wrote_by : Version → ℕ → Records → Wrote
wrote_by v size BadRow = Refused refusal.BadRecord
wrote_by v size (Are rs) =
    cond (has_room (length (trace_text v rs)) size) (Length (length (trace_text v rs))) (Refused refusal.NoRoom)

unfoldable pub wrote_of : Version → List (List ℕ) → ℕ → Wrote
wrote_of v rows size = wrote_by v size (records_of v rows)

-- the buffer afterwards: the text in front and what stood past it as it was; on a refusal as it was
abbrev pub left_by : Version → List ℕ → Records → List ℕ
left_by v xs BadRow = xs
left_by v xs (Are rs) = cond (has_room (length (trace_text v rs)) (length xs)) (spliced xs 0 (trace_text v rs)) xs

unfoldable pub left_of : Version → List (List ℕ) → List ℕ → List ℕ
left_of v rows xs = left_by v xs (records_of v rows)
