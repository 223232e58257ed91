-- A trace written again: the same bytes.
use Rattle.std.specs.Prelude.{ℕ, cond, List, leb, length}
use Rattle.kinds.specs.declared.refusal.Refusal.TheVariants.{BadTrace, NoRoom}
use Rattle.text.specs.Write.{spliced}
use Rattle.grammar.specs.Texts.{Read, Whole, Broken}
use Rattle.trace.specs.Trace.{trace_of}
use Rattle.trace.specs.declared.Version.{Version}
use Rattle.trace.specs.declared.Record.{Record}
use Rattle.trace_writer.specs.Wrote.{Wrote, Length, Refused}

-- the length of the text itself; 9 with its line where it is no trace, 12 where it has no room
abbrev pub again_by : List ℕ → ℕ → Read Version Record → Wrote
again_by s size (Broken line) = Refused (BadTrace line)
again_by s size (Whole v rs) = cond (leb (length s) size) (Length (length s)) (Refused NoRoom)

unfoldable pub again_of : List ℕ → ℕ → Wrote
again_of s size = again_by s size (trace_of s)

-- the text itself in front, and what stood past it as it was
abbrev pub left_by : List ℕ → List ℕ → Read Version Record → List ℕ
left_by s xs (Broken line) = xs
left_by s xs (Whole v rs) = cond (leb (length s) (length xs)) (spliced xs 0 s) xs

unfoldable pub again_left : List ℕ → List ℕ → List ℕ
again_left s xs = left_by s xs (trace_of s)
