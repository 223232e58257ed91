-- A replay: the records of a trace run one after the other from fresh, and the text that they print.
use Rattle.std.specs.Prelude.{ℕ, List, [], ◌∷◌, ◌++◌, map, length}
use Rattle.kinds.specs.declared.refusal.Refusal.TheVariants.{BadTrace}
use Rattle.kinds.specs.Refusals.{told}
use Rattle.model.specs.declared.Table.{Table}
use Rattle.model.specs.Calls.{Call, after}
use Rattle.model.specs.Tables.{fresh_table}
use Rattle.text.specs.Keys.{answer_key, records_key, at_key}
use Rattle.text.specs.Bytes.{bytes}
use Rattle.text.specs.Line.{line_text}
use Rattle.trace.specs.declared.Record.{Record}
use Rattle.grammar.specs.Texts.{Read, Whole, Broken}
use Rattle.trace.specs.declared.Version.{Version}
use Rattle.trace.specs.declared.Version.TheVariants.{Proc1, Proc2, Proc3}
use Rattle.trace.specs.Trace.{trace_of}
use Rattle.output.specs.Output.{printed}
use Rattle.step.specs.Named.{call_of}

-- the calls that records name, in their order: a history
abbrev pub calls_of : List Record → List Call
calls_of rs = map call_of rs

-- what records print under a header, one after the other
unfoldable pub text_of : Version → ℕ → Table → List Record → List ℕ
text_of v n t [] = []
text_of v n t (r ∷ rs) = printed v n t (call_of r) ++ text_of v n (after n t (call_of r)) rs

-- refusal 9 prints its number and its line, and nothing else
unfoldable pub broken_text : ℕ → List ℕ
broken_text line = line_text answer_key (told (BadTrace line)).number ++ line_text at_key (told (BadTrace line)).at

-- the line of the second engine, under proc-2 and proc-3: it agreed at every record (crate agree proves that it does)
abbrev pub agree_key : List ℕ
agree_key = bytes "agree="

unfoldable pub agree_line : Version → List ℕ
agree_line Proc1 = []
agree_line Proc2 = line_text agree_key 1
agree_line Proc3 = line_text agree_key 1

-- what a run ends with: the number of its records, and that line
unfoldable pub last_text : Version → ℕ → List ℕ
last_text v count = line_text records_key count ++ agree_line v

-- the answers of a whole trace: what its records print, and their number; refusal 9 prints two lines, and no record is run
abbrev pub answers_by : ℕ → Read Version Record → List ℕ
answers_by n (Whole v rs) = text_of v n (fresh_table n) rs ++ line_text records_key (length rs)
answers_by n (Broken line) = broken_text line

unfoldable pub answers_of : ℕ → List ℕ → List ℕ
answers_of n s = answers_by n (trace_of s)

-- what the program prints: the answers, and the second engine's line where there are any
abbrev pub replay_by : ℕ → Read Version Record → List ℕ
replay_by n (Whole v rs) = answers_by n (Whole v rs) ++ agree_line v
replay_by n (Broken line) = answers_by n (Broken line)

unfoldable pub replay_of : ℕ → List ℕ → List ℕ
replay_of n s = replay_by n (trace_of s)
