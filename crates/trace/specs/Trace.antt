-- A trace: its grammar, its text, and what is read of a text.
use Rattle.std.specs.Prelude.{ℕ, List}
use Rattle.grammar.specs.Items.{AllGood, items_from}
use Rattle.grammar.specs.Items as items
use Rattle.grammar.specs.Texts.{Format, Read, whole_text, read_text, count_text, say_count}
use Rattle.grammar.specs.Texts as texts
use Rattle.grammar.specs.Grammar.{Grammar, format_of}
use Rattle.trace.specs.Version.{versions, allowed}
use Rattle.trace.specs.Record.{record_shape, record_form, any_form}
use Rattle.trace.specs.declared.Op.{Op}
use Rattle.trace.specs.declared.Version.{Version}
use Rattle.trace.specs.declared.Record.{Record}
use Rattle.trace.specs.Reading.{Reading, Whole, Broken}

-- the place of the first record, one for all headers
abbrev pub first_record : ℕ
first_record = 13

-- a header, and records of the ops that it allows
abbrev pub trace_grammar : Grammar Version Op Record
trace_grammar = record { heads = versions; first = first_record; shape = record_shape; allowed = allowed }

abbrev pub trace_format : Format Version Record
trace_format = format_of trace_grammar

-- the most bytes that a trace may have
abbrev pub longest : ℕ
longest = texts.longest

-- the text of a trace
abbrev pub trace_text : Version → List Record → List ℕ
trace_text v rs = whole_text trace_format v rs

-- records that the text can express under a header, each of them
abbrev pub AllExpressible : Version → List Record → Type 0
AllExpressible v rs = AllGood (record_form v) rs

-- the header and the records of a whole text, or the first line that breaks a rule; and how many records
abbrev pub trace_of : List ℕ → Read Version Record
trace_of s = read_text trace_format s

unfoldable pub reading : List ℕ → Reading
reading s = say_count Whole Broken (count_text trace_format s)

-- the records that are left from `at` on
abbrev pub records_from : List ℕ → ℕ → List Record
records_from s at = items_from any_form s at

-- from `at` on the text is those records and nothing else: where a loop over the records stands
abbrev pub Boundary : List ℕ → ℕ → Type 0
Boundary s at = items.Boundary any_form s at

-- line k + 1 is the first that breaks a rule: s begins with the first k lines of some trace, and with no first k + 1
abbrev pub FirstBroken : ℕ → List ℕ → Type 0
FirstBroken k s = texts.FirstBroken trace_format k s
