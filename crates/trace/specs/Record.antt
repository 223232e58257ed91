-- A record of six lines: its text, and what is read of a text.
use Rattle.std.specs.Prelude.{ℕ, List}
use Rattle.text.specs.Keys.{stamp_key}
use Rattle.text.specs.FiveLines.{Fits, fields_at}
use Rattle.text.specs.declared.Values.{Values}
use Rattle.grammar.specs.Items.{Form, item_text, say_item}
use Rattle.grammar.specs.Named.{Shape, on_fields, form_of}
use Rattle.grammar.specs.Grammar.{every_kind}
use Rattle.trace.specs.Op.{reads_of, op_names}
use Rattle.trace.specs.Version.{allowed}
use Rattle.trace.specs.declared.Op.{Op}
use Rattle.trace.specs.declared.Version.{Version}
use Rattle.trace.specs.declared.Record.{Record}
use Rattle.trace.specs.RecordAt.{RecordAt, Is, Broken}

-- the five numbers of a record, and the record of an op and five numbers
abbrev pub values_of : Record → Values
values_of r = record { slot = r.slot; id = r.id; fourth = r.stamp; clock = r.clock; sample = r.sample }

abbrev pub record_of : Op → Values → Record
record_of o v = record { op = o; slot = v.slot; id = v.id; stamp = v.fourth; clock = v.clock; sample = v.sample }

abbrev pub op_of : Record → Op
op_of r = r.op

-- a record is named by its op, and its fourth line is `stamp`
abbrev pub record_shape : Shape Op Record
record_shape = record { names = op_names; fourth = stamp_key; reads = reads_of; item = record_of; kind = op_of; values = values_of }

-- a record that some text can express: no number above the limit that its op sets
abbrev pub Expressible : Record → Type 0
Expressible r = Fits stamp_key (reads_of r.op) (values_of r)

-- records under a header, and under any
abbrev pub record_form : Version → Form Record
record_form v = form_of record_shape (allowed v)

abbrev pub any_form : Form Record
any_form = form_of record_shape every_kind

-- the text of a record
abbrev pub record_text : Record → List ℕ
record_text r = item_text any_form r

-- the record of an op whose line ends just before `at`
abbrev pub record_after : List ℕ → Op → ℕ → RecordAt
record_after s o at = say_item Is Broken (on_fields (record_of o) (fields_at s at stamp_key (reads_of o)))

-- the record at `at` under a header, or the first of its six lines that breaks a rule; and whatever the header
unfoldable pub record_under : Version → List ℕ → ℕ → RecordAt
record_under v s at = say_item Is Broken ((record_form v).at s at)

unfoldable pub record_at : List ℕ → ℕ → RecordAt
record_at s at = say_item Is Broken (any_form.at s at)
