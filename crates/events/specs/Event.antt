-- An event of six lines: its text, and what is read of a text.
use Rattle.std.specs.Prelude.{ℕ, List}
use Rattle.text.specs.Keys.{xmin_key}
use Rattle.text.specs.FiveLines.{Fits}
use Rattle.text.specs.declared.Values.{Values}
use Rattle.grammar.specs.Items.{Form, item_text, say_item}
use Rattle.grammar.specs.Named.{Shape, form_of}
use Rattle.grammar.specs.Grammar.{every_kind}
use Rattle.events.specs.Kind.{reads_of, kind_names}
use Rattle.events.specs.declared.Kind.{Kind}
use Rattle.events.specs.declared.Event.{Event}
use Rattle.events.specs.EventAt.{EventAt, Is, Broken}

-- the five numbers of an event, and the event of a kind and five numbers
abbrev pub values_of : Event → Values
values_of e = record { slot = e.slot; id = e.id; fourth = e.xmin; clock = e.clock; sample = e.sample }

abbrev pub event_of : Kind → Values → Event
event_of k v = record { kind = k; slot = v.slot; id = v.id; xmin = v.fourth; clock = v.clock; sample = v.sample }

abbrev pub kind_of : Event → Kind
kind_of e = e.kind

-- an event is named by its kind, and its fourth line is `xmin`
abbrev pub event_shape : Shape Kind Event
event_shape = record { names = kind_names; fourth = xmin_key; reads = reads_of; item = event_of; kind = kind_of; values = values_of }

-- an event that some text can express: no number above the limit that its kind sets
abbrev pub Expressible : Event → Type 0
Expressible e = Fits xmin_key (reads_of e.kind) (values_of e)

-- events: every kind may stand under the one header
abbrev pub event_form : Form Event
event_form = form_of event_shape every_kind

-- the text of an event
abbrev pub event_text : Event → List ℕ
event_text e = item_text event_form e

-- the event at `at`, or the first of its six lines that breaks a rule
unfoldable pub event_at : List ℕ → ℕ → EventAt
event_at s at = say_item Is Broken (event_form.at s at)
