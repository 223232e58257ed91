-- A wait: its grammar, its text, and what is read of a text.
use Rattle.std.specs.Prelude.{ℕ, true, List, [], ◌∷◌}
use Rattle.text.specs.Bytes.{bytes}
use Rattle.grammar.specs.Names.{Names, name_line}
use Rattle.grammar.specs.Items.{AllGood, items_from}
use Rattle.grammar.specs.Items as items
use Rattle.grammar.specs.Texts.{Format, Read, whole_text, read_text, count_text, say_count}
use Rattle.grammar.specs.Texts as texts
use Rattle.grammar.specs.Grammar.{Grammar, format_of}
use Rattle.events.specs.Event.{event_shape, event_form}
use Rattle.events.specs.declared.Header as first
use Rattle.events.specs.declared.Header.TheVariants as first_line
use Rattle.events.specs.declared.Kind.{Kind}
use Rattle.events.specs.declared.Event.{Event}
use Rattle.events.specs.Reading.{Reading, Whole, Broken}

-- the one first line that is known, `wait=proc-1`
abbrev pub Header : Type 0
Header = first.Header

pattern abbrev pub Wait1 : Header
Wait1 = first_line.Wait1

-- what stands after `wait=` in it, with its newline
abbrev pub header_name : Header → List ℕ
header_name Wait1 = bytes "proc-1\n"

abbrev pub headers : Names Header
headers = record { key = bytes "wait="; kinds = Wait1 ∷ []; name = header_name }

abbrev pub header : List ℕ
header = name_line headers Wait1

-- the place of the first event
abbrev pub first_event : ℕ
first_event = 12

-- the header, and events of every kind
abbrev pub wait_grammar : Grammar Header Kind Event
wait_grammar = record { heads = headers; first = first_event; shape = event_shape; allowed = λ h k. true }

abbrev pub wait_format : Format Header Event
wait_format = format_of wait_grammar

-- the most bytes that a wait may have
abbrev pub longest : ℕ
longest = texts.longest

-- the text of a wait
abbrev pub wait_text : List Event → List ℕ
wait_text es = whole_text wait_format Wait1 es

-- events that the text can express, each of them
abbrev pub AllExpressible : List Event → Type 0
AllExpressible es = AllGood event_form es

-- the events of a whole text, or the first line that breaks a rule; and how many events
abbrev pub events_of : List ℕ → Read Header Event
events_of s = read_text wait_format s

unfoldable pub reading : List ℕ → Reading
reading s = say_count (λ h n. Whole n) Broken (count_text wait_format s)

-- the events that are left from `at` on
abbrev pub events_from : List ℕ → ℕ → List Event
events_from s at = items_from event_form s at

-- from `at` on the text is those events and nothing else: where a loop over the events stands
abbrev pub Boundary : List ℕ → ℕ → Type 0
Boundary s at = items.Boundary event_form s at

-- line k + 1 is the first that breaks a rule: s begins with the first k lines of some wait, and with no first k + 1
abbrev pub FirstBroken : ℕ → List ℕ → Type 0
FirstBroken k s = texts.FirstBroken wait_format k s
