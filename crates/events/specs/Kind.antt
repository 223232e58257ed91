-- The events that a wait can name: their names, and which fields they read.
use Rattle.std.specs.Prelude.{ℕ, true, false, List, [], ◌∷◌}
use Rattle.text.specs.Bytes.{bytes}
use Rattle.text.specs.declared.Reads.{Reads}
use Rattle.grammar.specs.Names.{Names}
use Rattle.events.specs.declared.Kind.{Kind}
use Rattle.events.specs.declared.Kind.TheVariants.{Register, End, Horizon, Reserve, Observe}

-- the fields that an event reads; the fourth is `xmin`, and clock is `clock` and `sample`
abbrev pub reads_of : Kind → Reads
reads_of Register = record { slot = true; id = true; fourth = false; clock = false }
reads_of End = record { slot = true; id = false; fourth = false; clock = false }
reads_of Horizon = record { slot = true; id = false; fourth = true; clock = false }
reads_of Reserve = record { slot = false; id = true; fourth = false; clock = false }
reads_of Observe = record { slot = false; id = false; fourth = false; clock = true }

-- the name of an event, with the newline that ends its line
abbrev pub kind_name : Kind → List ℕ
kind_name Register = bytes "register\n"
kind_name End = bytes "end\n"
kind_name Horizon = bytes "horizon\n"
kind_name Reserve = bytes "reserve\n"
kind_name Observe = bytes "observe\n"

abbrev pub kinds : List Kind
kinds = Register ∷ End ∷ Horizon ∷ Reserve ∷ Observe ∷ []

abbrev pub event_key : List ℕ
event_key = bytes "event="

abbrev pub kind_names : Names Kind
kind_names = record { key = event_key; kinds = kinds; name = kind_name }
