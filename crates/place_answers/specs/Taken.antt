-- What is decided of a refused call, and what is told of one that took a snapshot.
use Rattle.kinds.specs.declared.refusal.Refusal.{Refusal}
use Rattle.model.specs.declared.Counters.{Counters}
use Rattle.model.specs.declared.change.SlotChange.TheVariants.{Stays}
use Rattle.model.specs.Answer.{Refused}
use Rattle.model.specs.declared.answer.Decision.{Decision}
use Rattle.model.specs.declared.answer.Numbers.{Numbers}
use Rattle.model.specs.Answers.{numbers_of}
use Rattle.model.specs.Changes.{change}
use Rattle.taken_scans.specs.declared.snapshot.Taken.{Taken}

abbrev pub refused_with : Counters → Refusal → Decision
refused_with was r = record { change = change Stays was; answer = Refused r }

abbrev pub taken_numbers : Decision → Taken → Numbers
taken_numbers d k = numbers_of d.answer k.xmin k.xmax k.count d.change.counters.vacuum_line
