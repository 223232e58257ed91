-- The numbers of a call that shows no snapshot: those beside one of zeros.
use Rattle.model.specs.declared.answer.Decision.{Decision}
use Rattle.model.specs.declared.answer.Numbers.{Numbers}
use Rattle.model.specs.Answers.{numbers_of}

abbrev pub plain_numbers : Decision → Numbers
plain_numbers d = numbers_of d.answer 0 0 0 d.change.counters.vacuum_line
