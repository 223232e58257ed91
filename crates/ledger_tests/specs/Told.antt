-- What a test says, with a refusal in numbers.
use Rattle.std.specs.Prelude.{Result, Ok, Err}
use Rattle.kinds.specs.declared.told.Told.{Told}
use Rattle.kinds.specs.Refusals.{told}
use Rattle.kinds.specs.Verdicts.{Verdict, Pass, Refuse}

abbrev pub in_numbers : Verdict → Result (Unit {0}) Told
in_numbers Pass = Ok tt
in_numbers (Refuse r) = Err (told r)
