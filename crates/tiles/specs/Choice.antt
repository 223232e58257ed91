-- Which coding is handed out, or why none.
use Rattle.std.specs.Prelude.{Result, Ok, Err}
use Rattle.kinds.specs.declared.refusal.Refusal.{Refusal}
use Rattle.tiles.specs.declared.Coding.{Coding}
use Rattle.tiles.specs.declared.Coding.TheVariants as coding

abbrev pub Choice : Type 0
Choice = Result Coding Refusal

pattern abbrev pub Newer : Choice
Newer = Ok coding.Newer

pattern abbrev pub Older : Choice
Older = Ok coding.Older

pattern abbrev pub Refused : Refusal → Choice
Refused r = Err r
