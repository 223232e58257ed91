-- The length of the whole output; or, where it had no room, of the part of it that was written.
use Rattle.std.specs.Prelude.{ℕ, Result, Ok, Err}

abbrev pub Replayed : Type 0
Replayed = Result ℕ ℕ

pattern abbrev pub Written : ℕ → Replayed
Written size = Ok size

pattern abbrev pub NoRoom : ℕ → Replayed
NoRoom size = Err size
