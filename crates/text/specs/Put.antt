-- What writing at a place did: the place past what was written, or nothing for want of room.
use Rattle.std.specs.Prelude.{ℕ, Option, Some, None}

abbrev pub Put : Type 0
Put = Option ℕ

pattern abbrev pub Past : ℕ → Put
Past past = Some past

pattern abbrev pub NoRoom : Put
NoRoom = None
