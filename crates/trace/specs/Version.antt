-- The headers that are known, and the ops that each of them allows.
use Rattle.std.specs.Prelude.{ℕ, Bool, true, false, not, List, [], ◌∷◌}
use Rattle.text.specs.Bytes.{bytes}
use Rattle.grammar.specs.Names.{Names, name_line, name_at, say_name}
use Rattle.trace.specs.declared.Op.{Op}
use Rattle.trace.specs.declared.Op.TheVariants.{Begin, End, Snap, Own, Oldest, Vacuum, Stamp, Finish, Pin, Unpin}
use Rattle.trace.specs.declared.Version.{Version}
use Rattle.trace.specs.declared.Version.TheVariants.{Proc1, Proc2, Proc3}
use Rattle.trace.specs.HeaderAt.{HeaderAt}
use Rattle.trace.specs.HeaderAt as at

-- what stands after `trace=` in the first line, with its newline
abbrev pub version_name : Version → List ℕ
version_name Proc1 = bytes "proc-1\n"
version_name Proc2 = bytes "proc-2\n"
version_name Proc3 = bytes "proc-3\n"

abbrev pub versions : Names Version
versions = record { key = bytes "trace="; kinds = Proc1 ∷ Proc2 ∷ Proc3 ∷ []; name = version_name }

-- the first line
abbrev pub header_of : Version → List ℕ
header_of v = name_line versions v

-- the two ops of pins
abbrev pub of_pins : Op → Bool
of_pins Begin = false
of_pins End = false
of_pins Snap = false
of_pins Own = false
of_pins Oldest = false
of_pins Vacuum = false
of_pins Stamp = false
of_pins Finish = false
of_pins Pin = true
of_pins Unpin = true

-- whether a record under this header may name this op: those of pins came with the third
unfoldable pub allowed : Version → Op → Bool
allowed Proc1 o = not (of_pins o)
allowed Proc2 o = not (of_pins o)
allowed Proc3 o = true

-- the header that a text begins with
unfoldable pub header_at : List ℕ → HeaderAt
header_at s = say_name at.Is at.Unknown (name_at versions s 0)
