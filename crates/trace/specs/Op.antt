-- The ops of a trace: their names, and which fields they read.
use Rattle.std.specs.Prelude.{ℕ, true, false, List, [], ◌∷◌}
use Rattle.text.specs.Bytes.{bytes}
use Rattle.text.specs.Keys.{op_key}
use Rattle.text.specs.declared.Reads.{Reads}
use Rattle.grammar.specs.Names.{Names, name_at, say_name}
use Rattle.trace.specs.declared.Op.{Op}
use Rattle.trace.specs.declared.Op.TheVariants.{Begin, End, Snap, Own, Oldest, Vacuum, Stamp, Finish, Pin, Unpin}
use Rattle.trace.specs.OpAt.{OpAt}
use Rattle.trace.specs.OpAt as op

-- the fields that an op reads; the fourth is `stamp`, and clock is `clock` and `sample`. What unpin reads in `slot` is a pin's number
abbrev pub reads_of : Op → Reads
reads_of Begin = record { slot = false; id = false; fourth = true; clock = false }
reads_of End = record { slot = true; id = true; fourth = false; clock = false }
reads_of Snap = record { slot = false; id = false; fourth = false; clock = true }
reads_of Own = record { slot = true; id = true; fourth = false; clock = true }
reads_of Oldest = record { slot = false; id = false; fourth = false; clock = true }
reads_of Vacuum = record { slot = false; id = false; fourth = false; clock = true }
reads_of Stamp = record { slot = false; id = false; fourth = true; clock = false }
reads_of Finish = record { slot = true; id = true; fourth = true; clock = false }
reads_of Pin = record { slot = false; id = false; fourth = false; clock = true }
reads_of Unpin = record { slot = true; id = false; fourth = false; clock = false }

-- the name of an op, with the newline that ends its line
abbrev pub op_name : Op → List ℕ
op_name Begin = bytes "begin\n"
op_name End = bytes "end\n"
op_name Snap = bytes "snap\n"
op_name Own = bytes "own\n"
op_name Oldest = bytes "oldest\n"
op_name Vacuum = bytes "vacuum\n"
op_name Stamp = bytes "stamp\n"
op_name Finish = bytes "finish\n"
op_name Pin = bytes "pin\n"
op_name Unpin = bytes "unpin\n"

abbrev pub ops : List Op
ops = Begin ∷ End ∷ Snap ∷ Own ∷ Oldest ∷ Vacuum ∷ Stamp ∷ Finish ∷ Pin ∷ Unpin ∷ []

abbrev pub op_names : Names Op
op_names = record { key = op_key; kinds = ops; name = op_name }

-- the op whose line stands at `at`
unfoldable pub op_at : List ℕ → ℕ → OpAt
op_at s at = say_name op.Is op.Unknown (name_at op_names s at)
