-- The first two lines of a record, which are one key and one number.
use Rattle.std.specs.Prelude.{ℕ, List, ◌++◌}
use Rattle.text.specs.Keys.{op_key, slot_key}
use Rattle.text.specs.Line.{line_text}
use Rattle.grammar.specs.Names.{name_line}
use Rattle.trace.specs.Op.{op_name, op_names}
use Rattle.trace.specs.declared.Op.{Op}

-- the line of an op and the line of its slot
unfoldable pub two_lines : Op → ℕ → List ℕ
two_lines o slot = name_line op_names o ++ line_text slot_key slot

-- their key, up to the slot's number
abbrev pub op_and_slot_key : Op → List ℕ
op_and_slot_key o = op_key ++ op_name o ++ slot_key
