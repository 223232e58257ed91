-- `fields_at` meets its contract: a slot's number that was read is one of 16 bits. The rest is the definition, computed.
use native.Mathlib.Omega.{arith}
use mathlib.Core.Path.{sym, ◌∙◌}
use Rattle.text.proofs.FiveLines.{slot-fits}
use Rattle.five_lines.proofs.fields_at.Goals as goal

pub overflow_cast-values : goal.overflow_cast-values
overflow_cast-values c =
    omega (arith, slot-fits _ _ _ _ _ _ (sym c.field_if.ensures ∙ c.in_ok-slot.ensures.ok_part))
