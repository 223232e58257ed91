-- The lines of a table's parts.
use Rattle.std.specs.Prelude.{ℕ, List, [], ◌∷◌, ◌++◌}
use Rattle.model.specs.declared.Counters.{Counters}
use Rattle.text.specs.Keys.{txid_key, xmin_key, clock_key, sample_key, line_key}
use Rattle.text.specs.Line.{line_text}
use Rattle.table_text.specs.TableText.{pin_key}

-- the two lines of a slot, the three after all pins, and those after all slots
unfoldable pub slot_lines : ℕ → ℕ → List ℕ
slot_lines x y = line_text txid_key x ++ line_text xmin_key y

unfoldable pub counter_lines : Counters → List ℕ
counter_lines c = line_text clock_key c.clock ++ line_text sample_key c.sampled_clock ++ line_text line_key c.vacuum_line

unfoldable pub pin_lines : List ℕ → Counters → List ℕ
pin_lines [] c = counter_lines c
pin_lines (x ∷ pins) c = line_text pin_key x ++ pin_lines pins c
