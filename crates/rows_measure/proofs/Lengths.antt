-- The text of a record as its lines, its length, and the text of some records, one record at a time.
use Prim.Native.Nat.{◌+◌}
use native.Mathlib.Omega.{arith}
use mathlib.Core.Path.{◌≡◌, refl, sym, ap, ◌∙◌}
use mathlib.Core.List.{List, [], ◌∷◌, ◌++◌, append_assoc, append-nil}
use lib.ListN.{length, length-append}
use Rattle.text.specs.Keys.{id_key, stamp_key, clock_key, sample_key}
use Rattle.text.specs.Decimal.{decimal}
use Rattle.text.specs.Line.{line_text, line_texts, joined}
use Rattle.text.specs.FiveLines.{field_rules, five_lines}
use Rattle.text.proofs.Splice.{line-length}
use Rattle.grammar.specs.Names.{name_line}
use Rattle.grammar.specs.Items.{item_text, lines_of}
use Rattle.grammar.specs.Named.{six_lines}
use Rattle.grammar.proofs.Grammar.{lines_first}
use Rattle.trace.specs.Op.{op_name}
use Rattle.trace.specs.Record.{any_form, record_text}
use Rattle.trace.specs.declared.Record.{Record}
use Rattle.trace.proofs.Shape.{any_facts}
use Rattle.rows_measure.specs.Measuring.{records_text}
use Rattle.rows_measure.specs.TwoLines.{two_lines}

-- the six lines of a record
pub record_lines_lem : (r : Record)
    → two_lines r.op r.slot
    ++ line_text id_key r.id
    ++ line_text stamp_key r.stamp
    ++ line_text clock_key r.clock
    ++ line_text sample_key r.sample
    ≡ record_text r
unfolding two_lines item_text six_lines five_lines line_texts field_rules joined
record_lines_lem r = simp (append_assoc, append-nil)

pub record-length : (r : Record)
    → length (record_text r)
    ≡ 35
    + length (op_name r.op)
    + length (decimal r.slot)
    + length (decimal r.id)
    + length (decimal r.stamp)
    + length (decimal r.clock)
    + length (decimal r.sample)
unfolding two_lines name_line
record-length r =
    ap length (sym (record_lines_lem r))
    ∙ simp (length-append, line-length)
    (omega arith)

-- the text of some records, one record at a time
pub records_none : records_text [] ≡ []
unfolding records_text lines_of joined
records_none = refl

pub records-first : (r : Record) (rs : List Record) → records_text (r ∷ rs) ≡ record_text r ++ records_text rs
unfolding records_text
records-first r rs = lines_first any_form any_facts r rs
