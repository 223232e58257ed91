use mathlib.Core.Path.{sym, ◌∙◌}
use native.Mathlib.Omega.{arith}
use Rattle.std.proofs.lemmas.List.{set-get_or}
use Rattle.trace.specs.Trace.{first_record}
use Rattle.rows_reader.proofs.Filling.{filled_start, filled_next, filled_over, filled_full}
use Rattle.rows_reader.proofs.fill_rows.Goals as goal

pub loop-row-init : goal.loop-row-init
loop-row-init c =
    let a = c.args in
    rw c.first_record-at.ensures (filled_start a.s.now a.rows.now first_record c.requires.boundary c.requires.first_record_in_bounds)

pub loop-row-preserved : goal.loop-row-preserved
loop-row-preserved c =
    let l = c.loop-row in
    let q = sym c.record_at.ensures ∙ c.in-Ok.is in
    rw c.row_of.ensures (filled_next c.args.s.now _ l.rows l.at l.row-index _ _ l.invariant q)

pub returns-in_default : goal.returns-in_default
returns-in_default c =
    let l = c.loop-row in
    let q = sym c.record_at.ensures ∙ c.in_default.is in
    rw set-get_or (filled_over c.args.s.now _ l.rows l.at l.row-index _ q l.invariant)

pub returns : goal.returns
returns c =
    let l = c.loop-row in
    filled_full c.args.s.now _ l.rows l.at l.row-index (omega arith) l.invariant
