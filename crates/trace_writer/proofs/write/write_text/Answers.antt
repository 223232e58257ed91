use mathlib.Core.Path.{refl, sym, ◌∙◌}
use native.Mathlib.Omega.{arith}
use Rattle.trace_writer.proofs.Texts.{header-fits}
use Rattle.trace_writer.proofs.Judging.{left_start, past-header, record_room, left-next, none_bad, left_over}
use Rattle.trace_writer.proofs.write.write_text.Goals as goal

pub header-at-requires : goal.header-at-requires
header-at-requires c =
    header-fits c.args.version _ c.args.buf.now c.requires.rows_in_bounds

pub loop-row-init : goal.loop-row-init
loop-row-init c =
    let a = c.args in
    (refl, left_start a.version a.rows.now a.buf.now _ _ c.requires.rows_value c.requires.rows_in_bounds c.header-at.ensures)

pub record-at-requires : goal.record-at-requires
record-at-requires c =
    let l = c.loop-row in
    let a = c.args in
    let e = sym c.in-Some.is ∙ c.row_under.ensures in
    record_room a.version a.rows.now _ l.buf l.at l.row-index _ (omega arith) e l.invariant.1

pub loop-row-preserved : goal.loop-row-preserved
loop-row-preserved c =
    let l = c.loop-row in
    let a = c.args in
    let e = sym c.in-Some.is ∙ c.row_under.ensures in
    let p = c.record-at.ensures in
    (p.size ∙ l.invariant.0, left-next a.version a.rows.now _ l.buf l.at l.row-index _ (omega arith) e l.invariant.1 p)

pub returns-in_default : goal.returns-in_default
returns-in_default c =
    let l = c.loop-row in
    let a = c.args in
    let e = sym c.in_default.is ∙ c.row_under.ensures in
    absurd (none_bad a.version a.rows.now _ l.buf l.at l.row-index (omega arith) e l.invariant.1)

pub returns : goal.returns
returns c =
    let l = c.loop-row in
    let a = c.args in
    left_over a.version a.rows.now _ l.buf l.at l.row-index (omega arith) l.invariant.1
    ∙ past-header a.version a.rows.now a.buf.now _ _ c.header-at.ensures
