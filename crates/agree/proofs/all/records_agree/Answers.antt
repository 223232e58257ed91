use mathlib.Core.Path.{refl, sym, ap, ◌∙◌}
use native.Mathlib.Omega.{arith}
use lib.ListN.{length, length-set}
use lib.Seq.{length-take-le}
use Rattle.trace.proofs.Shape.{any_facts}
use Rattle.trace.proofs.Answers.{record_is}
use Rattle.agree.proofs.Runs.{fits_of}
use Rattle.agree.proofs.Side.{kept_last, kept_full, side_start, side_more, side_broken, side_few, side_from, side_to}
use Rattle.agree.proofs.all.records_agree.Goals as goal

pub loop-at-init : goal.loop-at-init
loop-at-init c =
    let fresh = c.fresh-t.ensures in
    (refl, omega arith, side_to fresh (rw (c.first_record-at.ensures, fresh) (side_start _ _ _ _)))

pub returns-in_default : goal.returns-in_default
returns-in_default c =
    λ count h.
    let w = side_from c.fresh-t.ensures c.loop-at.invariant.2 in
    absurd (side_broken _ _ _ w count h c.loop-at-test.true (sym c.next_record.ensures ∙ c.in_default.is))

pub slice_bounds-calls-end : goal.slice_bounds-calls-end
slice_bounds-calls-end c = c.loop-at.invariant.1

pub slice_bounds-run_both-end : goal.slice_bounds-run_both-end
slice_bounds-run_both-end c = sym (length-take-le _ _ c.loop-at.invariant.1)

pub run_both-requires : goal.run_both-requires
run_both-requires c = c.lend.ensures ∙ (side_from c.fresh-t.ensures c.loop-at.invariant.2).table

pub returns-in_default-keep : goal.returns-in_default-keep
returns-in_default-keep c =
    λ count h.
    let w = side_from c.fresh-t.ensures c.loop-at.invariant.2 in
    let full = kept_full _ _ c.keep.ensures.result_value c.in_default-keep.is in
    absurd (omega (arith, full, side_few _ _ _ w count h))

pub loop-at-smaller : goal.loop-at-smaller
loop-at-smaller c =
    let q = sym c.next_record.ensures ∙ c.in-Ok.is in
    let m = any_facts.moves _ _ _ _ (record_is _ _ q) in
    omega arith

pub loop-at-preserved : goal.loop-at-preserved
loop-at-preserved c =
    let row = c.row_of-row in
    let l = c.loop-at in
    let fresh = c.fresh-t.ensures in
    let w = side_from fresh l.invariant.2 in
    let q = sym c.next_record.ensures ∙ c.in-Ok.is in
    let last = kept_last _ l.calls l.used row.result c.keep.ensures.result_value c.keep.ensures.calls_after c.in-Ok-keep.is in
    let long = ap length last.list ∙ length-set l.calls l.used row.result ∙ l.invariant.0 in
    let made = c.store.ensures ∙ fits_of _ _ c.in-Some.change c.lend.ensures c.in-Some.ensures in
    let more = side_more _ _ _ w _ _ (omega (arith, last.room, l.invariant.0)) q (rw row.ensures at last.list) made in
    (long, omega (arith, last.room, last.next, long), side_to fresh (rw last.next more))
