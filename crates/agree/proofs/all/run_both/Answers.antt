-- The table is the one that the list reaches, so the record's text stands at the buffer's front whole, and is the second engine's
-- (crate's proofs/Runs.antt).
use Prim.Native.Nat.{ℕ}
use lib.ListN.{length-replicate}
use Rattle.agree.proofs.Runs.{both_room, both_stands, texts_same, both-change}
use Rattle.agree.proofs.all.run_both.Goals as goal

pub returns-in_err-end : goal.returns-in_err-end
returns-in_err-end c =
    let o = c.run_record-ran.ensures in
    absurd (both_room c.args.version _ c.args.calls.now c.args.r _ c.requires _ (length-replicate {A = ℕ} _ 0) o.result_value o.buf_after c.in_err-end.was)

pub slice_bounds-buf-end : goal.slice_bounds-buf-end
slice_bounds-buf-end c =
    let o = c.run_record-ran.ensures in
    (both_stands c.args.version _ c.args.calls.now c.args.r _ c.requires _ (length-replicate {A = ℕ} _ 0) o.result_value o.buf_after c.in_ok-end.was).inside

pub slice_bounds-record_agrees-end : goal.slice_bounds-record_agrees-end
slice_bounds-record_agrees-end c =
    let o = c.run_record-ran.ensures in
    (both_stands c.args.version _ c.args.calls.now c.args.r _ c.requires _ (length-replicate {A = ℕ} _ 0) o.result_value o.buf_after c.in_ok-end.was).count

pub returns : goal.returns
returns c =
    let o = c.run_record-ran.ensures in
    let same =
    texts_same c.args.version _ c.args.calls.now c.args.r _ c.requires _ (length-replicate {A = ℕ} _ 0) o.result_value o.buf_after c.in_ok-end.was
    c.row_of-row.ensures c.record_agrees.ensures in
    rw (c.then_some.ensures, same)
    (both-change c.args.version _ c.args.calls.now c.args.r _ c.requires _ (length-replicate {A = ℕ} _ 0) o.result_value o.buf_after)
