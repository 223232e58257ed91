-- The buffer has room for the answer, so that the text stands at its front whole (crate's proofs/Printed.antt).
use Prim.Native.Nat.{ℕ}
use mathlib.Core.Path.{ap, ◌∙◌}
use lib.ListN.{length-replicate}
use Rattle.same_bytes.specs.Same.{equal_bytes}
use Rattle.second_text.proofs.Printed.{never_full, stands}
use Rattle.second_text.proofs.record_agrees.Goals as goal

pub slice_bounds-buf-end : goal.slice_bounds-buf-end
slice_bounds-buf-end c =
    let o = c.put_answer.ensures in
    (stands _ _ _ _ c.answer_to-said.ensures _ (length-replicate {A = ℕ} _ 0) o.result_value o.buf_after c.in-Some.is).inside

pub slice_bounds-same_bytes-end : goal.slice_bounds-same_bytes-end
slice_bounds-same_bytes-end c =
    let o = c.put_answer.ensures in
    (stands _ _ _ _ c.answer_to-said.ensures _ (length-replicate {A = ℕ} _ 0) o.result_value o.buf_after c.in-Some.is).count

pub returns : goal.returns
returns c =
    let o = c.put_answer.ensures in
    c.same_bytes.ensures
    ∙ ap (equal_bytes _) (stands _ _ _ _ c.answer_to-said.ensures _ (length-replicate {A = ℕ} _ 0) o.result_value o.buf_after c.in-Some.is).front

pub returns-in_default : goal.returns-in_default
returns-in_default c =
    absurd (never_full _ _ _ _ c.answer_to-said.ensures _ (length-replicate {A = ℕ} _ 0) c.put_answer.ensures.result_value c.in_default.is)
