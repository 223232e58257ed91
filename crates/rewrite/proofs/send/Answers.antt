-- What is written lies inside the buffer.
use mathlib.Core.Path.{sym, ◌∙◌}
use native.Mathlib.Omega.{arith}
use lib.Seq.{length-take-le}
use Rattle.rewrite.proofs.Rewriting.{inside}
use Rattle.rewrite.proofs.send.Goals as goal

pub slice_bounds-out-end : goal.slice_bounds-out-end
slice_bounds-out-end g c =
    omega (arith, inside _ _ (sym c.rewrite.ensures.value ∙ c.in-Ok.is))

pub slice_bounds-write_all-end : goal.slice_bounds-write_all-end
slice_bounds-write_all-end g c =
    sym (length-take-le _ _ (omega (arith, inside _ _ (sym c.rewrite.ensures.value ∙ c.in-Ok.is))))
