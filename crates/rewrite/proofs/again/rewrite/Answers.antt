-- 1,489 rows hold every trace, and the first n of them are its own (crate's proofs/Rewriting.antt).
use mathlib.Core.Path.{sym, ap, ◌∙◌}
use native.Mathlib.Omega.{arith}
use lib.Seq.{length-take-le}
use Rattle.std.specs.Prelude.{Err}
use Rattle.std.proofs.lemmas.Result.{err_from_is_err_and}
use Rattle.rewrite.proofs.Rewriting.{got, read-refused, again}
use Rattle.rewrite.proofs.again.rewrite.Goals as goal

pub returns-in_err-version : goal.returns-in_err-version
returns-in_err-version c =
    let a = c.args in
    let e = sym c.read_rows.ensures.value ∙ c.in_err-version.was in
    let said = read-refused a.s.now _ (omega arith) _ e a.out.now in
    let p = err_from_is_err_and c.from_residual.result c.from_residual.ensures.1 in
    record { value = p.1 ∙ ap Err p.2 ∙ said.0; out_after = said.1 }

pub slice_bounds-rows-end : goal.slice_bounds-rows-end
slice_bounds-rows-end c =
    let a = c.args in
    let e = sym c.read_rows.ensures.value ∙ c.in_ok-version.was in
    (got a.s.now _ (omega arith) _ _ e c.read_rows.ensures.rows_after).inside

pub slice_bounds-write_trace-end : goal.slice_bounds-write_trace-end
slice_bounds-write_trace-end c =
    let a = c.args in
    let e = sym c.read_rows.ensures.value ∙ c.in_ok-version.was in
    sym (length-take-le _ _ (got a.s.now _ (omega arith) _ _ e c.read_rows.ensures.rows_after).inside)

pub returns : goal.returns
returns c =
    let a = c.args in
    let e = sym c.read_rows.ensures.value ∙ c.in_ok-version.was in
    let g = got a.s.now _ (omega arith) _ _ e c.read_rows.ensures.rows_after in
    let put = c.write_trace.ensures in
    let said = again a.s.now _ _ _ a.out.now g put.value put.buf_after in
    record { value = said.0; out_after = said.1 }
