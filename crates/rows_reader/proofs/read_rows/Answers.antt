-- By what was read: a broken line, more records than rows, or a row for each record (crate's proofs/Answering.antt).
use mathlib.Core.Path.{sym, ap, ◌∙◌}
use borrow.Author.Rules.{rules}
use Rattle.std.specs.Prelude.{Err}
use Rattle.std.proofs.lemmas.Result.{err_from_is_err_and}
use Rattle.kinds.specs.declared.refusal.Refusal.TheVariants.{BadTrace}
use Rattle.grammar.proofs.Laws.{opened}
use Rattle.trace.specs.Trace.{trace_grammar}
use Rattle.trace.proofs.Shape.{trace_grammar_lem}
use Rattle.trace.proofs.Answers.{reading_is}
use Rattle.rows_reader.proofs.Answering.{passed, told, read_broken, read_short, room_read, read_whole}
use Rattle.rows_reader.proofs.read_rows.Goals as goal

pub returns-in_err-version : goal.returns-in_err-version
returns-in_err-version c =
    let a = c.args in
    let (line, broken, made) = told _ c.read_trace.result _ BadTrace (λ e g k. search rules) c.map_err.ensures.cases c.in_err-version.was in
    let p = err_from_is_err_and c.from_residual.result c.from_residual.ensures.1 in
    let said = read_broken a.s.now a.rows.now _ (sym c.read_trace.ensures ∙ broken) in
    record { value = p.1 ∙ ap Err (p.2 ∙ made) ∙ said.0; rows_after = said.1 }

pub returns-then-rows-n : goal.returns-then-rows-n
returns-then-rows-n c =
    let a = c.args in
    let e = sym c.read_trace.ensures ∙ passed _ c.read_trace.result _ c.map_err.ensures.cases c.in_ok-version.was in
    let said = read_short a.s.now a.rows.now _ _ e c.if-rows-n.true in
    record { value = said.0; rows_after = said.1 }

pub fill_rows-requires : goal.fill_rows-requires
fill_rows-requires c =
    let a = c.args in
    let e = sym c.read_trace.ensures ∙ passed _ c.read_trace.result _ c.map_err.ensures.cases c.in_ok-version.was in
    let o = opened trace_grammar trace_grammar_lem a.s.now _ _ (reading_is _ e) in
    record { boundary = o.boundary; first_record_in_bounds = room_read a.s.now a.rows.now _ _ e c.if-rows-n.false }

pub returns : goal.returns
returns c =
    let a = c.args in
    let e = sym c.read_trace.ensures ∙ passed _ c.read_trace.result _ c.map_err.ensures.cases c.in_ok-version.was in
    let said = read_whole a.s.now a.rows.now _ _ e c.if-rows-n.false c.fill_rows.ensures in
    record { value = said.0; rows_after = said.1 }
