-- No loop of its own. The text is a trace or is not (`into-broken`); where it is, the part that `run_part` ran is all of its records
-- (`into-whole`) or had no room for the next (`into-cut`), and the part of no records is nothing (`part_none`). All four stand in the
-- crate's proofs/Whole.antt.
use mathlib.Core.Path.{refl, sym, ◌∙◌}
use Rattle.kinds.specs.declared.TheConstants.{SLOTS}
use Rattle.model.specs.Tables.{fresh_table}
use Rattle.grammar.proofs.Laws.{opened}
use Rattle.trace.specs.Trace.{trace_grammar, first_record}
use Rattle.trace.proofs.Shape.{trace_grammar_lem}
use Rattle.trace.proofs.Answers.{reading_is}
use Rattle.replay_part.specs.Part.{PartFits}
use Rattle.replay_part.proofs.Fits.{part_fits}
use Rattle.replay.proofs.Whole.{into_broken, part_none, into_whole, into_cut}
use Rattle.replay.proofs.into.replay_into.Goals as goal
use Rattle.replay.proofs.into.replay_into.Goals.{After-run_part-part}

pub returns-in-Err : goal.returns-in-Err
returns-in-Err c =
    let a = c.args in
    into_broken _ a.s.now a.out.now _ (sym c.read_trace.ensures ∙ c.in-Err.is) c.put_broken.ensures

pub returns-then-first-s : goal.returns-then-first-s
returns-then-first-s c =
    let a = c.args in
    let e = sym c.read_trace.ensures ∙ c.in-Ok.is in
    let here = sym c.first_record-first.ensures ∙ c.if-first-s.true in
    let b = (opened trace_grammar trace_grammar_lem _ _ _ (reading_is _ e)).boundary in
    let p = part_none _ a.s.now a.out.now _ _ (fresh_table _) here b in
    into_whole _ a.s.now a.out.now _ _ e p here refl c.put_records.ensures

-- what the records ran to
ran :
    (c : After-run_part-part) →
    PartFits c.in-Ok.whole.0 SLOTS c.args.s.now first_record (fresh_table SLOTS) c.args.out.now c.run_part-part.new.buf c.run_part-part.result
ran c =
    let e = sym c.read_trace.ensures ∙ c.in-Ok.is in
    let o = c.run_part-part in
    let first = c.first_record-first.ensures in
    let start = (opened trace_grammar trace_grammar_lem _ _ _ (reading_is _ e)).boundary in
    rw (first, c.fresh.ensures) at (part_fits (o.ensures.result_value, o.ensures.buf_after) o.auto.buf (rw first start))

pub returns : goal.returns
returns c =
    let a = c.args in
    let p = ran (goal.at.returns c).After-run_part-part in
    let e = sym c.read_trace.ensures ∙ c.in-Ok.is in
    into_whole _ a.s.now a.out.now _ _ e p c.if-part-s.false c.run_part-part.auto.buf c.put_records-2.ensures

pub returns-then-part-s : goal.returns-then-part-s
returns-then-part-s c =
    let a = c.args in
    let p = ran (goal.at.returns-then-part-s c).After-run_part-part in
    let e = sym c.read_trace.ensures ∙ c.in-Ok.is in
    into_cut _ a.s.now a.out.now _ _ e p c.if-part-s.true
