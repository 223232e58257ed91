use mathlib.Core.Path.{sym, ◌∙◌}
use native.Mathlib.Omega.{arith}
use Rattle.trace.proofs.Shape.{any_facts}
use Rattle.trace.proofs.Answers.{record_is}
use Rattle.replay_part.proofs.Running.{ran_there, running_start, running_more, running_broken, running_full, running_over}
use Rattle.replay_part.proofs.run_part.Goals as goal

pub loop-run-init : goal.loop-run-init
loop-run-init c = running_start _ _ _ _ _ _ (omega arith)

pub returns-in_default : goal.returns-in_default
returns-in_default c =
    let broken = sym c.next_record.ensures ∙ c.in_default.is in
    let said = running_broken _ _ _ _ _ _ c.loop-run.invariant c.loop-run-test.true broken in
    record { result_value = said.0; buf_after = said.1 }

pub returns-in_default-put : goal.returns-in_default-put
returns-in_default-put c =
    let l = c.loop-run in
    let q = sym c.next_record.ensures ∙ c.in-Ok.is in
    let o = c.run_record-ran.ensures in
    let there = ran_there {t = l.run.table} l.invariant.few (rw c.lend.ensures at o.result_value) (rw c.lend.ensures at o.buf_after) in
    let said = running_full _ _ _ _ _ _ l.invariant _ _ q there c.in_default-put.is in
    record { result_value = said.0; buf_after = said.1 }

pub loop-run-smaller : goal.loop-run-smaller
loop-run-smaller c =
    let q = sym c.next_record.ensures ∙ c.in-Ok.is in
    let m = any_facts.moves _ _ _ _ (record_is _ _ q) in
    omega arith

pub loop-run-preserved : goal.loop-run-preserved
loop-run-preserved c =
    let l = c.loop-run in
    let q = sym c.next_record.ensures ∙ c.in-Ok.is in
    let o = c.run_record-ran.ensures in
    let there = ran_there {t = l.run.table} l.invariant.few (rw c.lend.ensures at o.result_value) (rw c.lend.ensures at o.buf_after) in
    running_more _ _ _ _ _ _ l.invariant _ _ q there c.in-Some.is c.run_record-ran.auto.buf c.store.ensures

pub returns : goal.returns
returns c =
    let said = running_over _ _ _ _ _ _ c.loop-run.invariant c.loop-run-test.false in
    record { result_value = said.0; buf_after = said.1 }
