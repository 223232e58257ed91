use mathlib.Core.Path.{sym, ◌∙◌}
use native.Mathlib.Omega.{arith}
use Rattle.events.proofs.Shape.{event_facts}
use Rattle.events.proofs.Answers.{event_is}
use Rattle.wait.proofs.Running.{running_start, running_took, running_stopped, running_over}
use Rattle.wait.proofs.run.run_steps.Goals as goal

pub loop-event-init : goal.loop-event-init
loop-event-init c = rw c.first_event-at.ensures (running_start _ _ _ _ c.requires.0)

pub overflow_add-step : goal.overflow_add-step
overflow_add-step c =
    let m = event_facts.moves _ _ _ _ (event_is _ _ (sym c.event_at.ensures ∙ c.in-Ok.is)) in
    omega (arith, m.0, m.1, c.loop-event.invariant.small, c.requires.1)

pub loop-event-smaller : goal.loop-event-smaller
loop-event-smaller c =
    let m = event_facts.moves _ _ _ _ (event_is _ _ (sym c.event_at.ensures ∙ c.in-Ok.is)) in
    omega (arith, m.0, m.1)

pub loop-event-preserved : goal.loop-event-preserved
loop-event-preserved c =
    running_took _ _ _ _ _ _ _ c.loop-event.invariant _ _ _ (sym c.event_at.ensures ∙ c.in-Ok.is) c.keeps_rule.ensures
    _ _ c.if-not-keeps_rule.false c.change_of-change.ensures c.store.ensures

pub returns-then-not-keeps_rule : goal.returns-then-not-keeps_rule
returns-then-not-keeps_rule c =
    running_stopped _ _ _ _ _ _ _ c.loop-event.invariant _ _ _ (sym c.event_at.ensures ∙ c.in-Ok.is) c.keeps_rule.ensures
    c.if-not-keeps_rule.true

pub returns : goal.returns
returns c = running_over _ _ _ _ _ _ _ c.loop-event.invariant _ (sym c.event_at.ensures ∙ c.in_default.is)
