-- `record_under` meets its contract: an op that is unknown, one that the header allows, and one that it doesn't.
use mathlib.Core.Path.{sym, ◌∙◌}
use Rattle.grammar.proofs.Named.{item_named, item_refused, item_unknown}
use Rattle.trace.specs.Record.{record_shape, record_under}
use Rattle.trace.proofs.Answers.{op_is}
use Rattle.trace_lines.proofs.lines.record_under.Goals as goal

pub returns-in_default : goal.returns-in_default
unfolding record_under
returns-in_default c =
    let named = op_is _ _ (sym c.op_at.ensures ∙ c.in_default.is) in
    rw (item_unknown record_shape _ _ _ named)

pub returns-then-allows : goal.returns-then-allows
unfolding record_under
returns-then-allows c =
    let named = op_is _ _ (sym c.op_at.ensures ∙ c.in-Some.is) in
    rw (item_named record_shape _ _ _ named (sym c.allows.ensures ∙ c.if-allows.true)) c.item_after.ensures

pub returns : goal.returns
unfolding record_under
returns c =
    let named = op_is _ _ (sym c.op_at.ensures ∙ c.in-Some.is) in
    rw (item_refused record_shape _ _ _ named (sym c.allows.ensures ∙ c.if-allows.false))
