use mathlib.Core.Path.{sym, ◌∙◌}
use Rattle.text.proofs.Numbers.{tail_stops}
use Rattle.text.proofs.read.number_at.Goals as goal

pub returns-then-not-goes_on : goal.returns-then-not-goes_on
returns-then-not-goes_on c =
    let stop = sym c.goes_on.ensures ∙ c.if-not-goes_on.true in
    sym (c.loop-i.invariant ∙ tail_stops c.args.s.now c.loop-i.i c.loop-i.n c.loop-i-test.true c.if-b-eq10.false stop)
