use mathlib.Core.Path.{sym, ◌∙◌}
use native.Mathlib.Omega.{arith}
use Rattle.std.proofs.lemmas.List.{drop_all}
use Rattle.grammar.specs.Names.{first_named}
use Rattle.items.proofs.Names.{past_some, past_none, left_at, first_here, first_later}
use Rattle.items.proofs.item.name_at.Goals as goal

pub returns-in-Some : goal.returns-in-Some
returns-in-Some g c =
    let left = left_at c.kinds-kind-items.result.now c.loop-kind.kind-index c.kind-item.result (omega arith) c.kind-item.is in
    let there = past_some _ _ (rw c.name.ensures at (sym c.in-Some.ensures)) in
    let here = c.loop-kind.invariant ∙ first_here g.T.Items.shape.names.name _ _ _ _ _ left there.0 in
    let first = rw c.kinds-kind-items.ensures at here in
    rw (← there.1, first)

pub loop-kind-preserved : goal.loop-kind-preserved
loop-kind-preserved g c =
    let left = left_at c.kinds-kind-items.result.now c.loop-kind.kind-index c.kind-item.result (omega arith) c.kind-item.is in
    let off = past_none _ _ (rw c.name.ensures at (sym c.in_default.ensures)) in
    c.loop-kind.invariant ∙ first_later g.T.Items.shape.names.name _ _ _ _ _ left off

pub returns : goal.returns
unfolding first_named
returns g c =
    let end = drop_all c.loop-kind.kind-index c.kinds-kind-items.result.now (omega arith) in
    let none = rw end at c.loop-kind.invariant in
    rw (rw c.kinds-kind-items.ensures at none)
