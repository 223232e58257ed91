use mathlib.Core.Path.{◌∙◌}
use borrow.Author.Rules.{rules}
use borrow.Author.Tests.{tests, eq-eqb}
use Rattle.std.proofs.lemmas.Iterator.{YieldsList-from_slice}
use Rattle.std.proofs.lemmas.Iterator.Search.{all_from_yields_List}
use Rattle.model.specs.Check.{pin_passes}
use Rattle.table_check.proofs.Columns.{pins_all}
use Rattle.table_check.proofs.pins.pins_pass.Goals as goal

pub returns-then-pins-eq-PINS : goal.returns-then-pins-eq-PINS
returns-then-pins-eq-PINS c =
    let a = c.args in
    let all = all_from_yields_List (pin_passes a.counters.clock a.counters.vacuum_line) _ _ c.all.result c.all.ensures.ran (YieldsList-from_slice a.pins.now cc) (λ x b q k. search (rules, tests)) in
    rw (eq-eqb _ _ c.if-pins-eq-PINS.true) (all ∙ pins_all a.counters.clock a.counters.vacuum_line a.pins.now)
