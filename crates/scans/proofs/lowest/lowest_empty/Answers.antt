-- Turns that are passed over have no empty slot, and neither have the slots that are counted after them (`lowest_by_turns` in Slots.antt).
use Rattle.std.proofs.Common.{arith, rules, tests, ◌==◌, ◌*◌, not, drop, ◌∙◌}
use Rattle.std.specs.List.{list_any}
use Rattle.std.proofs.lemmas.Iterator.{YieldsList-from_slice}
use Rattle.std.proofs.lemmas.Iterator.Search.{YieldsList-from_take_while}
use Rattle.std.proofs.lemmas.Iterator.Consumers.{count_from_yields_List}
use Rattle.std.proofs.lemmas.Grind.{common_steps}
use Rattle.std.proofs.lemmas.List.Folds.{length-prefix_len}
use Rattle.scans.proofs.Slots.{lowest_by_turns}
use Rattle.scans.proofs.lowest.lowest_empty.Goals as goal

pub returns : goal.returns
returns c =
    let txids = c.args.txids.now in
    let turns = c.as_chunks.result.0.now in
    let rest = drop (8 * c.count-passed.result) txids in
    lowest_by_turns txids turns 8 _ _ c.as_chunks.ensures.front
    (count_from_yields_List _ _ c.count-passed.ensures.ran
    (YieldsList-from_take_while _ (λ turn. not (list_any (λ y. y == 0) turn)) (YieldsList-from_slice turns cc)
    c.take_while-full.ensures.closure c.take_while-full.ensures.done (λ x b q k. search (rules, tests)))
    ∙ length-prefix_len _ turns)
    (count_from_yields_List _ _ c.count.ensures.ran
    (YieldsList-from_take_while _ (λ y. not (y == 0)) (YieldsList-from_slice rest (grind (arith, common_steps)))
    c.take_while-taken.ensures.closure c.take_while-taken.ensures.done (λ x b q k. search (rules, tests)))
    ∙ length-prefix_len _ rest)
