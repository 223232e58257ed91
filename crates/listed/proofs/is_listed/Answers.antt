-- The turns and the places that are left, asked one after the other, are the first `count` ids: `listed_by_turns` in Listed.antt.
use Rattle.std.proofs.Common.{rules, tests, ◌≡◌, ◌==◌}
use Rattle.std.specs.List.{list_any}
use Rattle.std.proofs.lemmas.Iterator.{YieldsList-from_slice}
use Rattle.std.proofs.lemmas.Iterator.Search.{any_from_yields_List}
use Rattle.listed.proofs.Listed.{listed_by_turns}
use Rattle.listed.proofs.is_listed.Goals as goal

pub returns-then-any : goal.returns-then-any
returns-then-any c =
    let a = c.args in
    let turns = c.as_chunks.result.0.now in
    let asked : c.any.result ≡ list_any (list_any (λ y. y == a.x)) turns =
    any_from_yields_List _ _ _ _ c.any.ensures.ran (YieldsList-from_slice turns cc) (λ t b q k. search (rules, tests)) in
    let split = listed_by_turns a.x 8 a.count _ a.ids.now _ turns c.min.ensures c.as_chunks.ensures.front c.as_chunks.ensures.back in
    rw (split, ← asked, c.if-any.true)

pub returns-else-any : goal.returns-else-any
returns-else-any c =
    let a = c.args in
    let turns = c.as_chunks.result.0.now in
    let asked : c.any.result ≡ list_any (list_any (λ y. y == a.x)) turns =
    any_from_yields_List _ _ _ _ c.any.ensures.ran (YieldsList-from_slice turns cc) (λ t b q k. search (rules, tests)) in
    let split = listed_by_turns a.x 8 a.count _ a.ids.now _ turns c.min.ensures c.as_chunks.ensures.front c.as_chunks.ensures.back in
    rw (split, ← asked, c.if-any.false) c.contains.ensures.value
