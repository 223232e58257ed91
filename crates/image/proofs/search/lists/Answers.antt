use borrow.Author.Rules.{rules}
use borrow.Author.Tests.{tests}
use Rattle.std.specs.List.{list_any}
use Rattle.std.proofs.lemmas.Iterator.{YieldsList-from_slice}
use Rattle.std.proofs.lemmas.Iterator.Search.{any_from_yields_List}
use Rattle.image.proofs.Chunks.{reads, listed_by_turns}
use Rattle.image.proofs.search.lists.Goals as goal

pub returns-then-any : goal.returns-then-any
returns-then-any c =
    let a = c.args in
    let turns = any_from_yields_List (list_any (reads a.x)) c.any.new.self _ c.any.result c.any.ensures.ran (YieldsList-from_slice c.as_chunks-2.result.0.now cc) (λ x b q h. search (rules, tests)) in
    let all = listed_by_turns a.x a.list.now c.as_chunks.ensures.front c.as_chunks-2.ensures.front c.as_chunks-2.ensures.back in
    rw (← all, ← turns, c.if-any.true)

pub returns-else-any : goal.returns-else-any
returns-else-any c =
    let a = c.args in
    let turns = any_from_yields_List (list_any (reads a.x)) c.any.new.self _ c.any.result c.any.ensures.ran (YieldsList-from_slice c.as_chunks-2.result.0.now cc) (λ x b q h. search (rules, tests)) in
    let all = listed_by_turns a.x a.list.now c.as_chunks.ensures.front c.as_chunks-2.ensures.front c.as_chunks-2.ensures.back in
    rw (← all, ← turns, c.if-any.false) c.is_near.ensures
